-- The rows of the two sides tell whether they have a live triangle.
use Rattle.std.proofs.Common.{not, sym, ap, ◌∙◌, inl, inr, ⊎_elim}
use Rattle.std.proofs.lemmas.Bool.{cases_Bool, false≢true}
use Rattle.std.proofs.lemmas.List.Elements.{Contains-get_or}
use Rattle.lmt_network.specs.Network.{edge_at}
use Rattle.skeleton_faces.proofs.BareEdges.{faced_by_row}
use Rattle.skeleton_faces.proofs.bare.is_bare.Goals as goal

pub returns-then-is_hull : goal.returns-then-is_hull
returns-then-is_hull c = (λ no. absurd (false≢true no), λ b. absurd (b.inner (c.is_hull.ensures.0 c.if-is_hull.true)))

pub is_faced-requires-clause-row_in : goal.is_faced-requires-clause-row_in
is_faced-requires-clause-row_in c = λ k d k_in. ((c.left.ensures.members _).0 (Contains-get_or c.left.result.now k d k_in)).0

pub is_faced-requires-else-not-is_faced-clause-row_in : goal.is_faced-requires-else-not-is_faced-clause-row_in
is_faced-requires-else-not-is_faced-clause-row_in c = λ k d k_in. ((c.right.ensures.members _).0 (Contains-get_or c.right.result.now k d k_in)).0

pub returns-then-not-is_faced : goal.returns-then-not-is_faced
returns-then-not-is_faced c =
    let e = edge_at c.args.net.now c.args.e in
    let left = faced_by_row c.args.net.now c.args.flags.now e.a e.b c.left.result.now c.requires.network c.requires.one_each c.left.ensures.members in (
      λ on. record {
        inner = λ h. false≢true (sym c.if-is_hull.false ∙ c.is_hull.ensures.1 h);
        bare = inl (λ faced. false≢true (sym c.if-not-is_faced.true ∙ c.is_faced.ensures.1 (left.1 faced)));
      },
      λ b. ap not c.if-not-is_faced.true,
    )

pub returns-else-not-is_faced : goal.returns-else-not-is_faced
returns-else-not-is_faced c =
    let e = edge_at c.args.net.now c.args.e in
    let left = faced_by_row c.args.net.now c.args.flags.now e.a e.b c.left.result.now c.requires.network c.requires.one_each c.left.ensures.members in
    let right = faced_by_row c.args.net.now c.args.flags.now e.b e.a c.right.result.now c.requires.network c.requires.one_each c.right.ensures.members in (
      λ on. record {
        inner = λ h. false≢true (sym c.if-is_hull.false ∙ c.is_hull.ensures.1 h);
        bare = inr (λ faced. false≢true (sym (ap not (c.is_faced-else-not-is_faced.ensures.1 (right.1 faced))) ∙ on));
      },
      λ b. ⊎_elim
          (λ no_left. absurd (no_left (left.0 (c.is_faced.ensures.0 c.if-not-is_faced.false))))
          (λ no_right. ⊎_elim
          (λ up. absurd (no_right (right.0 (c.is_faced-else-not-is_faced.ensures.0 up))))
          (λ down. ap not down)
          (cases_Bool c.is_faced-else-not-is_faced.result))
          b.bare,
    )
