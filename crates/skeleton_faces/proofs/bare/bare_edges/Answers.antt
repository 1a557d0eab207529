-- One edge more is bare, or not.
use Rattle.std.proofs.Common.{◌≡◌, ℕ, [], ◌∷◌, ◌++◌, length, sym, ap, ◌∙◌, subst, arith}
use Rattle.std.proofs.lemmas.Bool.{false≢true}
use Rattle.exact_predicates.specs.declared.edge.Edge.{Edge}
use Rattle.skeleton_faces.proofs.BareEdges.{IsBareTo, bare_all, bare_more, bare_none, bare_same}
use Rattle.skeleton_faces.proofs.bare.bare_edges.Goals as goal
use Rattle.skeleton_faces.proofs.bare.bare_edges.Goals.{then-live+then-is_bare+in_ok-push, else-live, else-live-via-then-live+else-is_bare, else-live-via-else-live}

pub loop-e-init : goal.loop-e-init
loop-e-init c = bare_none c.args.net.now c.args.flags.now _ c.new-bare.ensures.items

pub loop-e-preserved : goal.loop-e-preserved
loop-e-preserved c =
    let n = c.args.net.now in
    let flags = c.args.flags.now in
    let e = c.loop-e.e in
    let old = c.loop-e.bare.items in
    elim c.if-live.branch [
      | then-live+then-is_bare+in_ok-push w ↦
          bare_more n flags e old _ c.loop-e.invariant (sym c.live.ensures ∙ w.if-live.true) (w.is_bare.ensures.0 w.if-is_bare.true)
          (ap (λ v. v.items) w.bare-is ∙ (w.in_ok-push.ensures.items ∙ ap (λ (x : Edge). old ++ x ∷ []) w.edge.ensures.value))
      | else-live w ↦
          bare_same n flags e old _ c.loop-e.invariant
          (λ (up, bare). elim w.else-live.branch [
            | else-live-via-then-live+else-is_bare v ↦ false≢true (sym v.if-is_bare.false ∙ v.is_bare.ensures.1 bare)
            | else-live-via-else-live v ↦ false≢true (sym v.if-live.false ∙ (c.live.ensures ∙ up))
          ])
          (ap (λ v. v.items) w.bare-is)
    ]

pub returns : goal.returns
returns c =
    let n_is : c.loop-e.e ≡ length c.args.net.now.edges = omega (arith, c.loop-e-test.false, c.loop-e.auto.e-end, c.edges-e-end.ensures.value) in
    bare_all c.args.net.now c.args.flags.now c.loop-e.bare.items c.requires.one_each (subst (λ (k : ℕ). IsBareTo c.args.net.now c.args.flags.now k c.loop-e.bare.items) n_is c.loop-e.invariant)
