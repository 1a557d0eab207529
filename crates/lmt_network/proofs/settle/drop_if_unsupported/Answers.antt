use Rattle.std.proofs.Common.{sym, ◌∙◌, inl, inr}
use Rattle.std.proofs.lemmas.Bool.{false≢true}
use Rattle.std.proofs.lemmas.List.Elements.{Contains-get_or}
use Rattle.lmt_network.proofs.Due.{supported_tried, supported_dropped}
use Rattle.lmt_network.proofs.Passes.{none_lost_dropped}
use Rattle.lmt_network.proofs.settle.drop_if_unsupported.Goals as goal
use Rattle.lmt_network.proofs.settle.drop_if_unsupported.Goals.{then-not-live-e-via-then-not-live-e, then-not-live-e-via-else-not-live-e+then-is_hull, then-not-live-e-via-else-not-live-e+else-is_hull+then-is_supported}

pub returns-then-not-live-e-clause-supported : goal.returns-then-not-live-e-clause-supported
returns-then-not-live-e-clause-supported c =
    supported_tried c.args.net.now c.args.live.now c.args.due.now c.args.e c.requires.supported
    (λ is_live. elim c.then-not-live-e.branch [
      | then-not-live-e-via-then-not-live-e w ↦ absurd (false≢true (sym w.if-not-live-e.true ∙ is_live))
      | then-not-live-e-via-else-not-live-e+then-is_hull w ↦ inl (w.is_hull.ensures.0 w.if-is_hull.true)
      | then-not-live-e-via-else-not-live-e+else-is_hull+then-is_supported w ↦ inr (w.is_supported.ensures.0 w.if-is_supported.true)
    ])

pub make_due-requires-clause-tris_in : goal.make_due-requires-clause-tris_in
make_due-requires-clause-tris_in c = λ k d k_in. ((c.left.ensures.members _).0 (Contains-get_or c.left.result.now k d k_in)).0

pub make_due-requires-2-clause-tris_in : goal.make_due-requires-2-clause-tris_in
make_due-requires-2-clause-tris_in c = λ k d k_in. ((c.right.ensures.members _).0 (Contains-get_or c.right.result.now k d k_in)).0

pub returns-clause-none_lost : goal.returns-clause-none_lost
returns-clause-none_lost c =
    none_lost_dropped c.args.net.now c.args.live.now c.args.e c.requires.none_lost
    (λ hull. false≢true (sym c.if-is_hull.false ∙ c.is_hull.ensures.1 hull))
    (λ s. false≢true (sym c.if-is_supported.false ∙ c.is_supported.ensures.1 s))

pub returns-clause-supported : goal.returns-clause-supported
returns-clause-supported c =
    supported_dropped c.args.net.now c.args.live.now c.args.due.now c.make_due-2.new.due c.args.e c.requires.one_each c.requires.supported
    (λ f is. c.make_due-2.ensures.stay f (c.make_due.ensures.stay f is))
    (λ t on sides f side. c.make_due-2.ensures.stay f (c.make_due.ensures.each t ((c.left.ensures.members t).1 on) sides f side))
    (λ t on. c.make_due-2.ensures.each t ((c.right.ensures.members t).1 on))
