-- One point more is kept exactly where its coordinates are new.
use Rattle.std.proofs.Common.{◌≤◌, Bool, true, false, ◌≡◌, length, arith, sym, ◌∙◌, ◌+◌, ◌++◌, take, cond, [], ◌∷◌}
use Rattle.std.proofs.lemmas.List.{append-nil}
use Rattle.exact_predicates.specs.PointSet.{point_at}
use Rattle.exact_predicates.proofs.Places.{IsMerged, IsMerged-more, IsMerged-all, IsMerged-full}
use Rattle.exact_predicates.proofs.staying.first_at_each_place.Goals as goal
use Rattle.exact_predicates.proofs.staying.first_at_each_place.Goals.{then-branch+in_ok-push, else-branch, else-loop-p-test, then-loop-p-test+then-len-most}

pub loop-p-preserved : goal.loop-p-preserved
loop-p-preserved c =
    let ps = c.args.points.now in
    let i = c.loop-p.p-index in
    let kept = c.loop-p.kept.items in
    let few : length kept ≤ c.args.most = omega arith in
    let next : (b : Bool) → c.in_ok-insert.field-0 ≡ b → IsMerged (take (i + 1) ps) c.args.most c.insert.new.self (kept ++ cond b (point_at ps i ∷ []) []) =
    λ b e. IsMerged-more ps i c.args.most c.loop-p.taken c.insert.new.self kept b c.loop-p-test.true c.loop-p.invariant few
    (sym e ∙ rw c.of.ensures at c.in_ok-insert.ensures.added) (λ q. rw c.of.ensures at (c.in_ok-insert.ensures.updates.0 q)) in
    elim c.if-branch.branch [
      | then-branch+in_ok-push w ↦ rw (w.kept-is, w.in_ok-push.ensures.items) (next true w.if-branch.true)
      | else-branch w ↦ rw w.kept-is (rw append-nil at (next false w.if-branch.false))
    ]

pub returns : goal.returns
returns c =
    elim c.loop-p-test.branch [
      | else-loop-p-test w ↦ IsMerged-all c.args.points.now c.loop-p.p-index c.args.most c.loop-p.taken c.loop-p.kept.items w.loop-p-test.false c.loop-p.invariant
      | then-loop-p-test+then-len-most w ↦ IsMerged-full c.args.points.now c.loop-p.p-index c.args.most c.loop-p.taken c.loop-p.kept.items (omega arith) c.loop-p.invariant
    ]
