-- The ray of one live edge more, and all of them sorted.
use Rattle.std.proofs.Common.{◌≡◌, ◌<◌, ℕ, length, sym, ◌∙◌, subst, rules, of_calls, arith, ap}
use Rattle.std.proofs.lemmas.List.Sorted.{answers_always}
use Rattle.exact_predicates.specs.PointSet.{point_at}
use Rattle.skeleton_faces.specs.Marks.{nth_edge}
use Rattle.skeleton_faces.specs.Rays.{AreShown, IsSideUp}
use Rattle.skeleton_faces.proofs.Directions.{AreRays-sorted, AreShown-none, is_before, is_before_order, shown-forward}
use Rattle.skeleton_faces.proofs.FannedOut.{IsSideUpTo, shown_all, shown_down, shown_up}
use Rattle.skeleton_faces.proofs.rays.live_rays.Goals as goal
use Rattle.skeleton_faces.proofs.rays.live_rays.Goals.{then-live+in_ok-push, else-live}

pub loop-e-init : goal.loop-e-init
loop-e-init c = AreShown-none _ _ _ _ c.new-rays.ensures.items (λ s (e, e_is, e_in, e_up). omega arith)

pub loop-e-preserved : goal.loop-e-preserved
loop-e-preserved c =
    let es = c.args.net.now.edges in
    let ps = c.args.net.now.points in
    let n = c.loop-e.e in
    let rays = c.loop-e.rays.items in
    let e_in : n < length es = omega (arith, c.loop-e-test.true, c.edges-e-end.ensures.value) in
    elim c.if-live.branch [
      | then-live+in_ok-push w ↦
          let e = w.edge-edge.result in
          let s = w.of.ensures in
          let is : nth_edge es n ≡ e = sym w.edge-edge.ensures.value in
          let a_is : w.at-a.result.now ≡ point_at ps e.a = w.at-a.ensures.value ∙ ap (λ xs. point_at xs e.a) (sym c.requires.same_points) in
          let b_is : w.at-b.result.now ≡ point_at ps e.b = w.at-b.ensures.value ∙ ap (λ xs. point_at xs e.b) (sym c.requires.same_points) in
          let shown = shown-forward ps es n e w.of.result e_in is s.side s.from s.backward (rw (a_is, b_is) at s.width) (rw (a_is, b_is) at s.height) in
          shown_up ps es c.args.flags.now n rays c.loop-e.invariant _ w.of.result shown s.side (sym c.live.ensures ∙ w.if-live.true) (ap (λ v. v.items) w.rays-is ∙ w.in_ok-push.ensures.items)
      | else-live w ↦
          shown_down ps es c.args.flags.now n rays c.loop-e.invariant _ (sym c.live.ensures ∙ w.if-live.false) (ap (λ v. v.items) w.rays-is)
    ]

pub returns-clause-rays : goal.returns-clause-rays
returns-clause-rays c =
    let flags = c.args.flags.now in
    let n_is : c.loop-e.e ≡ length flags = omega (arith, c.loop-e-test.false, c.loop-e.auto.e-end, c.edges-e-end.ensures.value, c.requires.one_each) in
    let Shown : ℕ → Type 0 = λ n. AreShown c.args.net.now.points c.args.net.now.edges (IsSideUpTo flags n) c.loop-e.rays.items in
    AreRays-sorted c.args.net.now.points c.args.net.now.edges (IsSideUp flags) c.loop-e.rays.items c.sort_unstable_by.new.self.items
    (shown_all c.args.net.now.points c.args.net.now.edges flags c.loop-e.rays.items (subst Shown n_is c.loop-e.invariant)) c.sort_unstable_by.ensures.permutation
    (c.sort_unstable_by.ensures.sorted is_before is_before_order (answers_always _ _ _ (λ f a r g k. search (rules, of_calls))))
