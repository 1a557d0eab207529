use Rattle.std.proofs.Common.{◌≡◌, ℕ, List, refl, ap, subst, inl, inr}
use Rattle.exact_predicates.specs.declared.point.Point.{Point}
use Rattle.exact_predicates.specs.Hull.{IsHull}
use Rattle.exact_predicates.specs.PointSet.{IsPointSet, PointSet}
use Rattle.dual_checker.specs.Elimination.{IsElimination}
use Rattle.dual_checker.specs.GoodReport.{HasPoints}
use Rattle.dual_checker.proofs.Judging.{hulls_agree, hulls_differ, verdict_decides}
use Rattle.dual_checker.proofs.judge.check.Goals as goal

pub returns-then-ne-clause-verdict : goal.returns-then-ne-clause-verdict
returns-then-ne-clause-verdict g c =
    let found : HasPoints c.args.report.now × (c.in-Some.points.points ≡ c.args.report.now.points) = rw c.in-Some.is at c.in_ok-points.ensures in
    let set : IsPointSet c.in-Some.points.points = subst IsPointSet (ap (λ (p : PointSet). p.points) c.points.view_is) c.points.invariant in
    inr (
      found.0,
      inl (
        refl,
        hulls_differ c.args.report.now c.in-Some.points.points c.in_ok-start.start.hull c.as_slice.result.now c.as_slice-2.result.now c.ne.result set found.1
            c.in_ok-start.ensures.hull c.as_slice.ensures.is c.as_slice-2.ensures.is c.ne.ensures c.if-ne.true,
      ),
    )

pub broken_part-requires-clause-hull : goal.broken_part-requires-clause-hull
broken_part-requires-clause-hull g c =
    let found : HasPoints c.args.report.now × (c.in-Some.points.points ≡ c.args.report.now.points) = rw c.in-Some.is at c.in_ok-points.ensures in
    let same = hulls_agree c.args.report.now c.in-Some.points.points c.in_ok-start.start.hull c.as_slice.result.now c.as_slice-2.result.now c.ne.result found.1
    c.in_ok-start.ensures.hull c.as_slice.ensures.is c.as_slice-2.ensures.is c.ne.ensures c.if-ne.false in
    subst (λ (ps : List Point). IsHull ps c.args.report.now.hull) found.1 (subst (λ (hull : List ℕ). IsHull c.in-Some.points.points hull) same c.in_ok-start.ensures.hull)

pub broken_part-requires-clause-eliminated : goal.broken_part-requires-clause-eliminated
broken_part-requires-clause-eliminated g c =
    let found : HasPoints c.args.report.now × (c.in-Some.points.points ≡ c.args.report.now.points) = rw c.in-Some.is at c.in_ok-points.ensures in
    let same = hulls_agree c.args.report.now c.in-Some.points.points c.in_ok-start.start.hull c.as_slice.result.now c.as_slice-2.result.now c.ne.result found.1
    c.in_ok-start.ensures.hull c.as_slice.ensures.is c.as_slice-2.ensures.is c.ne.ensures c.if-ne.false in
    subst (λ (ps : List Point). IsElimination ps c.args.report.now.hull c.args.report.now.diamond c.in_ok-elimination.elimination.net c.in_ok-elimination.elimination.flags) found.1
    (subst (λ (hull : List ℕ). IsElimination c.in-Some.points.points hull c.args.report.now.diamond c.in_ok-elimination.elimination.net c.in_ok-elimination.elimination.flags) same
    (c.in_ok-elimination.ensures c.in-Some.points.points c.in_ok-start.start.hull c.args.report.now.diamond c.in_ok-net.ensures.network))

pub returns-clause-verdict : goal.returns-clause-verdict
returns-clause-verdict g c =
    let found : HasPoints c.args.report.now × (c.in-Some.points.points ≡ c.args.report.now.points) = rw c.in-Some.is at c.in_ok-points.ensures in
    let same = hulls_agree c.args.report.now c.in-Some.points.points c.in_ok-start.start.hull c.as_slice.result.now c.as_slice-2.result.now c.ne.result found.1
    c.in_ok-start.ensures.hull c.as_slice.ensures.is c.as_slice-2.ensures.is c.ne.ensures c.if-ne.false in
    let hull = subst (λ (ps : List Point). IsHull ps c.args.report.now.hull) found.1 (subst (λ (hull : List ℕ). IsHull c.in-Some.points.points hull) same c.in_ok-start.ensures.hull) in
    verdict_decides c.args.report.now c.in_ok-broken.broken c.verdict_of.result c.requires found.0 hull c.in_ok-broken.ensures c.verdict_of.ensures
