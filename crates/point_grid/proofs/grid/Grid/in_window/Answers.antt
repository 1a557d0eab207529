use Rattle.std.proofs.Common.{List, arith, subst, ◌∙◌}
use Rattle.std.proofs.lemmas.Int.{ints}
use Rattle.std.proofs.lemmas.List.Filters.{dedup_is}
use Rattle.exact_predicates.specs.declared.point.Point.{Point}
use Rattle.exact_predicates.specs.Plane.{IsInRange}
use Rattle.exact_predicates.specs.PointSet.{IsPointSet}
use Rattle.point_grid.specs.Tree.{AreSpotsOf}
use Rattle.point_grid.proofs.Bits.{kept64}
use Rattle.point_grid.proofs.Gathers.{AreColumns-ends, AreAllIn-gathered}
use Rattle.point_grid.proofs.grid.Grid.in_window.Goals as goal

pub gather-requires : goal.gather-requires
gather-requires c = λ k s leaf has.
    let same = c.self.view_is ∙ c.requires.made in
    let v = subst IsPointSet same c.self.invariant.0 in
    let spots = subst (λ (ps : List Point). AreSpotsOf ps c.self.inside.tree) same c.self.invariant.2 in
    let first : IsInRange c.at.result.now = c.at.ensures.in_range in
    let last : IsInRange c.at-2.result.now = c.at-2.ensures.in_range in
    let columns = AreColumns-ends c.args.points.now.points c.self.inside.tree c.args.window v spots c.requires.window_in k s leaf has in (
      rw (kept64 c.at.result.now.x (omega (arith, ints, first.left, first.right)), c.at.ensures.value) columns.0,
      rw (kept64 c.at-2.result.now.x (omega (arith, ints, last.left, last.right)), c.at-2.ensures.value) columns.1,
    )

pub returns : goal.returns
returns c =
    let same = c.self.view_is ∙ c.requires.made in
    let v = subst IsPointSet same c.self.invariant.0 in
    let spots = subst (λ (ps : List Point). AreSpotsOf ps c.self.inside.tree) same c.self.invariant.2 in
    AreAllIn-gathered c.args.points.now.points c.self.inside.tree c.args.window v spots c.requires.window_in _ _ _
    c.in_ok-gather.ensures c.sort_unstable.ensures.permutation c.sort_unstable.ensures.sorted (dedup_is _ _ _ c.dedup.ensures.filtered)
