use Rattle.std.proofs.Common.{subst, ◌∙◌}
use Rattle.exact_predicates.specs.PointSet.{IsPointSet}
use Rattle.dual_checker.proofs.Networks.{IsNetworkOf-built, IsWithinLimits-network}
use Rattle.dual_checker.proofs.elimination.network_of.Goals as goal

pub returns-clause-network : goal.returns-clause-network
returns-clause-network g c =
    IsNetworkOf-built _ _ _ _ _ _ c.in_ok-build.ensures
    c.in_ok-edges.ensures.listed c.in_ok-edges.ensures.few c.in_ok-tris.ensures.listed c.in_ok-tris.ensures.few

pub returns-clause-within : goal.returns-clause-within
returns-clause-within g c =
    IsWithinLimits-network _ _ _ _ (subst IsPointSet (c.grid.view_is ∙ c.in_ok-grid.ensures) c.grid.invariant.0) c.requires
    (IsNetworkOf-built _ _ _ _ _ _ c.in_ok-build.ensures
    c.in_ok-edges.ensures.listed c.in_ok-edges.ensures.few c.in_ok-tris.ensures.listed c.in_ok-tris.ensures.few)
