use Rattle.std.proofs.Common.{◌≡◌, ◌<◌, ◌^◌, All, take}
use Rattle.mwt_tool.proofs.solver.list_of.Given as goal

abbrev pub invariant-loop-point : goal.invariant-loop-point
invariant-loop-point l = (l.list.items ≡ take l.point-index l.point-items) × All (λ p. p.id < 2 ^ 32) l.list.items
