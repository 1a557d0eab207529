use Rattle.std.proofs.Common.{◌≡◌, ◌<◌, ℕ, length}
use Rattle.skeleton_faces.specs.Rounds.{IsWay, step_on}
use Rattle.skeleton_faces.proofs.Ways.{left_over}
use Rattle.skeleton_faces.proofs.rounds.go_round.Given as goal

abbrev pub invariant-loop-done : goal.invariant-loop-done
invariant-loop-done l = (l.side < length l.nexts) × (length l.done ≡ length l.nexts) × ((m : ℕ) × (l.side ≡ step_on l.nexts l.first m) × IsWay l.edges l.nexts l.first l.fn.done l.fn.starts.items m l.done l.starts.items)

abbrev pub decreases-loop-done : goal.decreases-loop-done
decreases-loop-done l = left_over l.done
