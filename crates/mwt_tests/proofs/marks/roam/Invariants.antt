use Rattle.edge_marks.specs.Handles.{Belongs}
use Rattle.mwt_tests.proofs.marks.roam.Given as goal

abbrev pub invariant-loop-e : goal.invariant-loop-e
invariant-loop-e l = Belongs l.marks l.seat

abbrev pub invariant-loop : goal.invariant-loop
invariant-loop l = Belongs l.marks l.seat
