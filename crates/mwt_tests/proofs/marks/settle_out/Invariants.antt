use Rattle.edge_marks.specs.Handles.{Belongs}
use Rattle.mwt_tests.proofs.marks.settle_out.Given as goal

abbrev pub invariant-loop : goal.invariant-loop
invariant-loop l = Belongs l.marks l.seat
