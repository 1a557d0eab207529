-- A number that is moved by more than nine places is above the cap.
use Rattle.std.proofs.Common.{arith}
use Rattle.tsplib_points.proofs.Tens.{large_plus}
use Rattle.tsplib_points.proofs.digits.shifted.Goals as goal

pub returns-then-k-gt9 : goal.returns-then-k-gt9
returns-then-k-gt9 c = large_plus c.args.n c.args.k c.args.d (omega arith) c.if-k-gt9.true
