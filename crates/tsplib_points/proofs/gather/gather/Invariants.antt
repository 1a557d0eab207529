use Rattle.std.proofs.Common.{◌+◌, ◌≤◌, List, length}
use Rattle.tsplib_points.specs.Lines.{Line, lines, texts, numbered}
use Rattle.tsplib_points.specs.Passing.{IsPassed}
use Rattle.tsplib_points.proofs.Scans.{IsAt}
use Rattle.tsplib_points.proofs.gather.gather.Given as goal

abbrev pub invariant-loop-text : goal.invariant-loop-text
invariant-loop-text l = record {
  before : List Line;
  at : IsAt (lines l.bytes) before (numbered (l.number + 1) (texts l.lines.rest.now));
  passed : IsPassed l.pass before;
  room : l.number + length l.lines.rest.now ≤ length l.bytes;
}

abbrev pub decreases-loop-text : goal.decreases-loop-text
decreases-loop-text l = length l.lines.rest.now
