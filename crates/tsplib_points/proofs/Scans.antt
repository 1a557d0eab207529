-- The first line of a file that fails, looked for from the top.
use Rattle.std.proofs.Common.{◌≡◌, List, [], ◌++◌}
use Rattle.tsplib_points.specs.Lines.{Line}
use Rattle.tsplib_points.specs.Refusals.{first_failing}

-- none of the lines before fails, and after them the lines rest stand
pub record IsAt (whole before rest : List Line) : Type 0 where
  pub all : before ++ rest ≡ whole
  pub fine : first_failing [] whole ≡ first_failing before rest
