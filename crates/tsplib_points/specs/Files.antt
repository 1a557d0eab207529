-- What an accepted file holds.
use Rattle.std.specs.Prelude.{◌≡◌, ℕ, List, map, None}
use Rattle.exact_predicates.specs.Merging.{IsMadeFrom}
use Rattle.tsplib_points.specs.declared.file.File.{File}
use Rattle.tsplib_points.specs.Lines.{lines}
use Rattle.tsplib_points.specs.Nodes.{Node, nodes}
use Rattle.tsplib_points.specs.Refusals.{unit, scaled, refusal}

-- the nodes of a file
abbrev pub nodes_of : List ℕ → List Node
nodes_of bytes = nodes (lines bytes)

-- The bytes are an accepted file, and this is what it holds: the least unit in which all coordinates are whole, and the
-- points made from the nodes in that unit.
pub record IsFileOf (bytes : List ℕ) (file : File) : Type 0 where
  pub accepted : refusal bytes ≡ None
  pub least_unit : file.unit ≡ unit (nodes_of bytes)
  pub made : IsMadeFrom (map (scaled file.unit) (nodes_of bytes)) file.points
  pub merged_told : file.merged ≡ file.points.merged
