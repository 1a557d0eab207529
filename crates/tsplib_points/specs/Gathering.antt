-- What a pass over the lines of a file keeps.
use Rattle.std.specs.Prelude.{◌≡◌, ℕ, ◌≤◌, List, [], Option, Some, None, Result, IsSomeAnd, MatchResult}
use Rattle.std.specs.List.{AllZip, list_any}
use Rattle.tsplib_points.specs.declared.node.KeptNode.{KeptNode}
use Rattle.tsplib_points.specs.declared.gather.Gathered.{Gathered}
use Rattle.tsplib_points.specs.declared.reason.Reason.{Reason}
use Rattle.tsplib_points.specs.Lines.{lines}
use Rattle.tsplib_points.specs.Header.{is_section, dimension}
use Rattle.tsplib_points.specs.Nodes.{Node, nodes, node_reason}
use Rattle.tsplib_points.specs.Refusals.{first_failing}
use Rattle.tsplib_points.specs.Kept.{Keeps}

-- this is kept of a node
pub record KeepsNode (kept : KeptNode) (n : Node) : Type 0 where
  pub line : kept.line ≡ n.line
  pub number : kept.number ≡ n.number
  pub x : Keeps kept.x.negative kept.x.unit kept.x.size n.x
  pub y : Keeps kept.y.negative kept.y.unit kept.y.size n.y

-- What is read of a line of the section: what is kept of its node, or the reason for which it fails behind any nodes.
abbrev pub ReadsNode : Result KeptNode Reason → Option Node → Type 0
ReadsNode result o =
    MatchResult result (λ kept. IsSomeAnd o (KeepsNode kept)) (λ why. (before : List Node) → node_reason before o ≡ Some why)

-- No line of the file fails, and this was gathered from its lines: whether there is a section, the number that DIMENSION
-- tells, and what is kept of each node, in order.
pub record IsGathered (bytes : List ℕ) (found : Gathered) : Type 0 where
  pub fine : first_failing [] (lines bytes) ≡ None
  pub section : found.has_section ≡ list_any is_section (lines bytes)
  pub told : found.dimension ≡ dimension (lines bytes)
  pub kept : AllZip KeepsNode found.nodes.items (nodes (lines bytes))

-- what is kept of a node is whole in this unit
pub record IsWithinUnit (unit : ℕ) (kept : KeptNode) : Type 0 where
  pub x : kept.x.unit ≤ unit
  pub y : kept.y.unit ≤ unit
