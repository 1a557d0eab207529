-- The sides of edges, by number: 2e goes along the edge e from its lesser end to its greater, and 2e + 1 backward.
use Rattle.std.specs.Prelude.{◌+◌, ◌-◌, ◌/◌, ◌%◌, ◌==◌, ℕ, Bool, if◌then◌else◌, List}
use Rattle.exact_predicates.specs.declared.edge.Edge.{Edge}
use Rattle.skeleton_faces.specs.Marks.{nth_edge}

-- the side goes backward along its edge
abbrev pub is_backward : ℕ → Bool
is_backward s = (s % 2) == 1

-- its start
abbrev pub side_start : List Edge → ℕ → ℕ
side_start es s = (if is_backward s then (nth_edge es (s / 2)).b else (nth_edge es (s / 2)).a)

-- its end
abbrev pub side_end : List Edge → ℕ → ℕ
side_end es s = (if is_backward s then (nth_edge es (s / 2)).a else (nth_edge es (s / 2)).b)

-- the other side of its edge
abbrev pub twin : ℕ → ℕ
twin s = (if is_backward s then s - 1 else s + 1)
