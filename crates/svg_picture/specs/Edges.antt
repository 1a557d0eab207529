-- Which edges are drawn, each by its two ends.
use Rattle.std.specs.Prelude.{ℕ, Bool, not, ◌&&◌, ◌||◌, List, map, filter, flat_map, nat_lt}
use Rattle.std.specs.List.{list_any}
use Rattle.std.specs.Ordering.{nat_cmp, ordering_then}
use Rattle.std.specs.declared.cmp.Ordering.{Ordering}
use Rattle.exact_predicates.specs.declared.edge.Edge.{Edge}
use Rattle.exact_predicates.specs.Triangulation.{is_side, sides}
use Rattle.cert_text.specs.declared.report.Report.{Report}

-- whether the side u to v is among these
abbrev pub has_side : List (ℕ × ℕ) → ℕ → ℕ → Bool
has_side ss u v = list_any (is_side u v) ss

-- whether one of these joins u and v, in one direction or the other
abbrev pub joins : List (ℕ × ℕ) → ℕ × ℕ → Bool
joins ss s = has_side ss s.0 s.1 || has_side ss s.1 s.0

abbrev pub ends : Edge → ℕ × ℕ
ends e = (e.a, e.b)

-- whether s goes up, or there is no side that runs the opposite way
abbrev pub is_once : List (ℕ × ℕ) → ℕ × ℕ → Bool
is_once ss s = nat_lt s.0 s.1 || not (has_side ss s.1 s.0)

-- each edge of some triangles once, by their sides
abbrev pub edges_once : List (ℕ × ℕ) → List (ℕ × ℕ)
edges_once ss = filter (is_once ss) ss

-- the sides of the report's triangles
abbrev pub tri_sides : Report → List (ℕ × ℕ)
tri_sides r = flat_map sides r.tris

-- the edges of the skeleton
abbrev pub skeleton_edges : Report → List (ℕ × ℕ)
skeleton_edges r = map ends r.skeleton

-- whether neither of two lists joins the ends of s
abbrev pub is_other : List (ℕ × ℕ) → List (ℕ × ℕ) → ℕ × ℕ → Bool
is_other ss ts s = not (joins ss s) && not (joins ts s)

-- the live edges that neither the skeleton has nor the triangulation
abbrev pub other_edges : Report → List (ℕ × ℕ)
other_edges r = filter (is_other (skeleton_edges r) (tri_sides r)) (map (λ l. ends l.edge) r.live)

-- the order of sides: by the first end, then by the second
abbrev pub side_cmp : ℕ × ℕ → ℕ × ℕ → Ordering
side_cmp s t = ordering_then (nat_cmp s.0 t.0) (nat_cmp s.1 t.1)
