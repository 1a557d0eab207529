-- The order of each list of a report.
use Rattle.std.specs.Prelude.{ℕ, Bool, true, not, ◌&&◌, ◌||◌, nat_lt, int_lt, ◌==◌}
use Rattle.std.specs.Ordering.{int_eq}
use Rattle.exact_predicates.specs.declared.edge.Edge.{Edge}
use Rattle.exact_predicates.specs.declared.point.Point.{Point}
use Rattle.exact_predicates.specs.declared.tri.Tri.{Tri}
use Rattle.cert_text.specs.declared.report.PriceLine.{PriceLine}

-- points ascend by x and then by y
abbrev pub point_may_follow : Point → Point → Bool
point_may_follow p q = int_lt p.x q.x || (int_eq p.x q.x && int_lt p.y q.y)

-- the points of a hull come in any order
abbrev pub hull_may_follow : ℕ → ℕ → Bool
hull_may_follow u v = true

-- edges ascend by a and then by b
abbrev pub edge_may_follow : Edge → Edge → Bool
edge_may_follow e f = nat_lt e.a f.a || (e.a == f.a && nat_lt e.b f.b)

abbrev pub live_may_follow : PriceLine → PriceLine → Bool
live_may_follow l m = edge_may_follow l.edge m.edge

-- triangles do not descend by a, then by b, then by c
abbrev pub tri_precedes : Tri → Tri → Bool
tri_precedes s t = nat_lt s.a t.a || (s.a == t.a && (nat_lt s.b t.b || (s.b == t.b && nat_lt s.c t.c)))

abbrev pub tri_may_follow : Tri → Tri → Bool
tri_may_follow s t = not (tri_precedes t s)
