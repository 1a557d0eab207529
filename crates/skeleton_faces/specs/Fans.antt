-- What shows that an edge of a list is crossed by another edge of it: an empty triangle over the list that has the edge in its
-- angle, or an edge that lacks such a triangle on one of its sides.
use Rattle.std.specs.Prelude.{◌⊎◌, ℕ, List, pos, ◌<ℤ◌}
use Rattle.exact_predicates.specs.declared.edge.Edge.{Edge}
use Rattle.exact_predicates.specs.declared.point.Point.{Point}
use Rattle.exact_predicates.specs.declared.tri.Tri.{Tri}
use Rattle.exact_predicates.specs.Candidates.{IsEmptyOver}
use Rattle.exact_predicates.specs.Plane.{orient}
use Rattle.exact_predicates.specs.PointSet.{point_at}
use Rattle.exact_predicates.specs.Triangulation.{HasCorners}
use Rattle.lmt_network.specs.Live.{IsHullEdge}
use Rattle.lmt_network.specs.Numbers.{HasSide}

-- The edge e is covered: some empty triangle over the edges has e's lesser end as a corner, and the other end strictly in
-- its angle there.
pub record IsCovered (ps : List Point) (es : List Edge) (e : Edge) : Type 0 where
  pub tri : Tri
  pub y : ℕ
  pub z : ℕ
  pub over : IsEmptyOver ps es tri
  pub corners : HasCorners tri e.a y z
  pub after : pos 0 <ℤ orient (point_at ps e.a) (point_at ps y) (point_at ps e.b)
  pub before : pos 0 <ℤ orient (point_at ps e.a) (point_at ps e.b) (point_at ps z)

-- some empty triangle over the edges has the side u to v
abbrev pub IsFaced : List Point → List Edge → ℕ → ℕ → Type 0
IsFaced ps es u v = (t : Tri) × HasSide t u v × IsEmptyOver ps es t

-- The edge e is bare: it is no edge of the hull, and no empty triangle over the edges is on one of its sides. A closed
-- list has no bare edge.
pub record IsBareEdge (ps : List Point) (hull : List ℕ) (es : List Edge) (e : Edge) : Type 0 where
  pub inner : ¬ IsHullEdge hull e
  pub bare : (¬ IsFaced ps es e.a e.b) ⊎ (¬ IsFaced ps es e.b e.a)
