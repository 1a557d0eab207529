-- The ranges of a report, and the orders of its lists.
use Rattle.std.specs.Prelude.{◌≡◌, ◌⊎◌, ℕ, ℤ, pos, neg_ℤ, ◌+◌, ◌^◌, ◌<◌, ◌≤◌, ◌≤ℤ◌, length, All, AllPairs}
use Rattle.mwt_base.specs.Limits.{most_anchor, most_edges, most_length, most_points, most_price, most_tiles, most_unit}
use Rattle.exact_predicates.specs.declared.edge.Edge.{Edge}
use Rattle.exact_predicates.specs.declared.point.Point.{Point}
use Rattle.exact_predicates.specs.declared.tri.Tri.{Tri}
use Rattle.exact_predicates.specs.Plane.{IsInRange, Precedes}
use Rattle.exact_predicates.specs.Candidates.{EdgePrecedes, TriPrecedes}
use Rattle.cert_text.specs.declared.report.LineKind.{LineKind}
use Rattle.cert_text.specs.declared.report.LineKind.TheVariants.{Hull, Inner, Skeleton}
use Rattle.cert_text.specs.declared.report.Method.TheVariants.{Flips}
use Rattle.cert_text.specs.declared.report.PriceLine.{PriceLine}
use Rattle.cert_text.specs.declared.report.Report.{Report}
use Rattle.cert_text.specs.Lines.{most_bound}

-- n is from low to below end
pub record IsFrom (low end n : ℕ) : Type 0 where
  pub least : low ≤ n
  pub most : n < end

-- n is from low to high
pub record IsBetween (low high n : ℤ) : Type 0 where
  pub least : low ≤ℤ n
  pub most : n ≤ℤ high

-- n is at most this in size
abbrev pub IsUpto : ℕ → ℤ → Type 0
IsUpto most n = IsBetween (neg_ℤ (pos most)) (pos most) n

pub record IsPointRow (p : Point) : Type 0 where
  pub id : p.id < 2 ^ 32
  pub place : IsInRange p

abbrev pub IsHullRow : ℕ → ℕ → Type 0
IsHullRow points u = u < points

abbrev pub IsEdgeRow : ℕ → Edge → Type 0
IsEdgeRow points e = e.b < points

pub record IsTriRow (points : ℕ) (t : Tri) : Type 0 where
  pub b : t.b < points
  pub c : t.c < points

-- the amounts of a live edge, by its kind; only version 2 has edges of the kind Skeleton
abbrev pub ArePrices : ℕ → LineKind → ℤ → ℤ → ℤ → Type 0
ArePrices version Hull value left right = IsUpto most_anchor value × (left ≡ pos 0) × (right ≡ pos 0)
ArePrices version Inner value left right = IsUpto most_price value × (left ≡ pos 0) × (right ≡ pos 0)
ArePrices version Skeleton value left right =
    (version ≡ 2) × IsUpto most_price value × IsBetween (pos 0) (pos most_anchor) left × IsBetween (pos 0) (pos most_anchor) right

pub record IsLiveRow (version points : ℕ) (l : PriceLine) : Type 0 where
  pub edge : IsEdgeRow points l.edge
  pub prices : ArePrices version l.kind l.value l.left l.right

abbrev pub LivePrecedes : PriceLine → PriceLine → Type 0
LivePrecedes l m = EdgePrecedes l.edge m.edge

-- a triangle that is not less than another
abbrev pub TriFollows : Tri → Tri → Type 0
TriFollows s t = TriPrecedes s t ⊎ (s ≡ t)

-- A report is within its ranges, and its lists ascend.
pub record IsWithin (r : Report) : Type 0 where
  pub version : (r.version ≡ 1) ⊎ (r.version ≡ 2)
  pub unit : r.unit ≤ most_unit
  pub merged : r.merged < 2 ^ 32
  pub points_count : IsFrom 3 (most_points + 1) (length r.points)
  pub points : All IsPointRow r.points
  pub points_ascend : AllPairs Precedes r.points
  pub hull_count : IsFrom 3 (length r.points + 1) (length r.hull)
  pub hull : All (IsHullRow (length r.points)) r.hull
  pub candidates : r.candidates ≤ most_edges
  pub live_count : length r.live ≤ most_edges
  pub live : All (IsLiveRow r.version (length r.points)) r.live
  pub live_ascend : AllPairs LivePrecedes r.live
  pub skeleton_count : length r.skeleton ≤ most_edges
  pub skeleton : All (IsEdgeRow (length r.points)) r.skeleton
  pub skeleton_ascends : AllPairs EdgePrecedes r.skeleton
  pub tris_count : length r.tris ≤ most_tiles
  pub tris : All (IsTriRow (length r.points)) r.tris
  pub tris_ascend : AllPairs TriFollows r.tris
  pub method : r.version ≡ 1 → r.method ≡ Flips
  pub lo : r.lo ≤ most_length
  pub hi : r.hi ≤ most_length
  pub bound : IsUpto (most_bound r.version) r.bound
  pub gap : IsUpto (most_bound r.version) r.gap
