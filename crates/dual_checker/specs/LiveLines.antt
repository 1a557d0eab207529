-- The live lines of a report, by the numbers of the edges of a network.
use Rattle.std.specs.Prelude.{◌≡◌, ◌↔◌, ℕ, ◌<◌, ◌≤◌, ◌^◌, ⊤, cond, List, length, map, Bool, All, Contains, slice_index_or, ℤ, pos, ◌+ℤ◌, ◌-ℤ◌, unsigned_abs}
use Rattle.exact_predicates.specs.declared.edge.Edge.{Edge}
use Rattle.exact_predicates.specs.Hull.{IsHullPair}
use Rattle.lmt_network.specs.Flags.{live_numbers}
use Rattle.lmt_network.specs.Network.{NetworkParts, IsNetwork, edge_at, tri_at}
use Rattle.lmt_network.specs.Numbers.{HasSide}
use Rattle.lmt_network.specs.Prices.{share, int_sum_by, IsTightSide}
use Rattle.cert_text.specs.declared.report.LineKind.{LineKind}
use Rattle.cert_text.specs.declared.report.LineKind.TheVariants.{Hull, Inner, Skeleton}
use Rattle.cert_text.specs.declared.report.PriceLine.{PriceLine}
use Rattle.cert_text.specs.declared.report.Report.{Report}
use Rattle.cert_text.specs.Within.{IsWithin}
use Rattle.dual_checker.specs.declared.shares.Shares.{Shares}
use Rattle.dual_checker.specs.GoodReport.{prices_of}

-- the lines are about the edges with these numbers, one by one
abbrev pub AreEdgesOf : NetworkParts → List ℕ → List PriceLine → Type 0
AreEdgesOf net numbers lines = map (edge_at net) numbers ≡ map (λ l. l.edge) lines

-- The live edges of a network are those of the live lines of a report, and these are their numbers.
pub record HasNumbers (r : Report) (net : NetworkParts) (flags : List Bool) (numbers : List ℕ) : Type 0 where
  pub within : IsWithin r
  pub network : IsNetwork net
  pub points_are : net.points ≡ r.points
  pub hull_is : net.hull ≡ r.hull
  pub one_each : length flags ≡ length net.edges
  pub numbers_are : numbers ≡ live_numbers flags
  pub lines_are : AreEdgesOf net numbers r.live

-- the shares of an edge of weight w, by its line: one of the hull gives its weight less the anchor, to whichever side
abbrev pub line_shares : ℤ → Bool → PriceLine → Shares
line_shares w on_hull l = record {
  up = cond on_hull (w -ℤ l.value) ((w -ℤ l.value) -ℤ l.left);
  down = cond on_hull (w -ℤ l.value) (l.value -ℤ l.right);
}

-- shares of which three are added
pub record AreSmall (s : Shares) : Type 0 where
  pub up : unsigned_abs s.up ≤ 2 ^ 66
  pub down : unsigned_abs s.down ≤ 2 ^ 66

-- what stands for an edge that gives nothing
abbrev pub no_shares : Shares
no_shares = record { up = pos 0; down = pos 0 }

-- what the sides of an edge give under the prices of a report: from its lesser end to its greater, and back
pub record AreSharesOf (r : Report) (e : Edge) (s : Shares) : Type 0 where
  pub up : s.up ≡ share r.points r.hull (prices_of r) e.a e.b
  pub down : s.down ≡ share r.points r.hull (prices_of r) e.b e.a

-- the shares of the live edges of a network
pub record AreShares (r : Report) (net : NetworkParts) (flags : List Bool) (shares : List Shares) : Type 0 where
  pub one_each : length shares ≡ length net.edges
  pub small : All AreSmall shares
  pub each : (e : ℕ) → Contains (live_numbers flags) e → AreSharesOf r (edge_at net e) (slice_index_or shares e no_shares)

-- A report with its network, its live edges and their shares.
pub record IsLedger (r : Report) (net : NetworkParts) (flags : List Bool) (numbers : List ℕ) (shares : List Shares) : Type 0 where
  pub numbers_are : HasNumbers r net flags numbers
  pub shares_are : AreShares r net flags shares

-- the anchors of the edge of a line together
abbrev pub line_anchors : LineKind → PriceLine → ℤ
line_anchors Hull l = l.value
line_anchors Inner l = l.left +ℤ l.right
line_anchors Skeleton l = l.left +ℤ l.right

-- those of all lines
abbrev pub sum_of_anchors : List PriceLine → ℤ
sum_of_anchors lines = int_sum_by (λ l. line_anchors l.kind l) lines

-- the side of the edge e that is a pair of the hull is tight, with this anchor
abbrev pub IsTightOnHull : Report → Edge → ℤ → Type 0
IsTightOnHull r e y =
    (IsHullPair r.hull e.a e.b → IsTightSide r.points r.hull (prices_of r) e.a e.b y)
    × (IsHullPair r.hull e.b e.a → IsTightSide r.points r.hull (prices_of r) e.b e.a y)

-- the sides of the edge of a line that have an anchor are tight, by its kind
abbrev pub IsTightKind : Report → LineKind → PriceLine → Type 0
IsTightKind r Hull l = IsTightOnHull r l.edge l.value
IsTightKind r Inner l = ⊤
IsTightKind r Skeleton l =
    IsTightSide r.points r.hull (prices_of r) l.edge.a l.edge.b l.left × IsTightSide r.points r.hull (prices_of r) l.edge.b l.edge.a l.right

abbrev pub IsTightLine : Report → PriceLine → Type 0
IsTightLine r l = IsTightKind r l.kind l

-- the numbers of the triangles with the side u to v
abbrev pub IsRowOf : NetworkParts → List ℕ → ℕ → ℕ → Type 0
IsRowOf net row u v = (t : ℕ) → Contains row t ↔ ((t < length net.tris) × HasSide (tri_at net t) u v)
