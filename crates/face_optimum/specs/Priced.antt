-- The prices and anchors that costs give.
use Rattle.std.specs.Prelude.{◌≡◌, ℕ, ◌+◌, ◌*◌, ◌/◌, ◌<◌, cond, nat_lt, List, false, true, length, slice_index, slice_index_or, Contains, pos, ◌+ℤ◌, ◌-ℤ◌}
use Rattle.lmt_network.specs.Network.{edge_at}
use Rattle.lmt_network.specs.Numbers.{IsHullNumber}
use Rattle.lmt_network.specs.PriceTables.{PriceTable, entry_at}
use Rattle.price_ascent.specs.declared.entry.PriceEntry.{PriceEntry}
use Rattle.price_ascent.specs.Ascent.{left_at, right_at, value_at}
use Rattle.price_ascent.specs.Belonging.{AreEntriesOf, IsWithinRanges}
use Rattle.price_ascent.specs.Entries.{anchored_edges, live_of, table_of}
use Rattle.face_optimum.specs.declared.face_prices.Amounts.{Amounts}
use Rattle.face_optimum.specs.declared.site.Site.{Site}
use Rattle.face_optimum.specs.Cuts.{weight_of}
use Rattle.face_optimum.specs.Optimum.{AreInnerSkeleton}
use Rattle.face_optimum.specs.Seats.{IsOff, first_point, last_point}
use Rattle.face_optimum.specs.Sites.{faces_of}

-- what a table says of the edge e
abbrev pub amounts_at : PriceTable → ℕ → Amounts
amounts_at table e = record { value = value_at table e; left = left_at table e; right = right_at table e }

-- The price of a live edge outside the skeleton, from the point u of its lesser place to the point v of its greater, gives
-- this side what the edge costs.
pub record IsPartPrice (a : Amounts) (u v w cost : ℕ) : Type 0 where
  pub value : a.value ≡ cond (nat_lt u v) (pos w -ℤ pos cost) (pos cost)
  pub left : a.left ≡ pos 0
  pub right : a.right ≡ pos 0

-- The anchor of an edge of the hull leaves its side as much less than nothing as the part on it costs.
pub record IsHullPrice (a : Amounts) (w root_cost : ℕ) : Type 0 where
  pub value : a.value ≡ pos w +ℤ pos root_cost
  pub left : a.left ≡ pos 0
  pub right : a.right ≡ pos 0

-- The price of another edge of the skeleton is half of its weight, rounded down, and its anchors leave each side as much
-- less than nothing as the part on it costs.
pub record IsSidePrice (a : Amounts) (w up down : ℕ) : Type 0 where
  pub value : a.value ≡ pos (w / 2)
  pub left : a.left ≡ (pos w -ℤ pos (w / 2)) +ℤ pos up
  pub right : a.right ≡ pos (w / 2) +ℤ pos down

-- The amounts of the edge e, by its kind.
pub record IsAmountsOf (s : Site) (costs root_costs : List ℕ) (e : ℕ) (a : Amounts) : Type 0 where
  pub part : IsOff s.net.now s.flags.now s.skeleton.now e
      → IsPartPrice a (first_point (faces_of s) s.edge_seats.now e) (last_point (faces_of s) s.edge_seats.now e) (weight_of s.net.now e) (slice_index costs e)
  pub on_hull : IsHullNumber s.net.now e → IsHullPrice a (weight_of s.net.now e) (slice_index root_costs (2 * e) + slice_index root_costs (2 * e + 1))
  pub inner : Contains s.skeleton.now (edge_at s.net.now e) → ¬ IsHullNumber s.net.now e
      → IsSidePrice a (weight_of s.net.now e) (slice_index root_costs (2 * e)) (slice_index root_costs (2 * e + 1))

-- The prices and anchors of all live edges.
pub record ArePriced (s : Site) (costs root_costs : List ℕ) (table : PriceTable) : Type 0 where
  pub parts : (e : ℕ) → IsOff s.net.now s.flags.now s.skeleton.now e
      → IsPartPrice (amounts_at table e) (first_point (faces_of s) s.edge_seats.now e) (last_point (faces_of s) s.edge_seats.now e) (weight_of s.net.now e) (slice_index costs e)
  pub on_hull : (e : ℕ) → e < length s.net.now.edges → IsHullNumber s.net.now e
      → IsHullPrice (amounts_at table e) (weight_of s.net.now e) (slice_index root_costs (2 * e) + slice_index root_costs (2 * e + 1))
  pub inner : (e : ℕ) → e < length s.net.now.edges → Contains s.skeleton.now (edge_at s.net.now e) → ¬ IsHullNumber s.net.now e
      → IsSidePrice (amounts_at table e) (weight_of s.net.now e) (slice_index root_costs (2 * e)) (slice_index root_costs (2 * e + 1))

-- Prices of the live edges with anchors on both sides of the inner edges of the skeleton. The first `count` edges have their
-- amounts, within the ranges of a report.
pub record ArePutUpto (s : Site) (costs root_costs : List ℕ) (count : ℕ) (prices : List PriceEntry) : Type 0 where
  pub entries : AreEntriesOf s.net.now prices
  pub live : live_of prices ≡ s.flags.now
  pub anchored : AreInnerSkeleton s.net.now.hull s.skeleton.now (anchored_edges s.net.now prices)
  pub done : (e : ℕ) → e < count → IsAmountsOf s costs root_costs e (amounts_at (table_of prices) e)
  pub within : (e : ℕ) → e < count → slice_index_or s.flags.now e false ≡ true → IsWithinRanges s.net.now.hull (entry_at s.net.now (table_of prices) e)
