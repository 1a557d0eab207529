-- How prices rise to a good bound: they start at half of each weight, sweeps move slack from the right side of each edge to
-- its left, and at the end the anchors take what slack is left.
use Rattle.std.specs.Prelude.{◌≡◌, ◌⊎◌, ℕ, zero, suc, ◌/◌, ◌<◌, ◌||◌, cond, nat_lt, Bool, true, false, List, [], ◌∷◌, ◌++◌, length, map, take, drop, flat_map, replicate, slice_index_or, Contains, ℤ, pos, neg_ℤ, ◌+ℤ◌, ◌-ℤ◌, ◌≤ℤ◌}
use Rattle.std.specs.List.{list_any}
use Rattle.std.specs.Int.{int_max}
use Rattle.mwt_base.specs.Limits.{most_price}
use Rattle.exact_predicates.specs.declared.edge.Edge.{Edge}
use Rattle.exact_predicates.specs.declared.point.Point.{Point}
use Rattle.exact_predicates.specs.declared.tri.Tri.{Tri}
use Rattle.exact_predicates.specs.Hull.{ring_pairs}
use Rattle.exact_predicates.specs.Triangulation.{is_side}
use Rattle.length_enclosure.specs.Enclosure.{weight}
use Rattle.lmt_network.specs.Flags.{live_numbers}
use Rattle.lmt_network.specs.Network.{NetworkParts, edge_at}
use Rattle.lmt_network.specs.Numbers.{HasSide, IsHullNumber, IsNumberOf}
use Rattle.lmt_network.specs.PriceTables.{PriceTable, table_prices}
use Rattle.lmt_network.specs.Prices.{IsLiveTriangle, Priced, is_on_hull, slack}

-- the live triangles with the side u to v
abbrev pub IsLiveOn : List Point → List Priced → ℕ → ℕ → Tri → Type 0
IsLiveOn ps prices u v t = HasSide t u v × IsLiveTriangle ps prices t

-- m is the least slack of the live triangles with the side u to v, and 0 where there is none
abbrev pub IsLeastSlack : List Point → List ℕ → List Priced → ℕ → ℕ → ℤ → Type 0
IsLeastSlack ps hull prices u v m =
    (((t : Tri) × IsLiveOn ps prices u v t × (slack ps hull prices t ≡ m))
    × ((t : Tri) → IsLiveOn ps prices u v t → m ≤ℤ slack ps hull prices t))
    ⊎ (((t : Tri) → ¬ IsLiveOn ps prices u v t) × (m ≡ pos 0))

-- the value of the edge e in a table
abbrev pub value_at : PriceTable → ℕ → ℤ
value_at table e = slice_index_or table.values e (pos 0)

-- the anchors of its left side and of its right side
abbrev pub left_at : PriceTable → ℕ → ℤ
left_at table e = slice_index_or table.lefts e (pos 0)

abbrev pub right_at : PriceTable → ℕ → ℤ
right_at table e = slice_index_or table.rights e (pos 0)

-- the edge e is live and is no edge of the hull
abbrev pub IsInner : NetworkParts → List Bool → ℕ → Type 0
IsInner n live e = (slice_index_or live e false ≡ true) × (¬ IsHullNumber n e)

-- Start: each price is half of the weight, rounded down, and each anchor is 0.
pub record IsStart (n : NetworkParts) (live : List Bool) (table : PriceTable) : Type 0 where
  pub one_each : length table.values ≡ length n.edges
  pub prices : (e : ℕ) → IsInner n live e → value_at table e ≡ pos (weight n.points ((edge_at n e).a, (edge_at n e).b) / 2)
  pub others : (e : ℕ) → (slice_index_or live e false ≡ false) ⊎ IsHullNumber n e → value_at table e ≡ pos 0
  pub lefts : table.lefts ≡ replicate (length n.edges) (pos 0)
  pub rights : table.rights ≡ replicate (length n.edges) (pos 0)

-- no sweep makes a price less than this
abbrev pub lowest : ℤ
lowest = neg_ℤ (pos most_price)

-- the values new of the edges before e, and the values old of the others
abbrev pub mixed : ℕ → PriceTable → PriceTable → PriceTable
mixed e new old = record { values = take e new.values ++ drop e old.values; lefts = old.lefts; rights = old.rights }

-- The price of the edge e falls by the least slack on its right side, under the new prices of smaller edges and the old
-- ones of the others, but not below the lowest price.
pub record IsSwept (n : NetworkParts) (live : List Bool) (old new : PriceTable) (e : ℕ) : Type 0 where
  pub m : ℤ
  pub least : IsLeastSlack n.points n.hull (table_prices n (mixed e new old) (live_numbers live)) (edge_at n e).b (edge_at n e).a m
  pub value : value_at new e ≡ int_max (value_at old e -ℤ m) lowest

-- Sweep, from old prices to new ones: each price falls so, and all anchors stay.
pub record IsSweep (n : NetworkParts) (live : List Bool) (old new : PriceTable) : Type 0 where
  pub one_each : length new.values ≡ length old.values
  pub prices : (e : ℕ) → e < length n.edges → IsInner n live e → IsSwept n live old new e
  pub others : (e : ℕ) → (slice_index_or live e false ≡ false) ⊎ IsHullNumber n e → value_at new e ≡ value_at old e
  pub lefts : new.lefts ≡ old.lefts
  pub rights : new.rights ≡ old.rights

-- the two sides of an edge: first the one from its lesser end to its greater
abbrev pub both_sides : Edge → List (ℕ × ℕ)
both_sides e = (e.a, e.b) ∷ (e.b, e.a) ∷ []

-- the sides with an anchor: the pairs of the hull in its order, and then both sides of each anchored inner edge
abbrev pub anchored_sides : List ℕ → List Edge → List (ℕ × ℕ)
anchored_sides hull anchored = ring_pairs hull ++ flat_map both_sides anchored

-- the anchor of the side u to v of the edge e
abbrev pub anchor_at : NetworkParts → PriceTable → ℕ → ℕ → ℕ → ℤ
anchor_at n table e u v = cond (is_on_hull n.hull u v) (value_at table e) (cond (nat_lt u v) (left_at table e) (right_at table e))

-- whether the side u to v is among these
abbrev pub is_among : List (ℕ × ℕ) → ℕ → ℕ → Bool
is_among sides u v = list_any (is_side u v) sides

-- what the edge e has where the anchors of these sides are new, and all other anchors old
abbrev pub mixed_entry : NetworkParts → List (ℕ × ℕ) → PriceTable → PriceTable → ℕ → Priced
mixed_entry n sides new old e =
    let a = (edge_at n e).a in
    let b = (edge_at n e).b in
    record {
      edge = edge_at n e;
      value = cond (is_among sides a b || is_among sides b a) (value_at new e) (value_at old e);
      left = cond (is_among sides a b) (left_at new e) (left_at old e);
      right = cond (is_among sides b a) (right_at new e) (right_at old e);
    }

-- The anchor of the side u to v rises by the least slack of the live triangles with this side, under the new anchors of the
-- sides before it and the old ones of the others.
pub record IsRaised (n : NetworkParts) (live : List Bool) (old new : PriceTable) (before : List (ℕ × ℕ)) (u v : ℕ) : Type 0 where
  pub e : ℕ
  pub number : IsNumberOf n u v e
  pub m : ℤ
  pub least : IsLeastSlack n.points n.hull (map (mixed_entry n before new old) (live_numbers live)) u v m
  pub anchor : anchor_at n new e u v ≡ anchor_at n old e u v +ℤ m

-- Tighten, from old anchors to new ones: that of each side that has one rises so, and all prices stay.
pub record IsTighten (n : NetworkParts) (live : List Bool) (anchored : List Edge) (old new : PriceTable) : Type 0 where
  pub one_each : length new.values ≡ length old.values
  pub sides : (before after : List (ℕ × ℕ)) (u v : ℕ) → anchored_sides n.hull anchored ≡ before ++ (u, v) ∷ after
      → IsRaised n live old new before u v
  pub prices : (e : ℕ) → e < length n.edges → ¬ IsHullNumber n e → value_at new e ≡ value_at old e
  pub lefts : (e : ℕ) → e < length n.edges → ¬ Contains anchored (edge_at n e) → left_at new e ≡ left_at old e
  pub rights : (e : ℕ) → e < length n.edges → ¬ Contains anchored (edge_at n e) → right_at new e ≡ right_at old e

-- so many sweeps one after the other
abbrev pub AreSweeps : NetworkParts → List Bool → ℕ → PriceTable → PriceTable → Type 0
AreSweeps n live zero old new = new ≡ old
AreSweeps n live (suc k) old new = (before : PriceTable) × AreSweeps n live k old before × IsSweep n live before new

-- Ascent: start, so many sweeps, tighten.
pub record IsAscent (n : NetworkParts) (live : List Bool) (anchored : List Edge) (sweeps : ℕ) (table : PriceTable) : Type 0 where
  pub first : PriceTable
  pub swept : PriceTable
  pub start : IsStart n live first
  pub sweep : AreSweeps n live sweeps first swept
  pub tighten : IsTighten n live anchored swept table
