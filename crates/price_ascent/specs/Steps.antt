-- One step of a sweep or of tightening, on what is kept.
use Rattle.std.specs.Prelude.{◌≡◌, ℕ, ◌/◌, ◌<◌, ◌*◌, ◌^◌, cond, Bool, true, false, List, Option, None, Some, slice_index, slice_index_or, slice_set, ℤ, pos, neg_ℤ, ◌+ℤ◌, ◌-ℤ◌, ◌≤ℤ◌}
use Rattle.std.specs.Int.{int_max}
use Rattle.length_enclosure.specs.Enclosure.{weight}
use Rattle.lmt_network.specs.Network.{NetworkParts, edge_at, tri_at}
use Rattle.lmt_network.specs.Numbers.{IsSideOf}
use Rattle.lmt_network.specs.Prices.{is_on_hull, slack}
use Rattle.price_ascent.specs.declared.entry.PriceEntry.{PriceEntry}
use Rattle.price_ascent.specs.Ascent.{IsLeastSlack, lowest}
use Rattle.price_ascent.specs.Entries.{entry, no_entry, prices_of}

-- the entry of a live edge of this weight at the start
abbrev pub first_entry : ℕ → Bool → PriceEntry
first_entry w on_hull =
    cond on_hull
    (record { value = pos 0; left = pos 0; right = pos 0; up = pos w; down = pos w; live = true; anchored = false })
    (record { value = pos (w / 2); left = pos 0; right = pos 0; up = pos w -ℤ pos (w / 2); down = pos (w / 2); live = true; anchored = false })

-- the entry of the edge e at the start
abbrev pub start_entry : NetworkParts → List Bool → ℕ → PriceEntry
start_entry n live e =
    cond (slice_index_or live e false)
    (first_entry (weight n.points ((edge_at n e).a, (edge_at n e).b)) (is_on_hull n.hull (edge_at n e).a (edge_at n e).b))
    no_entry

-- the entry with anchors for its sides
abbrev pub anchored : PriceEntry → PriceEntry
anchored p = record p { anchored = true }

-- The entry with these amounts, of an edge of the hull or not, and the shares that they leave. The weight of the edge is
-- what its left side has given away.
abbrev pub repriced : PriceEntry → Bool → ℤ → ℤ → ℤ → PriceEntry
repriced p on_hull value left right =
    let weight = (p.up +ℤ p.value) +ℤ p.left in
    record p {
      value = value;
      left = left;
      right = right;
      up = (weight -ℤ value) -ℤ left;
      down = cond on_hull (weight -ℤ value) (value -ℤ right);
    }

-- the entry with its price lowered by m, but not below the lowest
abbrev pub lowered : PriceEntry → ℤ → PriceEntry
lowered p m =
    let value = int_max (p.value -ℤ m) lowest in
    record p { value = value; up = p.up +ℤ (p.value -ℤ value); down = p.down -ℤ (p.value -ℤ value) }

-- the entry with m more as the anchor of the hull
abbrev pub hull_raised : PriceEntry → ℤ → PriceEntry
hull_raised p m = record p { value = p.value +ℤ m; up = p.up -ℤ m; down = p.down -ℤ m }

-- the entry with m more as the anchor of the left side
abbrev pub left_raised : PriceEntry → ℤ → PriceEntry
left_raised p m = record p { left = p.left +ℤ m; up = p.up -ℤ m }

-- the entry with m more as the anchor of the right side
abbrev pub right_raised : PriceEntry → ℤ → PriceEntry
right_raised p m = record p { right = p.right +ℤ m; down = p.down -ℤ m }

-- the three sides of the triangle t are live
abbrev pub AreSidesLive : NetworkParts → List PriceEntry → ℕ → Type 0
AreSidesLive n es t = (f : ℕ) → IsSideOf n t f → (entry es f).live ≡ true

-- the slack of the triangle t
abbrev pub slack_at : NetworkParts → List PriceEntry → ℕ → ℤ
slack_at n es t = slack n.points n.hull (prices_of n es) (tri_at n t)

-- The price of the edge e has been lowered by the least slack on its right side.
pub record IsLowered (n : NetworkParts) (old new : List PriceEntry) (e : ℕ) : Type 0 where
  pub m : ℤ
  pub least : IsLeastSlack n.points n.hull (prices_of n old) (edge_at n e).b (edge_at n e).a m
  pub entry_is : new ≡ slice_set old e (lowered (entry old e) m)

-- The anchor of the side u to v of the edge e has been raised by the least slack on this side.
pub record IsRaisedEntry (n : NetworkParts) (old new : List PriceEntry) (e u v : ℕ) (raise : PriceEntry → ℤ → PriceEntry) : Type 0 where
  pub m : ℤ
  pub least : IsLeastSlack n.points n.hull (prices_of n old) u v m
  pub entry_is : new ≡ slice_set old e (raise (entry old e) m)

-- a share of a live edge
abbrev pub IsShare : ℤ → Type 0
IsShare s = (neg_ℤ (pos (281 * 10 ^ 16)) ≤ℤ s) × (s ≤ℤ pos (1003 * 10 ^ 15))

-- the shares of a live edge
pub record AreShares (p : PriceEntry) : Type 0 where
  pub up : IsShare p.up
  pub down : IsShare p.down

-- a least slack
abbrev pub IsSlack : ℤ → Type 0
IsSlack m = (pos 0 ≤ℤ m) × (m ≤ℤ pos (3009 * 10 ^ 15))

-- m is the least slack of the live triangles among these, the first i of a row, or none where there is none
abbrev pub IsLeastUpto : NetworkParts → List PriceEntry → List ℕ → ℕ → Option ℤ → Type 0
IsLeastUpto n es row i None = (k : ℕ) → k < i → ¬ AreSidesLive n es (slice_index row k)
IsLeastUpto n es row i (Some m) =
    ((k : ℕ) × (k < i) × AreSidesLive n es (slice_index row k) × (slack_at n es (slice_index row k) ≡ m))
    × ((k : ℕ) → k < i → AreSidesLive n es (slice_index row k) → m ≤ℤ slack_at n es (slice_index row k))
