-- What is kept of the edges of a network: any prices and anchors in their ranges, and those that an ascent gives.
use Rattle.std.specs.Prelude.{◌≡◌, ℕ, ◌*◌, ◌^◌, ◌<◌, true, false, List, length, ℤ, pos, neg_ℤ, ◌≤ℤ◌, ◌<ℤ◌}
use Rattle.mwt_base.specs.Limits.{most_anchor, most_price}
use Rattle.exact_predicates.specs.declared.point.Point.{Point}
use Rattle.exact_predicates.specs.declared.tri.Tri.{Tri}
use Rattle.exact_predicates.specs.Hull.{IsHullPair}
use Rattle.length_enclosure.specs.Enclosure.{weight}
use Rattle.lmt_network.specs.Live.{IsHullEdge}
use Rattle.lmt_network.specs.Network.{IsNetwork, NetworkParts, edge_at}
use Rattle.lmt_network.specs.Numbers.{IsHullNumber, IsNumberOf}
use Rattle.lmt_network.specs.Prices.{IsFeasible, Priced, share}
use Rattle.price_ascent.specs.declared.entry.PriceEntry.{PriceEntry}
use Rattle.price_ascent.specs.Ascent.{IsLiveOn, lowest}
use Rattle.price_ascent.specs.Entries.{entry, prices_of}

-- a price
abbrev pub IsPrice : ℤ → Type 0
IsPrice p = (lowest ≤ℤ p) × (p ≤ℤ pos most_price)

-- The greatest anchor that raising gives: the least slack of a side, where all amounts were those of a report, can lift its
-- anchor past the greatest of a report.
abbrev pub most_raised : ℕ
most_raised = 241 * 10 ^ 16

-- the anchor of an edge of the hull
abbrev pub IsHullAnchor : ℤ → Type 0
IsHullAnchor y = (neg_ℤ (pos most_anchor) ≤ℤ y) × (y ≤ℤ pos most_raised)

-- the anchor of a side of an inner edge
abbrev pub IsSideAnchor : ℤ → Type 0
IsSideAnchor y = (pos 0 ≤ℤ y) × (y ≤ℤ pos most_raised)

-- What holds of what is kept of the edge e, from a to b, under these prices. Its two shares are kept with it.
pub record IsEntryOf (n : NetworkParts) (prices : List Priced) (e a b : ℕ) (p : PriceEntry) : Type 0 where
  pub price : ¬ IsHullNumber n e → IsPrice p.value
  pub anchor : IsHullNumber n e → IsHullAnchor p.value
  pub left : IsSideAnchor p.left
  pub right : IsSideAnchor p.right
  pub up : p.live ≡ true → p.up ≡ share n.points n.hull prices a b
  pub down : p.live ≡ true → p.down ≡ share n.points n.hull prices b a
  pub killed : p.live ≡ false → p.value ≡ pos 0
  pub hull_live : IsHullNumber n e → p.live ≡ true
  pub inner : p.anchored ≡ true → (p.live ≡ true) × (¬ IsHullNumber n e)
  pub elsewhere : p.anchored ≡ false → (p.left ≡ pos 0) × (p.right ≡ pos 0)

-- The entries es are those of the network n, one for each edge, with any prices and anchors in their ranges. Slacks may be
-- negative.
pub record AreEntriesOf (n : NetworkParts) (es : List PriceEntry) : Type 0 where
  pub network : IsNetwork n
  pub one_each : length es ≡ length n.edges
  pub light : (e : ℕ) → e < length n.edges → (entry es e).live ≡ true → weight n.points ((edge_at n e).a, (edge_at n e).b) < 3 * 10 ^ 15
  pub each : (e : ℕ) → e < length n.edges → IsEntryOf n (prices_of n es) e (edge_at n e).a (edge_at n e).b (entry es e)

-- no live triangle has the side u to v
abbrev pub IsBareSide : List Point → List Priced → ℕ → ℕ → Type 0
IsBareSide ps prices u v = (t : Tri) → ¬ IsLiveOn ps prices u v t

-- the anchors that p has for bare sides of the edge e are 0
pub record IsZeroWhereBare (n : NetworkParts) (prices : List Priced) (e : ℕ) (p : PriceEntry) : Type 0 where
  pub hull : (u v : ℕ) → IsNumberOf n u v e → IsHullPair n.hull u v → IsBareSide n.points prices u v → p.value ≡ pos 0
  pub left : IsBareSide n.points prices (edge_at n e).a (edge_at n e).b → p.left ≡ pos 0
  pub right : IsBareSide n.points prices (edge_at n e).b (edge_at n e).a → p.right ≡ pos 0

-- Each side with an anchor and without a live triangle has the anchor 0.
abbrev pub AreZeroWhereBare : NetworkParts → List PriceEntry → Type 0
AreZeroWhereBare n es = (e : ℕ) → e < length n.edges → IsZeroWhereBare n (prices_of n es) e (entry es e)

-- The entries es belong to the network n as an ascent leaves them at each step: no price is above the half of a greatest
-- weight, no anchor of the hull is negative, and the prices are feasible.
pub record BelongTo (n : NetworkParts) (es : List PriceEntry) : Type 0 where
  pub entries : AreEntriesOf n es
  pub prices : (e : ℕ) → e < length n.edges → ¬ IsHullNumber n e → (entry es e).value ≤ℤ pos (15 * 10 ^ 14)
  pub anchors : (e : ℕ) → e < length n.edges → IsHullNumber n e → pos 0 ≤ℤ (entry es e).value
  pub bare : AreZeroWhereBare n es
  pub feasible : IsFeasible n.points n.hull (prices_of n es)

-- an anchor of an ascent
abbrev pub IsAnchor : ℤ → Type 0
IsAnchor y = (pos 0 ≤ℤ y) × (y <ℤ pos most_anchor)

-- The amounts that an ascent gives a live edge are within these limits.
pub record HasNarrowRanges (hull : List ℕ) (p : Priced) : Type 0 where
  pub price : ¬ IsHullEdge hull p.edge → (neg_ℤ (pos most_price) ≤ℤ p.value) × (p.value ≤ℤ pos most_price)
  pub anchor : IsHullEdge hull p.edge → IsAnchor p.value
  pub left : IsAnchor p.left
  pub right : IsAnchor p.right

-- The amounts of an edge are within the ranges of a report. An anchor of the hull may be negative there.
pub record IsWithinRanges (hull : List ℕ) (p : Priced) : Type 0 where
  pub price : ¬ IsHullEdge hull p.edge → (neg_ℤ (pos most_price) ≤ℤ p.value) × (p.value ≤ℤ pos most_price)
  pub anchor : IsHullEdge hull p.edge → (neg_ℤ (pos most_anchor) ≤ℤ p.value) × (p.value ≤ℤ pos most_anchor)
  pub left : (pos 0 ≤ℤ p.left) × (p.left ≤ℤ pos most_anchor)
  pub right : (pos 0 ≤ℤ p.right) × (p.right ≤ℤ pos most_anchor)
