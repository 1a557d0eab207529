-- Prices of live edges. They split the weight of each edge between the triangles on its two sides, but for what anchors
-- hold back, and the anchors add up to a bound.
use Rattle.std.specs.Prelude.{◌≡◌, ◌⊎◌, ℕ, min, max, Bool, ◌||◌, nat_lt, cond, List, [], ◌∷◌, map, fold, All, AllPairs, Contains, ℤ, pos, ◌+ℤ◌, ◌-ℤ◌, ◌≤ℤ◌}
use Rattle.std.specs.List.{list_any}
use Rattle.std.proofs.Common.{lit<}
use Rattle.exact_predicates.specs.declared.edge.Edge.{Edge}
use Rattle.exact_predicates.specs.declared.point.Point.{Point}
use Rattle.exact_predicates.specs.declared.tri.Tri.{Tri}
use Rattle.exact_predicates.specs.Hull.{ring_pairs, IsHullPair}
use Rattle.exact_predicates.specs.Triangulation.{is_side}
use Rattle.exact_predicates.specs.Candidates.{EdgePrecedes, IsEmptyOver}
use Rattle.length_enclosure.specs.Enclosure.{weight}
use Rattle.lmt_network.specs.Numbers.{HasSide}

-- A live edge with its value: the anchor of an edge of the hull, the price of another. An anchored inner edge has also the
-- anchors of its left side, from the lesser end to the greater, and of its right side; of other edges these are 0.
pub record Priced : Type 0 where
  pub edge : Edge
  pub value : ℤ
  pub left : ℤ
  pub right : ℤ

abbrev pub priced_edges : List Priced → List Edge
priced_edges prices = map (λ p. p.edge) prices

-- what stands for an edge that a list does not price
abbrev pub unpriced : Priced
unpriced = record { edge = record { a = 0; b = 1; ascending = lit< tt }; value = pos 0; left = pos 0; right = pos 0 }

-- the first entry of the edge from a to b
abbrev pub find_priced : List Priced → ℕ → ℕ → Priced
find_priced [] a b = unpriced
find_priced (p ∷ prices) a b = cond (is_side a b (p.edge.a, p.edge.b)) p (find_priced prices a b)

-- what the list says of the edge with the ends u and v
abbrev pub priced : List Priced → ℕ → ℕ → Priced
priced prices u v = find_priced prices (min u v) (max u v)

-- whether u and v are the ends of an edge of the hull
abbrev pub is_on_hull : List ℕ → ℕ → ℕ → Bool
is_on_hull hull u v = list_any (is_side u v) (ring_pairs hull) || list_any (is_side v u) (ring_pairs hull)

-- the weight of the edge with the ends u and v
abbrev pub weight_between : List Point → ℕ → ℕ → ℤ
weight_between ps u v = pos (weight ps (min u v, max u v))

-- The share of the side u to v: what it gives to its triangle. On the hull it is the weight of the edge less the anchor.
-- The left side of another edge has the weight less the price, and the right side the price; each less its own anchor.
unfoldable pub share : List Point → List ℕ → List Priced → ℕ → ℕ → ℤ
share ps hull prices u v =
    cond (is_on_hull hull u v)
    (weight_between ps u v -ℤ (priced prices u v).value)
    (cond (nat_lt u v)
    ((weight_between ps u v -ℤ (priced prices u v).value) -ℤ (priced prices u v).left)
    ((priced prices u v).value -ℤ (priced prices u v).right))

-- the slack of a triangle: what its three sides give together
abbrev pub slack : List Point → List ℕ → List Priced → Tri → ℤ
slack ps hull prices t = share ps hull prices t.a t.b +ℤ (share ps hull prices t.b t.c +ℤ share ps hull prices t.c t.a)

-- a live triangle: an empty one over the priced edges
abbrev pub IsLiveTriangle : List Point → List Priced → Tri → Type 0
IsLiveTriangle ps prices t = IsEmptyOver ps (priced_edges prices) t

-- no live triangle has a negative slack
abbrev pub IsFeasible : List Point → List ℕ → List Priced → Type 0
IsFeasible ps hull prices = (t : Tri) → IsLiveTriangle ps prices t → pos 0 ≤ℤ slack ps hull prices t

-- a sum of integers, as `sum_by` is one of naturals
abbrev pub int_sum_by : {X : Type 0} → (X → ℤ) → List X → ℤ
int_sum_by f xs = fold (λ a x. a +ℤ f x) (pos 0) xs

-- the anchors of an edge together
abbrev pub anchors_of : List ℕ → Priced → ℤ
anchors_of hull p = cond (is_on_hull hull p.edge.a p.edge.b) p.value (p.left +ℤ p.right)

-- the bound: the sum of all anchors
abbrev pub bound : List ℕ → List Priced → ℤ
bound hull prices = int_sum_by (anchors_of hull) prices

-- The edges are priced once each, ascending. No anchor of an inner side is negative, and only anchored edges have such.
pub record ArePrices (anchored : List Edge) (prices : List Priced) : Type 0 where
  pub ascending : AllPairs EdgePrecedes (priced_edges prices)
  pub not_negative : All (λ p. (pos 0 ≤ℤ p.left) × (pos 0 ≤ℤ p.right)) prices
  pub elsewhere : All (λ p. Contains anchored p.edge ⊎ ((p.left ≡ pos 0) × (p.right ≡ pos 0))) prices

-- the side u to v with the anchor y: some live triangle on it has no slack, or there is none on it and the anchor is 0
abbrev pub IsTightSide : List Point → List ℕ → List Priced → ℕ → ℕ → ℤ → Type 0
IsTightSide ps hull prices u v y =
    ((t : Tri) × HasSide t u v × IsLiveTriangle ps prices t × (slack ps hull prices t ≡ pos 0))
    ⊎ (((t : Tri) → HasSide t u v → ¬ IsLiveTriangle ps prices t) × (y ≡ pos 0))

-- No anchor can be raised alone: each side of the hull is tight, and both sides of each anchored edge.
pub record IsTight (ps : List Point) (hull : List ℕ) (anchored : List Edge) (prices : List Priced) : Type 0 where
  pub hull_sides : (u v : ℕ) → IsHullPair hull u v → IsTightSide ps hull prices u v (priced prices u v).value
  pub lefts : (e : Edge) → Contains anchored e → IsTightSide ps hull prices e.a e.b (priced prices e.a e.b).left
  pub rights : (e : Edge) → Contains anchored e → IsTightSide ps hull prices e.b e.a (priced prices e.a e.b).right
