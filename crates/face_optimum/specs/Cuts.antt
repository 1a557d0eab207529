-- What the parts of faces cost, by the numbers of a network's edges and triangles.
use Rattle.std.specs.Prelude.{◌≡◌, ◌⊎◌, ℕ, ◌+◌, ◌*◌, ◌^◌, ◌<◌, ◌≤◌, Bool, List, Option, None, Some, length, All, Contains, slice_index}
use Rattle.exact_predicates.specs.declared.edge.Edge.{Edge}
use Rattle.exact_predicates.specs.Triangulation.{HasCorners}
use Rattle.length_enclosure.specs.Enclosure.{weight}
use Rattle.lmt_network.specs.Network.{NetworkParts, edge_at, tri_at}
use Rattle.lmt_network.specs.Numbers.{IsNumberOf}
use Rattle.face_optimum.specs.declared.cut.Cut.{Cut}
use Rattle.face_optimum.specs.declared.seat.EdgeSeat.{EdgeSeat}
use Rattle.face_optimum.specs.declared.seat.TriSeat.{TriSeat}
use Rattle.face_optimum.specs.Places.{face_at}
use Rattle.face_optimum.specs.Seats.{IsLiveTri, IsOff, edge_seat, first_point, last_point, span, tri_seat}

-- the weight of the edge e
abbrev pub weight_of : NetworkParts → ℕ → ℕ
weight_of n e = weight n.points ((edge_at n e).a, (edge_at n e).b)

-- After the side e of the triangle t, x and y are its sides, in this order.
abbrev pub AreLegs : NetworkParts → ℕ → ℕ → ℕ → ℕ → Type 0
AreLegs n t e x y = (u v w : ℕ) → HasCorners (tri_at n t) u v w → IsNumberOf n w u e → IsNumberOf n u v x × IsNumberOf n v w y

-- the cut is no worse than one of this sum at this middle place: it costs less, or as much and its place is no greater
abbrev pub IsNoWorse : Cut → ℕ → ℕ → Type 0
IsNoWorse c sum middle = (c.sum < sum) ⊎ ((c.sum ≡ sum) × (c.middle ≤ middle))

-- c is the cut by the triangle t on its side e
abbrev pub IsCutBy : NetworkParts → List TriSeat → List ℕ → ℕ → ℕ → Cut → Type 0
IsCutBy n seats costs e t c =
    (c.tri ≡ t) × (c.middle ≡ (tri_seat seats t).middle)
    × ((u v w x y : ℕ) → HasCorners (tri_at n t) u v w → IsNumberOf n w u e → IsNumberOf n u v x → IsNumberOf n v w y
    → c.sum ≡ slice_index costs x + slice_index costs y)

-- r is the cheaper of the two cuts, or the one that there is
abbrev pub IsCheaper : Option Cut → Cut → Cut → Type 0
IsCheaper None c r = r ≡ c
IsCheaper (Some best) c r = ((r ≡ best) × IsNoWorse best c.sum c.middle) ⊎ ((r ≡ c) × IsNoWorse c best.sum best.middle)

-- The best cut on the side `from` to `to`, by a live triangle with this side: of the sums of the costs of the other two
-- sides it has the least, and of those that have the least the least middle place.
pub record IsBestCut (n : NetworkParts) (flags : List Bool) (seats : List TriSeat) (costs : List ℕ) (from to : ℕ) (c : Cut) : Type 0 where
  pub live : IsLiveTri n flags c.tri
  pub apex : ℕ
  pub corners : HasCorners (tri_at n c.tri) to apex from
  pub first : ℕ
  pub second : ℕ
  pub first_is : IsNumberOf n to apex first
  pub second_is : IsNumberOf n apex from second
  pub sum : c.sum ≡ slice_index costs first + slice_index costs second
  pub middle : c.middle ≡ (tri_seat seats c.tri).middle
  pub least : (t r x y : ℕ) → IsLiveTri n flags t → HasCorners (tri_at n t) to r from → IsNumberOf n to r x → IsNumberOf n r from y
      → IsNoWorse c (slice_index costs x + slice_index costs y) (tri_seat seats t).middle

-- The cost of the edge e is its weight and what the best cut on it costs, by the triangle chosen for it.
pub record IsCosted (n : NetworkParts) (flags : List Bool) (faces : List (List ℕ)) (edge_seats : List (Option EdgeSeat)) (tri_seats : List TriSeat) (costs choices : List ℕ) (e : ℕ) : Type 0 where
  pub cut : Cut
  pub best : IsBestCut n flags tri_seats costs (last_point faces edge_seats e) (first_point faces edge_seats e) cut
  pub cost : slice_index costs e ≡ weight_of n e + cut.sum
  pub choice : slice_index choices e ≡ cut.tri

-- more than any edge weighs
abbrev pub above_weights : ℕ
above_weights = 3 * 10 ^ 15

-- no cost is more than this
abbrev pub most_cost : ℕ
most_cost = 4 * 10 ^ 17

-- a cost that a part of so many sides may have
abbrev pub IsSmallCost : ℕ → ℕ → Type 0
IsSmallCost sides cost = cost + above_weights ≤ sides * above_weights

-- The edge x joins the places i and l of the face f: it is a side of the face from i to the next place, or it is a live edge
-- outside the skeleton that sits at them.
pub record IsJoint (n : NetworkParts) (flags : List Bool) (skeleton : List Edge) (faces : List (List ℕ)) (seats : List (Option EdgeSeat)) (f i l x : ℕ) : Type 0 where
  pub face_in : f < length faces
  pub below : i < l
  pub last_in : l < length (face_at faces f)
  pub number : IsNumberOf n (slice_index (face_at faces f) i) (slice_index (face_at faces f) l) x
  pub place : ((l ≡ i + 1) × Contains skeleton (edge_at n x))
      ⊎ (IsOff n flags skeleton x × ((edge_seat seats x).face ≡ f) × ((edge_seat seats x).first ≡ i) × ((edge_seat seats x).last ≡ l))

-- The live edges outside the skeleton, those between nearer places first.
pub record IsOrder (n : NetworkParts) (flags : List Bool) (skeleton : List Edge) (seats : List (Option EdgeSeat)) (order : List ℕ) : Type 0 where
  pub each : All (IsOff n flags skeleton) order
  pub all : (e : ℕ) → IsOff n flags skeleton e → Contains order e
  pub rise : (i j : ℕ) → i ≤ j → j < length order → span seats (slice_index order i) ≤ span seats (slice_index order j)

-- The costs of the first k edges of the order, and the choices for them.
pub record AreCostedUpto (n : NetworkParts) (flags : List Bool) (skeleton : List Edge) (faces : List (List ℕ)) (edge_seats : List (Option EdgeSeat)) (tri_seats : List TriSeat)
    (order : List ℕ) (k : ℕ) (costs choices : List ℕ) : Type 0 where
  pub one_each : length costs ≡ length n.edges
  pub choice_each : length choices ≡ length n.edges
  pub done : (m : ℕ) → m < k → IsCosted n flags faces edge_seats tri_seats costs choices (slice_index order m)
  pub small : (e : ℕ) → (slice_index costs e ≡ 0) ⊎ (IsOff n flags skeleton e × IsSmallCost (span edge_seats e) (slice_index costs e))

-- All costs and choices: those of live edges outside the skeleton by their best cuts, and 0 for others.
pub record AreCosts (n : NetworkParts) (flags : List Bool) (skeleton : List Edge) (faces : List (List ℕ)) (edge_seats : List (Option EdgeSeat)) (tri_seats : List TriSeat) (costs choices : List ℕ) : Type 0 where
  pub one_each : length costs ≡ length n.edges
  pub choice_each : length choices ≡ length n.edges
  pub others : (e : ℕ) → ¬ IsOff n flags skeleton e → slice_index costs e ≡ 0
  pub costed : (e : ℕ) → IsOff n flags skeleton e → IsCosted n flags faces edge_seats tri_seats costs choices e
  pub small : (e : ℕ) → (slice_index costs e ≡ 0) ⊎ (IsOff n flags skeleton e × IsSmallCost (span edge_seats e) (slice_index costs e))
