-- The rule on bounded faces: interval programming over the places of each face, and the prices that follow from it.
use Rattle.std.specs.Prelude.{◌≡◌, ◌⊎◌, ℕ, zero, suc, ◌+◌, ◌-◌, ◌/◌, ◌<◌, ◌≤◌, List, [], ◌∷◌, ◌++◌, length, slice_index, Contains, pos, ◌-ℤ◌}
use Rattle.std.specs.List.Sorted.{IsPermutation, IsSorted}
use Rattle.exact_predicates.specs.declared.edge.Edge.{Edge}
use Rattle.exact_predicates.specs.declared.point.Point.{Point}
use Rattle.exact_predicates.specs.declared.tri.Tri.{Tri}
use Rattle.exact_predicates.specs.Candidates.{IsEmptyOver}
use Rattle.exact_predicates.specs.Triangulation.{tri_cmp}
use Rattle.length_enclosure.specs.Enclosure.{weight}
use Rattle.lmt_network.specs.Live.{IsHullEdge}
use Rattle.lmt_network.specs.Prices.{Priced, priced, priced_edges, share}
use Rattle.face_optimum.specs.Places.{IsEdgeAt, IsOffSkeleton, IsTriAt, face_at}

-- Of the live triangles at the places i and l of a face, t with its third place j between these has the least sum
-- F(i,j) + F(j,l), and of those that have this sum the least third place. F is `cost`.
pub record IsBestBetween (ps : List Point) (live skeleton : List Edge) (face : List ℕ) (cost : ℕ → ℕ → ℕ) (i j l : ℕ) (t : Tri) : Type 0 where
  pub over : IsEmptyOver ps live t
  pub sits : IsTriAt ps live skeleton face i j l t
  pub least : (k : ℕ) (u : Tri) → IsEmptyOver ps live u → IsTriAt ps live skeleton face i k l u
      → (cost i j + cost j l < cost i k + cost k l) ⊎ ((cost i j + cost j l ≡ cost i k + cost k l) × (j ≤ k))

-- the best triangle at the places i and l, with its sum
pub record IsLeastSum (ps : List Point) (live skeleton : List Edge) (face : List ℕ) (cost : ℕ → ℕ → ℕ) (i l sum : ℕ) : Type 0 where
  pub middle : ℕ
  pub tri : Tri
  pub best : IsBestBetween ps live skeleton face cost i middle l tri
  pub is : sum ≡ cost i middle + cost middle l

-- F of a face. A side, from a place to the next, costs nothing. An edge that sits at two places costs its weight and the
-- least sum there; the first and the last place the least sum alone.
pub record AreFaceCosts (ps : List Point) (live skeleton : List Edge) (face : List ℕ) (cost : ℕ → ℕ → ℕ) : Type 0 where
  pub sides : (i : ℕ) → i + 1 < length face → cost i (i + 1) ≡ 0
  pub edges : (e : Edge) (i l : ℕ) → IsOffSkeleton live skeleton e → IsEdgeAt ps face i l e
      → (sum : ℕ) × IsLeastSum ps live skeleton face cost i l sum × (cost i l ≡ weight ps (e.a, e.b) + sum)
  pub root : IsLeastSum ps live skeleton face cost 0 (length face - 1) (cost 0 (length face - 1))

-- The triangles chosen for the part of a face from the place i to the place l: none where these are next to each other, and
-- else the best one there with those chosen for the two parts beside it.
pub data AreChosen (ps : List Point) (live skeleton : List Edge) (face : List ℕ) (cost : ℕ → ℕ → ℕ) : ℕ → ℕ → List Tri → Type 0 where
  adjacent : (i l : ℕ) → l ≡ i + 1 → AreChosen ps live skeleton face cost i l []
  split : (i j l : ℕ) (t : Tri) (us vs : List Tri) → IsBestBetween ps live skeleton face cost i j l t
      → AreChosen ps live skeleton face cost i j us → AreChosen ps live skeleton face cost j l vs
      → AreChosen ps live skeleton face cost i l (t ∷ (us ++ vs))

-- the triangles chosen for the first `count` faces, face by face; F of the face f is `cost f`
abbrev pub AreChosenIn : List Point → List Edge → List Edge → List (List ℕ) → (ℕ → ℕ → ℕ → ℕ) → ℕ → List Tri → Type 0
AreChosenIn ps live skeleton faces cost zero ts = ts ≡ []
AreChosenIn ps live skeleton faces cost (suc f) ts =
    (us : List Tri) × (vs : List Tri) × AreChosenIn ps live skeleton faces cost f us
    × AreChosen ps live skeleton (face_at faces f) (cost f) 0 (length (face_at faces f) - 1) vs × (ts ≡ us ++ vs)

-- the triangles: those chosen for all faces, in ascending order
pub record AreFaceTris (ps : List Point) (live skeleton : List Edge) (faces : List (List ℕ)) (cost : ℕ → ℕ → ℕ → ℕ) (tris : List Tri) : Type 0 where
  pub chosen : List Tri
  pub chosen_are : AreChosenIn ps live skeleton faces cost (length faces) chosen
  pub same : IsPermutation chosen tris
  pub ascending : IsSorted tri_cmp tris

-- the point of the place i of the face f
abbrev pub point_of : List (List ℕ) → ℕ → ℕ → ℕ
point_of faces f i = slice_index (face_at faces f) i

-- the last place of the face f
abbrev pub last_of : List (List ℕ) → ℕ → ℕ
last_of faces f = length (face_at faces f) - 1

-- The prices. The price of an edge that sits at two places gives F of these to its side from the first to the last. An edge
-- of the skeleton that is no edge of the hull has half of its weight, rounded down. The anchors of the skeleton and of the
-- hull give to the side of a face from its last place to its first minus F of these two, and to each other side nothing.
-- Other edges have no anchors.
pub record AreFacePrices (ps : List Point) (hull : List ℕ) (live skeleton : List Edge) (faces : List (List ℕ)) (cost : ℕ → ℕ → ℕ → ℕ) (prices : List Priced) : Type 0 where
  pub of_live : priced_edges prices ≡ live
  pub parts : (e : Edge) (f i l : ℕ) → IsOffSkeleton live skeleton e → f < length faces → IsEdgeAt ps (face_at faces f) i l e
      → share ps hull prices (point_of faces f i) (point_of faces f l) ≡ pos (cost f i l)
  pub halves : (e : Edge) → Contains skeleton e → ¬ IsHullEdge hull e → (priced prices e.a e.b).value ≡ pos (weight ps (e.a, e.b) / 2)
  pub last_sides : (f : ℕ) → f < length faces
      → share ps hull prices (point_of faces f (last_of faces f)) (point_of faces f 0) ≡ pos 0 -ℤ pos (cost f 0 (last_of faces f))
  pub other_sides : (f i : ℕ) → f < length faces → i < last_of faces f
      → share ps hull prices (point_of faces f i) (point_of faces f (i + 1)) ≡ pos 0
  pub without_anchors : (e : Edge) → Contains live e → (¬ Contains skeleton e) ⊎ IsHullEdge hull e
      → ((priced prices e.a e.b).left ≡ pos 0) × ((priced prices e.a e.b).right ≡ pos 0)

-- The triangles and the prices are those of the rule.
pub record FollowsFaceRule (ps : List Point) (hull : List ℕ) (live skeleton : List Edge) (faces : List (List ℕ)) (tris : List Tri) (prices : List Priced) : Type 0 where
  pub cost : ℕ → ℕ → ℕ → ℕ
  pub costs : (f : ℕ) → f < length faces → AreFaceCosts ps live skeleton (face_at faces f) (cost f)
  pub tris_are : AreFaceTris ps live skeleton faces cost tris
  pub prices_are : AreFacePrices ps hull live skeleton faces cost prices
