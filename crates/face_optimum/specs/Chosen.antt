-- The triangles that are chosen, and what the parts on the last sides of faces cost.
use Rattle.std.specs.Prelude.{◌≡◌, ℕ, zero, suc, [], ◌∷◌, ◌+◌, ◌*◌, ◌<◌, ◌≤◌, ◌++◌, List, length, take, slice_index}
use Rattle.exact_predicates.specs.declared.tri.Tri.{Tri}
use Rattle.lmt_network.specs.Network.{tri_at}
use Rattle.lmt_network.specs.Numbers.{IsNumberOf}
use Rattle.face_optimum.specs.declared.cut.Cut.{Cut}
use Rattle.face_optimum.specs.declared.site.Site.{Site}
use Rattle.face_optimum.specs.Cuts.{AreLegs, IsBestCut, IsJoint, most_cost, weight_of}
use Rattle.face_optimum.specs.Parts.{IsPart, IsTiling}
use Rattle.face_optimum.specs.Places.{face_at}
use Rattle.face_optimum.specs.Seats.{IsOff, first_point, last_point}
use Rattle.face_optimum.specs.Sites.{faces_of}
use Rattle.face_optimum.specs.SeatTables.{side_key}

-- the point of a place
abbrev pub place_point : Site → ℕ → ℕ → ℕ
place_point s f i = slice_index (face_at (faces_of s) f) i

-- c is the best cut on the last side of the face f
pub record IsRootCut (s : Site) (costs : List ℕ) (f : ℕ) (c : Cut) : Type 0 where
  pub face_in : f < length (faces_of s)
  pub last : ℕ
  pub last_is : last + 1 ≡ length (face_at (faces_of s) f)
  pub best : IsBestCut s.net.now s.flags.now s.tri_seats.now costs (place_point s f last) (place_point s f 0) c

-- c is the best cut on the edge e, and e costs what it weighs and that
pub record IsPartCut (s : Site) (costs : List ℕ) (e : ℕ) (c : Cut) : Type 0 where
  pub off : IsOff s.net.now s.flags.now s.skeleton.now e
  pub best : IsBestCut s.net.now s.flags.now s.tri_seats.now costs (last_point (faces_of s) s.edge_seats.now e) (first_point (faces_of s) s.edge_seats.now e) c
  pub cost : slice_index costs e ≡ weight_of s.net.now e + c.sum

-- t is the triangle of such a cut
pub data IsChosenTri (s : Site) (costs : List ℕ) (t : Tri) : Type 0 where
  part : (e : ℕ) (c : Cut) → IsPartCut s costs e c → tri_at s.net.now c.tri ≡ t → IsChosenTri s costs t
  root : (f : ℕ) (c : Cut) → IsRootCut s costs f c → tri_at s.net.now c.tri ≡ t → IsChosenTri s costs t

-- The triangles of the best cuts for the part that the edge e cuts off: none where it is one of the skeleton, and else that
-- of its best cut with those for the other two sides of it.
pub data ArePartTris (s : Site) (costs : List ℕ) : ℕ → List Tri → Type 0 where
  none_cut : (e : ℕ) → ¬ IsOff s.net.now s.flags.now s.skeleton.now e → ArePartTris s costs e []
  one_cut : (e x y : ℕ) (c : Cut) (us vs : List Tri) → IsPartCut s costs e c → AreLegs s.net.now c.tri e x y
      → ArePartTris s costs x us → ArePartTris s costs y vs → ArePartTris s costs e (tri_at s.net.now c.tri ∷ (us ++ vs))

-- The triangles of the best cuts for the face f.
pub record AreTrisOfFace (s : Site) (costs : List ℕ) (f : ℕ) (ts : List Tri) : Type 0 where
  pub cut : Cut
  pub root : IsRootCut s costs f cut
  pub e : ℕ
  pub number : IsNumberOf s.net.now (place_point s f root.last) (place_point s f 0) e
  pub x : ℕ
  pub y : ℕ
  pub legs : AreLegs s.net.now cut.tri e x y
  pub us : List Tri
  pub vs : List Tri
  pub first : ArePartTris s costs x us
  pub second : ArePartTris s costs y vs
  pub is : ts ≡ tri_at s.net.now cut.tri ∷ (us ++ vs)

-- those for the first `count` faces, face by face
abbrev pub AreTrisOfFaces : Site → List ℕ → ℕ → List Tri → Type 0
AreTrisOfFaces s costs zero ts = ts ≡ []
AreTrisOfFaces s costs (suc f) ts = (us : List Tri) × (vs : List Tri) × AreTrisOfFaces s costs f us × AreTrisOfFace s costs f vs × (ts ≡ us ++ vs)

-- After old, new has the triangles of the part that the edge e cuts off where it joins two places.
abbrev pub AddsPart : Site → List ℕ → ℕ → List Tri → List Tri → Type 0
AddsPart s costs e old new =
    (f i l : ℕ) → IsJoint s.net.now s.flags.now s.skeleton.now (faces_of s) s.edge_seats.now f i l e
    → (us : List Tri) × (new ≡ old ++ us) × IsPart (IsChosenTri s costs) s.skeleton.now (face_at (faces_of s) f) i l us × ArePartTris s costs e us

-- u to v is the last side of the face f
abbrev pub IsLastSide : Site → ℕ → ℕ → ℕ → Type 0
IsLastSide s f u v = (last : ℕ) × (last + 1 ≡ length (face_at (faces_of s) f)) × (place_point s f last ≡ u) × (place_point s f 0 ≡ v)

-- What the parts on sides cost, by the numbers of the sides: on the last sides of the first k faces what their best cuts
-- cost, and on all other sides nothing.
pub record AreRootCosts (s : Site) (costs : List ℕ) (k : ℕ) (root_costs : List ℕ) : Type 0 where
  pub two_each : length root_costs ≡ 2 * length s.net.now.edges
  pub last_sides : (f u v e : ℕ) → f < k → IsLastSide s f u v → IsNumberOf s.net.now u v e
      → (c : Cut) × IsBestCut s.net.now s.flags.now s.tri_seats.now costs u v c × (slice_index root_costs (side_key e u v) ≡ c.sum)
  pub small : (key : ℕ) → slice_index root_costs key ≤ most_cost
  pub others : (u v e : ℕ) → IsNumberOf s.net.now u v e → ((f : ℕ) → f < k → ¬ IsLastSide s f u v) → slice_index root_costs (side_key e u v) ≡ 0

-- The triangles chosen for the first k faces, and what the parts on sides cost.
pub record AreChosenUpto (s : Site) (costs : List ℕ) (k : ℕ) (tris : List Tri) (root_costs : List ℕ) : Type 0 where
  pub tiling : IsTiling (IsChosenTri s costs) s.skeleton.now (take k (faces_of s)) tris
  pub tris_are : AreTrisOfFaces s costs k tris
  pub root_costs_are : AreRootCosts s costs k root_costs
