-- Triangles that know the slots of their sides, and how these fit the slots.
use Rattle.std.specs.Prelude.{◌≡◌, ◌⊎◌, ℕ, ◌<◌, ◌^◌, ◌==◌, List, length, map, slice_set, if◌then◌else◌}
use Rattle.exact_predicates.specs.declared.tri.Tri.{Tri}
use Rattle.flip_finish.specs.declared.face.Face.{Face}
use Rattle.flip_finish.specs.declared.slot.Slot.{Slot}
use Rattle.flip_finish.specs.Mesh.{HasLeft}
use Rattle.flip_finish.specs.Places.{IsAt}

-- the face has the side x to y, across from the corner w, and this side is the edge of the slot p
abbrev pub HasSideAt : Face → ℕ → ℕ → ℕ → ℕ → Type 0
HasSideAt f x y w p =
    ((f.tri.a ≡ x) × (f.tri.b ≡ y) × (f.tri.c ≡ w) × (f.ab ≡ p))
    ⊎ (((f.tri.b ≡ x) × (f.tri.c ≡ y) × (f.tri.a ≡ w) × (f.bc ≡ p)) ⊎ ((f.tri.c ≡ x) × (f.tri.a ≡ y) × (f.tri.b ≡ w) × (f.ca ≡ p)))

-- the face has the corners u, v and w in this turn, and the slots p, q and r are those of its sides uv, vw and wu
abbrev pub HasSides : Face → ℕ → ℕ → ℕ → ℕ → ℕ → ℕ → Type 0
HasSides f u v w p q r =
    ((f.tri.a ≡ u) × (f.tri.b ≡ v) × (f.tri.c ≡ w) × (f.ab ≡ p) × (f.bc ≡ q) × (f.ca ≡ r))
    ⊎ (((f.tri.b ≡ u) × (f.tri.c ≡ v) × (f.tri.a ≡ w) × (f.bc ≡ p) × (f.ca ≡ q) × (f.ab ≡ r))
    ⊎ ((f.tri.c ≡ u) × (f.tri.a ≡ v) × (f.tri.b ≡ w) × (f.ca ≡ p) × (f.ab ≡ q) × (f.bc ≡ r)))

-- the face with the slot p for its side that begins at the corner u
abbrev pub with_slot : Face → ℕ → ℕ → Face
with_slot f u p = record {
  tri = f.tri;
  ab = if u == f.tri.a then p else f.ab;
  bc = if u == f.tri.a then f.bc else (if u == f.tri.b then p else f.bc);
  ca = if u == f.tri.a then f.ca else (if u == f.tri.b then f.ca else p);
}

-- the face t has the side x to y, and the slot p for it
pub record IsSideAt (faces : List Face) (t x y p : ℕ) : Type 0 where
  pub face : Face
  pub w : ℕ
  pub face_at : IsAt faces t face
  pub side : HasSideAt face x y w p

-- in the list of faces the one at t has got the slot p for its side that begins at u
pub record IsAttached (old new : List Face) (t u p : ℕ) : Type 0 where
  pub face : Face
  pub face_at : IsAt old t face
  pub after : new ≡ slice_set old t (with_slot face u p)

-- the triangles of faces
abbrev pub face_tris : List Face → List Tri
face_tris faces = map (λ f. f.tri) faces

-- faces and slots say the same of which side is at which slot
pub record Fits (faces : List Face) (slots : List Slot) : Type 0 where
  pub few_faces : length faces < 2 ^ 32
  pub few_slots : length slots < 2 ^ 32
  pub to_face : (p x y t : ℕ) → HasLeft slots p x y t → IsSideAt faces t x y p
  pub to_slot : (p x y t : ℕ) → IsSideAt faces t x y p → HasLeft slots p x y t
