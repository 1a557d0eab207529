-- Parts of a face and faces, cut into triangles.
use Rattle.std.specs.Prelude.{◌≡◌, ℕ, zero, suc, ◌+◌, ◌-◌, ◌<◌, ◌≤◌, List, length, All, Any, Contains, slice_index, sum_by}
use Rattle.exact_predicates.specs.declared.edge.Edge.{Edge}
use Rattle.exact_predicates.specs.declared.tri.Tri.{Tri}
use Rattle.exact_predicates.specs.Hull.{ring_pairs}
use Rattle.exact_predicates.specs.Candidates.{HasEdge}
use Rattle.exact_predicates.specs.Triangulation.{IsCorner, hit, side_count}

-- how often x to y is one of the first p sides of the face
abbrev pub sides_before : List ℕ → ℕ → ℕ → ℕ → ℕ
sides_before face zero x y = 0
sides_before face (suc p) x y = sides_before face p x y + hit x y (slice_index face p, slice_index face (suc p))

-- how often x to y is a side of these faces
abbrev pub face_sides : List (List ℕ) → ℕ → ℕ → ℕ
face_sides faces x y = sum_by (λ c. sum_by (hit x y) (ring_pairs c)) faces

-- Triangles that cut the part of a face from the place i on to the place l, which a line from l to i closes. Round the part
-- and round the triangles together each side is passed as often one way as the other, but for that line: they count it
-- as the part has it. A side of the skeleton stands once for each time that the part has it, and the line is none but where
-- it is the side from i to l = i + 1. Each triangle is P.
pub record IsPart (P : Tri → Type 0) (skeleton : List Edge) (face : List ℕ) (i l : ℕ) (ts : List Tri) : Type 0 where
  pub balanced : (x y : ℕ)
      → side_count ts x y + (sides_before face l y x + (sides_before face i x y + hit x y (slice_index face i, slice_index face l)))
      ≡ side_count ts y x + (sides_before face l x y + (sides_before face i y x + hit x y (slice_index face l, slice_index face i)))
  pub exact : (x y : ℕ) → HasEdge skeleton x y
      → side_count ts x y + (sides_before face i x y + hit x y (slice_index face i, slice_index face l)) ≡ sides_before face l x y
  pub count : length ts + i + 1 ≡ l
  pub corners : (p : ℕ) → i < p → p < l → Any (λ t. IsCorner t (slice_index face p)) ts
  pub each : All P ts

-- The same, where a triangle stands on that line, which may be a side from l to i of the skeleton.
pub record IsWholePart (P : Tri → Type 0) (skeleton : List Edge) (face : List ℕ) (i l : ℕ) (ts : List Tri) : Type 0 where
  pub balanced : (x y : ℕ)
      → side_count ts x y + (sides_before face l y x + (sides_before face i x y + hit x y (slice_index face i, slice_index face l)))
      ≡ side_count ts y x + (sides_before face l x y + (sides_before face i y x + hit x y (slice_index face l, slice_index face i)))
  pub exact : (x y : ℕ) → HasEdge skeleton x y
      → side_count ts x y + sides_before face i x y ≡ sides_before face l x y + hit x y (slice_index face l, slice_index face i)
  pub count : length ts + i + 1 ≡ l
  pub corners : (p : ℕ) → i ≤ p → p ≤ l → Any (λ t. IsCorner t (slice_index face p)) ts
  pub each : All P ts

-- Triangles that cut all of these faces.
pub record IsTiling (P : Tri → Type 0) (skeleton : List Edge) (faces : List (List ℕ)) (ts : List Tri) : Type 0 where
  pub balanced : (x y : ℕ) → side_count ts x y + face_sides faces y x ≡ side_count ts y x + face_sides faces x y
  pub exact : (x y : ℕ) → HasEdge skeleton x y → side_count ts x y ≡ face_sides faces x y
  pub count : length ts ≡ sum_by (λ c. length c - 2) faces
  pub corners : (face : List ℕ) (p : ℕ) → Contains faces face → p < length face → Any (λ t. IsCorner t (slice_index face p)) ts
  pub each : All P ts
