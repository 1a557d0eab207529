-- The quadrilateral on the edge of a slot.
use Rattle.std.proofs.Common.{◌≡◌, ℕ, ◌<◌, List, length, All, arith, ap, sym, ◌∙◌, subst, ⊎_elim}
use Rattle.std.proofs.lemmas.Option.{none-some}
use Rattle.exact_predicates.specs.declared.point.Point.{Point}
use Rattle.exact_predicates.specs.declared.tri.Tri.{Tri}
use Rattle.exact_predicates.specs.Flip.{IsShortening}
use Rattle.exact_predicates.specs.Triangulation.{HasCorners}
use Rattle.exact_predicates.proofs.Corners.{corner_once, to_corners}
use Rattle.flip_finish.specs.declared.across.Across.{Across}
use Rattle.flip_finish.specs.declared.face.Face.{Face}
use Rattle.flip_finish.specs.declared.slot.Slot.{Slot}
use Rattle.flip_finish.specs.Across.{IsAcross, IsOuter}
use Rattle.flip_finish.specs.Face.{Fits, face_tris}
use Rattle.flip_finish.specs.Flipping.{HasQuad, Shortens}
use Rattle.flip_finish.specs.Mesh.{HasLeft, IsWithin, Parts}
use Rattle.flip_finish.specs.Places.{IsAt}
use Rattle.flip_finish.proofs.Faces.{HasSideAt-corners, first_side}
use Rattle.flip_finish.proofs.Seeing.{first_left}
use Rattle.flip_finish.proofs.Slots.{HasLeft-ends, HasLeft-only, left_down, left_up}
use Rattle.flip_finish.proofs.Standing.{IsAt-map, IsAt-only}

-- what faces and slots show
abbrev pub parts : List Face → List Slot → Parts
parts faces slots = record { tris = face_tris faces; slots = slots }

-- the two faces on an edge make a quadrilateral
unfoldable pub HasQuad-across : (faces : List Face) (slots : List Slot) (slot : ℕ) (x : Across) → Fits faces slots → IsAcross faces slot x
    → HasQuad (parts faces slots) slot x.left.u x.left.v x.left.w x.right.w
HasQuad-across faces slots slot x fits h =
    let left = first_left faces slots x.i slot x.left fits h.left in
    let right = first_left faces slots x.j slot x.right fits h.right in
    record {
      up = h.up;
      i = x.i;
      j = x.j;
      left = subst (λ n. HasLeft slots n x.left.u x.left.v x.i) h.left.slot_is left;
      right =
          subst (λ n. HasLeft slots n x.left.v x.left.u x.j) h.right.slot_is
          (subst (λ n. HasLeft slots x.right.uv n x.left.u x.j) h.v_is (subst (λ n. HasLeft slots x.right.uv x.right.u n x.j) h.u_is right));
      left_tri = h.left.face.tri;
      right_tri = h.right.face.tri;
      left_at = IsAt-map (λ f. f.tri) faces x.i h.left.face h.left.face_at;
      right_at = IsAt-map (λ f. f.tri) faces x.j h.right.face h.right.face_at;
      left_is = HasSideAt-corners h.left.face x.left.u x.left.v x.left.w x.left.uv (first_side h.left.face h.left.sides);
      right_is =
          subst (λ n. HasCorners h.right.face.tri n x.left.u x.right.w) h.v_is
          (subst (λ n. HasCorners h.right.face.tri x.right.u n x.right.w) h.u_is
          (HasSideAt-corners h.right.face x.right.u x.right.v x.right.w x.right.uv (first_side h.right.face h.right.sides)));
    }

-- a slot has one quadrilateral
pub quad_only : (m : Parts) (slot u v a b x y c d : ℕ) (h : HasQuad m slot u v a b) (k : HasQuad m slot x y c d)
    → (u ≡ x) × (v ≡ y) × (a ≡ c) × (b ≡ d) × (h.i ≡ k.i) × (h.j ≡ k.j)
quad_only m slot u v a b x y c d h k =
    let h_up = h.up in
    let k_up = k.up in
    let ends : (u ≡ x) × (v ≡ y) = ⊎_elim (λ e. e) (λ e. let e0 = e.0 in let e1 = e.1 in absurd (omega arith)) (HasLeft-ends m.slots slot u v h.i x y k.i h.left k.left) in
    let left = subst (λ n. HasLeft m.slots slot n v h.i) ends.0 h.left in
    let right = subst (λ n. HasLeft m.slots slot v n h.j) ends.0 h.right in
    let same_i = HasLeft-only m.slots slot x y h.i k.i (subst (λ n. HasLeft m.slots slot x n h.i) ends.1 left) k.left in
    let same_j = HasLeft-only m.slots slot y x h.j k.j (subst (λ n. HasLeft m.slots slot n x h.j) ends.1 right) k.right in
    let left_tri = IsAt-only m.tris k.i h.left_tri k.left_tri (subst (λ n. IsAt m.tris n h.left_tri) same_i h.left_at) k.left_at in
    let right_tri = IsAt-only m.tris k.j h.right_tri k.right_tri (subst (λ n. IsAt m.tris n h.right_tri) same_j h.right_at) k.right_at in
    let left_is = subst (λ n. HasCorners k.left_tri n v a) ends.0 (subst (λ (t : Tri). HasCorners t u v a) left_tri h.left_is) in
    let right_is = subst (λ n. HasCorners k.right_tri v n b) ends.0 (subst (λ (t : Tri). HasCorners t v u b) right_tri h.right_is) in
    let a_c = corner_once k.left_tri x y a c (subst (λ n. HasCorners k.left_tri x n a) ends.1 left_is) k.left_is in
    let b_d = corner_once k.right_tri y x b d (subst (λ n. HasCorners k.right_tri n x b) ends.1 right_is) k.right_is in
    (ends.0, ends.1, a_c, b_d, same_i, same_j)

pub IsShortening-only : (ps : List Point) (m : Parts) (slot u v a b x y c d : ℕ) → HasQuad m slot u v a b → HasQuad m slot x y c d
    → IsShortening ps u v a b → IsShortening ps x y c d
IsShortening-only ps m slot u v a b x y c d h k s =
    let e = quad_only m slot u v a b x y c d h k in
    subst (λ n. IsShortening ps x y c n) e.3 (subst (λ n. IsShortening ps x y n b) e.2 (subst (λ n. IsShortening ps x n a b) e.1 (subst (λ n. IsShortening ps n v a b) e.0 s)))

-- a slot that lacks a triangle has no quadrilateral
pub outer_not_quad : (m : Parts) (slot u v a b : ℕ) → IsOuter m.slots slot → HasQuad m slot u v a b → ⊥
outer_not_quad m slot u v a b h k =
    let up = k.up in
    let s = k.left.slot in
    let r = k.right.slot in
    let same = IsAt-only m.slots slot h.it s h.it_at k.left.slot_at in
    let same_right = IsAt-only m.slots slot h.it r h.it_at k.right.slot_at in
    ⊎_elim
    (λ e. none-some k.i (sym e ∙ (ap (λ (x : Slot). x.left) same ∙ (sym (left_up s u v up) ∙ k.left.left))))
    (λ e. none-some k.j (sym e ∙ (ap (λ (x : Slot). x.right) same_right ∙ (sym (left_down r v u (omega arith)) ∙ k.right.left))))
    h.lacks

-- what is known of the two faces of a slot that shortens
pub IsShortening-across : (ps : List Point) (faces : List Face) (slots : List Slot) (slot : ℕ) (x : Across) → Fits faces slots → IsAcross faces slot x
    → Shortens ps (parts faces slots) slot → IsShortening ps x.left.u x.left.v x.left.w x.right.w
IsShortening-across ps faces slots slot x fits h s =
    IsShortening-only ps (parts faces slots) slot s.u s.v s.a s.b x.left.u x.left.v x.left.w x.right.w s.quad (HasQuad-across faces slots slot x fits h) s.shortening

-- the corners of a quadrilateral are points where those of all triangles are
pub within_quad : (ps : List Point) (m : Parts) (slot u v a b : ℕ) → All (IsWithin ps) m.tris → HasQuad m slot u v a b
    → (u < length ps) × (v < length ps) × (a < length ps) × (b < length ps)
within_quad ps m slot u v a b h k =
    let n = length ps in
    let P : ℕ → ℕ → ℕ → Type 0 = λ x y z. (x < n) × (y < n) × (z < n) in
    let own : (i : ℕ) (t : Tri) → IsAt m.tris i t → IsWithin ps t = λ i t at_i. subst (IsWithin ps) at_i.is (h i t at_i.inside) in
    let l = own k.i k.left_tri k.left_at in
    let r = own k.j k.right_tri k.right_at in
    let left = to_corners P (λ x y z (p, q, s). (q, s, p)) k.left_tri u v a k.left_is (l.a_in, l.b_in, l.c_in) in
    let right = to_corners P (λ x y z (p, q, s). (q, s, p)) k.right_tri v u b k.right_is (r.a_in, r.b_in, r.c_in) in
    (left.0, left.1, left.2, right.2)
