-- One flip of faces and slots: what was written, and that faces and slots still say the same.
use Rattle.std.proofs.Common.{◌≡◌, ◌≢◌, ℕ, List, set, sym, subst, ⊎_elim}
use Rattle.exact_predicates.specs.Candidates.{Joins}
use Rattle.flip_finish.specs.declared.face.Face.{Face}
use Rattle.flip_finish.specs.declared.slot.Slot.{Slot}
use Rattle.flip_finish.specs.Face.{Fits, HasSideAt, HasSides}
use Rattle.flip_finish.specs.Mesh.{HasLeft}
use Rattle.flip_finish.specs.Places.{IsAt}
use Rattle.flip_finish.specs.Slot.{IsSlotOf, with_left}
use Rattle.flip_finish.proofs.Faces.{HasSides-only, first_side, second_side, third_side}
use Rattle.flip_finish.proofs.Slots.{HasLeft-apart, HasLeft-ends, HasLeft-replace_here, HasLeft-replace_other, HasLeft-write_here, HasLeft-write_other, IsSlotOf-turned, IsThere}
use Rattle.flip_finish.proofs.Standing.{IsAt-only}

-- The slot of uv has the faces uva at i and vub at j; va, au, ub and bv are the slots of their other sides. In their place come
-- the faces uba and vab, the slot gets the edge ab, and the two sides that pass over are written into their slots.
pub record Step : Type 0 where
  pub faces : List Face
  pub slots : List Slot
  pub slot : ℕ
  pub u : ℕ
  pub v : ℕ
  pub a : ℕ
  pub b : ℕ
  pub i : ℕ
  pub j : ℕ
  pub va : ℕ
  pub au : ℕ
  pub ub : ℕ
  pub bv : ℕ
  pub left : Face
  pub right : Face
  pub top : Face
  pub bottom : Face
  pub diagonal : Slot
  pub ub_slot : Slot
  pub va_slot : Slot
  pub fits : Fits faces slots
  pub left_at : IsAt faces i left
  pub right_at : IsAt faces j right
  pub left_is : HasSides left u v a slot va au
  pub right_is : HasSides right v u b slot ub bv
  pub apart : a ≢ b
  pub top_is : HasSides top u b a ub slot au
  pub bottom_is : HasSides bottom v a b va slot bv
  pub diagonal_is : IsSlotOf diagonal b a i j
  pub ub_at : IsAt (set slots slot diagonal) ub ub_slot
  pub va_at : IsAt (set (set slots slot diagonal) ub (with_left ub_slot u b i)) va va_slot

abbrev pub new_faces : Step → List Face
new_faces s = set (set s.faces s.i s.top) s.j s.bottom

abbrev pub with_diagonal : Step → List Slot
with_diagonal s = set s.slots s.slot s.diagonal

abbrev pub with_ub : Step → List Slot
with_ub s = set (with_diagonal s) s.ub (with_left s.ub_slot s.u s.b s.i)

abbrev pub new_slots : Step → List Slot
new_slots s = set (with_ub s) s.va (with_left s.va_slot s.v s.a s.j)

-- a side of a face that stands somewhere is at its slot
at_slot : (s : Step) (t x y w p : ℕ) (f : Face) → IsAt s.faces t f → HasSideAt f x y w p → HasLeft s.slots p x y t
at_slot s t x y w p f at_t h = s.fits.to_slot p x y t (record { face = f; w = w; face_at = at_t; side = h })

-- the six sides as they were
pub at_uv : (s : Step) → HasLeft s.slots s.slot s.u s.v s.i
at_uv s = at_slot s s.i s.u s.v s.a s.slot s.left s.left_at (first_side s.left s.left_is)

pub at_vu : (s : Step) → HasLeft s.slots s.slot s.v s.u s.j
at_vu s = at_slot s s.j s.v s.u s.b s.slot s.right s.right_at (first_side s.right s.right_is)

pub at_va : (s : Step) → HasLeft s.slots s.va s.v s.a s.i
at_va s = at_slot s s.i s.v s.a s.u s.va s.left s.left_at (second_side s.left s.left_is)

pub at_au : (s : Step) → HasLeft s.slots s.au s.a s.u s.i
at_au s = at_slot s s.i s.a s.u s.v s.au s.left s.left_at (third_side s.left s.left_is)

pub at_ub : (s : Step) → HasLeft s.slots s.ub s.u s.b s.j
at_ub s = at_slot s s.j s.u s.b s.v s.ub s.right s.right_at (second_side s.right s.right_is)

pub at_bv : (s : Step) → HasLeft s.slots s.bv s.b s.v s.j
at_bv s = at_slot s s.j s.b s.v s.u s.bv s.right s.right_at (third_side s.right s.right_is)

-- the corners differ
u_v : (s : Step) → s.u ≢ s.v
u_v s = HasLeft-apart s.slots s.slot s.u s.v s.i (at_uv s)

v_a : (s : Step) → s.v ≢ s.a
v_a s = HasLeft-apart s.slots s.va s.v s.a s.i (at_va s)

a_u : (s : Step) → s.a ≢ s.u
a_u s = HasLeft-apart s.slots s.au s.a s.u s.i (at_au s)

u_b : (s : Step) → s.u ≢ s.b
u_b s = HasLeft-apart s.slots s.ub s.u s.b s.j (at_ub s)

b_v : (s : Step) → s.b ≢ s.v
b_v s = HasLeft-apart s.slots s.bv s.b s.v s.j (at_bv s)

-- a slot whose edge is not uv is another one
not_slot : (s : Step) (p x y t : ℕ) → HasLeft s.slots p x y t → ¬ ((x ≡ s.u) × (y ≡ s.v)) → ¬ ((x ≡ s.v) × (y ≡ s.u)) → p ≢ s.slot
not_slot s p x y t h forth back e =
    ⊎_elim forth back
    (HasLeft-ends s.slots s.slot x y t s.u s.v s.i (subst (λ n. HasLeft s.slots n x y t) e h) (at_uv s))

pub va_slot_apart : (s : Step) → s.va ≢ s.slot
va_slot_apart s = not_slot s s.va s.v s.a s.i (at_va s) (λ e. u_v s (sym e.0)) (λ e. a_u s e.1)

au_slot_apart : (s : Step) → s.au ≢ s.slot
au_slot_apart s = not_slot s s.au s.a s.u s.i (at_au s) (λ e. a_u s e.0) (λ e. v_a s (sym e.0))

pub ub_slot_apart : (s : Step) → s.ub ≢ s.slot
ub_slot_apart s = not_slot s s.ub s.u s.b s.j (at_ub s) (λ e. b_v s e.1) (λ e. u_v s e.0)

bv_slot_apart : (s : Step) → s.bv ≢ s.slot
bv_slot_apart s = not_slot s s.bv s.b s.v s.j (at_bv s) (λ e. u_b s (sym e.0)) (λ e. b_v s e.0)

-- the two faces are two
pub i_j : (s : Step) → s.i ≢ s.j
i_j s e =
    let same = IsAt-only s.faces s.j s.left s.right (subst (λ n. IsAt s.faces n s.left) e s.left_at) s.right_at in
    let sides = subst (λ f. HasSides f s.u s.v s.a s.slot s.va s.au) same s.left_is in
    ⊎_elim
    (λ k. u_v s (sym k.0))
    (λ d. ⊎_elim (λ k. a_u s (sym k.1)) (λ k. v_a s k.0) d)
    (HasSides-only s.right s.u s.v s.a s.slot s.va s.au s.v s.u s.b s.slot sides (first_side s.right s.right_is))

-- the edges of the two slots that are written
pub ub_joins : (s : Step) → Joins s.ub_slot.edge s.u s.b
ub_joins s =
    let h = HasLeft-replace_other s.slots s.slot s.diagonal s.ub s.u s.b s.j (ub_slot_apart s) (at_ub s) in
    subst (λ (k : Slot). Joins k.edge s.u s.b) (IsAt-only (with_diagonal s) s.ub h.slot s.ub_slot h.slot_at s.ub_at) h.joins

pub va_joins : (s : Step) → Joins s.va_slot.edge s.v s.a
va_joins s =
    let d = HasLeft-replace_other s.slots s.slot s.diagonal s.va s.v s.a s.i (va_slot_apart s) (at_va s) in
    let h = HasLeft-write_other (with_diagonal s) s.ub s.u s.b s.i s.ub_slot s.va s.v s.a s.i s.ub_at (ub_joins s) (λ k. u_v s (sym k.1)) d in
    subst (λ (k : Slot). Joins k.edge s.v s.a) (IsAt-only (with_ub s) s.va h.slot s.va_slot h.slot_at s.va_at) h.joins

-- a triangle on the left of another side of another slot stays there
pub stays_left : (s : Step) (p x y t : ℕ) → p ≢ s.slot → ¬ IsThere p x y s.ub s.u s.b → ¬ IsThere p x y s.va s.v s.a
    → HasLeft s.slots p x y t → HasLeft (new_slots s) p x y t
stays_left s p x y t ne no_ub no_va h =
    HasLeft-write_other (with_ub s) s.va s.v s.a s.j s.va_slot p x y t s.va_at (va_joins s) no_va
    (HasLeft-write_other (with_diagonal s) s.ub s.u s.b s.i s.ub_slot p x y t s.ub_at (ub_joins s) no_ub
    (HasLeft-replace_other s.slots s.slot s.diagonal p x y t ne h))

-- the diagonal has its two triangles
diagonal_left : (s : Step) (x y t : ℕ) → HasLeft (with_diagonal s) s.slot x y t → HasLeft (new_slots s) s.slot x y t
diagonal_left s x y t h =
    HasLeft-write_other (with_ub s) s.va s.v s.a s.j s.va_slot s.slot x y t s.va_at (va_joins s) (λ k. va_slot_apart s (sym k.0))
    (HasLeft-write_other (with_diagonal s) s.ub s.u s.b s.i s.ub_slot s.slot x y t s.ub_at (ub_joins s) (λ k. ub_slot_apart s (sym k.0)) h)

pub new_ba : (s : Step) → HasLeft (new_slots s) s.slot s.b s.a s.i
new_ba s = diagonal_left s s.b s.a s.i (HasLeft-replace_here s.slots s.slot s.diagonal s.b s.a s.i s.j (at_uv s).slot_at.inside s.diagonal_is)

pub new_ab : (s : Step) → HasLeft (new_slots s) s.slot s.a s.b s.j
new_ab s = diagonal_left s s.a s.b s.j (HasLeft-replace_here s.slots s.slot s.diagonal s.a s.b s.j s.i (at_uv s).slot_at.inside (IsSlotOf-turned s.diagonal s.b s.a s.i s.j s.diagonal_is))

-- and so have the sides that passed over
pub new_ub : (s : Step) → HasLeft (new_slots s) s.ub s.u s.b s.i
new_ub s =
    HasLeft-write_other (with_ub s) s.va s.v s.a s.j s.va_slot s.ub s.u s.b s.i s.va_at (va_joins s) (λ k. u_v s k.1)
    (HasLeft-write_here (with_diagonal s) s.ub s.u s.b s.i s.ub_slot s.ub_at (ub_joins s))

pub new_va : (s : Step) → HasLeft (new_slots s) s.va s.v s.a s.j
new_va s = HasLeft-write_here (with_ub s) s.va s.v s.a s.j s.va_slot s.va_at (va_joins s)

pub new_au : (s : Step) → HasLeft (new_slots s) s.au s.a s.u s.i
new_au s = stays_left s s.au s.a s.u s.i (au_slot_apart s) (λ k. a_u s k.1) (λ k. v_a s (sym k.1)) (at_au s)

pub new_bv : (s : Step) → HasLeft (new_slots s) s.bv s.b s.v s.j
new_bv s = stays_left s s.bv s.b s.v s.j (bv_slot_apart s) (λ k. u_b s (sym k.1)) (λ k. b_v s k.1) (at_bv s)
