-- Slots: which triangle is on which side of an edge, and what changes where one is written.
use Rattle.std.proofs.Common.{◌≡◌, ◌≢◌, ℕ, ◌<◌, ◌≤◌, List, length, set, Some, arith, ap, sym, ◌∙◌, subst, ⊎_elim, ◌⊎◌, inl, inr}
use Rattle.std.proofs.lemmas.Bool.{cases_eq, cases_lt, cond-true, cond-false, lt-ltb, le-ltb}
use Rattle.std.proofs.lemmas.Option.{same_Some}
use Rattle.exact_predicates.specs.declared.edge.Edge.{Edge}
use Rattle.exact_predicates.specs.Candidates.{Joins}
use Rattle.flip_finish.specs.declared.slot.Slot.{Slot}
use Rattle.flip_finish.specs.Mesh.{HasLeft, triangle_left}
use Rattle.flip_finish.specs.Places.{IsAt}
use Rattle.flip_finish.specs.Slot.{IsSlotOf, with_left}
use Rattle.flip_finish.proofs.Standing.{IsAt-only, IsAt-set, IsAt-set_here, IsAt-set_other}

-- upwards the left side is the slot's left, and downwards its right
pub left_up : (s : Slot) (x y : ℕ) → x < y → triangle_left s x y ≡ s.left
left_up s x y l = cond-true _ s.left s.right (lt-ltb x y l)

pub left_down : (s : Slot) (x y : ℕ) → y ≤ x → triangle_left s x y ≡ s.right
left_down s x y l = cond-false _ s.left s.right (le-ltb x y l)

-- the ends of an edge differ, and are known up to their order
pub Joins-apart : (e : Edge) (x y : ℕ) → Joins e x y → x ≢ y
Joins-apart e x y h same = let up = e.ascending in let l = h.0 in let g = h.1 in absurd (omega arith)

pub Joins-ends_only : (e : Edge) (x y z w : ℕ) → Joins e x y → Joins e z w → ((x ≡ z) × (y ≡ w)) ⊎ ((x ≡ w) × (y ≡ z))
Joins-ends_only e x y z w h k =
    let up = e.ascending in
    let h0 = h.0 in
    let h1 = h.1 in
    let k0 = k.0 in
    let k1 = k.1 in
    ⊎_elim
    (λ same. inl (same, omega arith))
    (λ ne. inr (omega arith, omega arith))
    (cases_eq x z)

pub HasLeft-apart : (slots : List Slot) (p x y t : ℕ) → HasLeft slots p x y t → x ≢ y
HasLeft-apart slots p x y t h = Joins-apart h.slot.edge x y h.joins

-- one slot has one edge
pub HasLeft-ends : (slots : List Slot) (p x y t z w s : ℕ) → HasLeft slots p x y t → HasLeft slots p z w s
    → ((x ≡ z) × (y ≡ w)) ⊎ ((x ≡ w) × (y ≡ z))
HasLeft-ends slots p x y t z w s h k =
    let same = IsAt-only slots p h.slot k.slot h.slot_at k.slot_at in
    Joins-ends_only k.slot.edge x y z w (subst (λ (e : Slot). Joins e.edge x y) same h.joins) k.joins

-- and on each of its sides one triangle
pub HasLeft-only : (slots : List Slot) (p x y t s : ℕ) → HasLeft slots p x y t → HasLeft slots p x y s → t ≡ s
HasLeft-only slots p x y t s h k =
    let same = IsAt-only slots p h.slot k.slot h.slot_at k.slot_at in
    same_Some t s (sym h.left ∙ (ap (λ e. triangle_left e x y) same ∙ k.left))

-- what is written on one side is there
pub with_left_here : (s : Slot) (x y t : ℕ) → triangle_left (with_left s x y t) x y ≡ Some t
with_left_here s x y t =
    ⊎_elim
    (λ l. left_up (with_left s x y t) x y l ∙ cond-true _ (Some t) s.left (lt-ltb x y l))
    (λ l. left_down (with_left s x y t) x y l ∙ cond-false _ s.right (Some t) (le-ltb x y l))
    (cases_lt x y)

-- and the other side stays
with_left_across : (s : Slot) (x y t : ℕ) → x ≢ y → triangle_left (with_left s x y t) y x ≡ triangle_left s y x
with_left_across s x y t ne =
    ⊎_elim
    (λ l.
    let g : x ≤ y = omega arith in
    left_down (with_left s x y t) y x g ∙ (cond-true _ s.right (Some t) (lt-ltb x y l) ∙ sym (left_down s y x g)))
    (λ l.
    let g : y < x = omega arith in
    left_up (with_left s x y t) y x g ∙ (cond-false _ (Some t) s.left (le-ltb x y l) ∙ sym (left_up s y x g)))
    (cases_lt x y)

-- the side x to y of the slot p is the side u to v of the slot q
abbrev pub IsThere : ℕ → ℕ → ℕ → ℕ → ℕ → ℕ → Type 0
IsThere p x y q u v = (p ≡ q) × (x ≡ u) × (y ≡ v)

-- a triangle written on one side of a slot's edge
pub HasLeft-write_here : (slots : List Slot) (q u v t : ℕ) (s : Slot) → IsAt slots q s → Joins s.edge u v
    → HasLeft (set slots q (with_left s u v t)) q u v t
HasLeft-write_here slots q u v t s at_q j =
    record { slot = with_left s u v t; slot_at = IsAt-set_here slots q (with_left s u v t) at_q.inside; joins = j; left = with_left_here s u v t }

pub HasLeft-write_other : (slots : List Slot) (q u v t : ℕ) (s : Slot) (p x y r : ℕ) → IsAt slots q s → Joins s.edge u v
    → ¬ IsThere p x y q u v → HasLeft slots p x y r → HasLeft (set slots q (with_left s u v t)) p x y r
HasLeft-write_other slots q u v t s p x y r at_q j away h =
    ⊎_elim
    (λ e.
    let at_p : IsAt slots q h.slot = subst (λ n. IsAt slots n h.slot) e h.slot_at in
    let same = IsAt-only slots q h.slot s at_p at_q in
    let joins = subst (λ (k : Slot). Joins k.edge x y) same h.joins in
    let old : triangle_left s x y ≡ Some r = ap (λ k. triangle_left k x y) (sym same) ∙ h.left in
    ⊎_elim
    (λ (x_u, y_v). absurd (away (e, x_u, y_v)))
    (λ (x_v, y_u). record {
      slot = with_left s u v t;
      slot_at = subst (λ n. IsAt (set slots q (with_left s u v t)) n (with_left s u v t)) (sym e) (IsAt-set_here slots q (with_left s u v t) at_q.inside);
      joins = joins;
      left =
          subst (λ n. triangle_left (with_left s u v t) n y ≡ Some r) (sym x_v)
          (subst (λ n. triangle_left (with_left s u v t) v n ≡ Some r) (sym y_u)
          (with_left_across s u v t (Joins-apart s.edge u v j)
          ∙ subst (λ n. triangle_left s v n ≡ Some r) y_u (subst (λ n. triangle_left s n y ≡ Some r) x_v old)));
    })
    (Joins-ends_only s.edge x y u v joins j))
    (λ ne. record { slot = h.slot; slot_at = IsAt-set_other slots q p (with_left s u v t) h.slot ne h.slot_at; joins = h.joins; left = h.left })
    (cases_eq p q)

-- and what is on the left afterwards is what was written, or what was there
pub HasLeft-write : (slots : List Slot) (q u v t : ℕ) (s : Slot) (p x y r : ℕ) → IsAt slots q s → Joins s.edge u v
    → HasLeft (set slots q (with_left s u v t)) p x y r
    → (IsThere p x y q u v × (r ≡ t)) ⊎ ((¬ IsThere p x y q u v) × HasLeft slots p x y r)
HasLeft-write slots q u v t s p x y r at_q j h =
    ⊎_elim
    (λ (e, same).
    let joins = subst (λ (k : Slot). Joins k.edge x y) same h.joins in
    let now : triangle_left (with_left s u v t) x y ≡ Some r = ap (λ k. triangle_left k x y) (sym same) ∙ h.left in
    ⊎_elim
    (λ (x_u, y_v).
    inl (
      (e, x_u, y_v),
      same_Some r t
          (sym now ∙ (ap (λ n. triangle_left (with_left s u v t) n y) x_u ∙ (ap (λ n. triangle_left (with_left s u v t) u n) y_v ∙ with_left_here s u v t))),
    ))
    (λ (x_v, y_u).
    let apart = Joins-apart s.edge u v j in
    inr (
      λ k. apart (sym k.1 ∙ x_v),
      record {
        slot = s;
        slot_at = subst (λ n. IsAt slots n s) (sym e) at_q;
        joins = joins;
        left =
            subst (λ n. triangle_left s n y ≡ Some r) (sym x_v)
            (subst (λ n. triangle_left s v n ≡ Some r) (sym y_u)
            (sym (with_left_across s u v t apart) ∙ subst (λ n. triangle_left (with_left s u v t) v n ≡ Some r) y_u (subst (λ n. triangle_left (with_left s u v t) n y ≡ Some r) x_v now)));
      },
    ))
    (Joins-ends_only s.edge x y u v joins j))
    (λ (ne, old). inr (λ k. ne k.0, record { slot = h.slot; slot_at = old; joins = h.joins; left = h.left }))
    (IsAt-set slots q p (with_left s u v t) h.slot h.slot_at)

-- a slot is replaced by another
pub HasLeft-replace : (slots : List Slot) (q : ℕ) (s : Slot) (u v t o p x y r : ℕ) → IsSlotOf s u v t o
    → HasLeft (set slots q s) p x y r
    → ((p ≡ q) × (((x ≡ u) × (y ≡ v) × (r ≡ t)) ⊎ ((x ≡ v) × (y ≡ u) × (r ≡ o)))) ⊎ ((p ≢ q) × HasLeft slots p x y r)
HasLeft-replace slots q s u v t o p x y r w h =
    ⊎_elim
    (λ (e, same).
    let joins = subst (λ (k : Slot). Joins k.edge x y) same h.joins in
    let now : triangle_left s x y ≡ Some r = ap (λ k. triangle_left k x y) (sym same) ∙ h.left in
    inl (
      e,
      ⊎_elim
          (λ (x_u, y_v). inl (x_u, y_v, same_Some r t (sym now ∙ (ap (λ n. triangle_left s n y) x_u ∙ (ap (λ n. triangle_left s u n) y_v ∙ w.left)))))
          (λ (x_v, y_u). inr (x_v, y_u, same_Some r o (sym now ∙ (ap (λ n. triangle_left s n y) x_v ∙ (ap (λ n. triangle_left s v n) y_u ∙ w.right)))))
          (Joins-ends_only s.edge x y u v joins w.joins),
    ))
    (λ (ne, old). inr (ne, record { slot = h.slot; slot_at = old; joins = h.joins; left = h.left }))
    (IsAt-set slots q p s h.slot h.slot_at)

pub HasLeft-replace_here : (slots : List Slot) (q : ℕ) (s : Slot) (u v t o : ℕ) → q < length slots → IsSlotOf s u v t o
    → HasLeft (set slots q s) q u v t
HasLeft-replace_here slots q s u v t o q_in w = record { slot = s; slot_at = IsAt-set_here slots q s q_in; joins = w.joins; left = w.left }

pub HasLeft-replace_other : (slots : List Slot) (q : ℕ) (s : Slot) (p x y r : ℕ) → p ≢ q → HasLeft slots p x y r → HasLeft (set slots q s) p x y r
HasLeft-replace_other slots q s p x y r ne h = record { slot = h.slot; slot_at = IsAt-set_other slots q p s h.slot ne h.slot_at; joins = h.joins; left = h.left }

-- the same slot from its other side
pub IsSlotOf-turned : (s : Slot) (x y t o : ℕ) → IsSlotOf s x y t o → IsSlotOf s y x o t
IsSlotOf-turned s x y t o h = record { joins = (omega (arith, h.joins.0), omega (arith, h.joins.1)); left = h.right; right = h.left }
