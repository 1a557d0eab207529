-- A triangulation has one ordered mesh.
use Rattle.std.proofs.Common.{◌≡◌, ◌⊎◌, ℕ, zero, suc, ◌+◌, ◌<◌, ◌≤◌, List, [], ◌∷◌, get_or, sum_by, AllPairs, Contains, Option, None, Some, sym, ap, ◌∙◌, refl, subst, inl, inr, ⊎_elim, arith}
use Rattle.std.proofs.lemmas.Bool.{cases_order}
use Rattle.std.proofs.lemmas.List.{get_or_default}
use Rattle.std.proofs.lemmas.List.Sums.{sum_by-cons}
use Rattle.exact_predicates.specs.declared.edge.Edge.{Edge}
use Rattle.exact_predicates.specs.declared.point.Point.{Point}
use Rattle.exact_predicates.specs.declared.tri.Tri.{Tri}
use Rattle.exact_predicates.specs.Candidates.{EdgePrecedes, Joins}
use Rattle.exact_predicates.specs.Triangulation.{edges, hit}
use Rattle.exact_predicates.proofs.Ascending.{EdgePrecedes-not, ascending-only}
use Rattle.exact_predicates.proofs.Counts.{hit-some}
use Rattle.exact_predicates.proofs.Elements.{sum_by-some}
use Rattle.exact_predicates.proofs.Equalities.{Edge-equal, Joins-comm, Joins-ends, Joins-only}
use Rattle.exact_predicates.proofs.Pairs.{hit_same}
use Rattle.flip_finish.specs.declared.slot.Slot.{Slot}
use Rattle.flip_finish.specs.Mesh.{IsUpTo, Parts, edge_count, triangle_left}
use Rattle.flip_finish.specs.Places.{IsAt}
use Rattle.flip_finish.proofs.Slots.{left_down, left_up}
use Rattle.flip_finish.proofs.Standing.{IsAt-only}
use Rattle.flip_claims.specs.Descent.{IsOrderedMesh}
use Rattle.flip_claims.proofs.Untouched.{slot_same}

-- a part of a sum, and two parts of it
sum_one : {X : Type 0} (f : X → ℕ) (xs : List X) (q : ℕ) (y : X) → IsAt xs q y → f y ≤ sum_by f xs
sum_one f [] q y h = let inside = h.inside in absurd (omega arith)
sum_one f (x ∷ xs) zero y h = let same = ap f h.is in omega (arith, sum_by-cons f x xs)
sum_one f (x ∷ xs) (suc q) y h =
    let inside = h.inside in
    omega (arith, sum_by-cons f x xs, sum_one f xs q y (record { inside = omega arith; is = h.is }))

sum_two : {X : Type 0} (f : X → ℕ) (xs : List X) (p q : ℕ) (x y : X) → p < q → IsAt xs p x → IsAt xs q y → f x + f y ≤ sum_by f xs
sum_two f [] p q x y before h k = let inside = h.inside in absurd (omega arith)
sum_two f (z ∷ xs) p zero x y before h k = absurd (omega arith)
sum_two f (z ∷ xs) zero (suc q) x y before h k =
    let same = ap f h.is in
    let inside = k.inside in
    omega (arith, sum_by-cons f z xs, sum_one f xs q y (record { inside = omega arith; is = k.is }))
sum_two f (z ∷ xs) (suc p) (suc q) x y before h k =
    let inside = h.inside in
    let k_in = k.inside in
    omega (arith, sum_by-cons f z xs, sum_two f xs p q x y (omega arith) (record { inside = omega arith; is = h.is }) (record { inside = omega arith; is = k.is }))

-- the slots that have the edge xy, where x is the lesser end
abbrev has_edge : ℕ → ℕ → Slot → ℕ
has_edge x y s = hit x y (s.edge.a, s.edge.b)

-- of two edges one precedes the other, or they are one
edge_cases : (e f : Edge) → EdgePrecedes e f ⊎ ((e ≡ f) ⊎ EdgePrecedes f e)
edge_cases e f =
    ⊎_elim
    (λ a. ⊎_elim
    (λ b. inr (inl (Edge-equal e f a b)))
    (λ o. ⊎_elim (λ l. inl (inr (a, l))) (λ l. inr (inr (inr (sym a, l)))) o)
    (cases_order e.b f.b))
    (λ o. ⊎_elim (λ l. inl (inl l)) (λ l. inr (inr (inl l))) o)
    (cases_order e.a f.a)

module _ (slots : List Slot) (once : (x y : ℕ) → x < y → sum_by (has_edge x y) slots ≤ 1) where
  -- no two slots have one edge
  not_later : (p q : ℕ) (s t : Slot) → IsAt slots p s → IsAt slots q t → s.edge ≡ t.edge → p < q → ⊥
  not_later p q s t at_p at_q same before =
      let x = s.edge.a in
      let y = s.edge.b in
      let one = once x y s.edge.ascending in
      let here : has_edge x y s ≡ 1 = hit_same x y in
      let there : has_edge x y t ≡ 1 = ap (λ (e : Edge). hit x y (e.a, e.b)) (sym same) ∙ hit_same x y in
      omega (arith, sum_two (has_edge x y) slots p q s t before at_p at_q)

  slot_once : (p q : ℕ) (s t : Slot) → IsAt slots p s → IsAt slots q t → s.edge ≡ t.edge → s ≡ t
  slot_once p q s t at_p at_q same =
      ⊎_elim
      (λ (e : p ≡ q). IsAt-only slots q s t (subst (λ (n : ℕ). IsAt slots n s) e at_p) at_q)
      (λ o. ⊎_elim (λ l. absurd (not_later p q s t at_p at_q same l)) (λ l. absurd (not_later q p t s at_q at_p (sym same) l)) o)
      (cases_order p q)

  -- so their edges ascend
  strictly : AllPairs (λ s t. IsUpTo s.edge t.edge) slots → AllPairs (λ s t. EdgePrecedes s.edge t.edge) slots
  strictly up i j d before low =
      let s = get_or slots i d in
      let t = get_or slots j d in
      ⊎_elim
      (λ (l : EdgePrecedes s.edge t.edge). l)
      (λ m. ⊎_elim
      (λ (e : s.edge ≡ t.edge). absurd (not_later i j s t (record { inside = omega arith; is = get_or_default slots i s d (omega arith) }) (record { inside = low; is = get_or_default slots j t d low }) e before))
      (λ (l : EdgePrecedes t.edge s.edge). absurd (up i j d before low l))
      m)
      (edge_cases s.edge t.edge)

module _ (ps : List Point) (hull : List ℕ) (tris : List Tri) (once : (x y : ℕ) → x < y → edge_count (edges hull tris) x y ≤ 1) where
  edge_once_in : (m : Parts) → IsOrderedMesh ps hull tris m → (x y : ℕ) → x < y → sum_by (has_edge x y) m.slots ≤ 1
  edge_once_in m h x y up =
      let one = once x y up in
      let each : sum_by (has_edge x y) m.slots ≡ edge_count (edges hull tris) x y = h.mesh.each x y up ∙ ap (λ (ts : List Tri). edge_count (edges hull ts) x y) h.same in
      omega arith

  module _ (m n : Parts) (h : IsOrderedMesh ps hull tris m) (k : IsOrderedMesh ps hull tris n) where
    -- what a slot of the one has on a side of its edge, that of the same edge of the other has
    side_there : (p q x y i : ℕ) (s t : Slot) → IsAt m.slots p s → IsAt n.slots q t → Joins s.edge x y → s.edge ≡ t.edge → triangle_left s x y ≡ Some i → triangle_left t x y ≡ Some i
    side_there p q x y i s t at_p at_q joins same has =
        let (tri, w, at_i, corners) = h.whole.of_slot p x y i (record { slot = s; slot_at = at_p; joins = joins; left = has }) in
        let (r, there) = k.whole.of_side i tri x y w (subst (λ (l : List Tri). IsAt l i tri) (h.same ∙ sym k.same) at_i) corners in
        let one : there.slot ≡ t = slot_once n.slots (edge_once_in n k) r q there.slot t there.slot_at at_q (Joins-only there.slot.edge s.edge x y there.joins joins ∙ same) in
        subst (λ (z : Slot). triangle_left z x y ≡ Some i) one there.left

  module _ (m n : Parts) (h : IsOrderedMesh ps hull tris m) (k : IsOrderedMesh ps hull tris n) where
    side_same : (p q x y : ℕ) (s t : Slot) → IsAt m.slots p s → IsAt n.slots q t → Joins s.edge x y → s.edge ≡ t.edge → triangle_left s x y ≡ triangle_left t x y
    side_same p q x y s t at_p at_q joins same = by (triangle_left s x y) refl (triangle_left t x y) refl
      where
        by : (o : Option ℕ) → triangle_left s x y ≡ o → (u : Option ℕ) → triangle_left t x y ≡ u → triangle_left s x y ≡ triangle_left t x y
        by (Some i) is u too = is ∙ sym (side_there m n h k p q x y i s t at_p at_q joins same is)
        by None is None too = is ∙ sym too
        by None is (Some i) too = side_there n m k h q p x y i t s at_q at_p (subst (λ (e : Edge). Joins e x y) same joins) (sym same) too ∙ sym too

    -- each slot of the one is a slot of the other
    slot_there : (s : Slot) → Contains m.slots s → Contains n.slots s
    slot_there s (p, p_in, at_p) =
        let x = s.edge.a in
        let y = s.edge.b in
        let up = s.edge.ascending in
        let here : IsAt m.slots p s = record { inside = p_in; is = at_p } in
        let mine = sum_one (has_edge x y) m.slots p s here in
        let one : has_edge x y s ≡ 1 = hit_same x y in
        let counts : sum_by (has_edge x y) m.slots ≡ sum_by (has_edge x y) n.slots =
        h.mesh.each x y up ∙ (ap (λ (ts : List Tri). edge_count (edges hull ts) x y) (h.same ∙ sym k.same) ∙ sym (k.mesh.each x y up)) in
        let (q, t, q_in, at_q, hits) = sum_by-some (has_edge x y) n.slots (omega arith) in
        let there : IsAt n.slots q t = record { inside = q_in; is = get_or_default n.slots q t t q_in ∙ at_q } in
        let ends = hit-some x y t.edge.a t.edge.b hits in
        let same : s.edge ≡ t.edge = Edge-equal s.edge t.edge (sym ends.0) (sym ends.1) in
        let left = side_same p q x y s t here there (Joins-ends s.edge) same in
        let right = side_same p q y x s t here there (Joins-comm s.edge x y (Joins-ends s.edge)) same in
        let equal : t ≡ s =
        slot_same s t (sym same)
        (sym (left_up t x y up) ∙ (sym left ∙ left_up s x y up))
        (sym (left_down t y x (omega arith)) ∙ (sym right ∙ left_down s y x (omega arith))) in
        (q, q_in, subst (λ (z : Slot). get_or n.slots q z ≡ z) equal there.is)

  pub one_mesh : (m n : Parts) → IsOrderedMesh ps hull tris m → IsOrderedMesh ps hull tris n → m ≡ n
  one_mesh m n h k =
      let slots =
      ascending-only (λ (s t : Slot). EdgePrecedes s.edge t.edge) (λ s t. EdgePrecedes-not s.edge t.edge) m.slots n.slots
      (strictly m.slots (edge_once_in m h) h.ascending) (strictly n.slots (edge_once_in n k) k.ascending) (slot_there m n h k) (slot_there n m k h) in
      ap (λ (l : List Tri). let z : Parts = record { tris = l; slots = m.slots } in z) (h.same ∙ sym k.same)
      ∙ ap (λ (l : List Slot). let z : Parts = record { tris = n.tris; slots = l } in z) slots
