-- A side has one next side, and is the next one of one side.
use Rattle.std.proofs.Common.{◌≡◌, ◌≢◌, ◌⊎◌, ℕ, List, sym, ◌∙◌, inl, inr, ⊎_elim, arith}
use Rattle.std.proofs.lemmas.Bool.{cases_eq}
use Rattle.std.proofs.lemmas.Int.{ints}
use Rattle.exact_predicates.specs.declared.edge.Edge.{Edge}
use Rattle.exact_predicates.specs.declared.point.Point.{Point}
use Rattle.exact_predicates.proofs.Equalities.{HasEdge-comm}
use Rattle.exact_predicates.proofs.Orientation.{orient_swapped_last}
use Rattle.skeleton_faces.specs.Faces.{AreClockwise, IsNextSide, IsRight}

-- of three facts and their opposites no two and two hold
not_two_and_two : {P Q R P' Q' R' : Type 0} → (P → P' → ⊥) → (Q → Q' → ⊥) → (R → R' → ⊥) → (P × Q) ⊎ ((Q × R) ⊎ (R × P)) → (R' × Q') ⊎ ((Q' × P') ⊎ (P' × R')) → ⊥
not_two_and_two p q r (inl h) (inl k) = q h.1 k.1
not_two_and_two p q r (inl h) (inr (inl k)) = q h.1 k.0
not_two_and_two p q r (inl h) (inr (inr k)) = p h.0 k.0
not_two_and_two p q r (inr (inl h)) (inl k) = q h.0 k.1
not_two_and_two p q r (inr (inl h)) (inr (inl k)) = q h.0 k.0
not_two_and_two p q r (inr (inl h)) (inr (inr k)) = r h.1 k.1
not_two_and_two p q r (inr (inr h)) (inl k) = r h.0 k.0
not_two_and_two p q r (inr (inr h)) (inr (inl k)) = p h.1 k.1
not_two_and_two p q r (inr (inr h)) (inr (inr k)) = p h.1 k.0

not_right_twice : (o p q : Point) → IsRight o p q → IsRight o q p → ⊥
not_right_twice o p q h k = omega (arith, ints, orient_swapped_last o p q)

-- three directions do not come clockwise in both orders
not_both_ways : (o p q r : Point) → AreClockwise o p q r → AreClockwise o p r q → ⊥
not_both_ways o p q r h k = not_two_and_two (not_right_twice o p q) (not_right_twice o q r) (not_right_twice o r p) h k

-- the order is one round
clockwise_on : (o p q r : Point) → AreClockwise o p q r → AreClockwise o q r p
clockwise_on o p q r (inl h) = inr (inr h)
clockwise_on o p q r (inr (inl h)) = inl h
clockwise_on o p q r (inr (inr h)) = inr (inl h)

module _ (ps : List Point) (es : List Edge) where
  -- one side comes after a side
  pub next_is : (u v x y : ℕ) → IsNextSide ps es u v x → IsNextSide ps es u v y → x ≡ y
  next_is u v x y h k =
      ⊎_elim (λ e. e)
      (λ apart. absurd (⊎_elim
      (λ (e : x ≡ u). apart (e ∙ sym (h.alone e y k.next)))
      (λ (xu : x ≢ u). ⊎_elim
      (λ (e : y ≡ u). apart (k.alone e x h.next ∙ sym e))
      (λ (yu : y ≢ u). not_both_ways _ _ _ _ (h.first y k.next yu (λ e. apart (sym e))) (k.first x h.next xu apart))
      (cases_eq y u))
      (cases_eq x u)))
      (cases_eq x y)

  -- and it comes after one side
  pub next_only : (u w v x : ℕ) → IsNextSide ps es u v x → IsNextSide ps es w v x → u ≡ w
  next_only u w v x h k =
      ⊎_elim (λ e. e)
      (λ apart. absurd (⊎_elim
      (λ (e : x ≡ u). apart (sym (h.alone e w (HasEdge-comm es w v k.side))))
      (λ (xu : x ≢ u). ⊎_elim
      (λ (e : x ≡ w). apart (k.alone e u (HasEdge-comm es u v h.side)))
      (λ (xw : x ≢ w).
      let from_u = h.first w (HasEdge-comm es w v k.side) (λ e. apart (sym e)) (λ e. xw (sym e)) in
      let from_w = k.first u (HasEdge-comm es u v h.side) apart (λ e. xu (sym e)) in
      not_both_ways _ _ _ _ from_u (clockwise_on _ _ _ _ (clockwise_on _ _ _ _ from_w)))
      (cases_eq x w))
      (cases_eq x u)))
      (cases_eq u w)
