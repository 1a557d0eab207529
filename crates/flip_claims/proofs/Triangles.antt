-- The two triangles of a slot.
use Rattle.std.proofs.Common.{◌≡◌, ◌⊎◌, ℕ, ◌∷◌, sym, ap, ◌∙◌, subst, inl, inr, ⊎_elim, Contains, None, Some}
use Rattle.std.proofs.lemmas.Option.{same_Some}
use Rattle.flip_finish.specs.declared.slot.Slot.{Slot}
use Rattle.flip_finish.specs.Mesh.{Parts}
use Rattle.flip_finish.specs.Winners.{HasPair, HasTriangle, LacksTriangle}
use Rattle.flip_finish.proofs.Standing.{IsAt-only}
use Rattle.flip_claims.specs.declared.view.Known.{Known}
use Rattle.flip_claims.specs.Plays.{claimed_view}
use Rattle.flip_claims.specs.Rule.{claim_on}
use Rattle.flip_claims.proofs.Members.{Contains-here, Contains-later}

pub has_left : (m : Parts) (s l r : ℕ) → HasPair m s l r → HasTriangle m s l
has_left m s l r h = record { it = h.it; it_at = h.it_at; has = inl h.left }

pub has_right : (m : Parts) (s l r : ℕ) → HasPair m s l r → HasTriangle m s r
has_right m s l r h = record { it = h.it; it_at = h.it_at; has = inr h.right }

-- it has no other
pub one_of_two : (m : Parts) (s l r t : ℕ) → HasPair m s l r → HasTriangle m s t → (l ≡ t) ⊎ (r ≡ t)
one_of_two m s l r t h k =
    let same = IsAt-only m.slots s h.it k.it h.it_at k.it_at in
    ⊎_elim
    (λ left. inl (same_Some l t (sym h.left ∙ (ap (λ (it : Slot). it.left) same ∙ left))))
    (λ right. inr (same_Some r t (sym h.right ∙ (ap (λ (it : Slot). it.right) same ∙ right))))
    k.has

-- after a claim the seat has claimed both
pub both_claimed : (m : Parts) (s l r x y t : ℕ) (d : Known) → HasPair m s l r → HasTriangle m s t → Contains (claimed_view r s y (claimed_view l s x d)).claimed (claim_on t s)
both_claimed m s l r x y t d h k =
    let claims = claim_on r s ∷ claim_on l s ∷ d.claimed in
    ⊎_elim
    (λ left. subst (λ (i : ℕ). Contains claims (claim_on i s)) left (Contains-later (claim_on r s) (claim_on l s) (claim_on l s ∷ d.claimed) (Contains-here (claim_on l s) d.claimed)))
    (λ right. subst (λ (i : ℕ). Contains claims (claim_on i s)) right (Contains-here (claim_on r s) (claim_on l s ∷ d.claimed)))
    (one_of_two m s l r t h k)

-- and lacks none
pub lacks_none : (m : Parts) (s l r : ℕ) → HasPair m s l r → ¬ LacksTriangle m s
lacks_none m s l r h k =
    let same = IsAt-only m.slots s h.it k.it h.it_at k.it_at in
    ⊎_elim
    (λ left. none_some l (sym left ∙ (ap (λ (it : Slot). it.left) (sym same) ∙ h.left)))
    (λ right. none_some r (sym right ∙ (ap (λ (it : Slot). it.right) (sym same) ∙ h.right)))
    k.lacks
  where
    none_some : (t : ℕ) → ¬ (None ≡ Some t)
    none_some t e = absurd (cc e)
