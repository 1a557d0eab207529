-- By any two functions that follow the rule on a face, its parts cost the same, and the same triangles are chosen.
use Rattle.std.proofs.Common.{◌≡◌, ◌⊎◌, ℕ, zero, suc, ◌+◌, ◌-◌, ◌<◌, ◌≤◌, List, [], ◌∷◌, ◌++◌, length, slice_index, arith, refl, ap, sym, ◌∙◌, subst, ⊎_elim, inl, inr}
use Rattle.exact_predicates.specs.declared.edge.Edge.{Edge}
use Rattle.exact_predicates.specs.declared.point.Point.{Point}
use Rattle.exact_predicates.specs.declared.tri.Tri.{Tri}
use Rattle.exact_predicates.specs.Triangulation.{HasCorners}
use Rattle.exact_predicates.proofs.Equalities.{Tri-equal}
use Rattle.face_optimum.specs.FaceRule.{AreChosen, AreChosenIn, AreFaceCosts, IsBestBetween, IsLeastSum, adjacent, split}
use Rattle.face_optimum.specs.Places.{AreJoinedPlaces, IsTriAt, face_at}

-- a triangle is known by its corners
pub tri_once : (s t : Tri) (u v w : ℕ) → HasCorners s u v w → HasCorners t u v w → s ≡ t
tri_once s t u v w h k =
    let sb = s.below_b in
    let sc = s.below_c in
    let tb = t.below_b in
    let tc = t.below_c in
    ⊎_elim
    (λ a. ⊎_elim
    (λ b. Tri-equal s t (a.0 ∙ sym b.0) (a.1 ∙ sym b.1) (a.2 ∙ sym b.2))
    (λ n. ⊎_elim (λ b. absurd (omega (arith, sb, sc, tb, tc, a.0, a.1, a.2, b.0, b.1, b.2))) (λ b. absurd (omega (arith, sb, sc, tb, tc, a.0, a.1, a.2, b.0, b.1, b.2))) n)
    k)
    (λ m. ⊎_elim
    (λ a. ⊎_elim
    (λ b. absurd (omega (arith, sb, sc, tb, tc, a.0, a.1, a.2, b.0, b.1, b.2)))
    (λ n. ⊎_elim (λ b. Tri-equal s t (a.2 ∙ sym b.2) (a.0 ∙ sym b.0) (a.1 ∙ sym b.1)) (λ b. absurd (omega (arith, sb, sc, tb, tc, a.0, a.1, a.2, b.0, b.1, b.2))) n)
    k)
    (λ a. ⊎_elim
    (λ b. absurd (omega (arith, sb, sc, tb, tc, a.0, a.1, a.2, b.0, b.1, b.2)))
    (λ n. ⊎_elim (λ b. absurd (omega (arith, sb, sc, tb, tc, a.0, a.1, a.2, b.0, b.1, b.2))) (λ b. Tri-equal s t (a.1 ∙ sym b.1) (a.2 ∙ sym b.2) (a.0 ∙ sym b.0)) n)
    k)
    m)
    h

module _ (ps : List Point) (live skeleton : List Edge) (face : List ℕ) where
  -- the best triangles at two places by two functions whose sums agree there
  same_best : (c d : ℕ → ℕ → ℕ) (i l j k : ℕ) (t u : Tri) → ((m : ℕ) (x : Tri) → IsTriAt ps live skeleton face i m l x → c i m + c m l ≡ d i m + d m l)
      → IsBestBetween ps live skeleton face c i j l t → IsBestBetween ps live skeleton face d i k l u → (j ≡ k) × (c i j + c j l ≡ d i k + d k l)
  same_best c d i l j k t u agree b e =
      let at_j = agree j t b.sits in
      let at_k = agree k u e.sits in
      ⊎_elim
      (λ (less : c i j + c j l < c i k + c k l). ⊎_elim
      (λ (more : d i k + d k l < d i j + d j l). absurd (omega (arith, less, more, at_j, at_k)))
      (λ same. let p = same.0 in absurd (omega (arith, less, p, at_j, at_k)))
      (e.least j t b.over b.sits))
      (λ own. let p = own.0 in let forth = own.1 in ⊎_elim
      (λ (more : d i k + d k l < d i j + d j l). absurd (omega (arith, p, more, at_j, at_k)))
      (λ same. let back = same.1 in (omega (arith, forth, back), omega (arith, p, at_k)))
      (e.least j t b.over b.sits))
      (b.least k u e.over e.sits)

  same_sum : (c d : ℕ → ℕ → ℕ) (i l x y : ℕ) → ((m : ℕ) (t : Tri) → IsTriAt ps live skeleton face i m l t → c i m + c m l ≡ d i m + d m l)
      → IsLeastSum ps live skeleton face c i l x → IsLeastSum ps live skeleton face d i l y → x ≡ y
  same_sum c d i l x y agree a b = omega (arith, a.is, b.is, (same_best c d i l a.middle b.middle a.tri b.tri agree a.best b.best).1)

  module _ (c d : ℕ → ℕ → ℕ) (hc : AreFaceCosts ps live skeleton face c) (hd : AreFaceCosts ps live skeleton face d) where
    agree : (fuel i l : ℕ) → ((a b : ℕ) → b ≤ a + fuel → a < b → b < length face → AreJoinedPlaces ps live skeleton face a b → c a b ≡ d a b)
        → l ≤ i + suc fuel → (m : ℕ) (t : Tri) → IsTriAt ps live skeleton face i m l t → c i m + c m l ≡ d i m + d m l
    agree fuel i l nearer near m t at =
        let low = at.first_below in
        let high = at.middle_below in
        let l_in = at.last_in in
        omega (arith, nearer i m (omega arith) low (omega arith) at.first_side, nearer m l (omega arith) high l_in at.second_side)

    upto : (fuel i l : ℕ) → l ≤ i + fuel → i < l → l < length face → AreJoinedPlaces ps live skeleton face i l → c i l ≡ d i l
    upto zero i l near below l_in joined = absurd (omega arith)
    upto (suc fuel) i l near below l_in joined =
        let nearer : (a b : ℕ) → b ≤ a + fuel → a < b → b < length face → AreJoinedPlaces ps live skeleton face a b → c a b ≡ d a b = λ a b. upto fuel a b in
        ⊎_elim
        (λ side. ⊎_elim
        (λ (next : l ≡ i + 1). subst (λ (k : ℕ). c i k ≡ d i k) (sym next) (hc.sides i (omega arith) ∙ sym (hd.sides i (omega arith))))
        (λ (whole : (i ≡ 0) × (l + 1 ≡ length face)).
        let first = whole.0 in
        let end = whole.1 in
        let last : length face - 1 ≡ l = omega arith in
        let at_root : c 0 (length face - 1) ≡ d 0 (length face - 1) = same_sum c d 0 (length face - 1) _ _ (agree fuel 0 (length face - 1) nearer (omega arith)) hc.root hd.root in
        subst (λ (k : ℕ). c k l ≡ d k l) (sym first) (subst (λ (k : ℕ). c 0 k ≡ d 0 k) last at_root))
        side)
        (λ (e, off, at).
        let (x, x_least, x_is) = hc.edges e i l off at in
        let (y, y_least, y_is) = hd.edges e i l off at in
        omega (arith, x_is, y_is, same_sum c d i l x y (agree fuel i l nearer near) x_least y_least))
        joined

    -- what joined places cost
    pub same_cost : (i l : ℕ) → i < l → l < length face → AreJoinedPlaces ps live skeleton face i l → c i l ≡ d i l
    same_cost i l below l_in joined = upto l i l (omega arith) below l_in joined

    -- the best triangle between two places
    same_choice : (i l j k : ℕ) (t u : Tri) → IsBestBetween ps live skeleton face c i j l t → IsBestBetween ps live skeleton face d i k l u → (j ≡ k) × (t ≡ u)
    same_choice i l j k t u b e =
        let same = (same_best c d i l j k t u (λ m x at.
        let low = at.first_below in
        let high = at.middle_below in
        let l_in = at.last_in in
        omega (arith, same_cost i m low (omega arith) at.first_side, same_cost m l high l_in at.second_side)) b e).0 in (
          same,
          tri_once t u (slice_index face i) (slice_index face j) (slice_index face l) b.sits.corners
              (subst (λ (m : ℕ). HasCorners u (slice_index face i) (slice_index face m) (slice_index face l)) (sym same) e.sits.corners),
        )

    -- the triangles chosen between two places that are not next to each other
    record IsSplitInto (i l : ℕ) (ts : List Tri) : Type 0 where
      middle : ℕ
      tri : Tri
      us : List Tri
      vs : List Tri
      best : IsBestBetween ps live skeleton face d i middle l tri
      first : AreChosen ps live skeleton face d i middle us
      second : AreChosen ps live skeleton face d middle l vs
      is : ts ≡ tri ∷ (us ++ vs)

    chosen_cases : (i l : ℕ) (ts : List Tri) → AreChosen ps live skeleton face d i l ts → ((l ≡ i + 1) × (ts ≡ [])) ⊎ IsSplitInto i l ts
    chosen_cases i l _ (adjacent _ _ next) = inl (next, refl)
    chosen_cases i l _ (split _ j _ t us vs b p q) = inr (record { middle = j; tri = t; us = us; vs = vs; best = b; first = p; second = q; is = refl })

    -- the triangles chosen between two places
    pub same_chosen : (i l : ℕ) (ts xs : List Tri) → AreChosen ps live skeleton face c i l ts → AreChosen ps live skeleton face d i l xs → ts ≡ xs
    same_chosen i l _ xs (adjacent _ _ next) other =
        ⊎_elim
        (λ none. sym none.1)
        (λ (s : IsSplitInto i l xs). let at = s.best.sits in let low = at.first_below in let high = at.middle_below in absurd (omega arith))
        (chosen_cases i l xs other)
    same_chosen i l _ xs (split _ j _ t us vs b p q) other =
        ⊎_elim
        (λ none. let next = none.0 in let at = b.sits in let low = at.first_below in let high = at.middle_below in absurd (omega arith))
        (λ (s : IsSplitInto i l xs).
        let same = same_choice i l j s.middle t s.tri b s.best in
        let first : AreChosen ps live skeleton face d i j s.us = subst (λ (m : ℕ). AreChosen ps live skeleton face d i m s.us) (sym same.0) s.first in
        let second : AreChosen ps live skeleton face d j l s.vs = subst (λ (m : ℕ). AreChosen ps live skeleton face d m l s.vs) (sym same.0) s.second in
        ap (λ (x : Tri). x ∷ (us ++ vs)) same.1
        ∙ (ap (λ (ys : List Tri). s.tri ∷ (ys ++ vs)) (same_chosen i j us s.us p first)
        ∙ (ap (λ (ys : List Tri). s.tri ∷ (s.us ++ ys)) (same_chosen j l vs s.vs q second) ∙ sym s.is)))
        (chosen_cases i l xs other)

-- the triangles chosen for all faces
pub all_chosen : (ps : List Point) (live skeleton : List Edge) (faces : List (List ℕ)) (c d : ℕ → ℕ → ℕ → ℕ) (count : ℕ) (ts xs : List Tri) → count ≤ length faces
    → ((f : ℕ) → f < length faces → AreFaceCosts ps live skeleton (face_at faces f) (c f)) → ((f : ℕ) → f < length faces → AreFaceCosts ps live skeleton (face_at faces f) (d f))
    → AreChosenIn ps live skeleton faces c count ts → AreChosenIn ps live skeleton faces d count xs → ts ≡ xs
all_chosen ps live skeleton faces c d zero ts xs upto hc hd is other = is ∙ sym other
all_chosen ps live skeleton faces c d (suc f) ts xs upto hc hd (us, vs, us_are, vs_are, is) (ys, zs, ys_are, zs_are, other) =
    let front : us ≡ ys = all_chosen ps live skeleton faces c d f us ys (omega arith) hc hd us_are ys_are in
    let back : vs ≡ zs = same_chosen ps live skeleton (face_at faces f) (c f) (d f) (hc f (omega arith)) (hd f (omega arith)) 0 (length (face_at faces f) - 1) vs zs vs_are zs_are in
    is ∙ (ap (λ (ws : List Tri). ws ++ vs) front ∙ (ap (λ (ws : List Tri). ys ++ ws) back ∙ sym other))
