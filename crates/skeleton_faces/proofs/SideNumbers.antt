-- The two sides of an edge by their numbers.
use Rattle.std.proofs.Common.{◌≡◌, ℕ, ◌+◌, ◌*◌, ◌/◌, ◌%◌, ◌<◌, ◌≤◌, true, false, List, length, AllPairs, eq-eqb, refl, sym, ap, ◌∙◌, subst, inl, inr, ⊎_elim, arith}
use Rattle.std.proofs.lemmas.Bool.{ne_eqb, cases_lt}
use Rattle.std.proofs.lemmas.List.{get_or_default}
use Rattle.std.proofs.lemmas.List.Elements.{Contains-get_or}
use Rattle.exact_predicates.specs.Candidates.{EdgePrecedes, HasEdge}
use Rattle.exact_predicates.proofs.Equalities.{HasEdge-Contains, Joins-ends, Joins-comm}
use Rattle.exact_predicates.specs.declared.edge.Edge.{Edge}
use Rattle.skeleton_faces.specs.Marks.{nth_edge}
use Rattle.skeleton_faces.specs.Sides.{is_backward, side_start, side_end, twin}

pub half_forward : (e : ℕ) → (2 * e) / 2 ≡ e
half_forward e = omega arith

pub half_backward : (e : ℕ) → (2 * e + 1) / 2 ≡ e
half_backward e = omega arith

pub forward_is : (e : ℕ) → is_backward (2 * e) ≡ false
forward_is e = ne_eqb ((2 * e) % 2) 1 (λ h. omega arith)

pub backward_is : (e : ℕ) → is_backward (2 * e + 1) ≡ true
backward_is e = eq-eqb ((2 * e + 1) % 2) 1 (omega arith)

-- a side goes forward or backward along some edge
pub data IsSideOf : ℕ → Type 0 where
  goes_forward : (e : ℕ) → IsSideOf (2 * e)
  goes_backward : (e : ℕ) → IsSideOf (2 * e + 1)

pub side_cases : (s : ℕ) → IsSideOf s
side_cases s =
    ⊎_elim
    (λ (even : s ≡ 2 * (s / 2)). subst IsSideOf (sym even) (goes_forward (s / 2)))
    (λ (odd : s ≡ 2 * (s / 2) + 1). subst IsSideOf (sym odd) (goes_backward (s / 2)))
    (⊎_elim (λ (l : s % 2 < 1). inl (omega arith)) (λ (m : 1 ≤ s % 2). inr (omega arith)) (cases_lt (s % 2) 1))

-- the two ends of a side forward, and of one backward
pub forward_start : (es : List Edge) (e : ℕ) → side_start es (2 * e) ≡ (nth_edge es e).a
forward_start es e = rw (forward_is e, half_forward e) refl

pub forward_end : (es : List Edge) (e : ℕ) → side_end es (2 * e) ≡ (nth_edge es e).b
forward_end es e = rw (forward_is e, half_forward e) refl

pub backward_start : (es : List Edge) (e : ℕ) → side_start es (2 * e + 1) ≡ (nth_edge es e).b
backward_start es e = rw (backward_is e, half_backward e) refl

pub backward_end : (es : List Edge) (e : ℕ) → side_end es (2 * e + 1) ≡ (nth_edge es e).a
backward_end es e = rw (backward_is e, half_backward e) refl

pub forward_twin : (e : ℕ) → twin (2 * e) ≡ 2 * e + 1
forward_twin e = rw (forward_is e) refl

pub backward_twin : (e : ℕ) → twin (2 * e + 1) ≡ 2 * e
backward_twin e = rw (backward_is e) (omega arith)

pub twin-twin : (s : ℕ) → twin (twin s) ≡ s
twin-twin s = at s (side_cases s)
  where
    at : (s : ℕ) → IsSideOf s → twin (twin s) ≡ s
    at s (goes_forward e) = ap twin (forward_twin e) ∙ backward_twin e
    at s (goes_backward e) = ap twin (backward_twin e) ∙ forward_twin e

pub twin-in : (s n : ℕ) → s < 2 * n → twin s < 2 * n
twin-in s n l = at s (side_cases s) l
  where
    at : (s : ℕ) → IsSideOf s → s < 2 * n → twin s < 2 * n
    at s (goes_forward e) l = omega (arith, forward_twin e)
    at s (goes_backward e) l = omega (arith, backward_twin e)

pub start_twin : (es : List Edge) (s : ℕ) → side_start es (twin s) ≡ side_end es s
start_twin es s = at s (side_cases s)
  where
    at : (s : ℕ) → IsSideOf s → side_start es (twin s) ≡ side_end es s
    at s (goes_forward e) = ap (side_start es) (forward_twin e) ∙ (backward_start es e ∙ sym (forward_end es e))
    at s (goes_backward e) = ap (side_start es) (backward_twin e) ∙ (forward_start es e ∙ sym (backward_end es e))

pub end_twin : (es : List Edge) (s : ℕ) → side_end es (twin s) ≡ side_start es s
end_twin es s = at s (side_cases s)
  where
    at : (s : ℕ) → IsSideOf s → side_end es (twin s) ≡ side_start es s
    at s (goes_forward e) = ap (side_end es) (forward_twin e) ∙ (backward_end es e ∙ sym (forward_start es e))
    at s (goes_backward e) = ap (side_end es) (backward_twin e) ∙ (forward_end es e ∙ sym (backward_start es e))

-- edges with the same ends are one
edge_only : (es : List Edge) (e f : ℕ) → AllPairs EdgePrecedes es → e < length es → f < length es → (nth_edge es e).a ≡ (nth_edge es f).a → (nth_edge es e).b ≡ (nth_edge es f).b → e ≡ f
edge_only es e f up e_in f_in same_a same_b =
    ⊎_elim
    (λ (l : e < f). let r : EdgePrecedes (nth_edge es e) (nth_edge es f) = up e f _ l f_in in absurd (⊎_elim (λ k. omega arith) (λ k. let k1 = k.1 in omega arith) r))
    (λ (m : f ≤ e). ⊎_elim
    (λ (l : f < e). let r : EdgePrecedes (nth_edge es f) (nth_edge es e) = up f e _ l e_in in absurd (⊎_elim (λ k. omega arith) (λ k. let k1 = k.1 in omega arith) r))
    (λ (k : e ≤ f). omega arith)
    (cases_lt f e))
    (cases_lt e f)

-- sides with the same start and the same end are one
pub side_only : (es : List Edge) (s t : ℕ) → AllPairs EdgePrecedes es → s < 2 * length es → t < 2 * length es → side_start es s ≡ side_start es t → side_end es s ≡ side_end es t → s ≡ t
side_only es s t up s_in t_in start end = at s t (side_cases s) (side_cases t) s_in t_in start end
  where
    at : (s t : ℕ) → IsSideOf s → IsSideOf t → s < 2 * length es → t < 2 * length es → side_start es s ≡ side_start es t → side_end es s ≡ side_end es t → s ≡ t
    at s t (goes_forward e) (goes_forward f) s_in t_in start end =
        ap (λ x. 2 * x) (edge_only es e f up (omega arith) (omega arith) (sym (forward_start es e) ∙ (start ∙ forward_start es f)) (sym (forward_end es e) ∙ (end ∙ forward_end es f)))
    at s t (goes_backward e) (goes_backward f) s_in t_in start end =
        ap (λ x. 2 * x + 1) (edge_only es e f up (omega arith) (omega arith) (sym (backward_end es e) ∙ (end ∙ backward_end es f)) (sym (backward_start es e) ∙ (start ∙ backward_start es f)))
    at s t (goes_forward e) (goes_backward f) s_in t_in start end =
        let h = (nth_edge es e).ascending in
        let k = (nth_edge es f).ascending in
        absurd (omega (arith, forward_start es e, forward_end es e, backward_start es f, backward_end es f, start, end))
    at s t (goes_backward e) (goes_forward f) s_in t_in start end =
        let h = (nth_edge es e).ascending in
        let k = (nth_edge es f).ascending in
        absurd (omega (arith, backward_start es e, backward_end es e, forward_start es f, forward_end es f, start, end))

-- each side joins its ends, and ends that are joined have a side
pub side_edge : (es : List Edge) (s : ℕ) → s < 2 * length es → HasEdge es (side_start es s) (side_end es s)
side_edge es s s_in = at s (side_cases s) s_in
  where
    at : (s : ℕ) → IsSideOf s → s < 2 * length es → HasEdge es (side_start es s) (side_end es s)
    at s (goes_forward e) l = rw (forward_start es e, forward_end es e) (HasEdge-Contains es (nth_edge es e) _ _ (Joins-ends (nth_edge es e)) (Contains-get_or es e _ (omega arith)))
    at s (goes_backward e) l = rw (backward_start es e, backward_end es e) (HasEdge-Contains es (nth_edge es e) _ _ (Joins-comm (nth_edge es e) (nth_edge es e).a (nth_edge es e).b (Joins-ends (nth_edge es e))) (Contains-get_or es e _ (omega arith)))

pub side_of : (es : List Edge) (u v : ℕ) → HasEdge es u v → (s : ℕ) × (s < 2 * length es) × (side_start es s ≡ u) × (side_end es s ≡ v)
side_of es u v (k, e, k_in, at_k, j) =
    let is : nth_edge es k ≡ e = get_or_default es k _ e k_in ∙ at_k in
    let rise = e.ascending in
    let j0 = j.0 in
    let j1 = j.1 in
    let a_is = ap (λ (f : Edge). f.a) is in
    let b_is = ap (λ (f : Edge). f.b) is in
    ⊎_elim
    (λ (l : u < v). (2 * k, omega arith, omega (arith, forward_start es k), omega (arith, forward_end es k)))
    (λ (m : v ≤ u). (2 * k + 1, omega arith, omega (arith, backward_start es k), omega (arith, backward_end es k)))
    (cases_lt u v)
