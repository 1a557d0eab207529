-- What the flags of a triangle's sides and of an edge's pairs say.
use Rattle.std.proofs.Common.{◌≡◌, ◌≢◌, ◌⊎◌, ℕ, Bool, true, false, List, length, slice_index, slice_index_or, Contains, ap, sym, ◌∙◌, subst, ⊎_elim, inl, inr, arith}
use Rattle.std.proofs.lemmas.Bool.{cases_eq}
use Rattle.std.proofs.lemmas.List.{get_or_default}
use Rattle.lmt_network.specs.Network.{NetworkParts}
use Rattle.lmt_network.specs.Flags.{live_numbers}
use Rattle.lmt_network.specs.Numbers.{IsSideOf, IsSupported, IsSupportedWith}
use Rattle.lmt_network.proofs.Picked.{live_from_flag}

-- the member of a list of three
three_cases : (xs : List ℕ) (f : ℕ) → length xs ≡ 3 → Contains xs f → (slice_index xs 0 ≡ f) ⊎ ((slice_index xs 1 ≡ f) ⊎ (slice_index xs 2 ≡ f))
three_cases xs f three (k, k_in, at_k) =
    let is : slice_index xs k ≡ f = get_or_default xs k 0 f k_in ∙ at_k in
    ⊎_elim
    (λ (e : k ≡ 0). inl (ap (slice_index xs) (sym e) ∙ is))
    (λ a. ⊎_elim
    (λ (e : k ≡ 1). inr (inl (ap (slice_index xs) (sym e) ∙ is)))
    (λ b. let e : k ≡ 2 = omega arith in inr (inr (ap (slice_index xs) (sym e) ∙ is)))
    (cases_eq k 1))
    (cases_eq k 0)

-- three live sides are all sides
pub three_live : (n : NetworkParts) (flags : List Bool) (t : ℕ) (sides : List ℕ) → length sides ≡ 3 → ((f : ℕ) → IsSideOf n t f → Contains sides f)
    → slice_index_or flags (slice_index sides 0) false ≡ true → slice_index_or flags (slice_index sides 1) false ≡ true → slice_index_or flags (slice_index sides 2) false ≡ true
    → (f : ℕ) → IsSideOf n t f → Contains (live_numbers flags) f
three_live n flags t sides three only x y z f h =
    live_from_flag flags f (⊎_elim
    (λ (e : slice_index sides 0 ≡ f). ap (λ k. slice_index_or flags k false) (sym e) ∙ x)
    (λ m. ⊎_elim
    (λ (e : slice_index sides 1 ≡ f). ap (λ k. slice_index_or flags k false) (sym e) ∙ y)
    (λ (e : slice_index sides 2 ≡ f). ap (λ k. slice_index_or flags k false) (sym e) ∙ z)
    m)
    (three_cases sides f three (only f h)))

-- a supported edge, by its two triangles
pub support_of_pair : (n : NetworkParts) (es : List ℕ) (e l : ℕ) → ((f : ℕ) → IsSideOf n l f → Contains es f) → IsSupportedWith n es e l → IsSupported n es e
support_of_pair n es e l sides s =
    record {
      l = l;
      r = s.r;
      pair = s.pair;
      others = λ f h. ⊎_elim (λ k. sides f k) (λ k. s.sides f k) h.1;
    }

-- the triangles of a support have all sides among edges that have the edge itself
pub sides_of_support : (n : NetworkParts) (es : List ℕ) (e : ℕ) → Contains es e → (s : IsSupported n es e)
    → ((f : ℕ) → IsSideOf n s.l f → Contains es f) × ((f : ℕ) → IsSideOf n s.r f → Contains es f)
sides_of_support n es e has s =
    (λ f h. at f (inl h), λ f h. at f (inr h))
  where
    at : (f : ℕ) → IsSideOf n s.l f ⊎ IsSideOf n s.r f → Contains es f
    at f h = ⊎_elim (λ (same : f ≡ e). subst (Contains es) (sym same) has) (λ (other : f ≢ e). s.others f (other, h)) (cases_eq f e)
