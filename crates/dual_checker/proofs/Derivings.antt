-- What looks at the pairs of edges say of ranks.
use Rattle.std.proofs.Common.{◌≡◌, ◌≢◌, ℕ, zero, suc, ◌<◌, List, length, get_or, slice_index, Contains, ap, ◌∙◌, inl, inr, ⊎_elim, arith}
use Rattle.std.proofs.lemmas.List.{get_or_default}
use Rattle.lmt_network.specs.Derivation.{IsDerived, IsDerivation}
use Rattle.lmt_network.specs.Network.{NetworkParts}
use Rattle.lmt_network.specs.Numbers.{IsMinimalPair, IsSideOf}
use Rattle.dual_checker.specs.Derived.{HasLowerSide, IsDerivedAt, HasGoodRank}

-- a loop over a list has come to its member x
pub at_member : (xs : List ℕ) (x : ℕ) → Contains xs x → (k : ℕ) × (k < length xs) × (get_or xs k 0 ≡ x)
at_member xs x (k, k_in, is) = (k, k_in, get_or_default xs k 0 x k_in ∙ is)

-- an edge is derived where it is at each triangle on its left
pub derived_from : (n : NetworkParts) (ranks : List ℕ) (e : ℕ) → ((l r : ℕ) → IsMinimalPair n e l r → IsDerivedAt n ranks e l) → IsDerived n ranks e
derived_from n ranks e each = λ l r pair.
    let other : (f : ℕ) → slice_index ranks f < slice_index ranks e → f ≢ e = λ f low same. let is = ap (slice_index ranks) same in absurd (omega arith) in
    ⊎_elim
    (λ (s : HasLowerSide n ranks (slice_index ranks e) l). (s.0, (other s.0 s.3, inl s.1), s.2, s.3))
    (λ (s : HasLowerSide n ranks (slice_index ranks e) r). (s.0, (other s.0 s.3, inr s.1), s.2, s.3))
    (each l r pair r pair)

-- and the other way round
pub derived_to : (n : NetworkParts) (ranks : List ℕ) (e l : ℕ) → IsDerived n ranks e → IsDerivedAt n ranks e l
derived_to n ranks e l derived = λ r pair. let d = derived l r pair in
    ⊎_elim
    (λ (left : IsSideOf n l d.0). inl (d.0, left, d.2, d.3))
    (λ (right : IsSideOf n r d.0). inr (d.0, right, d.2, d.3))
    d.1.1

-- ranks that are good at each edge are a derivation
pub derivation_from : (n : NetworkParts) (ranks : List ℕ) → ((e : ℕ) → e < length n.edges → HasGoodRank n ranks e) → IsDerivation n ranks
derivation_from n ranks each = record { hull = λ e e_in. (each e e_in).hull; derived = λ e e_in. (each e e_in).derived }

pub derivation_to : (n : NetworkParts) (ranks : List ℕ) (e : ℕ) → e < length n.edges → IsDerivation n ranks → HasGoodRank n ranks e
derivation_to n ranks e e_in are = record { hull = are.hull e e_in; derived = are.derived e e_in }

-- a fact of three places
pub sides_at : (P : ℕ → Type 0) (k : ℕ) → P 0 → P 1 → P 2 → k < 3 → P k
sides_at P zero a b c low = a
sides_at P (suc zero) a b c low = b
sides_at P (suc (suc zero)) a b c low = c
sides_at P (suc (suc (suc k))) a b c low = absurd (omega arith)
