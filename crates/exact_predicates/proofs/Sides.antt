-- Sums over the sides of a list of triangles.
use Rattle.std.proofs.Common.{◌≡◌, ℕ, ◌+◌, Bool, true, false, cond, List, [], ◌∷◌, sum_by, filter, flat_map, arith, refl, ⊎_elim}
use Rattle.std.proofs.lemmas.List.Sums.{sum_by-cons, sum_by-append}
use Rattle.exact_predicates.specs.declared.tri.Tri.{Tri}
use Rattle.exact_predicates.specs.Triangulation.{sides, HasCorners}

kept_or_not : {X : Type 0} (f : X → ℕ) (x : X) (rest : List X) (b : Bool) → sum_by f (cond b (x ∷ rest) rest) ≡ cond b (f x) 0 + sum_by f rest
kept_or_not f x rest true = sum_by-cons f x rest
kept_or_not f x rest false = omega arith

-- a sum over the elements that pass
pub sum_by-filter : {X : Type 0} (f : X → ℕ) (p : X → Bool) (xs : List X) → sum_by f (filter p xs) ≡ sum_by (λ x. cond (p x) (f x) 0) xs
sum_by-filter f p [] = refl
sum_by-filter f p (x ∷ xs) =
    omega (arith, kept_or_not f x (filter p xs) (p x), sum_by-filter f p xs, sum_by-cons (λ y. cond (p y) (f y) 0) x xs)

-- a sum over lists joined end to end
pub sum_by-flat_map : {X A : Type 0} (f : A → ℕ) (g : X → List A) (xs : List X) → sum_by f (flat_map g xs) ≡ sum_by (λ x. sum_by f (g x)) xs
sum_by-flat_map f g [] = refl
sum_by-flat_map f g (x ∷ xs) =
    rw (sum_by-append f (g x) (flat_map g xs), sum_by-cons (λ y. sum_by f (g y)) x xs, sum_by-flat_map f g xs) refl

-- what a triangle gives to a sum, whichever corner comes first
pub sum_by-sides : (f : ℕ × ℕ → ℕ) (t : Tri) (u v w : ℕ) → HasCorners t u v w → sum_by f (sides t) ≡ f (u, v) + f (v, w) + f (w, u)
sum_by-sides f t u v w h =
    ⊎_elim
    (λ e. rw (e.0, e.1, e.2) (omega arith))
    (λ k. ⊎_elim (λ e. rw (e.0, e.1, e.2) (omega arith)) (λ e. rw (e.0, e.1, e.2) (omega arith)) k)
    h
