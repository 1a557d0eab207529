-- Sorted triangles do not descend.
use Rattle.std.proofs.Common.{◌≡◌, ℕ, suc, ◌+◌, ◌<◌, Bool, true, false, nat_lt, ◌==◌, List, [], ◌∷◌, length, get_or, AllPairs, None, arith, refl, ap, sym, ◌∙◌, subst, inl, inr}
use Rattle.std.specs.Prelude.{IsSorted}
use Rattle.std.specs.Ordering.{nat_cmp, is_lt}
use Rattle.std.specs.declared.cmp.Ordering.TheVariants.{Less, Equal}
use Rattle.std.proofs.lemmas.Bool.{cases_order, cond-false, cond-true, eq-eqb, false≢true, lt-ltb, ltb-true}
use Rattle.exact_predicates.specs.declared.tri.Tri.{Tri}
use Rattle.exact_predicates.specs.Triangulation.{tri_cmp}
use Rattle.exact_predicates.proofs.Equalities.{Tri-equal}
use Rattle.cert_text.specs.Within.{TriFollows}
use Rattle.cert_text.proofs.Orders.{AllPairs-chain, IsChain}
use Rattle.cert_text.proofs.RowOrders.{TriFollows-trans}

less_is : (x y : ℕ) → x < y → nat_cmp x y ≡ Less
less_is x y l = cond-true (nat_lt x y) _ _ (lt-ltb x y l)

equal_is : (x y : ℕ) → x ≡ y → nat_cmp x y ≡ Equal
equal_is x y e = at (nat_lt x y) refl
  where
    at : (b : Bool) → nat_lt x y ≡ b → nat_cmp x y ≡ Equal
    at true h = absurd (let l = ltb-true x y h in omega arith)
    at false h = cond-false (nat_lt x y) _ _ h ∙ cond-true (x == y) _ _ (eq-eqb x y e)

-- a triangle that no later one is less than
cmp_follows : (s t : Tri) → is_lt (tri_cmp t s) ≡ false → TriFollows s t
cmp_follows s t h =
    elim (cases_order s.a t.a) [
      | inl a ↦ elim (cases_order s.b t.b) [
        | inl b ↦ elim (cases_order s.c t.c) [
          | inl c ↦ inr (Tri-equal s t a b c)
          | inr o ↦ elim o [
            | inl l ↦ inl (inr (inr (a, b, l)))
            | inr g ↦ not_less (rw (equal_is t.a s.a (sym a), equal_is t.b s.b (sym b), less_is t.c s.c g) refl)
          ]
        ]
        | inr o ↦ elim o [
          | inl l ↦ inl (inr (inl (a, l)))
          | inr g ↦ not_less (rw (equal_is t.a s.a (sym a), less_is t.b s.b g) refl)
        ]
      ]
      | inr o ↦ elim o [
        | inl l ↦ inl (inl l)
        | inr g ↦ not_less (rw (less_is t.a s.a g) refl)
      ]
    ]
  where
    not_less : tri_cmp t s ≡ Less → TriFollows s t
    not_less e = absurd (false≢true (sym h ∙ ap is_lt e))

sorted_chain : (ts : List Tri) → ((k : ℕ) (d : Tri) → k + 1 < length ts → TriFollows (get_or ts k d) (get_or ts (k + 1) d)) → IsChain TriFollows None ts
sorted_chain [] h = tt
sorted_chain (t ∷ []) h = tt
sorted_chain (t ∷ u ∷ us) h = (
  h 0 t (omega arith),
  sorted_chain (u ∷ us)
      (λ k d l.
      let same : suc k + 1 ≡ suc (k + 1) = omega arith in
      subst (λ (j : ℕ). TriFollows (get_or (u ∷ us) k d) (get_or (t ∷ u ∷ us) j d)) same (h (suc k) d (omega arith))),
)

pub tris_follow : (ts : List Tri) → IsSorted tri_cmp ts → AllPairs TriFollows ts
tris_follow ts h = AllPairs-chain TriFollows TriFollows-trans ts (sorted_chain ts (λ k d l. cmp_follows (get_or ts k d) (get_or ts (k + 1) d) (h k d (omega arith) l)))
