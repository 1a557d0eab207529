-- A search in a list of sides in their order.
use Rattle.std.proofs.Common.{◌≡◌, ℕ, ◌<◌, Bool, true, false, List, length, get_or, Result, Ok, Err, is_ok, refl, sym, ap, ◌∙◌, arith, inl, inr}
use Rattle.std.specs.Cmp.{IsTotalOrder}
use Rattle.std.specs.List.Sorted.{IsBinarySearchResult, IsNonDecreasingBy, IsSearchInRange, IsSorted}
use Rattle.std.specs.Ordering.{nat_cmp, ordering_index, ordering_then}
use Rattle.std.specs.declared.cmp.Ordering.{Ordering}
use Rattle.std.specs.declared.cmp.Ordering.TheVariants.{Less, Equal, Greater}
use Rattle.std.proofs.lemmas.Bool.{cases_lt, false_from_ne_true}
use Rattle.std.proofs.lemmas.Bool.Decides.{nat_tests}
use Rattle.std.proofs.lemmas.Cmp.{nat_cmp_total, on_total, then_total}
use Rattle.std.proofs.lemmas.List.Folds.{list_any_at, list_any_none}
use Rattle.std.proofs.lemmas.List.Sorted.{searchable_from_sorted}
use Rattle.exact_predicates.specs.Triangulation.{is_side}
use Rattle.exact_predicates.proofs.Pairs.{is_side_decides}
use Rattle.svg_picture.specs.Edges.{has_side, side_cmp}

side_total : IsTotalOrder side_cmp
side_total = then_total (on_total (λ (s : ℕ × ℕ). s.0) nat_cmp_total) (on_total (λ (s : ℕ × ℕ). s.1) nat_cmp_total)

same_numbers : (a b : ℕ) → a ≡ b → nat_cmp a b ≡ Equal
same_numbers a b e = grind (arith, nat_tests)

equal_numbers : (a b : ℕ) → nat_cmp a b ≡ Equal → a ≡ b
equal_numbers a b e = grind (arith, nat_tests)

then_equal : (o p : Ordering) → ordering_then o p ≡ Equal → (o ≡ Equal) × (p ≡ Equal)
then_equal Less p e = absurd cc
then_equal Equal p e = (refl, e)
then_equal Greater p e = absurd cc

-- a side is that of u and v where it compares equal to it
is_side-equal : (u v : ℕ) (t : ℕ × ℕ) → side_cmp t (u, v) ≡ Equal → is_side u v t ≡ true
is_side-equal u v t e =
    let parts = then_equal (nat_cmp t.0 u) (nat_cmp t.1 v) e in
    (is_side_decides u v t.0 t.1).1 (equal_numbers t.0 u parts.0, equal_numbers t.1 v parts.1)

equal-is_side : (u v : ℕ) (t : ℕ × ℕ) → is_side u v t ≡ true → side_cmp t (u, v) ≡ Equal
equal-is_side u v t h =
    let same = (is_side_decides u v t.0 t.1).0 h in
    ap (λ o. ordering_then o (nat_cmp t.1 v)) (same_numbers t.0 u same.0) ∙ same_numbers t.1 v same.1

-- what a search says is whether the side is there
pub searched : (ss : List (ℕ × ℕ)) (u v : ℕ) (r : Result ℕ ℕ) (b : Bool) → IsSorted side_cmp ss → IsBinarySearchResult (λ t. side_cmp t (u, v)) ss r
    → IsSearchInRange r (length ss) → b ≡ is_ok r → b ≡ has_side ss u v
searched ss u v (Ok i) b sorted found inside is =
    is ∙ sym (list_any_at (is_side u v) ss i (u, v) inside (is_side-equal u v (get_or ss i (u, v)) (found (u, v))))
searched ss u v (Err i) b sorted missing inside is = is ∙ sym (list_any_none (is_side u v) ss none)
  where
    rises : IsNonDecreasingBy (λ t. ordering_index (side_cmp t (u, v))) ss
    rises = searchable_from_sorted side_total (λ (t : ℕ × ℕ). t) ss (u, v) sorted

    none : (k : ℕ) (d : ℕ × ℕ) → k < length ss → is_side u v (get_or ss k d) ≡ false
    none k d k_in =
        false_from_ne_true (is_side u v (get_or ss k d))
        (λ h. let equal = equal-is_side u v (get_or ss k d) h in elim (cases_lt k i) [
          | inl before ↦ let less = (missing rises).0 k d (omega arith) before in cc
          | inr behind ↦ let greater = (missing rises).1 k d behind k_in in cc
        ])
