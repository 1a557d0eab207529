-- Sums over two lists of pairs, by how often each pair occurs in them.
use Rattle.std.proofs.Common.{◌≡◌, ℕ, ◌+◌, ◌≤◌, List, [], ◌∷◌, ◌++◌, ℤ, pos, ◌≤ℤ◌, ◌<ℤ◌, arith, ap, sym, ◌∙◌, subst}
use Rattle.std.proofs.lemmas.Int.{ints, by_lt_z}
use Rattle.std.proofs.lemmas.List.Sums.{sum_by-append, sum_by-cons}
use Rattle.exact_predicates.specs.Triangulation.{hit}
use Rattle.exact_predicates.proofs.Pairs.{hit_none, hit_same}
use Rattle.exact_predicates.proofs.SidesCounted.{count}
use Rattle.lmt_network.specs.Prices.{int_sum_by}
use Rattle.lmt_network.proofs.Filters.{count_from, count_to}
use Rattle.lmt_network.proofs.IntSums.{around, int_sum_by-append, int_sum_by-cons, int_sum_by-not_negative}

-- what xs has of each pair that counts, ys has: as often where the measure is negative, and at least as often where it is positive
pub record AreCovered (f : ℕ × ℕ → ℤ) (xs ys : List (ℕ × ℕ)) : Type 0 where
  pub negative : (x y : ℕ) → f (x, y) <ℤ pos 0 → count xs x y ≡ count ys x y
  pub positive : (x y : ℕ) → pos 0 <ℤ f (x, y) → count xs x y ≤ count ys x y

-- a pair that does not count may be left out
covered_skip : (f : ℕ × ℕ → ℤ) (x y : ℕ) (xs ys : List (ℕ × ℕ)) → f (x, y) ≡ pos 0 → AreCovered f ((x, y) ∷ xs) ys → AreCovered f xs ys
covered_skip f x y xs ys zero c =
    record {
      negative = λ u v l. let e = other u v (λ same. absurd (omega (arith, ints, same, l))) in omega (arith, c.negative u v l, e, sum_by-cons (hit u v) (x, y) xs);
      positive = λ u v l. let e = other u v (λ same. absurd (omega (arith, ints, same, l))) in omega (arith, c.positive u v l, e, sum_by-cons (hit u v) (x, y) xs);
    }
  where
    other : (u v : ℕ) → ¬ (f (u, v) ≡ pos 0) → hit u v (x, y) ≡ 0
    other u v some = hit_none u v x y (λ e. some (ap (λ n. f (n, v)) (sym e.0) ∙ (ap (λ n. f (x, n)) (sym e.1) ∙ zero)))

-- a pair may be left out on both sides
covered_drop : (f : ℕ × ℕ → ℤ) (x y : ℕ) (xs front back : List (ℕ × ℕ)) → AreCovered f ((x, y) ∷ xs) (front ++ (x, y) ∷ back) → AreCovered f xs (front ++ back)
covered_drop f x y xs front back c =
    record {
      negative = λ u v l. omega (arith, c.negative u v l, sum_by-cons (hit u v) (x, y) xs, with_it u v, without u v);
      positive = λ u v l. omega (arith, c.positive u v l, sum_by-cons (hit u v) (x, y) xs, with_it u v, without u v);
    }
  where
    with_it : (u v : ℕ) → count (front ++ (x, y) ∷ back) u v ≡ count front u v + (hit u v (x, y) + count back u v)
    with_it u v = omega (arith, sum_by-append (hit u v) front ((x, y) ∷ back), sum_by-cons (hit u v) (x, y) back)

    without : (u v : ℕ) → count (front ++ back) u v ≡ count front u v + count back u v
    without u v = sum_by-append (hit u v) front back

-- A sum over a list is at most that over one that covers it.
pub sum_covered : (f : ℕ × ℕ → ℤ) (xs ys : List (ℕ × ℕ)) → AreCovered f xs ys → int_sum_by f xs ≤ℤ int_sum_by f ys
sum_covered f [] ys c =
    int_sum_by-not_negative f ys
    (λ s m. by_lt_z (f s) (pos 0)
    (λ l. absurd (omega (arith, c.negative s.0 s.1 l, count_from ys s.0 s.1 m)))
    (λ l. l))
sum_covered f ((x, y) ∷ xs) ys c =
    by_lt_z (f (x, y)) (pos 0)
    (λ l. both (sum_covered f xs) (omega (arith, c.negative x y l, sum_by-cons (hit x y) (x, y) xs, hit_same x y)))
    (λ l. by_lt_z (pos 0) (f (x, y))
    (λ k. both (sum_covered f xs) (omega (arith, c.positive x y k, sum_by-cons (hit x y) (x, y) xs, hit_same x y)))
    (λ k.
    let zero : f (x, y) ≡ pos 0 = omega (arith, ints) in
    omega (arith, ints, int_sum_by-cons f (x, y) xs, sum_covered f xs ys (covered_skip f x y xs ys zero c))))
  where
    both : ((zs : List (ℕ × ℕ)) → AreCovered f xs zs → int_sum_by f xs ≤ℤ int_sum_by f zs) → 1 ≤ count ys x y → int_sum_by f ((x, y) ∷ xs) ≤ℤ int_sum_by f ys
    both smaller some =
        let (front, back, is) = around ys (x, y) (count_to ys x y some) in
        let rest = smaller (front ++ back) (covered_drop f x y xs front back (subst (λ zs. AreCovered f ((x, y) ∷ xs) zs) is c)) in
        omega (
          arith,
          ints,
          rest,
          int_sum_by-cons f (x, y) xs,
          int_sum_by-append f front back,
          int_sum_by-append f front ((x, y) ∷ back),
          int_sum_by-cons f (x, y) back,
          ap (λ zs. int_sum_by f zs) is,
        )

-- lists with the same pairs, each as often, have the same sums
pub sum_same_counts : (f : ℕ × ℕ → ℤ) (xs ys : List (ℕ × ℕ)) → ((x y : ℕ) → count xs x y ≡ count ys x y) → int_sum_by f xs ≡ int_sum_by f ys
sum_same_counts f xs ys same =
    omega (
      arith,
      ints,
      sum_covered f xs ys (record { negative = λ x y l. same x y; positive = λ x y l. omega (arith, same x y) }),
      sum_covered f ys xs (record { negative = λ x y l. sym (same x y); positive = λ x y l. omega (arith, same x y) }),
    )
