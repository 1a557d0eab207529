-- Marks of what a point sees.
use Rattle.std.proofs.Common.{◌≡◌, ◌↔◌, ℕ, ◌+◌, ◌-◌, ◌<◌, ◌≤◌, Bool, false, IsTrue, List, length, slice_index, slice_index_or, slice_set, Contains, arith, sym, ◌∙◌, subst, ⊎_elim, get_or-set_same, get_or-set_other, length-set}
use Rattle.std.proofs.lemmas.Bool.{cases_lt}
use Rattle.std.proofs.lemmas.List.{get_or_default}
use Rattle.std.proofs.lemmas.List.Sorted.{Contains-permutation}
use Rattle.std.specs.List.Sorted.{IsPermutation}
use Rattle.exact_predicates.specs.declared.point.Point.{Point}
use Rattle.exact_predicates.specs.Plane.{IsBetween}
use Rattle.exact_predicates.specs.PointSet.{IsPointSet, point_at}
use Rattle.exact_predicates.proofs.Numbers.{IsBetween-numbers}
use Rattle.point_grid.specs.Directions.{Sees, SeesPast, AreByDirection}
use Rattle.point_grid.proofs.Rays.{apart}
use Rattle.diamond_edges.specs.Enumeration.{MarksSeen, AreNumbersBetween}

-- marks for the first places of an order
pub record AreMarked (ps : List Point) (a : ℕ) (order : List ℕ) (k : ℕ) (marks : List Bool) : Type 0 where
  pub whole : length marks ≡ length ps
  pub marked : (j : ℕ) → j < k → IsTrue (slice_index_or marks (slice_index order j) false) ↔ Sees ps a (slice_index order j)

module _ (ps : List Point) (a : ℕ) (order : List ℕ) (v : IsPointSet ps) (a_in : a < length ps) (d : AreByDirection ps a order) where
  pub AreMarked-more : (marks : List Bool) (k : ℕ) (mark : Bool) → AreMarked ps a order k marks → k < length order → IsTrue mark ↔ Sees ps a (slice_index order k) → AreMarked ps a order (k + 1) (slice_set marks (slice_index order k) mark)
  AreMarked-more marks k mark m k_in here = record {
    whole = length-set marks (slice_index order k) mark ∙ m.whole;
    marked = λ j l.
        ⊎_elim
        (λ s. subst (λ (b : Bool). IsTrue b ↔ Sees ps a (slice_index order j)) (sym (get_or-set_other marks (slice_index order k) (slice_index order j) mark false (apart ps a order v a_in d j k s k_in))) (m.marked j s))
        (λ s. let same : k ≡ j = omega arith in
        let n = d.each k 0 k_in in
        subst (λ (i : ℕ). IsTrue (slice_index_or (slice_set marks (slice_index order k) mark) (slice_index order i) false) ↔ Sees ps a (slice_index order i)) same
        (subst (λ (b : Bool). IsTrue b ↔ Sees ps a (slice_index order k)) (sym (get_or-set_same marks (slice_index order k) mark false (omega (arith, n.1, m.whole)))) here))
        (cases_lt j k);
  }

  pub MarksSeen-all : (marks : List Bool) (k : ℕ) → length order ≤ k → ((b : ℕ) → a < b → b < length ps → Contains order b) → AreMarked ps a order k marks → MarksSeen ps a marks
  MarksSeen-all marks k past all m = record {
    whole = m.whole;
    marked = λ b l b_in.
        let (j, j_in, at_j) = all b l b_in in
        let is : slice_index order j ≡ b = get_or_default order j 0 b j_in ∙ at_j in
        subst (λ (x : ℕ). IsTrue (slice_index_or marks x false) ↔ Sees ps a x) is (m.marked j (omega arith));
  }

-- what a sees among all later points, it sees
pub Sees-later : (ps : List Point) (a b : ℕ) (order : List ℕ) → IsPointSet ps → a < b → b < length ps → AreByDirection ps a order → ((r : ℕ) → a < r → r < length ps → Contains order r) → SeesPast ps a order b ↔ Sees ps a b
Sees-later ps a b order v up b_in d all = (
  λ h r r_in between.
      let n = IsBetween-numbers ps a b r v (omega arith) b_in r_in (λ e. omega arith) between in
      let (k, k_in, at_k) = all r (omega (arith, n.0)) r_in in
      h k r k_in (subst (λ (x : ℕ). IsBetween (point_at ps a) (point_at ps b) (point_at ps x)) (sym at_k) between),
  λ h k x k_in. h _ (d.each k x k_in).1,
)

-- the numbers from a + 1 on
pub AreNumbersBetween-from : (a n : ℕ) (numbers : List ℕ) → length numbers + (a + 1) ≡ n → ((k d : ℕ) → k < length numbers → slice_index_or numbers k d ≡ a + 1 + k) → AreNumbersBetween a n numbers
AreNumbersBetween-from a n numbers count each = record {
  each = λ k d l. let e = each k d l in (omega arith, omega arith);
  all = λ b l m.
      let k_in : b - (a + 1) < length numbers = omega arith in
      let e = each (b - (a + 1)) b k_in in
      (b - (a + 1), k_in, omega arith);
  distinct = λ i j d l m same. let e = each i d (omega arith) in let f = each j d m in omega arith;
}

-- two ways to say the same
pub iff_through : (P Q R : Type 0) → P ↔ Q → Q ↔ R → P ↔ R
iff_through P Q R h k = (λ p. k.0 (h.0 p), λ r. h.1 (k.1 r))

-- they are in each order of them
pub later_in : (a n : ℕ) (numbers order : List ℕ) → AreNumbersBetween a n numbers → IsPermutation numbers order → (b : ℕ) → a < b → b < n → Contains order b
later_in a n numbers order h moved b l m = Contains-permutation numbers order b moved (h.all b l m)
