-- The half-edges of one side stand together where half-edges are in the order of their sides.
use Rattle.std.proofs.Common.{◌≡◌, ◌⊎◌, ℕ, ◌-◌, ◌<◌, ◌≤◌, Bool, true, false, IsTrue, ◌↔◌, ltb, eqb, cond, List, length, get_or, take, drop, filter, Contains, Result, Ok, Err, is_ok, refl, sym, ap, ◌∙◌, arith, subst, inl, inr}
use Rattle.std.specs.Ordering.{is_lt, is_le, ordering_index, nat_cmp, ordering_then}
use Rattle.std.specs.Cmp.{IsTotalOrder}
use Rattle.std.specs.List.Sorted.{IsPartitionedBy, IsPartitionPoint, IsNonDecreasingBy, IsSorted, IsBinarySearchResult, IsSearchInRange}
use Rattle.std.specs.declared.cmp.Ordering.{Ordering}
use Rattle.std.specs.declared.cmp.Ordering.TheVariants.{Less, Equal, Greater}
use Rattle.std.proofs.lemmas.Bool.{eqb-true, eq-eqb, cases_order, cases_lt, cond-true, cond-false, lt-ltb, le-ltb, false≢true, false_from_ne_true}
use Rattle.std.proofs.lemmas.Cmp.{nat_cmp_total, on_total, then_total}
use Rattle.std.proofs.lemmas.List.Sorted.{searchable_from_sorted, IsPartitionedBy-ltb}
use Rattle.exact_predicates.proofs.Pairs.{is_side_decides}
use Rattle.dual_checker.specs.declared.half_edges.HalfEdge.{HalfEdge}
use Rattle.dual_checker.specs.declared.half_edges.Side.{Side}
use Rattle.dual_checker.specs.HalfEdges.{half_edge, is_on, side_cmp, AreBySide}
use Rattle.dual_checker.proofs.Filtered.{filter_part}

side_total : IsTotalOrder side_cmp
side_total = then_total (on_total (λ (s : Side). s.from) nat_cmp_total) (on_total (λ (s : Side). s.to) nat_cmp_total)

-- tests of an order, by its index
is_lt-index : (o : Ordering) → ltb (ordering_index o) 1 ≡ is_lt o
is_lt-index Less = refl
is_lt-index Equal = refl
is_lt-index Greater = refl

is_le-index : (o : Ordering) → ltb (ordering_index o) 2 ≡ is_le o
is_le-index Less = refl
is_le-index Equal = refl
is_le-index Greater = refl

-- how a half-edge compares with a side
abbrev index_to : Side → HalfEdge → ℕ
index_to s h = ordering_index (side_cmp h.side s)

rises_to : (hs : List HalfEdge) (s : Side) → AreBySide hs → IsNonDecreasingBy (index_to s) hs
rises_to hs s sorted = searchable_from_sorted side_total (λ (h : HalfEdge). h.side) hs s sorted

like : (p q : HalfEdge → Bool) (hs : List HalfEdge) → ((h : HalfEdge) → p h ≡ q h) → IsPartitionedBy p hs → IsPartitionedBy q hs
like p q hs same parts = λ i j d before inside e. sym (same (get_or hs i d)) ∙ parts i j d before inside (same (get_or hs j d) ∙ e)

-- whether a half-edge is before a side, or not after it
abbrev pub is_before : Side → HalfEdge → Bool
is_before s h = is_lt (side_cmp h.side s)

abbrev pub is_upto : Side → HalfEdge → Bool
is_upto s h = is_le (side_cmp h.side s)

before_partitions : (hs : List HalfEdge) (s : Side) → AreBySide hs → IsPartitionedBy (is_before s) hs
before_partitions hs s sorted =
    like (λ h. ltb (index_to s h) 1) (is_before s) hs (λ h. is_lt-index (side_cmp h.side s)) (IsPartitionedBy-ltb (index_to s) hs 1 (rises_to hs s sorted))

upto_partitions : (hs : List HalfEdge) (s : Side) → AreBySide hs → IsPartitionedBy (is_upto s) hs
upto_partitions hs s sorted =
    like (λ h. ltb (index_to s h) 2) (is_upto s) hs (λ h. is_le-index (side_cmp h.side s)) (IsPartitionedBy-ltb (index_to s) hs 2 (rises_to hs s sorted))

-- how two numbers compare
cmp_less : (x y : ℕ) → x < y → nat_cmp x y ≡ Less
cmp_less x y l = cond-true _ Less (cond _ Equal Greater) (lt-ltb x y l)

cmp_equal : (x y : ℕ) → x ≡ y → nat_cmp x y ≡ Equal
cmp_equal x y e = cond-false _ Less (cond _ Equal Greater) (le-ltb x y (omega arith)) ∙ cond-true _ Equal Greater (eq-eqb x y e)

cmp_greater : (x y : ℕ) → y < x → nat_cmp x y ≡ Greater
cmp_greater x y g =
    let apart : eqb x y ≡ false = false_from_ne_true (eqb x y) (λ e. let same = eqb-true x y e in omega arith) in
    cond-false _ Less (cond _ Equal Greater) (le-ltb x y (omega arith)) ∙ cond-false _ Equal Greater apart

-- how a half-edge stands to a side
abbrev pub Stands : Side → HalfEdge → Type 0
Stands s h =
    ((side_cmp h.side s ≡ Equal) × (is_on s h ≡ true) × (h.side ≡ s))
    ⊎ (((side_cmp h.side s ≡ Less) ⊎ (side_cmp h.side s ≡ Greater)) × (is_on s h ≡ false))

off_side : (s : Side) (h : HalfEdge) → ¬ ((h.side.from ≡ s.from) × (h.side.to ≡ s.to)) → is_on s h ≡ false
off_side s h apart = false_from_ne_true (is_on s h) (λ on. apart ((is_side_decides s.from s.to h.side.from h.side.to).0 on))

pub stands : (s : Side) (h : HalfEdge) → Stands s h
stands s h = elim (cases_order h.side.from s.from) [
  | inl from ↦ elim (cases_order h.side.to s.to) [
    | inl to ↦ inl (
      ap (λ o. ordering_then o (nat_cmp h.side.to s.to)) (cmp_equal h.side.from s.from from) ∙ cmp_equal h.side.to s.to to,
      (is_side_decides s.from s.to h.side.from h.side.to).1 (from, to),
      ap (λ (u : ℕ). record { from = u; to = h.side.to }) from ∙ ap (λ (v : ℕ). record { from = s.from; to = v }) to,
    )
    | inr apart ↦ elim apart [
      | inl l ↦ inr (inl (ap (λ o. ordering_then o (nat_cmp h.side.to s.to)) (cmp_equal h.side.from s.from from) ∙ cmp_less h.side.to s.to l), off_side s h (λ e. let e1 = e.1 in omega arith))
      | inr g ↦ inr (inr (ap (λ o. ordering_then o (nat_cmp h.side.to s.to)) (cmp_equal h.side.from s.from from) ∙ cmp_greater h.side.to s.to g), off_side s h (λ e. let e1 = e.1 in omega arith))
    ]
  ]
  | inr apart ↦ elim apart [
    | inl l ↦ inr (inl (ap (λ o. ordering_then o (nat_cmp h.side.to s.to)) (cmp_less h.side.from s.from l)), off_side s h (λ e. let e0 = e.0 in omega arith))
    | inr g ↦ inr (inr (ap (λ o. ordering_then o (nat_cmp h.side.to s.to)) (cmp_greater h.side.from s.from g)), off_side s h (λ e. let e0 = e.0 in omega arith))
  ]
]

-- by its index
on_index : (s : Side) (h : HalfEdge) → ltb (index_to s h) 1 ≡ false → ltb (index_to s h) 2 ≡ true → is_on s h ≡ true
on_index s h from to = elim (stands s h) [
  | inl on ↦ on.1
  | inr off ↦ elim off.0 [
    | inl less ↦ absurd (false≢true (sym from ∙ ap (λ o. ltb (ordering_index o) 1) less))
    | inr greater ↦ absurd (false≢true (sym (ap (λ o. ltb (ordering_index o) 2) greater) ∙ to))
  ]
]

off_before : (s : Side) (h : HalfEdge) → ltb (index_to s h) 1 ≡ true → is_on s h ≡ false
off_before s h before = elim (stands s h) [
  | inl on ↦ absurd (false≢true (sym (ap (λ o. ltb (ordering_index o) 1) on.0) ∙ before))
  | inr off ↦ off.1
]

off_behind : (s : Side) (h : HalfEdge) → ltb (index_to s h) 2 ≡ false → is_on s h ≡ false
off_behind s h behind = elim (stands s h) [
  | inl on ↦ absurd (false≢true (sym behind ∙ ap (λ o. ltb (ordering_index o) 2) on.0))
  | inr off ↦ off.1
]

-- those between the two places are those on the side
filter_on : (hs : List HalfEdge) (s : Side) (i j : ℕ) → i ≤ length hs → j ≤ length hs
    → IsPartitionPoint (λ h. is_before s h ≡ true) (λ h. is_before s h ≡ false) hs i
    → IsPartitionPoint (λ h. is_upto s h ≡ true) (λ h. is_upto s h ≡ false) hs j
    → (i ≤ j) × (take (j - i) (drop i hs) ≡ filter (is_on s) hs)
filter_on hs s i j i_in j_in p q =
    let ordered : i ≤ j = in_order in (
      ordered,
      filter_part (is_on s) hs i j ordered j_in
          (λ k d l. off_before s (get_or hs k d) (lt_at k d ∙ p.0 k d (omega arith) l))
          (λ k d l m. on_index s (get_or hs k d) (lt_at k d ∙ p.1 k d l (omega arith)) (le_at k d ∙ q.0 k d (omega arith) m))
          (λ k d l m. off_behind s (get_or hs k d) (le_at k d ∙ q.1 k d l m)),
    ) where
      lt_at : (k : ℕ) (d : HalfEdge) → ltb (index_to s (get_or hs k d)) 1 ≡ is_before s (get_or hs k d)
      lt_at k d = is_lt-index (side_cmp (get_or hs k d).side s)

      le_at : (k : ℕ) (d : HalfEdge) → ltb (index_to s (get_or hs k d)) 2 ≡ is_upto s (get_or hs k d)
      le_at k d = is_le-index (side_cmp (get_or hs k d).side s)

      low_before : (o : Ordering) → is_lt o ≡ true → is_le o ≡ true
      low_before Less h = refl
      low_before Equal h = absurd (false≢true h)
      low_before Greater h = absurd (false≢true h)

      in_order : i ≤ j
      in_order = elim (cases_lt j i) [
        | inl past ↦
            let d : HalfEdge = half_edge 0 0 0 in
            absurd (false≢true (sym (q.1 j d (omega arith) (omega arith)) ∙ low_before (side_cmp (get_or hs j d).side s) (p.0 j d (omega arith) past)))
        | inr fine ↦ fine
      ]

-- found by two searches of a list that was read twice
pub found_on : (hs : List HalfEdge) (s : Side) (xs ys : List HalfEdge) (i j : ℕ) → AreBySide hs → xs ≡ hs → ys ≡ hs → i ≤ length xs → j ≤ length ys
    → (IsPartitionedBy (is_before s) xs → IsPartitionPoint (λ h. is_before s h ≡ true) (λ h. is_before s h ≡ false) xs i)
    → (IsPartitionedBy (is_upto s) ys → IsPartitionPoint (λ h. is_upto s h ≡ true) (λ h. is_upto s h ≡ false) ys j)
    → (i ≤ j) × (take (j - i) (drop i hs) ≡ filter (is_on s) hs)
found_on hs s xs ys i j sorted first second i_in j_in from to =
    let low = subst (λ (zs : List HalfEdge). i ≤ length zs) first i_in in
    let high = subst (λ (zs : List HalfEdge). j ≤ length zs) second j_in in
    let p = subst (λ (zs : List HalfEdge). IsPartitionedBy (is_before s) zs → IsPartitionPoint (λ h. is_before s h ≡ true) (λ h. is_before s h ≡ false) zs i) first from in
    let q = subst (λ (zs : List HalfEdge). IsPartitionedBy (is_upto s) zs → IsPartitionPoint (λ h. is_upto s h ≡ true) (λ h. is_upto s h ≡ false) zs j) second to in
    filter_on hs s i j low high (p (before_partitions hs s sorted)) (q (upto_partitions hs s sorted))

-- what a search of sides in order finds
pub searched_side : (sides : List Side) (s : Side) (r : Result ℕ ℕ) (b : Bool) → IsSorted side_cmp sides → IsBinarySearchResult (λ t. side_cmp t s) sides r → IsSearchInRange r (length sides)
    → b ≡ is_ok r → IsTrue b ↔ Contains sides s
searched_side sides s (Ok i) b sorted found inside is = (
  λ _. (i, inside, same_side (get_or sides i s) (found s)),
  λ _. is,
) where
  same_side : (t : Side) → side_cmp t s ≡ Equal → t ≡ s
  same_side t e = elim (stands s (half_edge t.from t.to 0)) [
    | inl on ↦ on.2
    | inr off ↦ elim off.0 [ inl less ↦ absurd cc | inr greater ↦ absurd cc ]
  ]
searched_side sides s (Err i) b sorted missing inside is = (
  λ t. absurd (false≢true (sym is ∙ t)),
  λ (k, k_in, at). absurd (none k k_in at),
) where
  rises : IsNonDecreasingBy (λ t. ordering_index (side_cmp t s)) sides
  rises = searchable_from_sorted side_total (λ (t : Side). t) sides s sorted

  equal : side_cmp s s ≡ Equal
  equal = ap (λ o. ordering_then o (nat_cmp s.to s.to)) (cmp_equal s.from s.from refl) ∙ cmp_equal s.to s.to refl

  none : (k : ℕ) → k < length sides → get_or sides k s ≡ s → ⊥
  none k k_in at =
      let is_equal : side_cmp (get_or sides k s) s ≡ Equal = ap (λ t. side_cmp t s) at ∙ equal in
      elim (cases_lt k i) [
        | inl before ↦ let less = (missing rises).0 k s (omega arith) before in absurd cc
        | inr behind ↦ let greater = (missing rises).1 k s behind k_in in absurd cc
      ]
