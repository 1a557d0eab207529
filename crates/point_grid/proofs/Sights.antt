-- Sights of later points, and their order by direction.
use Rattle.std.proofs.Common.{◌≡◌, ◌≢◌, ◌⊎◌, ℕ, ◌*◌, ◌^◌, ◌<◌, ◌≤◌, Bool, true, false, Ordering, ℤ, pos, ◌*ℤ◌, ◌<ℤ◌, to_z, of_z, unsigned_abs, nat_cmp, int_cmp, List, length, get_or, map, eqb, All, AllPairs, arith, subst, inl, inr, ⊎_elim, refl, sym, ap, ◌∙◌}
use Rattle.std.proofs.lemmas.Int.{ints, by_lt_z, unsigned_abs-mul}
use Rattle.std.proofs.lemmas.Bool.{cases_Bool}
use Rattle.std.proofs.lemmas.Grind.{same_number_lists}
use Rattle.std.proofs.lemmas.Nat.{mul-le}
use Rattle.std.proofs.lemmas.Cmp.{by_ranked, int_ranked, ranked}
use Rattle.std.specs.declared.cmp.Ordering.TheVariants.{Less, Equal, Greater}
use Rattle.std.specs.Ordering.{is_lt, ordering_then}
use Rattle.std.specs.Cmp.{IsStrictWeakOrder}
use Rattle.std.specs.List.Sorted.{IsPermutation, IsSortedBy}
use Rattle.std.proofs.lemmas.Cmp.{nat_eq_equiv}
use Rattle.std.proofs.lemmas.Bool.{ne_eqb, eqb-false}
use Rattle.std.proofs.lemmas.List.{get_or-map, length-map}
use Rattle.std.proofs.lemmas.List.Elements.{All-map, All-weaker}
use Rattle.std.proofs.lemmas.List.Sorted.{All-permutation, IsPermutation-map, sorted_far}
use Rattle.exact_predicates.specs.declared.point.Point.{Point}
use Rattle.exact_predicates.specs.Plane.{orient}
use Rattle.exact_predicates.specs.PointSet.{point_at}
use Rattle.exact_predicates.proofs.ListFacts.{AllPairs-IsPermutation}
use Rattle.exact_predicates.proofs.HalfPlane.{IsForward, cross, cross_swap, cross_transitive, cross_strict, cross_strict_last}
use Rattle.point_grid.specs.declared.sight.Sight.{Sight}
use Rattle.point_grid.specs.Directions.{Follows, AreByDirection, IsSight, AreSights, sight_cmp}
use mir.Syntax.{w64}

-- a product of two widths or heights is not changed by its way through the bits
pub kept : (a b : ℤ) → unsigned_abs a ≤ 2 * 10 ^ 9 → unsigned_abs b ≤ 2 * 10 ^ 9 → to_z w64 (of_z w64 (to_z w64 (of_z w64 a) *ℤ to_z w64 (of_z w64 b))) ≡ a *ℤ b
kept a b h k =
    let ea : to_z w64 (of_z w64 a) ≡ a = omega (arith, ints) in
    let eb : to_z w64 (of_z w64 b) ≡ b = omega (arith, ints) in
    rw (ea, eb) (whole (a *ℤ b) (omega (arith, unsigned_abs-mul a b, mul-le _ _ _ _ h k)))
  where
    whole : (z : ℤ) → unsigned_abs z ≤ 4 * 10 ^ 18 → to_z w64 (of_z w64 z) ≡ z
    whole z l = omega (arith, ints)

-- sights point forward
forward : (s : Sight) → IsForward s.width s.height
forward s =
    let r = s.rightwards in
    by_lt_z (pos 0) s.width (λ l. inl l) (λ h. let e : s.width ≡ pos 0 = omega (arith, ints) in inr (e, s.or_up e))

-- how far t is turned to the left from s
abbrev pub turned : Sight → Sight → ℤ
turned s t = cross s.width s.height t.width t.height

-- t is turned to the left from s, or points the same way and has at least the number
abbrev pub NotBefore : Sight → Sight → Type 0
NotBefore s t = (pos 0 <ℤ turned s t) ⊎ ((turned s t ≡ pos 0) × (s.number ≤ t.number))

-- whether s comes before t
abbrev pub is_before : Sight → Sight → Bool
is_before s t = is_lt (sight_cmp s t)

-- the order of sights, by its parts
cmp_at : (s t : Sight) (o : Ordering) → int_cmp (s.height *ℤ t.width) (s.width *ℤ t.height) ≡ o → is_before s t ≡ is_lt (ordering_then o (nat_cmp s.number t.number))
cmp_at s t o e = ap (λ p. is_lt (ordering_then p (nat_cmp s.number t.number))) e

lt_numbers : (m n : ℕ) → (is_lt (nat_cmp m n) ≡ true → m < n) × (is_lt (nat_cmp m n) ≡ false → n ≤ m)
lt_numbers m n =
    by_ranked _ _ _ (nat_cmp m n) (ranked m n _ refl)
    (λ is l. (λ e. l, λ e. let no = sym (ap is_lt is) ∙ e in absurd (cc)))
    (λ is l. (λ e. let no = sym (ap is_lt is) ∙ e in absurd (cc), λ e. omega arith))
    (λ is l. (λ e. let no = sym (ap is_lt is) ∙ e in absurd (cc), λ e. omega arith))

-- what does not come before s is turned from it
not_before : (s t : Sight) → is_before t s ≡ false → NotBefore s t
not_before s t e =
    let swap = cross_swap s.width s.height t.width t.height in
    by_ranked _ _ _ (int_cmp (t.height *ℤ s.width) (t.width *ℤ s.height)) (int_ranked (t.height *ℤ s.width) (t.width *ℤ s.height) _ refl)
    (λ is l. let no = sym (cmp_at t s Less is) ∙ e in absurd (cc))
    (λ is l. inr (omega (arith, ints), (lt_numbers t.number s.number).1 (sym (cmp_at t s Equal is) ∙ e)))
    (λ is l. inl (omega (arith, ints)))

-- and the other way round
is_before-not : (s t : Sight) → NotBefore s t → is_before t s ≡ false
is_before-not s t h =
    let swap = cross_swap s.width s.height t.width t.height in
    by_ranked _ _ _ (int_cmp (t.height *ℤ s.width) (t.width *ℤ s.height)) (int_ranked (t.height *ℤ s.width) (t.width *ℤ s.height) _ refl)
    (λ is l. absurd (⊎_elim (λ k. omega (arith, ints)) (λ k. let k0 = k.0 in omega (arith, ints)) h))
    (λ is l. cmp_at t s Equal is ∙ not_lt (⊎_elim (λ k. absurd (omega (arith, ints))) (λ k. k.1) h))
    (λ is l. cmp_at t s Greater is)
  where
    not_lt : s.number ≤ t.number → is_lt (nat_cmp t.number s.number) ≡ false
    not_lt l = ⊎_elim (λ e. absurd (let m = (lt_numbers t.number s.number).0 e in omega arith)) (λ e. e) (cases_Bool (is_lt (nat_cmp t.number s.number)))

-- turning on
NotBefore-trans : (s t u : Sight) → NotBefore s t → NotBefore t u → NotBefore s u
NotBefore-trans s t u h k =
    ⊎_elim
    (λ a. ⊎_elim
    (λ b. inl (cross_strict _ _ _ _ _ _ (forward s) (forward t) (forward u) a (omega (arith, ints))))
    (λ b. let b0 = b.0 in inl (cross_strict _ _ _ _ _ _ (forward s) (forward t) (forward u) a (omega (arith, ints))))
    k)
    (λ a. let a0 = a.0 in let a1 = a.1 in ⊎_elim
    (λ b. inl (cross_strict_last _ _ _ _ _ _ (forward s) (forward t) (forward u) (omega (arith, ints)) b))
    (λ b. let b0 = b.0 in let b1 = b.1 in
    let on = cross_transitive _ _ _ _ _ _ (forward s) (forward t) (forward u) (omega (arith, ints)) (omega (arith, ints)) in
    let back = cross_transitive _ _ _ _ _ _ (forward u) (forward t) (forward s) (omega (arith, ints, cross_swap t.width t.height u.width u.height)) (omega (arith, ints, cross_swap s.width s.height t.width t.height)) in
    inr (omega (arith, ints, cross_swap s.width s.height u.width u.height), omega arith))
    k)
    h

-- what comes before t is turned from it to the right, or has the lesser number
before : (s t : Sight) → is_before s t ≡ true → NotBefore s t
before s t e =
    by_ranked _ _ _ (int_cmp (s.height *ℤ t.width) (s.width *ℤ t.height)) (int_ranked (s.height *ℤ t.width) (s.width *ℤ t.height) _ refl)
    (λ is l. inl (omega (arith, ints)))
    (λ is l. let m = (lt_numbers s.number t.number).0 (sym (cmp_at s t Equal is) ∙ e) in inr (omega (arith, ints), omega arith))
    (λ is l. let no = sym (cmp_at s t Greater is) ∙ e in absurd (cc))

-- it is an order
pub is_before-order : IsStrictWeakOrder is_before
is_before-order = record {
  one_way = λ s t e. is_before-not s t (before s t e);
  chain = λ s t u h k. is_before-not u s (NotBefore-trans u t s (not_before u t k) (not_before t s h));
}

-- the turn between two sights is that between their points
turned-sights : (ps : List Point) (a b c : ℕ) (s t : Sight) → IsSight ps a b s → IsSight ps a c t → turned s t ≡ orient (point_at ps a) (point_at ps b) (point_at ps c)
unfolding orient
turned-sights ps a b c s t h k = rw (h.width, h.height, k.width, k.height) refl

-- the sight of a point after a
abbrev IsLaterSight : List Point → ℕ → Sight → Type 0
IsLaterSight ps a s = (a < s.number) × (s.number < length ps) × IsSight ps a s.number s

-- the sights in the order of directions
module _ (ps : List Point) (a : ℕ) (numbers : List ℕ) (old new : List Sight) (order : List ℕ) (later : All (λ b. (a < b) × (b < length ps)) numbers) (distinct : AllPairs (λ b c. b ≢ c) numbers)
    (h : AreSights ps a numbers old) (moved : IsPermutation old new) (is : order ≡ map (λ s. s.number) new) where
  some : Sight
  some = record { width = pos 1; height = pos 0; number = 0; narrow = omega arith; low = omega arith; rightwards = omega (arith, ints); or_up = λ e. absurd (omega (arith, ints)) }

  numbers-old : map (λ (s : Sight). s.number) old ≡ numbers
  numbers-old =
      same_number_lists _ _ (length-map old (λ (s : Sight). s.number) ∙ h.count)
      (λ k l. let k_in : k < length old = omega (arith, length-map old (λ (s : Sight). s.number)) in get_or-map (λ (x : Sight). x.number) old k some 0 k_in ∙ (h.each k some k_in).number)

  pub IsPermutation-sorted : IsPermutation numbers order
  IsPermutation-sorted = subst (λ (ns : List ℕ). IsPermutation ns order) numbers-old (rw is (IsPermutation-map (λ (s : Sight). s.number) old new moved))

  all_old : All (IsLaterSight ps a) old
  all_old = λ k d l.
      let s = h.each k d l in
      let n = s.number in
      let c = h.count in
      let in_range = later k 0 (omega arith) in
      (omega arith, omega arith, subst (λ (b : ℕ). IsSight ps a b (get_or old k d)) (sym n) s)

  all_new : All (IsLaterSight ps a) new
  all_new = All-permutation (IsLaterSight ps a) old new moved all_old

  apart_old : AllPairs (λ (s t : Sight). eqb s.number t.number ≡ false) old
  apart_old = λ i j d l j_in.
      let m = (h.each i d (omega arith)).number in
      let n = (h.each j d j_in).number in
      let c = h.count in
      ne_eqb _ _ (λ e. distinct i j 0 l (omega arith) (sym m ∙ (e ∙ n)))

  apart_new : AllPairs (λ (s t : Sight). eqb s.number t.number ≡ false) new
  apart_new = AllPairs-IsPermutation (λ (s t : Sight). eqb s.number t.number) (λ s t. nat_eq_equiv.symm s.number t.number) old new moved apart_old

  follows : IsSortedBy is_before new → (i j d : ℕ) → i < j → j < length new → Follows ps a (get_or (map (λ (s : Sight). s.number) new) i d) (get_or (map (λ (s : Sight). s.number) new) j d)
  follows sorted i j d l j_in =
      let s = get_or new i some in
      let t = get_or new j some in
      let hs = all_new i some (omega arith) in
      let ht = all_new j some j_in in
      let turn = turned-sights ps a s.number t.number s t hs.2 ht.2 in
      let differ = eqb-false _ _ (apart_new i j some l j_in) in
      rw (get_or-map (λ (x : Sight). x.number) new i some d (omega arith), get_or-map (λ (x : Sight). x.number) new j some d j_in)
      (⊎_elim
      (λ k. inl (omega (arith, ints, turn)))
      (λ k. let k0 = k.0 in let k1 = k.1 in inr (omega (arith, ints, turn), omega arith))
      (not_before s t (sorted_far is_before is_before-order new sorted i j some (omega arith) j_in)))

  pub AreByDirection-sorted : IsSortedBy is_before new → AreByDirection ps a order
  AreByDirection-sorted sorted =
      subst (AreByDirection ps a) (sym is)
      (record {
        each = All-map (λ b. (a < b) × (b < length ps)) (λ (s : Sight). s.number) new (All-weaker (IsLaterSight ps a) (λ s. (a < s.number) × (s.number < length ps)) (λ s k. (k.0, k.1)) new all_new);
        sorted = λ i j d l j_in. follows sorted i j d l (omega (arith, length-map new (λ (s : Sight). s.number)));
      })
