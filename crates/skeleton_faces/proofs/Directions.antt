-- Rays and their order.
use Rattle.std.proofs.Common.{◌≡◌, ◌≢◌, ◌⊎◌, ℕ, ◌+◌, ◌*◌, ◌^◌, ◌<◌, ◌≤◌, Bool, true, false, Ordering, ℤ, pos, ◌+ℤ◌, ◌-ℤ◌, ◌*ℤ◌, ◌<ℤ◌, ◌≤ℤ◌, to_z, of_z, unsigned_abs, List, [], ◌∷◌, ◌++◌, length, get_or, AllPairs, eqb, refl, sym, ap, ◌∙◌, subst, inl, inr, ⊎_elim, arith}
use Rattle.std.specs.declared.cmp.Ordering.TheVariants.{Less, Equal, Greater}
use Rattle.std.specs.Ordering.{int_cmp, is_lt, ordering_reverse}
use Rattle.std.specs.Cmp.{IsTotalOrder, IsStrictWeakOrder, bool_cmp_total}
use Rattle.std.specs.List.Sorted.{IsPermutation, IsSortedBy}
use Rattle.std.proofs.lemmas.Bool.{cases_lt, ne_eqb, eqb-false}
use Rattle.std.proofs.lemmas.Cmp.{by_ranked, int_ranked, int_cmp_total, nat_cmp_total, nat_eq_equiv, on_total, then_total}
use Rattle.std.proofs.Math.IntN.{*ℤ_comm as mulz_comm}
use Rattle.std.proofs.lemmas.Int.{ints, by_lt_z, unsigned_abs-mul}
use Rattle.std.proofs.lemmas.List.{get_or_append_left, get_or_push, get_or_default, length-append}
use Rattle.std.proofs.lemmas.List.Elements.{All-push, All-weaker}
use Rattle.std.proofs.lemmas.List.Quantifiers.{all_pairs_push}
use Rattle.std.proofs.lemmas.List.Sorted.{All-permutation, sorted_far, ranks_by}
use Rattle.std.proofs.lemmas.Nat.{mul-le}
use Rattle.exact_predicates.specs.declared.edge.Edge.{Edge}
use Rattle.exact_predicates.specs.declared.point.Point.{Point}
use Rattle.exact_predicates.proofs.Elements.{Any-append_left, Any-append_right, Any-permutation}
use Rattle.exact_predicates.proofs.HalfPlane.{IsForward, cross, cross_swap, cross_transitive, cross_strict, cross_strict_last}
use Rattle.exact_predicates.proofs.ListFacts.{AllPairs-IsPermutation}
use Rattle.exact_predicates.specs.PointSet.{point_at}
use Rattle.skeleton_faces.specs.Marks.{nth_edge}
use Rattle.skeleton_faces.proofs.SideNumbers.{forward_is, backward_is, half_forward, half_backward}
use Rattle.skeleton_faces.specs.declared.ray.Ray.{Ray}
use Rattle.skeleton_faces.specs.Rays.{AreRays, AreShown, IsRay, ray_cmp}
use mir.Syntax.{w64}

-- a product of two widths or heights is not changed by its way through the bits
pub kept : (a b : ℤ) → unsigned_abs a ≤ 2 * 10 ^ 9 → unsigned_abs b ≤ 2 * 10 ^ 9 → to_z w64 (of_z w64 (to_z w64 (of_z w64 a) *ℤ to_z w64 (of_z w64 b))) ≡ a *ℤ b
kept a b h k =
    let ea : to_z w64 (of_z w64 a) ≡ a = omega (arith, ints) in
    let eb : to_z w64 (of_z w64 b) ≡ b = omega (arith, ints) in
    rw (ea, eb) (whole (a *ℤ b) (omega (arith, unsigned_abs-mul a b, mul-le _ _ _ _ h k)))
  where
    whole : (z : ℤ) → unsigned_abs z ≤ 4 * 10 ^ 18 → to_z w64 (of_z w64 z) ≡ z
    whole z l = omega (arith, ints)

-- rays keep the direction of their edge from its lesser end, which points forward
pub forward : (r : Ray) → IsForward r.width r.height
forward r =
    let right = r.rightwards in
    by_lt_z (pos 0) r.width (λ l. inl l) (λ h. let e : r.width ≡ pos 0 = omega (arith, ints) in inr (e, r.or_up e))

-- how far the edge of t is turned to the left from that of s
abbrev pub turned : Ray → Ray → ℤ
turned s t = cross s.width s.height t.width t.height

-- what a comparison says of two numbers, and the other way round
less_is : (a b : ℤ) → int_cmp a b ≡ Less → a <ℤ b
less_is a b e = by_ranked _ _ _ (int_cmp a b) (int_ranked a b _ refl) (λ is l. l) (λ is l. absurd (let no = sym is ∙ e in cc)) (λ is l. absurd (let no = sym is ∙ e in cc))

equal_is : (a b : ℤ) → int_cmp a b ≡ Equal → a ≡ b
equal_is a b e = by_ranked _ _ _ (int_cmp a b) (int_ranked a b _ refl) (λ is l. absurd (let no = sym is ∙ e in cc)) (λ is l. l) (λ is l. absurd (let no = sym is ∙ e in cc))

is_less : (a b : ℤ) → a <ℤ b → int_cmp a b ≡ Less
is_less a b h = by_ranked _ _ _ (int_cmp a b) (int_ranked a b _ refl) (λ is l. is) (λ is l. absurd (omega (arith, ints))) (λ is l. absurd (omega (arith, ints)))

is_greater : (a b : ℤ) → b <ℤ a → int_cmp a b ≡ Greater
is_greater a b h = by_ranked _ _ _ (int_cmp a b) (int_ranked a b _ refl) (λ is l. absurd (omega (arith, ints))) (λ is l. absurd (omega (arith, ints))) (λ is l. is)

is_equal : (a b : ℤ) → a ≡ b → int_cmp a b ≡ Equal
is_equal a b h = by_ranked _ _ _ (int_cmp a b) (int_ranked a b _ refl) (λ is l. absurd (omega (arith, ints))) (λ is l. is) (λ is l. absurd (omega (arith, ints)))

-- how two rays compare by their directions alone
abbrev turn_cmp : Ray → Ray → Ordering
turn_cmp s t = int_cmp (s.height *ℤ t.width) (s.width *ℤ t.height)

turn_less : (s t : Ray) → pos 0 <ℤ turned s t → turn_cmp s t ≡ Less
turn_less s t h = is_less (s.height *ℤ t.width) (s.width *ℤ t.height) (omega (arith, ints))

turn_greater : (s t : Ray) → turned s t <ℤ pos 0 → turn_cmp s t ≡ Greater
turn_greater s t h = is_greater (s.height *ℤ t.width) (s.width *ℤ t.height) (omega (arith, ints))

turn_equal : (s t : Ray) → turned s t ≡ pos 0 → turn_cmp s t ≡ Equal
turn_equal s t h = is_equal (s.height *ℤ t.width) (s.width *ℤ t.height) (omega (arith, ints))

from_less : (s t : Ray) → turn_cmp s t ≡ Less → pos 0 <ℤ turned s t
from_less s t h = let l = less_is (s.height *ℤ t.width) (s.width *ℤ t.height) h in omega (arith, ints)

from_equal : (s t : Ray) → turn_cmp s t ≡ Equal → turned s t ≡ pos 0
from_equal s t h = let l = equal_is (s.height *ℤ t.width) (s.width *ℤ t.height) h in omega (arith, ints)

turned_back : (s t : Ray) → turned s t +ℤ turned t s ≡ pos 0
turned_back s t = cross_swap s.width s.height t.width t.height

-- turning on
turned_on : (s t u : Ray) → pos 0 ≤ℤ turned s t → pos 0 ≤ℤ turned t u → pos 0 ≤ℤ turned s u
turned_on s t u h k = cross_transitive _ _ _ _ _ _ (forward s) (forward t) (forward u) h k

turned_strict : (s t u : Ray) → pos 0 <ℤ turned s t → pos 0 ≤ℤ turned t u → pos 0 <ℤ turned s u
turned_strict s t u h k = cross_strict _ _ _ _ _ _ (forward s) (forward t) (forward u) h k

turned_strict_last : (s t u : Ray) → pos 0 ≤ℤ turned s t → pos 0 <ℤ turned t u → pos 0 <ℤ turned s u
turned_strict_last s t u h k = cross_strict_last _ _ _ _ _ _ (forward s) (forward t) (forward u) h k

turn_trans : (s t u : Ray) → turn_cmp s t ≡ Less → turn_cmp t u ≡ Less → turn_cmp s u ≡ Less
turn_trans s t u h k = let tu = from_less t u k in turn_less s u (turned_strict s t u (from_less s t h) (omega (arith, ints)))

-- rays of one direction compare alike
turn_alike : (s t u : Ray) → turned s t ≡ pos 0 → turn_cmp s u ≡ turn_cmp t u
turn_alike s t u h =
    let back = turned_back s t in
    by_lt_z (pos 0) (turned t u)
    (λ l. turn_less s u (turned_strict_last s t u (omega (arith, ints)) l) ∙ sym (turn_less t u l))
    (λ m. by_lt_z (turned t u) (pos 0)
    (λ l. let off = turned_strict u t s (omega (arith, ints, turned_back t u)) (omega (arith, ints)) in
    turn_greater s u (omega (arith, ints, turned_back s u)) ∙ sym (turn_greater t u l))
    (λ n. let on = turned_on s t u (omega (arith, ints)) n in
    let off = turned_on u t s (omega (arith, ints, turned_back t u)) (omega (arith, ints)) in
    turn_equal s u (omega (arith, ints, turned_back s u)) ∙ sym (turn_equal t u (omega (arith, ints)))))

turn_total : IsTotalOrder turn_cmp
turn_total = record {
  antisymm = λ s t. int_cmp_total.antisymm (s.height *ℤ t.width) (s.width *ℤ t.height)
      ∙ ap ordering_reverse (ap (λ z. int_cmp z (s.height *ℤ t.width)) (mulz_comm s.width t.height) ∙ ap (int_cmp (t.height *ℤ s.width)) (mulz_comm s.height t.width));
  trans = turn_trans;
  congr = λ s t u h. turn_alike s t u (from_equal s t h);
}

ray_total : IsTotalOrder ray_cmp
ray_total = then_total (then_total (on_total (λ (r : Ray). r.from) nat_cmp_total) (on_total (λ (r : Ray). r.backward) bool_cmp_total)) turn_total

-- the rays of the first n edges
pub record AreBuilt (ps : List Point) (es : List Edge) (n : ℕ) (rays : List Ray) : Type 0 where
  pub count : length rays ≡ 2 * n
  pub each : (k : ℕ) (d : Ray) → k < length rays → IsRay ps es (get_or rays k d) × ((get_or rays k d).side ≡ k)

abbrev pub is_before : Ray → Ray → Bool
is_before s t = is_lt (ray_cmp s t)

pub is_before_order : IsStrictWeakOrder is_before
is_before_order = ranks_by ray_total (λ (r : Ray). r)

pub some_ray : Ray
some_ray = record { from = 0; backward = false; width = pos 1; height = pos 0; side = 0; narrow = omega arith; low = omega arith; rightwards = omega (arith, ints); or_up = λ e. absurd (omega (arith, ints)) }

-- the rays of one edge more
pub built_more : (ps : List Point) (es : List Edge) (n : ℕ) (rays after : List Ray) (s t : Ray) → AreBuilt ps es n rays → IsRay ps es s → s.side ≡ 2 * n → IsRay ps es t → t.side ≡ 2 * n + 1
    → after ≡ (rays ++ s ∷ []) ++ t ∷ [] → AreBuilt ps es (n + 1) after
built_more ps es n rays after s t b hs s_is ht t_is is =
    let count = b.count in
    subst (AreBuilt ps es (n + 1)) (sym is)
    (record {
      count = omega (arith, length-append (rays ++ s ∷ []) (t ∷ []), length-append rays (s ∷ []));
      each = more (rays ++ s ∷ []) t (2 * n + 1) (omega (arith, length-append rays (s ∷ []))) ht t_is (more rays s (2 * n) count hs s_is b.each);
    })
  where
    more : (xs : List Ray) (r : Ray) (m : ℕ) → length xs ≡ m → IsRay ps es r → r.side ≡ m → ((k : ℕ) (d : Ray) → k < length xs → IsRay ps es (get_or xs k d) × ((get_or xs k d).side ≡ k))
        → (k : ℕ) (d : Ray) → k < length (xs ++ r ∷ []) → IsRay ps es (get_or (xs ++ r ∷ []) k d) × ((get_or (xs ++ r ∷ []) k d).side ≡ k)
    more xs r m m_is hr r_is each k d l =
        ⊎_elim
        (λ (before : k < length xs). let At : Ray → Type 0 = λ x. IsRay ps es x × (x.side ≡ k) in subst At (sym (get_or_append_left xs (r ∷ []) d k before)) (each k d before))
        (λ (last : length xs ≤ k). let e : length xs ≡ k = omega (arith, length-append xs (r ∷ [])) in
        let At : Ray → Type 0 = λ x. IsRay ps es x × (x.side ≡ k) in
        subst At (sym (get_or_push xs r d k e)) (hr, omega arith))
        (cases_lt k (length xs))

-- they show every side once
pub AreShown-built : (ps : List Point) (es : List Edge) (n : ℕ) (rays : List Ray) → AreBuilt ps es n rays → AreShown ps es (λ s. s < 2 * n) rays
AreShown-built ps es n rays b =
    record {
      each = λ k d l. (b.each k d l).0;
      only = λ k d l. omega (arith, (b.each k d l).1, b.count);
      all = λ s s_in.
          let k_in : s < length rays = omega (arith, b.count) in
          let r = get_or rays s some_ray in
          (s, r, k_in, get_or_default rays s r some_ray k_in, (b.each s some_ray k_in).1);
      distinct = λ i j d l j_in e. omega (arith, (b.each i d (omega arith)).1, (b.each j d j_in).1, e);
    }

-- and so they do in their order
pub AreRays-sorted : (ps : List Point) (es : List Edge) (P : ℕ → Type 0) (old new : List Ray) → AreShown ps es P old → IsPermutation old new → IsSortedBy is_before new → AreRays ps es P new
AreRays-sorted ps es P old new h moved sorted =
    record {
      shown = record {
        each = All-permutation (IsRay ps es) old new moved h.each;
        only = All-permutation (λ (r : Ray). P r.side) old new moved h.only;
        all = λ s p. Any-permutation (λ (r : Ray). r.side ≡ s) old new moved (h.all s p);
        distinct = λ i j d l j_in e. differ _ _ (AllPairs-IsPermutation (λ (r t : Ray). eqb r.side t.side) (λ r t. nat_eq_equiv.symm r.side t.side) old new moved apart i j d l j_in) e;
      };
      sorted = λ i j d l j_in. sorted_far is_before is_before_order new sorted i j d (omega arith) j_in;
    }
  where
    differ : (m n : ℕ) → eqb m n ≡ false → m ≢ n
    differ m n e f = eqb-false m n e f

    apart : AllPairs (λ (r t : Ray). eqb r.side t.side ≡ false) old
    apart = λ i j d l j_in. ne_eqb _ _ (h.distinct i j d l j_in)

-- rays show no side at first
pub AreShown-none : (ps : List Point) (es : List Edge) (P : ℕ → Type 0) (rays : List Ray) → rays ≡ [] → ((s : ℕ) → ¬ P s) → AreShown ps es P rays
AreShown-none ps es P rays is none =
    subst (AreShown ps es P) (sym is)
    (record {
      each = λ k d l. absurd (omega arith);
      only = λ k d l. absurd (omega arith);
      all = λ s p. absurd (none s p);
      distinct = λ i j d l j_in. absurd (omega arith);
    })

-- and with one ray more its side too
pub AreShown-more : (ps : List Point) (es : List Edge) (P Q : ℕ → Type 0) (rays after : List Ray) (r : Ray) → AreShown ps es P rays → IsRay ps es r → ¬ P r.side
    → Q r.side → ((s : ℕ) → P s → Q s) → ((s : ℕ) → Q s → P s ⊎ (s ≡ r.side)) → after ≡ rays ++ r ∷ [] → AreShown ps es Q after
AreShown-more ps es P Q rays after r h is fresh here wider cases after_is =
    subst (AreShown ps es Q) (sym after_is)
    (record {
      each = All-push (IsRay ps es) rays r h.each is;
      only = All-push (λ (x : Ray). Q x.side) rays r (All-weaker (λ (x : Ray). P x.side) (λ (x : Ray). Q x.side) (λ x p. wider x.side p) rays h.only) here;
      all = λ s q.
          ⊎_elim
          (λ p. Any-append_left (λ (x : Ray). x.side ≡ s) rays (r ∷ []) (h.all s p))
          (λ e. Any-append_right (λ (x : Ray). x.side ≡ s) rays (r ∷ []) (0, r, omega arith, refl, sym e))
          (cases s q);
      distinct = all_pairs_push (λ (x y : Ray). x.side ≢ y.side) rays r h.distinct (λ k d l e. fresh (subst P e (h.only k d l)));
    })

-- the two rays of an edge
module _ (ps : List Point) (es : List Edge) (n : ℕ) (e : Edge) (r : Ray) (n_in : n < length es) (is : nth_edge es n ≡ e) where
  pub shown-forward : r.side ≡ 2 * n → r.from ≡ e.a → r.backward ≡ false → r.width ≡ (point_at ps e.b).x -ℤ (point_at ps e.a).x → r.height ≡ (point_at ps e.b).y -ℤ (point_at ps e.a).y → IsRay ps es r
  shown-forward side from back width height =
      record {
        side_in = omega (arith, side);
        from = rw (side, forward_is n, half_forward n, is) from;
        backward = rw (side, forward_is n) back;
        width = rw (side, half_forward n, is) width;
        height = rw (side, half_forward n, is) height;
      }

  pub shown-backward : r.side ≡ 2 * n + 1 → r.from ≡ e.b → r.backward ≡ true → r.width ≡ (point_at ps e.b).x -ℤ (point_at ps e.a).x → r.height ≡ (point_at ps e.b).y -ℤ (point_at ps e.a).y → IsRay ps es r
  shown-backward side from back width height =
      record {
        side_in = omega (arith, side);
        from = rw (side, backward_is n, half_backward n, is) from;
        backward = rw (side, backward_is n) back;
        width = rw (side, half_backward n, is) width;
        height = rw (side, half_backward n, is) height;
      }
