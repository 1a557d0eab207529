-- A set of points has one hull.
use Rattle.std.proofs.Common.{◌≡◌, ◌≢◌, ℕ, zero, suc, ◌+◌, ◌-◌, ◌<◌, ◌≤◌, List, length, slice_index, ℤ, pos, ◌≤ℤ◌, arith, sym, ◌∙◌, refl, ⊎_elim, inl, inr}
use Rattle.std.proofs.lemmas.Bool.{cases_eq, cases_lt, cases_order}
use Rattle.std.proofs.lemmas.Grind.{same_number_lists}
use Rattle.std.proofs.lemmas.Int.{ints, by_lt_z}
use Rattle.exact_predicates.specs.declared.point.Point.{Point}
use Rattle.exact_predicates.specs.Hull.{IsHull, IsHullPair}
use Rattle.exact_predicates.specs.Plane.{orient, IsBetween, Precedes}
use Rattle.exact_predicates.specs.PointSet.{IsPointSet, point_at}
use Rattle.exact_predicates.proofs.Between.{IsBetween-from_order, IsBetween-turned}
use Rattle.exact_predicates.proofs.Line.{orient-on_line, orient-same_line_right}
use Rattle.exact_predicates.proofs.Orientation.{orient_last_twice, orient_swapped, orient_swapped_last}
use Rattle.exact_predicates.proofs.Rings.{pair_ends, pair_of_place}

-- a side u to v of a hull: distinct points of the set, none to the right of it and none between them
pub record IsOutside (ps : List Point) (u v : ℕ) : Type 0 where
  pub u_in : u < length ps
  pub v_in : v < length ps
  pub apart : u ≢ v
  pub none_right : (r : ℕ) → r < length ps → pos 0 ≤ℤ orient (point_at ps u) (point_at ps v) (point_at ps r)
  pub none_between : (r : ℕ) → r < length ps → ¬ IsBetween (point_at ps u) (point_at ps v) (point_at ps r)

pub IsOutside-pair : (ps : List Point) (hull : List ℕ) (u v : ℕ) → IsHull ps hull → IsHullPair hull u v → IsOutside ps u v
IsOutside-pair ps hull u v h pair =
    let ends = pair_ends ps hull u v h pair in
    record {
      u_in = ends.0;
      v_in = ends.1;
      apart = ends.2;
      none_right = λ r r_in. h.none_right u v r pair r_in;
      none_between = λ r r_in. h.none_between u v r pair r_in;
    }

-- two sides of hulls do not go from one point in opposite directions, since all points would lie on their line
no_turn_back : (ps : List Point) (u v w : ℕ) → IsPointSet ps → v < u → u < w → orient (point_at ps u) (point_at ps v) (point_at ps w) ≡ pos 0
    → IsOutside ps u v → IsOutside ps u w → ⊥
no_turn_back ps u v w s v_u u_w e forth back =
    let P : ℕ → Point = point_at ps in
    let vu : Precedes (P v) (P u) = s.ascending v u _ v_u forth.u_in in
    let uw : Precedes (P u) (P w) = s.ascending u w _ u_w back.v_in in
    let on_w : orient (P v) (P u) (P w) ≡ pos 0 = omega (arith, ints, orient_swapped (P v) (P u) (P w)) in
    let on : (r : ℕ) → r < length ps → orient (P v) (P u) (P r) ≡ pos 0 = λ r r_in.
    let left = forth.none_right r r_in in
    let above = back.none_right r r_in in
    by_lt_z (orient (P v) (P u) (P r)) (pos 0)
    (λ l. let below = orient-same_line_right (P v) (P u) (P u) (P w) (P r) vu uw (orient_last_twice (P v) (P u)) on_w l in
    absurd (omega (arith, ints)))
    (λ l. omega (arith, ints, orient_swapped (P v) (P u) (P r))) in
    let t = s.not_flat in
    t.turn (orient-on_line (P v) (P u) (P t.i) (P t.j) (P t.k) vu (on t.i t.i_in) (on t.j t.j_in) (on t.k t.k_in))

-- of three points on a line with u first or last, none lies between u and a later end
no_skip : (ps : List Point) (u v w : ℕ) → IsPointSet ps → orient (point_at ps u) (point_at ps v) (point_at ps w) ≡ pos 0
    → IsOutside ps u v → w < length ps → ((u < w) × (w < v)) → ⊥
no_skip ps u v w s e out w_in (l, m) =
    out.none_between w w_in (IsBetween-from_order _ _ _ (s.ascending u w _ l w_in) (s.ascending w v _ m out.v_in) e)

no_skip_back : (ps : List Point) (u v w : ℕ) → IsPointSet ps → orient (point_at ps u) (point_at ps v) (point_at ps w) ≡ pos 0
    → IsOutside ps u v → w < length ps → ((v < w) × (w < u)) → ⊥
no_skip_back ps u v w s e out w_in (l, m) =
    let P : ℕ → Point = point_at ps in
    let turned : orient (P v) (P u) (P w) ≡ pos 0 = omega (arith, ints, orient_swapped (P v) (P u) (P w)) in
    out.none_between w w_in (IsBetween-turned _ _ _ (IsBetween-from_order _ _ _ (s.ascending v w _ l w_in) (s.ascending w u _ m out.u_in) turned))

-- from a point goes one side of a hull
IsOutside-only : (ps : List Point) (u v w : ℕ) → IsPointSet ps → IsOutside ps u v → IsOutside ps u w → v ≡ w
IsOutside-only ps u v w s a b =
    let P : ℕ → Point = point_at ps in
    let right = a.none_right w b.v_in in
    let left = b.none_right v a.v_in in
    let swap = orient_swapped_last (P u) (P v) (P w) in
    let e : orient (P u) (P v) (P w) ≡ pos 0 = omega (arith, ints) in
    let f : orient (P u) (P w) (P v) ≡ pos 0 = omega (arith, ints) in
    let rising : v < w → v ≡ w = λ l.
    ⊎_elim
    (λ m. absurd (no_skip ps u w v s f b a.v_in (m, l)))
    (λ m. ⊎_elim
    (λ n. absurd (no_turn_back ps u v w s (omega (arith, a.apart)) n e a b))
    (λ n. absurd (no_skip_back ps u v w s e a b.v_in (l, omega (arith, b.apart))))
    (cases_lt u w))
    (cases_lt u v) in
    let falling : w < v → v ≡ w = λ l.
    ⊎_elim
    (λ m. absurd (no_skip ps u v w s e a b.v_in (m, l)))
    (λ m. ⊎_elim
    (λ n. absurd (no_turn_back ps u w v s (omega (arith, b.apart)) n f b a))
    (λ n. absurd (no_skip_back ps u w v s f b a.v_in (l, omega (arith, a.apart))))
    (cases_lt u v))
    (cases_lt u w) in
    ⊎_elim (λ same. same) (λ c. ⊎_elim rising falling c) (cases_order v w)

-- so two hulls agree as far as both go
same_places : (ps : List Point) (h k : List ℕ) → IsPointSet ps → IsHull ps h → IsHull ps k
    → (i : ℕ) → i < length h → i < length k → slice_index h i ≡ slice_index k i
same_places ps h k s hh kk zero in_h in_k = hh.first ∙ sym kk.first
same_places ps h k s hh kk (suc i) in_h in_k =
    let e : suc i ≡ i + 1 = omega arith in
    let before = same_places ps h k s hh kk i (omega arith) (omega arith) in
    let of_h = pair_of_place h (slice_index h i) (slice_index h (i + 1)) i (omega arith) refl (inl (omega arith, refl)) in
    let of_k = pair_of_place k (slice_index h i) (slice_index k (i + 1)) i (omega arith) (sym before) (inl (omega arith, refl)) in
    rw e (IsOutside-only ps _ _ _ s (IsOutside-pair ps h _ _ hh of_h) (IsOutside-pair ps k _ _ kk of_k))

-- and where one ends, it goes back to point 0, which the other has at its front alone
not_longer : (ps : List Point) (h k : List ℕ) → IsPointSet ps → IsHull ps h → IsHull ps k → length h < length k → ⊥
not_longer ps h k s hh kk l =
    let last : ℕ = length h - 1 in
    let three = hh.three in
    let before = same_places ps h k s hh kk last (omega arith) (omega arith) in
    let of_h = pair_of_place h (slice_index h last) (slice_index h 0) last (omega arith) refl (inr (omega arith, refl)) in
    let of_k = pair_of_place k (slice_index h last) (slice_index k (last + 1)) last (omega arith) (sym before) (inl (omega arith, refl)) in
    let again = IsOutside-only ps _ _ _ s (IsOutside-pair ps h _ _ hh of_h) (IsOutside-pair ps k _ _ kk of_k) in
    kk.distinct 0 (last + 1) 0 (omega arith) (omega arith) (kk.first ∙ (sym hh.first ∙ again))

pub IsHull-only : (ps : List Point) (h k : List ℕ) → IsPointSet ps → IsHull ps h → IsHull ps k → h ≡ k
IsHull-only ps h k s hh kk =
    let same : length h ≡ length k = ⊎_elim
    (λ l. absurd (not_longer ps h k s hh kk l))
    (λ l. ⊎_elim (λ m. absurd (not_longer ps k h s kk hh m)) (λ m. omega arith) (cases_lt (length k) (length h)))
    (cases_lt (length h) (length k)) in
    same_number_lists h k same (λ i i_in. same_places ps h k s hh kk i i_in (omega arith))
