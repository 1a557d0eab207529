-- What the sweep ends with is a triangulation.
use Rattle.std.proofs.Common.{◌≡◌, ℕ, ◌+◌, ◌-◌, ◌<◌, ◌≤◌, List, length, slice_index, Any, sum_by, pos, ◌<ℤ◌, arith, sym, ◌∙◌, refl, subst, ⊎_elim, inl}
use Rattle.std.proofs.lemmas.Int.{ints}
use Rattle.std.proofs.lemmas.Bool.{cases_lt}
use Rattle.std.proofs.lemmas.List.{get_or_default}
use Rattle.std.proofs.lemmas.List.Elements.{All-weaker}
use Rattle.exact_predicates.specs.declared.point.Point.{Point}
use Rattle.exact_predicates.specs.declared.tri.Tri.{Tri}
use Rattle.exact_predicates.specs.Hull.{IsHullPair}
use Rattle.exact_predicates.specs.Plane.{orient}
use Rattle.exact_predicates.specs.PointSet.{point_at, IsPointSet}
use Rattle.exact_predicates.specs.Triangulation.{IsCorner, IsEmpty, IsTriangulation, hit, side_count, sides}
use Rattle.exact_predicates.proofs.Counts.{corners_of_side}
use Rattle.exact_predicates.proofs.Elements.{sum_by-none, sum_by-some}
use Rattle.exact_predicates.proofs.Line.{orient-on_line}
use Rattle.exact_predicates.proofs.Numbers.{IsOrdered-points}
use Rattle.exact_predicates.proofs.Orientation.{orient_swapped, orient_turned}
use Rattle.exact_predicates.proofs.Pairs.{hit_none}
use Rattle.exact_predicates.proofs.Sides.{sum_by-flat_map, sum_by-sides}
use Rattle.hull_sweep.specs.declared.chain.Chain.TheVariants.{Lower, Upper}
use Rattle.hull_sweep.specs.Chain.{IsChain}
use Rattle.hull_sweep.specs.Join.{pair_count, IsEmptyBelow}
use Rattle.hull_sweep.specs.Swept.{MeetAtEnds, IsSwept, IsOutline}
use Rattle.hull_sweep.proofs.Chains.{one_place, two_places}
use Rattle.hull_sweep.proofs.Hulls.{none_right}
use Rattle.hull_sweep.proofs.Outlines.{IsClosed, chain_pair, both_same, pair_of_low, pair_of_high, lower_two, upper_two}
use Rattle.hull_sweep.proofs.PairCounts.{pair_count-none, falling_low, rising_high, once_low, once_high}
use Rattle.hull_sweep.proofs.Shapes.{one_line}

-- u to v is one pair of the chains, and v to u is none
pub record OccursOnce (c d : List ℕ) (u v : ℕ) : Type 0 where
  pub forth : pair_count Lower (slice_index c) (length c) u v + pair_count Upper (slice_index d) (length d) u v ≡ 1
  pub back : pair_count Lower (slice_index c) (length c) v u + pair_count Upper (slice_index d) (length d) v u ≡ 0

-- both ends of a pair of the hull are corners
pub record AreCorners (ts : List Tri) (u v : ℕ) : Type 0 where
  pub from : Any (λ t. IsCorner t u) ts
  pub to : Any (λ t. IsCorner t v) ts

-- where the ends of each pair are corners, each place is one
each_place : (ts : List Tri) (count : ℕ) (f : ℕ → ℕ) → 2 ≤ count → ((i : ℕ) → i + 1 < count → AreCorners ts (f i) (f (i + 1))) → (k : ℕ) → k < count → Any (λ t. IsCorner t (f k)) ts
each_place ts count f two ends k k_in =
    ⊎_elim
    (λ l. (ends k l).from)
    (λ l. let e : k - 1 + 1 ≡ k = omega arith in subst (λ x. Any (λ t. IsCorner t (f x)) ts) e (ends (k - 1) (omega arith)).to)
    (cases_lt (k + 1) count)

module _ {P : ℕ → Point} {n : ℕ} {c d h : List ℕ} {ts : List Tri} (o : IsClosed P n c d h ts) where
  -- the two chains have no pair in common
  no_shared_pair : (i j : ℕ) → i + 1 < length c → j + 1 < length d → slice_index c i ≡ slice_index d j → slice_index c (i + 1) ≡ slice_index d (j + 1) → ⊥
  no_shared_pair i j i_in j_in e f =
      let low = o.swept.low in
      let high = o.swept.high in
      let z : slice_index c i ≡ 0 = ⊎_elim (λ z. z) (λ m. absurd (omega (arith, low.rising i i_in, low.known (i + 1) i_in, m))) (o.apart.ends i j (omega arith) (omega arith) e) in
      let m : slice_index c (i + 1) + 1 ≡ n = ⊎_elim (λ y. absurd (omega (arith, low.rising i i_in, y))) (λ m. m) (o.apart.ends (i + 1) (j + 1) i_in j_in f) in
      let i0 = one_place low 0 i low.some (omega arith) (omega (arith, z, low.first)) in
      let j0 = one_place high 0 j high.some (omega arith) (omega (arith, e, z, high.first)) in
      let i1 = one_place low (length c - 1) (i + 1) (omega arith) i_in (omega (arith, m, o.swept.low_newest (length c - 1) (omega arith))) in
      let j1 = one_place high (length d - 1) (j + 1) (omega arith) j_in (omega (arith, f, m, o.swept.high_newest (length d - 1) (omega arith))) in
      let five = o.apart.five in
      omega arith

  counts_low : (i : ℕ) → i + 1 < length c → OccursOnce c d (slice_index c i) (slice_index c (i + 1))
  counts_low i i_in =
      let up = o.swept.low.rising i i_in in
      let x = slice_index c i in
      let y = slice_index c (i + 1) in
      let none = pair_count-none Upper (slice_index d) y x (length d) (λ j j_in. hit_none y x (slice_index d (j + 1)) (slice_index d j) (λ e. no_shared_pair i j i_in j_in (sym e.1) (sym e.0))) in
      record {
        forth = omega (arith, once_low o.swept.low i i_in, rising_high o.swept.high x y (omega arith));
        back = omega (arith, falling_low o.swept.low y x (omega arith), none);
      }

  counts_high : (i : ℕ) → i + 1 < length d → OccursOnce c d (slice_index d (i + 1)) (slice_index d i)
  counts_high i i_in =
      let up = o.swept.high.rising i i_in in
      let x = slice_index d i in
      let y = slice_index d (i + 1) in
      let none = pair_count-none Lower (slice_index c) x y (length c) (λ j j_in. hit_none x y (slice_index c j) (slice_index c (j + 1)) (λ e. no_shared_pair j i j_in i_in e.0 e.1)) in
      record {
        forth = omega (arith, once_high o.swept.high i i_in, falling_low o.swept.low y x (omega arith));
        back = omega (arith, rising_high o.swept.high x y (omega arith), none);
      }

  pair_counts : (u v : ℕ) → IsHullPair h u v → OccursOnce c d u v
  pair_counts u v pair =
      ⊎_elim
      (λ p. both_same (λ x y. OccursOnce c d x y) p.from p.to (counts_low p.i p.i_in))
      (λ p. both_same (λ x y. OccursOnce c d y x) p.from p.to (counts_high p.i p.i_in))
      (chain_pair o u v pair)

  -- what is no pair of the hull is no pair of a chain
  no_counts : (u v : ℕ) → ¬ IsHullPair h u v → (pair_count Lower (slice_index c) (length c) u v ≡ 0) × (pair_count Upper (slice_index d) (length d) u v ≡ 0)
  no_counts u v none = (
    pair_count-none Lower (slice_index c) u v (length c) (λ i i_in. hit_none u v _ _ (λ e. none (both_same (IsHullPair h) e.0 e.1 (pair_of_low o i i_in)))),
    pair_count-none Upper (slice_index d) u v (length d) (λ i i_in. hit_none u v _ _ (λ e. none (both_same (IsHullPair h) e.0 e.1 (pair_of_high o i i_in)))),
  )

  -- an empty triangle has no side against a pair of the hull
  no_side_back : (u v : ℕ) → IsHullPair h u v → (t : Tri) → IsEmptyBelow P n t → sum_by (hit v u) (sides t) ≡ 0
  no_side_back u v pair t e =
      omega (
        arith,
        sum_by-sides (hit v u) t t.a t.b t.c (inl (refl, refl, refl)),
        hit_none v u t.a t.b (λ (f, g). no t.c e.c_in (both_same (λ x y. pos 0 <ℤ orient (P x) (P y) (P t.c)) f g e.turns_left)),
        hit_none v u t.b t.c (λ (f, g). no t.a e.a_in (both_same (λ x y. pos 0 <ℤ orient (P x) (P y) (P t.a)) f g (rw (orient_turned (P t.a) (P t.b) (P t.c)) e.turns_left))),
        hit_none v u t.c t.a (λ (f, g). no t.b e.b_in (both_same (λ x y. pos 0 <ℤ orient (P x) (P y) (P t.b)) f g (rw (← orient_turned (P t.c) (P t.a) (P t.b)) e.turns_left))),
      )
    where
      no : (r : ℕ) → r < n → pos 0 <ℤ orient (P v) (P u) (P r) → ⊥
      no r r_in l = let k = none_right o u v r pair r_in in omega (arith, ints, orient_swapped (P u) (P v) (P r))

  none_outside : (u v : ℕ) → IsHullPair h u v → side_count ts v u ≡ 0
  none_outside u v pair =
      sum_by-flat_map (hit v u) sides ts ∙ sum_by-none (λ t. sum_by (hit v u) (sides t)) ts (All-weaker (IsEmptyBelow P n) (λ t. sum_by (hit v u) (sides t) ≡ 0) (no_side_back u v pair) ts o.swept.empty)

  -- so that each pair of the hull occurs once
  hull_once : (u v : ℕ) → IsHullPair h u v → side_count ts u v ≡ 1
  hull_once u v pair =
      let p = pair_counts u v pair in
      omega (arith, o.swept.balance u v, none_outside u v pair, p.forth, p.back)

  balanced : (u v : ℕ) → ¬ IsHullPair h u v → ¬ IsHullPair h v u → side_count ts u v ≡ side_count ts v u
  balanced u v away back =
      let p = no_counts u v away in
      let q = no_counts v u back in
      omega (arith, o.swept.balance u v, p.0, p.1, q.0, q.1)

  ends_are_corners : (u v : ℕ) → IsHullPair h u v → AreCorners ts u v
  ends_are_corners u v pair =
      let (k, t, k_in, at_k, l) = sum_by-some (λ t. sum_by (hit u v) (sides t)) ts (omega (arith, hull_once u v pair, sum_by-flat_map (hit u v) sides ts)) in
      let e = corners_of_side u v t l in
      record { from = (k, t, k_in, at_k, e.0); to = (k, t, k_in, at_k, e.1) }

  -- each point is a corner
  corners : (x : ℕ) → x < n → Any (λ t. IsCorner t x) ts
  corners x x_in =
      ⊎_elim
      (λ (k, k_in, at_k). subst (λ y. Any (λ t. IsCorner t y) ts) (get_or_default c k 0 x k_in ∙ at_k) (low k k_in))
      (λ m. ⊎_elim (λ (k, k_in, at_k). subst (λ y. Any (λ t. IsCorner t y) ts) (get_or_default d k 0 x k_in ∙ at_k) (high k k_in)) (λ a. a) m)
      (o.swept.covered x x_in)
    where
      low : (k : ℕ) → k < length c → Any (λ t. IsCorner t (slice_index c k)) ts
      low k k_in = each_place ts (length c) (slice_index c) (lower_two o) (λ i i_in. ends_are_corners _ _ (pair_of_low o i i_in)) k k_in

      high : (k : ℕ) → k < length d → Any (λ t. IsCorner t (slice_index d k)) ts
      high k k_in = each_place ts (length d) (slice_index d) (upper_two o) (λ i i_in. let e = ends_are_corners _ _ (pair_of_high o i i_in) in record { from = e.to; to = e.from }) k k_in

-- the triangles are a triangulation
pub IsTriangulation-closed : {ps : List Point} {c d h : List ℕ} {ts : List Tri} → IsClosed (point_at ps) (length ps) c d h ts → IsTriangulation ps h ts
IsTriangulation-closed {ps = ps} {ts = ts} o =
    record {
      empty = All-weaker (IsEmptyBelow (point_at ps) (length ps)) (IsEmpty ps) (λ t e. record { a_in = e.a_in; b_in = e.b_in; c_in = e.c_in; turns_left = e.turns_left; bare = e.bare }) ts o.swept.empty;
      count = omega (arith, o.swept.count, o.outline.size);
      hull_once = hull_once o;
      none_outside = none_outside o;
      balanced = λ u v apart away back. balanced o u v away back;
      corners = corners o;
    }

-- points that do not lie on one line have chains that meet at their ends alone
apart_at_end : {ps : List Point} {c d : List ℕ} {ts : List Tri} → IsPointSet ps → IsSwept (point_at ps) (length ps) c d ts → MeetAtEnds (length ps) c d
apart_at_end {ps = ps} {c = c} v w =
    ⊎_elim
    (λ same. absurd (flat (subst (λ x. IsChain Upper (point_at ps) (length ps) (length x) (slice_index x)) (sym same) w.high)))
    (λ a. a)
    w.shape
  where
    flat : IsChain Upper (point_at ps) (length ps) (length c) (slice_index c) → ⊥
    flat high =
        let P = point_at ps in
        let low = w.low in
        let enough = v.enough in
        let two = two_places low w.low_newest (omega arith) in
        let on : (x : ℕ) → x < length ps → orient (P (slice_index c 0)) (P (slice_index c 1)) (P x) ≡ pos 0 = one_line low high two in
        let t = v.not_flat in
        let first = (IsOrdered-points ps v).rising (slice_index c 0) (slice_index c 1) (low.rising 0 (omega arith)) (low.known 1 (omega arith)) in
        t.turn (orient-on_line (P (slice_index c 0)) (P (slice_index c 1)) (P t.i) (P t.j) (P t.k) first (on t.i t.i_in) (on t.j t.j_in) (on t.k t.k_in))

-- the hull of all points is closed
pub IsClosed-swept : {ps : List Point} {c d h : List ℕ} {ts : List Tri} → IsPointSet ps → IsSwept (point_at ps) (length ps) c d ts → IsOutline c d h → IsClosed (point_at ps) (length ps) c d h ts
IsClosed-swept {ps = ps} v w outline =
    record { ordered = IsOrdered-points ps v; enough = v.enough; swept = w; apart = apart_at_end v w; outline = outline }
