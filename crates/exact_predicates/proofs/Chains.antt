-- The numbers along a hull rise from point 0 on, and once they fall they fall to the end.
use Rattle.std.proofs.Common.{◌≡◌, ℕ, zero, suc, ◌+◌, ◌<◌, ◌≤◌, List, [], ◌∷◌, length, slice_index, ℤ, pos, ◌-ℤ◌, ◌≤ℤ◌, arith, ◌∙◌, refl, subst, ⊎_elim, inl}
use Rattle.std.proofs.lemmas.Bool.{cases_lt}
use Rattle.std.proofs.lemmas.Int.{ints}
use Rattle.exact_predicates.specs.declared.point.Point.{Point}
use Rattle.exact_predicates.specs.Plane.{orient, Precedes}
use Rattle.exact_predicates.specs.PointSet.{point_at, IsPointSet}
use Rattle.exact_predicates.specs.Hull.{IsHullPair, IsHull}
use Rattle.exact_predicates.proofs.Ring.{var, less, times, ring}
use Rattle.exact_predicates.proofs.Orientation.{coordinates, orient_term, orient_return, orient_turned, orient_swapped}
use Rattle.exact_predicates.proofs.HalfPlane.{cross, IsForward, cross_transitive, cross_swap, forward_from, turn_transitive}
use Rattle.exact_predicates.proofs.Line.{orient-on_line}
use Rattle.exact_predicates.proofs.Rings.{pair_of_place}

-- what lies between two vectors that point the same way points that way too
between_one_way : (ax ay bx by cx cy : ℤ) → IsForward ax ay → IsForward bx by → IsForward cx cy
    → pos 0 ≤ℤ cross ax ay bx by → pos 0 ≤ℤ cross bx by cx cy → cross ax ay cx cy ≡ pos 0 → cross bx by cx cy ≡ pos 0
between_one_way ax ay bx by cx cy a b c ab bc ac =
    let s = cross_swap ax ay cx cy in
    let back = cross_transitive cx cy ax ay bx by c a b (omega (arith, ints)) ab in
    omega (arith, ints, cross_swap bx by cx cy)

-- the turns at v, by vectors that point forward where r comes before v
turn_into : (u v r : Point) → orient u v r ≡ cross (u.x -ℤ v.x) (u.y -ℤ v.y) (v.x -ℤ r.x) (v.y -ℤ r.y)
unfolding orient
turn_into u v r =
    ring (coordinates (u ∷ v ∷ r ∷ [])) (orient_term 0 2 4)
    (less (times (less (var 0) (var 2)) (less (var 3) (var 5))) (times (less (var 1) (var 3)) (less (var 2) (var 4))))
    (omega arith)

turn_out : (v w r : Point) → orient v w r ≡ cross (v.x -ℤ r.x) (v.y -ℤ r.y) (w.x -ℤ v.x) (w.y -ℤ v.y)
unfolding orient
turn_out v w r =
    ring (coordinates (v ∷ w ∷ r ∷ [])) (orient_term 0 2 4)
    (less (times (less (var 0) (var 4)) (less (var 3) (var 1))) (times (less (var 1) (var 5)) (less (var 2) (var 0))))
    (omega arith)

-- Of two pairs u to v and v to w with v the first of the three: a point before v, on no right side, makes them straight.
straight : (u v w r : Point) → Precedes v u → Precedes v w → Precedes r v → pos 0 ≤ℤ orient u v r → pos 0 ≤ℤ orient v w r
    → pos 0 ≤ℤ orient v w u → orient v w u ≡ pos 0
unfolding orient
straight u v w r vu vw rv h k l =
    let a = turn_into u v r in
    let b = turn_out v w r in
    let between = cross_transitive _ _ _ _ _ _ (forward_from v u vu) (forward_from r v rv) (forward_from v w vw) (omega (arith, ints)) (omega (arith, ints)) in
    let swap = cross_swap (u.x -ℤ v.x) (u.y -ℤ v.y) (w.x -ℤ v.x) (w.y -ℤ v.y) in
    omega (arith, ints)

-- where they are straight, each point that they have on no right side lies on their line
before_straight : (u v w r : Point) → Precedes v u → Precedes v w → pos 0 ≤ℤ orient u v r → pos 0 ≤ℤ orient v w r → orient v w u ≡ pos 0
    → Precedes r v → orient v w r ≡ pos 0
unfolding orient
before_straight u v w r vu vw h k e rv =
    let a = turn_into u v r in
    let b = turn_out v w r in
    let swap = cross_swap (u.x -ℤ v.x) (u.y -ℤ v.y) (w.x -ℤ v.x) (w.y -ℤ v.y) in
    b ∙ between_one_way _ _ _ _ _ _ (forward_from v u vu) (forward_from r v rv) (forward_from v w vw) (omega (arith, ints)) (omega (arith, ints)) (omega (arith, ints))

after_straight : (u v w r : Point) → Precedes v u → Precedes v w → pos 0 ≤ℤ orient u v r → pos 0 ≤ℤ orient v w r → orient v w u ≡ pos 0
    → Precedes v r → orient v w r ≡ pos 0
after_straight u v w r vu vw h k e vr =
    let a = orient_turned u v r in
    let b = orient_turned u v w in
    let c = orient_swapped v u w in
    let back = turn_transitive v r u w vr vu vw (omega (arith, ints)) (omega (arith, ints)) in
    omega (arith, ints, orient_swapped w v r, orient_turned w v r)

-- no number of a hull but 0 is less than both its neighbours
pub no_valley : (ps : List Point) (hull : List ℕ) (u v w : ℕ) → IsPointSet ps → IsHull ps hull → IsHullPair hull u v → IsHullPair hull v w
    → u < length ps → w < length ps → 0 < v → v < u → v < w → ⊥
no_valley ps hull u v w s h uv vw u_in w_in some v_u v_w =
    let P : ℕ → Point = point_at ps in
    let before : (i j : ℕ) → i < j → j < length ps → Precedes (P i) (P j) = λ i j l m. s.ascending i j _ l m in
    let e = straight (P u) (P v) (P w) (P 0) (before v u v_u u_in) (before v w v_w w_in) (before 0 v some (omega arith))
    (h.none_right u v 0 uv (omega arith)) (h.none_right v w 0 vw (omega arith)) (h.none_right v w u vw u_in) in
    let on : (r : ℕ) → r < length ps → orient (P v) (P w) (P r) ≡ pos 0 = λ r r_in.
    let left = h.none_right u v r uv r_in in
    let right = h.none_right v w r vw r_in in
    ⊎_elim
    (λ l. before_straight (P u) (P v) (P w) (P r) (before v u v_u u_in) (before v w v_w w_in) left right e (before r v l (omega arith)))
    (λ m. ⊎_elim
    (λ l. after_straight (P u) (P v) (P w) (P r) (before v u v_u u_in) (before v w v_w w_in) left right e (before v r l r_in))
    (λ n. let same : v ≡ r = omega arith in subst (λ x. orient (P v) (P w) (P x) ≡ pos 0) same (orient_return (P v) (P w)))
    (cases_lt v r))
    (cases_lt r v) in
    let t = s.not_flat in
    t.turn (orient-on_line (P v) (P w) (P t.i) (P t.j) (P t.k) (before v w v_w w_in) (on t.i t.i_in) (on t.j t.j_in) (on t.k t.k_in))

-- where the numbers of a hull fall, they fall from the next place on too
falls_next : (ps : List Point) (hull : List ℕ) → IsPointSet ps → IsHull ps hull
    → (k : ℕ) → k + 2 < length hull → slice_index hull (k + 1) < slice_index hull k → slice_index hull (k + 2) < slice_index hull (k + 1)
falls_next ps hull s h k k_in l =
    let first = pair_of_place hull (slice_index hull k) (slice_index hull (k + 1)) k (omega arith) refl (inl (omega arith, refl)) in
    let next : k + 1 + 1 ≡ k + 2 = omega arith in
    let second = pair_of_place hull (slice_index hull (k + 1)) (slice_index hull (k + 2)) (k + 1) (omega arith) refl (inl (rw next (k_in, refl))) in
    let some : 0 < slice_index hull (k + 1) = ⊎_elim (λ p. p) (λ z. absurd (h.distinct 0 (k + 1) 0 (omega arith) (omega arith) (h.first ∙ (omega arith)))) (cases_lt 0 (slice_index hull (k + 1))) in
    ⊎_elim
    (λ up. absurd (no_valley ps hull _ _ _ s h first second (h.within k 0 (omega arith)) (h.within (k + 2) 0 k_in) some l up))
    (λ m. ⊎_elim
    (λ down. down)
    (λ n. absurd (h.distinct (k + 1) (k + 2) 0 (omega arith) k_in (omega arith)))
    (cases_lt (slice_index hull (k + 2)) (slice_index hull (k + 1))))
    (cases_lt (slice_index hull (k + 1)) (slice_index hull (k + 2)))

-- and to the end
pub falls_on : (ps : List Point) (hull : List ℕ) → IsPointSet ps → IsHull ps hull
    → (k : ℕ) → slice_index hull (k + 1) < slice_index hull k
    → (j : ℕ) → k ≤ j → j + 1 < length hull → slice_index hull (j + 1) < slice_index hull j
falls_on ps hull s h k l zero k_j j_in =
    let e : k ≡ 0 = omega arith in
    subst (λ x. slice_index hull (x + 1) < slice_index hull x) e l
falls_on ps hull s h k l (suc j) k_j j_in =
    ⊎_elim
    (λ m. let before = falls_on ps hull s h k l j (omega arith) (omega arith) in
    let e : suc j ≡ j + 1 = omega arith in
    let f : j + 1 + 1 ≡ j + 2 = omega arith in
    rw (e, f) (falls_next ps hull s h j (omega arith) before))
    (λ m. let e : k ≡ suc j = omega arith in subst (λ x. slice_index hull (x + 1) < slice_index hull x) e l)
    (cases_lt k (suc j))
