-- Sides that pass a cut. The points lie in their order, and the cut is just after the point u, from there on and up. A triangle
-- has one side more that goes back over the cut than it has sides that go forth over it, where it has the side u to v.
use Rattle.std.proofs.Common.{◌≡◌, ℕ, ◌+◌, ◌<◌, ◌≤◌, true, cond, ◌&&◌, ◌==◌, nat_lt, nat_le, List, length, sum_by, ℤ, pos, ◌≤ℤ◌, ◌<ℤ◌, arith, ap, sym, ◌∙◌, refl, subst, ⊎_elim, ◌⊎◌, inl, inr}
use Rattle.std.specs.Prelude.{int_lt}
use Rattle.std.proofs.lemmas.Bool.{and_from, and_parts, cases_Bool, cases_lt, cond-false, cond-true, eq-eqb, le-leb, leb-true, lt-ltb, ltb-true, ne_eqb}
use Rattle.std.proofs.lemmas.Int.{ints}
use Rattle.exact_predicates.specs.declared.point.Point.{Point}
use Rattle.exact_predicates.specs.declared.tri.Tri.{Tri}
use Rattle.exact_predicates.specs.Plane.{orient, Precedes}
use Rattle.exact_predicates.specs.PointSet.{IsPointSet, point_at}
use Rattle.exact_predicates.specs.Triangulation.{HasCorners, IsEmpty, hit, sides}
use Rattle.exact_predicates.proofs.Counts.{hit-some}
use Rattle.exact_predicates.proofs.HalfPlane.{cross_strict, forward_from, orient_back, turn_strict_last}
use Rattle.exact_predicates.proofs.Orientation.{orient_last_twice, orient_swapped_last, orient_turned}
use Rattle.exact_predicates.proofs.Pairs.{hit_same}
use Rattle.exact_predicates.proofs.Sides.{sum_by-sides}
use Rattle.exact_predicates.proofs.SidesCounted.{turned}

-- the point that tells whether a side passes above: u, and v for a side that begins at u
abbrev pub mark : ℕ → ℕ → ℕ → ℕ
mark u v low = cond (low == u) v u

-- the turn from a side's beginning by that point to its end
abbrev pub turn : List Point → ℕ → ℕ → ℕ → ℕ → ℤ
turn ps u v low high = orient (point_at ps low) (point_at ps (mark u v low)) (point_at ps high)

-- 1 where a side goes forth over the cut, and else 0
unfoldable pub pass : List Point → ℕ → ℕ → ℕ × ℕ → ℕ
pass ps u v s = cond (nat_le s.0 u && (nat_lt u s.1 && int_lt (pos 0) (turn ps u v s.0 s.1))) 1 0

int_lt_true : (a b : ℤ) → int_lt a b ≡ true → a <ℤ b
int_lt_true a b e = grind (arith, ints)

int_lt_from : (a b : ℤ) → a <ℤ b → int_lt a b ≡ true
int_lt_from a b h = grind (arith, ints)

pub pass_one : (ps : List Point) (u v x y : ℕ) → x ≤ u → u < y → pos 0 <ℤ turn ps u v x y → pass ps u v (x, y) ≡ 1
unfolding pass
pass_one ps u v x y low high up =
    cond-true _ 1 0 (and_from (nat_le x u) _ (le-leb x u low) (and_from (nat_lt u y) _ (lt-ltb u y high) (int_lt_from _ _ up)))

-- where a side goes forth over the cut, or is u to v, the cut is under it
record IsOver (ps : List Point) (u v x y : ℕ) : Type 0 where
  pub low : x ≤ u
  pub high : u < y
  pub up : pos 0 ≤ℤ turn ps u v x y

pub pass_cases : (ps : List Point) (u v x y : ℕ) → (pass ps u v (x, y) ≡ 0) ⊎ ((pass ps u v (x, y) ≡ 1) × (x ≤ u) × (u < y) × (pos 0 <ℤ turn ps u v x y))
unfolding pass
pass_cases ps u v x y =
    ⊎_elim
    (λ e.
    let both = and_parts (nat_le x u) _ e in
    let rest = and_parts (nat_lt u y) _ both.1 in
    inr (cond-true _ 1 0 e, leb-true x u both.0, ltb-true u y rest.0, int_lt_true _ _ rest.1))
    (λ e. inl (cond-false _ 1 0 e))
    (cases_Bool (nat_le x u && (nat_lt u y && int_lt (pos 0) (turn ps u v x y))))

-- what a side adds to the sides that go forth over the cut, where u to v is counted too
abbrev reach : List Point → ℕ → ℕ → ℕ → ℕ → ℕ
reach ps u v x y = pass ps u v (x, y) + hit u v (x, y)

-- u to v itself does not go over the cut: it ends on it
turn_own : (ps : List Point) (u v x y : ℕ) → x ≡ u → y ≡ v → turn ps u v x y ≡ pos 0
turn_own ps u v x y e f =
    let own : mark u v x ≡ y = cond-true (x == u) v u (eq-eqb x u e) ∙ sym f in
    ap (λ z. orient (point_at ps x) (point_at ps z) (point_at ps y)) own ∙ orient_last_twice (point_at ps x) (point_at ps y)

reach_cases : (ps : List Point) (u v x y : ℕ) → u < v → (reach ps u v x y ≡ 0) ⊎ ((reach ps u v x y ≡ 1) × IsOver ps u v x y)
reach_cases ps u v x y u_v =
    ⊎_elim
    (λ no_hit. ⊎_elim
    (λ none. inl (omega arith))
    (λ one. inr (omega (arith, one.0), record { low = one.1; high = one.2; up = omega (arith, ints, one.3) }))
    (pass_cases ps u v x y))
    (λ some.
    let (e, f) = hit-some u v x y some in
    let own = turn_own ps u v x y e f in
    let counted : hit u v (x, y) ≡ 1 = ap (λ n. hit u v (n, y)) e ∙ (ap (λ n. hit u v (u, n)) f ∙ hit_same u v) in
    ⊎_elim
    (λ none. inr (omega arith, record { low = omega arith; high = omega arith; up = omega (arith, ints) }))
    (λ one. absurd (omega (arith, ints, one.3)))
    (pass_cases ps u v x y))
    (cases_lt (hit u v (x, y)) 1)

reach_none : (ps : List Point) (u v x y : ℕ) → u < v → ¬ IsOver ps u v x y → reach ps u v x y ≡ 0
reach_none ps u v x y u_v out = ⊎_elim (λ none. none) (λ over. absurd (out over.1)) (reach_cases ps u v x y u_v)

-- seen from a point that comes after them all, a turn to the left and one that is not to the right are one to the left
turn_back_strict : (o a b c : Point) → Precedes a o → Precedes b o → Precedes c o → pos 0 <ℤ orient o a b → pos 0 ≤ℤ orient o b c → pos 0 <ℤ orient o a c
turn_back_strict o a b c ha hb hc =
    rw (orient_back o a b, orient_back o b c, orient_back o a c)
    (λ ab bc. cross_strict _ _ _ _ _ _ (forward_from a o ha) (forward_from b o hb) (forward_from c o hc) ab bc)

-- a triangle to the left of its sides, with a the first corner
record IsLeftOf (ps : List Point) (a b c : ℕ) : Type 0 where
  pub first_b : a < b
  pub first_c : a < c
  pub b_in : b < length ps
  pub c_in : c < length ps
  pub left : pos 0 <ℤ orient (point_at ps a) (point_at ps b) (point_at ps c)

module _ (ps : List Point) (u v : ℕ) (s : IsPointSet ps) (up : u < v) (v_in : v < length ps) where
  before : (i j : ℕ) → i < j → j < length ps → Precedes (point_at ps i) (point_at ps j)
  before i j l j_in = s.ascending i j _ l j_in

  -- the point that tells comes after the side's beginning
  mark_after : (x : ℕ) → x ≤ u → (x < mark u v x) × (mark u v x < length ps)
  mark_after x low =
      ⊎_elim
      (λ l. let e : mark u v x ≡ u = cond-false (x == u) v u (ne_eqb x u (λ e. absurd (omega arith))) in (omega arith, omega arith))
      (λ l. let e : mark u v x ≡ v = cond-true (x == u) v u (eq-eqb x u (omega arith)) in (omega arith, omega arith))
      (cases_lt x u)

  mark_below : (x : ℕ) → x < u → mark u v x ≡ u
  mark_below x l = cond-false (x == u) v u (ne_eqb x u (λ e. absurd (omega arith)))

  -- where the first side goes over the cut, the last one goes back over it if it reaches as far
  over_first : (a b c : ℕ) → IsLeftOf ps a b c → IsOver ps u v a b → u < c → pass ps u v (a, c) ≡ 1
  over_first a b c t o u_c =
      let m = mark_after a o.low in
      pass_one ps u v a c o.low u_c
      (turn_strict_last (point_at ps a) (point_at ps (mark u v a)) (point_at ps b) (point_at ps c) (before a (mark u v a) m.0 m.1)
      (before a b t.first_b t.b_in) (before a c t.first_c t.c_in) o.up t.left)

  -- where the second side does, the last one goes back over it
  over_second : (a b c : ℕ) → IsLeftOf ps a b c → IsOver ps u v b c → pass ps u v (a, c) ≡ 1
  over_second a b c t o =
      let low = t.first_b in
      let ob = o.low in
      let oc = o.high in
      let P : ℕ → Point = point_at ps in
      let a_u : a < u = omega arith in
      let seen : pos 0 <ℤ orient (P a) (P u) (P c) = ⊎_elim
      (λ (b_u : b < u).
      let e = mark_below b b_u in
      let o_up : pos 0 ≤ℤ orient (P b) (P u) (P c) = subst (λ (k : ℕ). pos 0 ≤ℤ orient (P b) (P k) (P c)) e o.up in
      let ab = t.left in
      let ct = orient_turned (P c) (P a) (P b) in
      let cb = orient_turned (P c) (P b) (P u) in
      let cu = orient_turned (P c) (P a) (P u) in
      let last = turn_back_strict (P c) (P a) (P b) (P u) (before a c t.first_c t.c_in) (before b c (omega arith) t.c_in) (before u c oc t.c_in) (omega (arith, ints)) (omega (arith, ints)) in
      omega (arith, ints))
      (λ (u_b : u ≤ b). let e : b ≡ u = omega arith in subst (λ (k : ℕ). pos 0 <ℤ orient (P a) (P k) (P c)) e t.left)
      (cases_lt b u) in
      pass_one ps u v a c (omega arith) oc (rw (mark_below a a_u) seen)

  -- where the first side does, and the last one does not reach as far, the second goes back over it
  over_third : (a b c : ℕ) → IsLeftOf ps a b c → IsOver ps u v a b → c ≤ u → pass ps u v (c, b) ≡ 1
  over_third a b c t o c_u =
      let low = t.first_c in
      let ob = o.high in
      let P : ℕ → Point = point_at ps in
      let a_u : a < u = omega arith in
      let o_up : pos 0 ≤ℤ orient (P a) (P u) (P b) = subst (λ (k : ℕ). pos 0 ≤ℤ orient (P a) (P k) (P b)) (mark_below a a_u) o.up in
      let ab = t.left in
      ⊎_elim
      (λ (l : c < u).
      let bc = orient_turned (P a) (P b) (P c) in
      let ba = orient_turned (P b) (P a) (P u) in
      let bu = orient_turned (P b) (P c) (P u) in
      let last = turn_back_strict (P b) (P c) (P a) (P u) (before c b (omega arith) t.b_in) (before a b t.first_b t.b_in) (before u b ob t.b_in) (omega (arith, ints)) (omega (arith, ints)) in
      pass_one ps u v c b c_u ob (rw (mark_below c l) (omega (arith, ints))))
      (λ (l : u ≤ c).
      let e : u ≡ c = omega arith in
      let flat : pos 0 ≤ℤ orient (P a) (P c) (P b) = subst (λ (k : ℕ). pos 0 ≤ℤ orient (P a) (P k) (P b)) e o_up in
      absurd (omega (arith, ints, orient_swapped_last (P a) (P b) (P c))))
      (cases_lt c u)

  -- so with each side that goes over the cut, or is u to v, one goes back over it
  over_back : (a b c : ℕ) → IsLeftOf ps a b c
      → reach ps u v a b + reach ps u v b c + reach ps u v c a ≤ pass ps u v (b, a) + pass ps u v (c, b) + pass ps u v (a, c)
  over_back a b c t =
      let falls = reach_none ps u v c a up (λ o. omega (arith, o.low, o.high, t.first_c)) in
      ⊎_elim
      (λ none. ⊎_elim
      (λ none_too. omega arith)
      (λ second. omega (arith, second.0, over_second a b c t second.1))
      (reach_cases ps u v b c up))
      (λ first.
      let o = first.1 in
      let not_both = reach_none ps u v b c up (λ k. omega (arith, k.low, o.high)) in
      ⊎_elim
      (λ (l : u < c). omega (arith, first.0, over_first a b c t o l))
      (λ (l : c ≤ u). omega (arith, first.0, over_third a b c t o l))
      (cases_lt u c))
      (reach_cases ps u v a b up)

  pub over_triangle : (t : Tri) → IsEmpty ps t
      → sum_by (pass ps u v) (sides t) + sum_by (hit u v) (sides t) ≤ sum_by (λ x. pass ps u v (turned x)) (sides t)
  over_triangle t h =
      let own : HasCorners t t.a t.b t.c = inl (refl, refl, refl) in
      omega (
        arith,
        sum_by-sides (pass ps u v) t t.a t.b t.c own,
        sum_by-sides (hit u v) t t.a t.b t.c own,
        sum_by-sides (λ x. pass ps u v (turned x)) t t.a t.b t.c own,
        over_back t.a t.b t.c (record { first_b = t.below_b; first_c = t.below_c; b_in = h.b_in; c_in = h.c_in; left = h.turns_left }),
      )
