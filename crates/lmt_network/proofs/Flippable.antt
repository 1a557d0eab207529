-- A triangulation is flip-minimal, or some flip makes it shorter.
use Rattle.std.proofs.Common.{◌≡◌, ◌≢◌, ◌⊎◌, ℕ, ◌<◌, ◌≤◌, List, [], ◌∷◌, length, get_or, set, flat_map, All, Contains, ℤ, pos, ◌<ℤ◌, arith, refl, ap, sym, ◌∙◌, subst, ⊎_elim, inl, inr}
use Rattle.std.proofs.lemmas.Bool.{cases_lt, false≢true}
use Rattle.std.proofs.lemmas.Int.{ints, by_lt_z}
use Rattle.std.proofs.lemmas.List.{get_or_default}
use Rattle.std.proofs.lemmas.List.Elements.{All-cons}
use Rattle.exact_predicates.specs.declared.point.Point.{Point}
use Rattle.exact_predicates.specs.declared.tri.Tri.{Tri}
use Rattle.exact_predicates.specs.Flip.{IsFlip, IsFlipMinimal, IsMinimalBetween, IsMinimalIn, IsShortening}
use Rattle.exact_predicates.specs.Hull.{IsHullPair}
use Rattle.exact_predicates.specs.Plane.{AreApart, Crosses, d2, orient}
use Rattle.exact_predicates.specs.PointSet.{point_at}
use Rattle.exact_predicates.specs.Triangulation.{HasCorners, IsTriangulation, is_inner, sides}
use Rattle.exact_predicates.proofs.Corners.{corners_differ}
use Rattle.exact_predicates.proofs.Flips.{apart_differ}
use Rattle.lmt_network.proofs.Entries.{is_on_hull_decides}
use Rattle.lmt_network.proofs.Filters.{count_from, count_to, filter-from, side_from}
use Rattle.exact_predicates.proofs.Corners.{turned_corners}
use Rattle.lmt_network.proofs.Picked.{Contains-here, Contains-later}
use Rattle.exact_predicates.proofs.SidesCounted.{inner_sides}
use Rattle.lmt_network.proofs.Slacks.{inner_off}

-- each element keeps P, or Q holds, where either is so at each
all_or : {X : Type 0} (P : X → Type 0) (Q : Type 0) (xs : List X) → ((x : X) → Contains xs x → P x ⊎ Q) → All P xs ⊎ Q
all_or P Q [] each = inl (λ k d l. absurd (omega arith))
all_or P Q (x ∷ xs) each =
    ⊎_elim
    (λ (first : P x). ⊎_elim
    (λ (rest : All P xs). inl (All-cons P x xs first rest))
    (λ (q : Q). inr q)
    (all_or P Q xs (λ y h. each y (Contains-later x y xs h))))
    (λ (q : Q). inr q)
    (each x (Contains-here x xs))

-- the triangle with these corners in this turn
tri_of : (u v w : ℕ) → u ≢ v → v ≢ w → w ≢ u → (t : Tri) × HasCorners t u v w
tri_of u v w uv vw wu =
    ⊎_elim
    (λ (l : u < v). ⊎_elim
    (λ (k : u < w). (record { a = u; b = v; c = w; below_b = l; below_c = k; apart = vw }, inl (refl, refl, refl)))
    (λ (k : w ≤ u). (record { a = w; b = u; c = v; below_b = omega arith; below_c = omega arith; apart = uv }, inr (inl (refl, refl, refl))))
    (cases_lt u w))
    (λ (l : v ≤ u). ⊎_elim
    (λ (k : v < w). (record { a = v; b = w; c = u; below_b = k; below_c = omega arith; apart = wu }, inr (inr (refl, refl, refl))))
    (λ (k : w ≤ v). (record { a = w; b = u; c = v; below_b = omega arith; below_c = omega arith; apart = uv }, inr (inl (refl, refl, refl))))
    (cases_lt v w))
    (cases_lt u v)

-- a triangle has a side one way only
one_way : (t : Tri) (u v a b : ℕ) → HasCorners t u v a → HasCorners t v u b → ⊥
one_way t u v a b h k =
    let bc = t.apart in
    ⊎_elim
    (λ e. ⊎_elim (λ f. omega (arith, e.0, e.1, f.0, f.1)) (λ g. ⊎_elim (λ f. omega (arith, e.0, e.1, f.0, f.1)) (λ f. omega (arith, e.0, e.1, f.0, f.1)) g) k)
    (λ d. ⊎_elim
    (λ e. ⊎_elim (λ f. omega (arith, e.0, e.1, f.0, f.1)) (λ g. ⊎_elim (λ f. omega (arith, e.0, e.1, f.0, f.1)) (λ f. omega (arith, e.0, e.1, f.0, f.1)) g) k)
    (λ e. ⊎_elim (λ f. omega (arith, e.0, e.1, f.0, f.1)) (λ g. ⊎_elim (λ f. omega (arith, e.0, e.1, f.0, f.1)) (λ f. omega (arith, e.0, e.1, f.0, f.1)) g) k)
    d)
    h

-- whether two signs are opposite
opposite_or_not : (x y : ℤ) → (((x <ℤ pos 0) × (pos 0 <ℤ y)) ⊎ ((pos 0 <ℤ x) × (y <ℤ pos 0))) ⊎ (¬ (((x <ℤ pos 0) × (pos 0 <ℤ y)) ⊎ ((pos 0 <ℤ x) × (y <ℤ pos 0))))
opposite_or_not x y =
    by_lt_z x (pos 0)
    (λ l. by_lt_z (pos 0) y
    (λ k. inl (inl (l, k)))
    (λ k. inr (λ h. ⊎_elim (λ e. omega (arith, ints, e.1, k)) (λ e. omega (arith, ints, e.0, l)) h)))
    (λ l. by_lt_z (pos 0) x
    (λ m. by_lt_z y (pos 0)
    (λ k. inl (inr (m, k)))
    (λ k. inr (λ h. ⊎_elim (λ e. omega (arith, ints, e.0, l)) (λ e. omega (arith, ints, e.1, k)) h)))
    (λ m. inr (λ h. ⊎_elim (λ e. omega (arith, ints, e.0, l)) (λ e. omega (arith, ints, e.0, m)) h)))

crosses_or_not : (p q r s : Point) → Crosses p q r s ⊎ (¬ Crosses p q r s)
crosses_or_not p q r s =
    ⊎_elim
    (λ (line : AreApart p q r s). ⊎_elim
    (λ (other : AreApart r s p q). inl (record { by_line = line; by_other = other }))
    (λ none. inr (λ c. none c.by_other))
    (opposite_or_not (orient r s p) (orient r s q)))
    (λ none. inr (λ c. none c.by_line))
    (opposite_or_not (orient p q r) (orient p q s))

-- a flip that makes an edge shorter
pub record IsFlippable (ps : List Point) (tris : List Tri) : Type 0 where
  pub new : List Tri
  pub u : ℕ
  pub v : ℕ
  pub a : ℕ
  pub b : ℕ
  pub flip : IsFlip tris new u v a b
  pub shortening : IsShortening ps u v a b

-- an inner side is locally minimal, or it is flipped
minimal_or_flippable : (ps : List Point) (tris : List Tri) (u v a b i j : ℕ) (left right : Tri) → i < length tris → get_or tris i left ≡ left → HasCorners left u v a
    → j < length tris → get_or tris j right ≡ right → HasCorners right v u b → IsMinimalIn ps tris u v ⊎ IsFlippable ps tris
minimal_or_flippable ps tris u v a b i j left right i_in at_i left_is j_in at_j right_is =
    ⊎_elim
    (λ (c : Crosses (point_at ps u) (point_at ps v) (point_at ps a) (point_at ps b)). ⊎_elim
    (λ (l : d2 (point_at ps a) (point_at ps b) < d2 (point_at ps u) (point_at ps v)). inr (flipped (record { convex = c; shorter = l })))
    (λ (l : d2 (point_at ps u) (point_at ps v) ≤ d2 (point_at ps a) (point_at ps b)). inl (minimal (inr l)))
    (cases_lt (d2 (point_at ps a) (point_at ps b)) (d2 (point_at ps u) (point_at ps v))))
    (λ none. inl (minimal (inl none)))
    (crosses_or_not (point_at ps u) (point_at ps v) (point_at ps a) (point_at ps b))
  where
    minimal : IsMinimalBetween ps u v a b → IsMinimalIn ps tris u v
    minimal m = record { a = a; b = b; on_left = (i, left, i_in, at_i, left_is); on_right = (j, right, j_in, at_j, right_is); minimal = m }

    apart : i ≢ j
    apart e =
        let same : left ≡ right = sym at_i ∙ (get_or_default tris i left right i_in ∙ (ap (λ k. get_or tris k right) e ∙ at_j)) in
        one_way left u v a b left_is (subst (λ t. HasCorners t v u b) (sym same) right_is)

    flipped : IsShortening ps u v a b → IsFlippable ps tris
    flipped s =
        let a_b : a ≢ b = apart_differ (point_at ps u) (point_at ps v) (point_at ps) a b s.convex.by_line in
        let v_a = corners_differ left v a u (turned_corners left u v a left_is) in
        let a_u = corners_differ left a u v (turned_corners left v a u (turned_corners left u v a left_is)) in
        let u_b = corners_differ right u b v (turned_corners right v u b right_is) in
        let b_v = corners_differ right b v u (turned_corners right u b v (turned_corners right v u b right_is)) in
        let top = tri_of u b a u_b (λ e. a_b (sym e)) a_u in
        let bottom = tri_of v a b v_a a_b b_v in
        record {
          new = set (set tris i top.0) j bottom.0;
          u = u;
          v = v;
          a = a;
          b = b;
          flip = record {
            i = i;
            j = j;
            i_in = i_in;
            j_in = j_in;
            i_j = apart;
            left = left;
            right = right;
            left_at = at_i;
            right_at = at_j;
            left_is = left_is;
            right_is = right_is;
            top = top.0;
            bottom = bottom.0;
            top_is = top.1;
            bottom_is = bottom.1;
            after = refl;
          };
          shortening = s;
        }

-- and so for all of them
pub minimal_or_not : (ps : List Point) (hull : List ℕ) (tris : List Tri) → IsTriangulation ps hull tris → IsFlipMinimal ps hull tris ⊎ IsFlippable ps tris
minimal_or_not ps hull tris t = all_or (λ e. IsMinimalIn ps tris e.0 e.1) (IsFlippable ps tris) (inner_sides hull tris) (λ s h. at s.0 s.1 h)
  where
    at : (u v : ℕ) → Contains (inner_sides hull tris) (u, v) → IsMinimalIn ps tris u v ⊎ IsFlippable ps tris
    at u v h =
        let off = inner_off ps hull tris u v t h in
        let forth : ¬ IsHullPair hull u v = λ p. false≢true (sym off.0 ∙ (is_on_hull_decides hull u v).1 (inl p)) in
        let back : ¬ IsHullPair hull v u = λ p. false≢true (sym off.0 ∙ (is_on_hull_decides hull u v).1 (inr p)) in
        let there = (filter-from (is_inner hull) (flat_map sides tris) (u, v) h).0 in
        let balance = t.balanced u v (λ e. absurd (omega (arith, e, off.1))) forth back in
        let again = count_to (flat_map sides tris) v u (omega (arith, balance, count_from (flat_map sides tris) u v there)) in
        let (i, left, i_in, at_i, left_side) = side_from tris u v there in
        let (j, right, j_in, at_j, right_side) = side_from tris v u again in
        minimal_or_flippable ps tris u v left_side.0 right_side.0 i j left right i_in at_i left_side.1 j_in at_j right_side.1
