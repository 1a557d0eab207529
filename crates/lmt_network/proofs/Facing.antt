-- In a triangulation some triangle at each point faces each other point: it has it in its angle there.
use Rattle.std.proofs.Common.{◌≢◌, ◌⊎◌, ℕ, ◌<◌, ◌≤◌, List, length, Any, pos, ◌≤ℤ◌, ◌<ℤ◌, arith, sym, refl, ⊎_elim, inl, inr}
use Rattle.std.proofs.lemmas.Bool.{cases_lt}
use Rattle.std.proofs.lemmas.Int.{ints, by_lt_z}
use Rattle.std.proofs.lemmas.List.Elements.{All-contains}
use Rattle.exact_predicates.specs.declared.point.Point.{Point}
use Rattle.exact_predicates.specs.declared.tri.Tri.{Tri}
use Rattle.exact_predicates.specs.Hull.{IsHull}
use Rattle.exact_predicates.specs.Plane.{orient}
use Rattle.exact_predicates.specs.PointSet.{point_at}
use Rattle.exact_predicates.specs.Triangulation.{HasCorners, IsEmpty, IsTriangulation, side_count}
use Rattle.exact_predicates.proofs.Corners.{IsBare, IsBare-corners, corners_differ}
use Rattle.exact_predicates.proofs.Elements.{Any-weaker}
use Rattle.exact_predicates.proofs.Orientation.{orient_swapped, orient_swapped_last}
use Rattle.exact_predicates.proofs.Pairs.{side_of_member, pair_or_not}
use Rattle.lmt_network.proofs.Angles.{left_chain, right_chain}
use Rattle.lmt_network.proofs.Fans.{IsFan, fan_angle}
use Rattle.lmt_network.proofs.Filters.{side_from, count_to}
use Rattle.exact_predicates.proofs.Corners.{turned_corners}

-- some triangle has the corners u, x and y in this turn
abbrev pub HasTri : List Tri → ℕ → ℕ → ℕ → Type 0
HasTri tris u x y = Any (λ t. HasCorners t u x y) tris

pub HasTri-turned : (tris : List Tri) (u x y : ℕ) → HasTri tris u x y → HasTri tris x y u
HasTri-turned tris u x y h = Any-weaker (λ t. HasCorners t u x y) (λ t. HasCorners t x y u) (λ t c. turned_corners t u x y c) tris h

-- its sides are counted
side_counted : (tris : List Tri) (u x y : ℕ) → HasTri tris u x y → 1 ≤ side_count tris u x
side_counted tris u x y (k, t, k_in, at_k, c) = side_of_member tris k t u x y k_in at_k c

-- and a side that is counted is that of some triangle
counted_side : (tris : List Tri) (u x : ℕ) → 1 ≤ side_count tris u x → (y : ℕ) × HasTri tris u x y
counted_side tris u x l =
    let (k, t, k_in, at_k, side) = side_from tris u x (count_to _ u x l) in
    (side.0, (k, t, k_in, at_k, side.1))

pub HasTri-bare : (ps : List Point) (hull : List ℕ) (tris : List Tri) (u x y : ℕ) → IsTriangulation ps hull tris → HasTri tris u x y → (u ≢ x) × IsBare ps u x y
HasTri-bare ps hull tris u x y is (k, t, k_in, at_k, c) =
    (corners_differ t u x y c, IsBare-corners ps t u x y c (All-contains (IsEmpty ps) tris t is.empty (k, k_in, at_k)))

-- each point is the first corner of some triangle, turned
at_corner : (ps : List Point) (hull : List ℕ) (tris : List Tri) (u : ℕ) → IsTriangulation ps hull tris → u < length ps → (x y : ℕ) × HasTri tris u x y
at_corner ps hull tris u is u_in =
    let (k, t, k_in, at_k, c) = is.corners u u_in in
    ⊎_elim
    (λ e. (t.b, t.c, (k, t, k_in, at_k, inl (sym e, refl, refl))))
    (λ o. ⊎_elim
    (λ e. (t.c, t.a, (k, t, k_in, at_k, inr (inl (sym e, refl, refl)))))
    (λ e. (t.a, t.b, (k, t, k_in, at_k, inr (inr (sym e, refl, refl)))))
    o)
    c

-- a side with a point to its right is a side the other way round too
other_way : (ps : List Point) (hull : List ℕ) (tris : List Tri) (x y r : ℕ) → IsHull ps hull → IsTriangulation ps hull tris → x ≢ y → r < length ps
    → orient (point_at ps x) (point_at ps y) (point_at ps r) <ℤ pos 0 → 1 ≤ side_count tris x y → 1 ≤ side_count tris y x
other_way ps hull tris x y r hull_is is apart r_in right l =
    ⊎_elim
    (λ pair. let h = hull_is.none_right x y r pair r_in in absurd (omega (arith, ints)))
    (λ none. ⊎_elim
    (λ pair. omega (arith, is.hull_once y x pair))
    (λ none_back. omega (arith, is.balanced x y apart none none_back))
    (pair_or_not hull y x))
    (pair_or_not hull x y)

-- whether some triangle has this side
has_or_not : (tris : List Tri) (u x : ℕ) → ((y : ℕ) × HasTri tris u x y) ⊎ (¬ ((y : ℕ) × HasTri tris u x y))
has_or_not tris u x =
    ⊎_elim
    (λ none. inr (λ h. let l = side_counted tris u x h.0 h.1 in absurd (omega arith)))
    (λ l. inl (counted_side tris u x l))
    (cases_lt (side_count tris u x) 1)

-- the triangles at u, with the direction to v
fan : (ps : List Point) (hull : List ℕ) (tris : List Tri) (u v : ℕ) → IsHull ps hull → IsTriangulation ps hull tris → v < length ps
    → IsFan (length ps) v (λ x y. HasTri tris u x y) (λ x y. orient (point_at ps u) (point_at ps x) (point_at ps y))
fan ps hull tris u v hull_is is v_in =
    record {
      within = λ x y t. let bare = (HasTri-bare ps hull tris u x y is t).1 in bare.v_in;
      is = has_or_not tris u;
      left = λ x y t. let bare = (HasTri-bare ps hull tris u x y is t).1 in bare.turns_left;
      swap = λ x y. omega (arith, ints, orient_swapped_last (point_at ps u) (point_at ps x) (point_at ps y));
      chain = λ x y z. left_chain (point_at ps u) (point_at ps v) (point_at ps x) (point_at ps y) (point_at ps z);
      before = λ x y t l.
          let apart = (HasTri-bare ps hull tris u x y is t).0 in
          let back = other_way ps hull tris u x v hull_is is apart v_in (omega (arith, ints, orient_swapped_last (point_at ps u) (point_at ps v) (point_at ps x))) (side_counted tris u x y t) in
          let (z, s) = counted_side tris x u back in
          (z, HasTri-turned tris x u z s);
    }

-- the same in a mirror
mirrored_fan : (ps : List Point) (hull : List ℕ) (tris : List Tri) (u v : ℕ) → IsHull ps hull → IsTriangulation ps hull tris → v < length ps
    → IsFan (length ps) v (λ x y. HasTri tris u y x) (λ x y. orient (point_at ps u) (point_at ps y) (point_at ps x))
mirrored_fan ps hull tris u v hull_is is v_in =
    record {
      within = λ x y t. let bare = (HasTri-bare ps hull tris u y x is t).1 in bare.w_in;
      is = λ x. ⊎_elim
          (λ (h : (y : ℕ) × HasTri tris x u y). inl (h.0, HasTri-turned tris x u h.0 h.1))
          (λ none. inr (λ (h : (y : ℕ) × HasTri tris u y x). none (h.0, HasTri-turned tris h.0 x u (HasTri-turned tris u h.0 x h.1))))
          (has_or_not tris x u);
      left = λ x y t. let bare = (HasTri-bare ps hull tris u y x is t).1 in bare.turns_left;
      swap = λ x y. orient_swapped_last (point_at ps u) (point_at ps x) (point_at ps y);
      chain = λ x y z hx hy hz xy yz. right_chain (point_at ps u) (point_at ps v) (point_at ps z) (point_at ps y) (point_at ps x) hz hy hx yz xy;
      before = λ x y t l.
          let s = HasTri-turned tris y x u (HasTri-turned tris u y x t) in
          let apart = (HasTri-bare ps hull tris x u y is s).0 in
          let back = other_way ps hull tris x u v hull_is is apart v_in (omega (arith, ints, orient_swapped (point_at ps u) (point_at ps x) (point_at ps v))) (side_counted tris x u y s) in
          counted_side tris u x back;
    }

-- some triangle at u has v in its angle
pub facing : (ps : List Point) (hull : List ℕ) (tris : List Tri) (u v : ℕ) → IsHull ps hull → IsTriangulation ps hull tris → u < length ps → v < length ps
    → (x y : ℕ) × HasTri tris u x y × (pos 0 ≤ℤ orient (point_at ps u) (point_at ps x) (point_at ps v)) × (pos 0 ≤ℤ orient (point_at ps u) (point_at ps v) (point_at ps y))
facing ps hull tris u v hull_is is u_in v_in =
    let p = point_at ps u in
    let q = point_at ps v in
    let (x, y, t) = at_corner ps hull tris u is u_in in
    by_lt_z (pos 0) (orient p q (point_at ps x))
    (λ left.
    let (z, w, s, hz, hw) = fan_angle (length ps) v _ _ (fan ps hull tris u v hull_is is v_in) x y t left in
    (z, w, s, hz, omega (arith, ints)))
    (λ no_left. by_lt_z (pos 0) (orient p (point_at ps y) q)
    (λ right.
    let (z, w, s, hz, hw) = fan_angle (length ps) v _ _ (mirrored_fan ps hull tris u v hull_is is v_in) y x t right in
    (w, z, s, omega (arith, ints), hz))
    (λ no_right. (x, y, t, omega (arith, ints, orient_swapped_last p q (point_at ps x)), omega (arith, ints, orient_swapped_last p q (point_at ps y)))))
