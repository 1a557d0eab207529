-- What a flip does to sums over the sides and over the edges of a list of triangles: one diagonal gives way to the other.
use Rattle.std.proofs.Common.{◌≡◌, ◌≢◌, ℕ, ◌+◌, ◌*◌, ◌<◌, ◌≤◌, false, cond, List, length, get_or, set, sum_by, filter, flat_map, arith, ap, sym, ◌∙◌, ⊎_elim, pos, ◌≤ℤ◌}
use Rattle.std.proofs.lemmas.Bool.{cases_Bool, cases_order}
use Rattle.std.proofs.lemmas.Int.{ints}
use Rattle.std.proofs.lemmas.List.{get_or-set_other, length-set}
use Rattle.std.proofs.lemmas.List.Sums.{sum_by-append, sum_by-set}
use Rattle.exact_predicates.specs.declared.point.Point.{Point}
use Rattle.exact_predicates.specs.declared.tri.Tri.{Tri}
use Rattle.exact_predicates.specs.Flip.{IsFlip, IsShortening}
use Rattle.exact_predicates.specs.Hull.{ring_pairs, IsHullPair, IsHull}
use Rattle.exact_predicates.specs.Plane.{orient, AreApart}
use Rattle.exact_predicates.specs.PointSet.{point_at}
use Rattle.exact_predicates.specs.Triangulation.{sides, hit, side_count, is_inner, edges, IsTriangulation}
use Rattle.exact_predicates.proofs.Orientation.{orient_swapped}
use Rattle.exact_predicates.proofs.Pairs.{hit_turned, hit_none, is_inner_decides, side_of_member}
use Rattle.exact_predicates.proofs.Sides.{sum_by-filter, sum_by-flat_map, sum_by-sides}

-- a flip changes no number of triangles
pub length-flip : (old new : List Tri) (u v a b : ℕ) → IsFlip old new u v a b → length new ≡ length old
length-flip old new u v a b h =
    ap (λ (l : List Tri). length l) h.after ∙ (length-set (set old h.i h.top) h.j h.bottom ∙ length-set old h.i h.top)

-- a sum over all sides changes by the two diagonals
pub sum_by-flip : (f : ℕ × ℕ → ℕ) (old new : List Tri) (u v a b : ℕ) → IsFlip old new u v a b
    → sum_by f (flat_map sides new) + (f (u, v) + f (v, u)) ≡ sum_by f (flat_map sides old) + (f (a, b) + f (b, a))
sum_by-flip f old new u v a b h =
    let g : Tri → ℕ = λ t. sum_by f (sides t) in
    let mid = set old h.i h.top in
    let first = sum_by-set g old h.i h.top h.left h.i_in in
    let second = sum_by-set g mid h.j h.bottom h.right (omega (arith, length-set old h.i h.top, h.j_in)) in
    let stays : get_or mid h.j h.right ≡ h.right = get_or-set_other old h.i h.j h.top h.right (λ e. h.i_j (sym e)) ∙ h.right_at in
    rw (h.after, sum_by-flat_map f sides (set mid h.j h.bottom), sum_by-flat_map f sides old)
    (omega (
      arith,
      first,
      second,
      ap g stays,
      ap g h.left_at,
      sum_by-sides f h.left u v a h.left_is,
      sum_by-sides f h.right v u b h.right_is,
      sum_by-sides f h.top u b a h.top_is,
      sum_by-sides f h.bottom v a b h.bottom_is,
    ))

side_count-flip : (old new : List Tri) (u v a b x y : ℕ) → IsFlip old new u v a b
    → side_count new x y + (hit x y (u, v) + hit x y (v, u)) ≡ side_count old x y + (hit x y (a, b) + hit x y (b, a))
side_count-flip old new u v a b x y h = sum_by-flip (hit x y) old new u v a b h

-- uv is no edge of the hull
pub record AreInner (hull : List ℕ) (u v : ℕ) : Type 0 where
  pub forth : ¬ IsHullPair hull u v
  pub back : ¬ IsHullPair hull v u

-- a diagonal that two triangles share is none
pub AreInner-old : (ps : List Point) (hull : List ℕ) (old new : List Tri) (u v a b : ℕ)
    → IsTriangulation ps hull old → IsFlip old new u v a b → AreInner hull u v
AreInner-old ps hull old new u v a b t h =
    let uv = side_of_member old h.i h.left u v a h.i_in h.left_at h.left_is in
    let vu = side_of_member old h.j h.right v u b h.j_in h.right_at h.right_is in
    record {
      forth = λ p. absurd (omega (arith, t.none_outside u v p));
      back = λ p. absurd (omega (arith, t.none_outside v u p));
    }

apart_not_left : (p q r s : Point) → AreApart p q r s → pos 0 ≤ℤ orient p q r → pos 0 ≤ℤ orient p q s → ⊥
apart_not_left p q r s apart r_left s_left =
    ⊎_elim (λ e. let x = e.0 in omega (arith, ints)) (λ e. let x = e.1 in omega (arith, ints)) apart

-- and neither is one that has points strictly on both of its sides
pub AreInner-new : (ps : List Point) (hull : List ℕ) (u v a b : ℕ)
    → IsHull ps hull → u < length ps → v < length ps → IsShortening ps u v a b → AreInner hull a b
AreInner-new ps hull u v a b h u_in v_in s =
    let pu = point_at ps u in
    let pv = point_at ps v in
    let pa = point_at ps a in
    let pb = point_at ps b in
    record {
      forth = λ p. apart_not_left pa pb pu pv s.convex.by_other (h.none_right a b u p u_in) (h.none_right a b v p v_in);
      back = λ p.
          let hu = h.none_right b a u p u_in in
          let hv = h.none_right b a v p v_in in
          ⊎_elim
          (λ e. let x = e.1 in omega (arith, ints, orient_swapped pa pb pv))
          (λ e. let x = e.0 in omega (arith, ints, orient_swapped pa pb pu))
          s.convex.by_other;
    }

-- the parts of a triangulation that count
pub record IsBalanced (ps : List Point) (hull : List ℕ) (tris : List Tri) : Type 0 where
  pub count : length tris + length hull + 2 ≡ 2 * length ps
  pub hull_once : (x y : ℕ) → IsHullPair hull x y → side_count tris x y ≡ 1
  pub none_outside : (x y : ℕ) → IsHullPair hull x y → side_count tris y x ≡ 0
  pub balanced : (x y : ℕ) → x ≢ y → ¬ IsHullPair hull x y → ¬ IsHullPair hull y x → side_count tris x y ≡ side_count tris y x

-- no side of an inner edge is a pair of the hull
miss : (hull : List ℕ) (u v x y : ℕ) → AreInner hull u v → IsHullPair hull x y → (hit x y (u, v) ≡ 0) × (hit x y (v, u) ≡ 0)
miss hull u v x y i p =
    (hit_none x y u v (λ e. i.forth (rw (e.0, e.1) p)), hit_none x y v u (λ e. i.back (rw (e.0, e.1) p)))

-- they stay, where both diagonals are inner
pub IsBalanced-flip : (ps : List Point) (hull : List ℕ) (old new : List Tri) (u v a b : ℕ)
    → AreInner hull u v → AreInner hull a b → IsTriangulation ps hull old → IsFlip old new u v a b → IsBalanced ps hull new
IsBalanced-flip ps hull old new u v a b i j t f =
    let c : (x y : ℕ) → side_count new x y + (hit x y (u, v) + hit x y (v, u)) ≡ side_count old x y + (hit x y (a, b) + hit x y (b, a))
    = λ x y. side_count-flip old new u v a b x y f in
    record {
      count = omega (arith, length-flip old new u v a b f, t.count);
      hull_once = λ x y p.
          let (m, n) = miss hull u v x y i p in
          let (k, l) = miss hull a b x y j p in
          omega (arith, c x y, t.hull_once x y p);
      none_outside = λ x y p.
          let m = miss hull u v x y i p in
          let k = miss hull a b x y j p in
          omega (arith, c y x, t.none_outside x y p, hit_turned y x u v, hit_turned y x v u, hit_turned y x a b, hit_turned y x b a);
      balanced = λ x y apart p q.
          omega (arith, c x y, c y x, t.balanced x y apart p q, hit_turned y x u v, hit_turned y x v u, hit_turned y x a b, hit_turned y x b a);
    }

not_up : (hull : List ℕ) (x y : ℕ) → y ≤ x → is_inner hull (x, y) ≡ false
not_up hull x y h =
    ⊎_elim (λ yes. absurd (omega (arith, ((is_inner_decides hull x y).0 yes).0))) (λ no. no) (cases_Bool (is_inner hull (x, y)))

-- an inner edge is measured once, whichever way its sides run
measured : (hull : List ℕ) (f : ℕ × ℕ → ℕ) (u v : ℕ) → ((x y : ℕ) → f (x, y) ≡ f (y, x)) → u ≢ v → AreInner hull u v
    → cond (is_inner hull (u, v)) (f (u, v)) 0 + cond (is_inner hull (v, u)) (f (v, u)) 0 ≡ f (u, v)
measured hull f u v symmetric apart i =
    ⊎_elim
    (λ e. absurd (apart e))
    (λ o. ⊎_elim
    (λ l.
    let back : is_inner hull (v, u) ≡ false = not_up hull v u (omega arith) in
    rw ((is_inner_decides hull u v).1 (l, i.forth), back) (omega arith))
    (λ l.
    let forth : is_inner hull (u, v) ≡ false = not_up hull u v (omega arith) in
    rw (forth, (is_inner_decides hull v u).1 (l, i.back)) (omega (arith, symmetric u v)))
    o)
    (cases_order u v)

-- a sum of any symmetric measure over the edges, after a flip of one inner diagonal for another
pub sum_by-edges-flip : (hull : List ℕ) (old new : List Tri) (f : ℕ × ℕ → ℕ) (u v a b : ℕ)
    → ((x y : ℕ) → f (x, y) ≡ f (y, x)) → AreInner hull u v → AreInner hull a b → u ≢ v → a ≢ b → IsFlip old new u v a b
    → sum_by f (edges hull new) + f (u, v) ≡ sum_by f (edges hull old) + f (a, b)
sum_by-edges-flip hull old new f u v a b symmetric i j uv ab h =
    let g : ℕ × ℕ → ℕ = λ s. cond (is_inner hull s) (f s) 0 in
    omega (
      arith,
      sum_by-append f (ring_pairs hull) (filter (is_inner hull) (flat_map sides new)),
      sum_by-append f (ring_pairs hull) (filter (is_inner hull) (flat_map sides old)),
      sum_by-filter f (is_inner hull) (flat_map sides new),
      sum_by-filter f (is_inner hull) (flat_map sides old),
      sum_by-flip g old new u v a b h,
      measured hull f u v symmetric uv i,
      measured hull f a b symmetric ab j,
    )
