-- A strictly convex quadrilateral: where the two triangles on one diagonal are empty, so are those on the other.
use Rattle.std.proofs.Common.{◌≡◌, ℕ, List, pos, ◌≤ℤ◌, ◌<ℤ◌, arith, subst, ⊎_elim, ◌⊎◌, inl, inr}
use Rattle.std.proofs.lemmas.Int.{ints, by_lt_z}
use Rattle.exact_predicates.specs.declared.point.Point.{Point}
use Rattle.exact_predicates.specs.Plane.{orient, Crosses, IsInClosedTriangle}
use Rattle.exact_predicates.specs.PointSet.{point_at}
use Rattle.exact_predicates.proofs.Corners.{IsBare}
use Rattle.exact_predicates.proofs.Orientation.{orient_turned, orient_swapped, orient_four, orient_last_twice}
use Rattle.exact_predicates.proofs.Triangles.{triangle_left_of}

-- u, b, v, a is a strictly convex quadrilateral: the two triangles on uv and the two on ab turn to the left
pub record IsQuad (u v a b : Point) : Type 0 where
  pub uva : pos 0 <ℤ orient u v a
  pub vub : pos 0 <ℤ orient v u b
  pub uba : pos 0 <ℤ orient u b a
  pub vab : pos 0 <ℤ orient v a b

pub IsQuad-convex : (u v a b : Point) → pos 0 <ℤ orient u v a → pos 0 <ℤ orient v u b → Crosses u v a b → IsQuad u v a b
IsQuad-convex u v a b l r c =
    let area = orient_four u v a b in
    let back = orient_swapped u v b in
    let top = orient_turned a u b in
    let e1 = orient_turned v a b in
    let e2 = orient_swapped a b u in
    let e3 = orient_turned u b a in
    ⊎_elim
    (λ h. let h0 = h.0 in let h1 = h.1 in record { uva = l; vub = r; uba = omega (arith, ints); vab = omega (arith, ints) })
    (λ h. let h0 = h.0 in let h1 = h.1 in absurd (omega (arith, ints)))
    c.by_other

pub IsQuad-turned : (u v a b : Point) → IsQuad u v a b → IsQuad v u b a
IsQuad-turned u v a b h = record { uva = h.vub; vub = h.uva; uba = h.vab; vab = h.uba }

-- a point of the triangle uba lies in uva, or strictly on the other side of uv and in vub
in_either : (u v a b r : Point) → IsQuad u v a b → IsInClosedTriangle u b a r
    → IsInClosedTriangle u v a r ⊎ (IsInClosedTriangle v u b r × (orient u v r <ℤ pos 0))
in_either u v a b r q i =
    let q1 = q.uva in
    let q2 = q.vub in
    let q4 = q.vab in
    by_lt_z (orient u v r) (pos 0)
    (λ l. inr (
      record {
        left_of_ab = omega (arith, ints, orient_swapped u v r);
        left_of_bc = i.left_of_ab;
        left_of_ca = triangle_left_of u b a r b v q.uba i (omega (arith, ints, orient_turned b v u)) (omega (arith, ints, orient_last_twice v b, orient_turned b v b)) (omega (arith, ints, orient_turned b v a));
      },
      l,
    ))
    (λ g. inl (
    record {
      left_of_ab = g;
      left_of_bc = triangle_left_of u b a r v a q.uba i (omega (arith, ints, orient_turned u v a)) (omega (arith, ints)) (omega (arith, ints, orient_last_twice v a));
      left_of_ca = i.left_of_ca;
    }
    ))

-- the triangle uba is empty where uva and vub are
pub IsBare-flip : (ps : List Point) (u v a b : ℕ) → IsBare ps u v a → IsBare ps v u b
    → IsQuad (point_at ps u) (point_at ps v) (point_at ps a) (point_at ps b) → IsBare ps u b a
IsBare-flip ps u v a b l r q =
    record {
      u_in = l.u_in;
      v_in = r.w_in;
      w_in = l.w_in;
      turns_left = q.uba;
      bare = λ x x_in i. ⊎_elim
          (λ old. ⊎_elim
          (λ e. inl e)
          (λ d. ⊎_elim (λ e. absurd (not_v x e i.left_of_bc)) (λ e. inr (inr e)) d)
          (l.bare x x_in old))
          (λ (old, side). ⊎_elim
          (λ e. absurd (off_line x e side))
          (λ d. ⊎_elim (λ e. inl e) (λ e. inr (inl e)) d)
          (r.bare x x_in old))
          (in_either (point_at ps u) (point_at ps v) (point_at ps a) (point_at ps b) (point_at ps x) q i);
    }
  where
    not_v : (x : ℕ) → x ≡ v → pos 0 ≤ℤ orient (point_at ps b) (point_at ps a) (point_at ps x) → ⊥
    not_v x e h =
        let k = subst (λ y. pos 0 ≤ℤ orient (point_at ps b) (point_at ps a) (point_at ps y)) e h in
        let vab = q.vab in
        omega (arith, ints, orient_swapped (point_at ps a) (point_at ps b) (point_at ps v), orient_turned (point_at ps v) (point_at ps a) (point_at ps b))

    off_line : (x : ℕ) → x ≡ v → orient (point_at ps u) (point_at ps v) (point_at ps x) <ℤ pos 0 → ⊥
    off_line x e h =
        let k = subst (λ y. orient (point_at ps u) (point_at ps v) (point_at ps y) <ℤ pos 0) e h in
        omega (arith, ints, orient_last_twice (point_at ps u) (point_at ps v))
