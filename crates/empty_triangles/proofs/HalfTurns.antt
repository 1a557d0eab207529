-- Turns that all stay in one half turn.
use Rattle.std.proofs.Common.{◌≡◌, ℤ, pos, ◌-ℤ◌, ◌≤ℤ◌, ◌<ℤ◌, arith, [], ◌∷◌, sym, subst, ◌∙◌}
use Rattle.std.proofs.lemmas.Int.{ints}
use Rattle.exact_predicates.specs.declared.point.Point.{Point}
use Rattle.exact_predicates.specs.Plane.{orient}
use Rattle.exact_predicates.proofs.Ring.{var, less, times, ring}
use Rattle.exact_predicates.proofs.Orientation.{coordinates, orient_term, orient_turned}
use Rattle.exact_predicates.proofs.HalfPlane.{cross, cross_onward, cross_swap, orient_at_second, orient_back}

-- the turn at the first of three points
at_first : (p q r : Point) → orient p q r ≡ cross (q.x -ℤ p.x) (q.y -ℤ p.y) (r.x -ℤ p.x) (r.y -ℤ p.y)
unfolding orient
at_first p q r =
    ring (coordinates (p ∷ q ∷ r ∷ [])) (orient_term 0 2 4)
    (less (times (less (var 2) (var 0)) (less (var 5) (var 1))) (times (less (var 3) (var 1)) (less (var 4) (var 0))))
    (omega arith)

-- seen from a, the point j is followed to the left by k, and k by x and y
module _ (a j k x y : Point) (jk : pos 0 <ℤ orient a j k) (kx : pos 0 <ℤ orient a k x) (ky : pos 0 <ℤ orient a k y) where
  u_d : pos 0 <ℤ cross (k.x -ℤ a.x) (k.y -ℤ a.y) (k.x -ℤ j.x) (k.y -ℤ j.y)
  u_d = subst (λ (z : ℤ). pos 0 <ℤ z) (orient_turned k a j ∙ orient_back k a j) jk

  u_x : pos 0 <ℤ cross (k.x -ℤ a.x) (k.y -ℤ a.y) (x.x -ℤ k.x) (x.y -ℤ k.y)
  u_x = subst (λ (z : ℤ). pos 0 <ℤ z) (orient_at_second a k x) kx

  u_y : pos 0 <ℤ cross (k.x -ℤ a.x) (k.y -ℤ a.y) (y.x -ℤ k.x) (y.y -ℤ k.y)
  u_y = subst (λ (z : ℤ). pos 0 <ℤ z) (orient_at_second a k y) ky

  -- where x is ahead of k, seen from j, so is y, which is to the left of x, seen from k
  pub ahead_rises : pos 0 <ℤ orient j k x → pos 0 <ℤ orient k x y → pos 0 <ℤ orient j k y
  ahead_rises h t =
      let e = orient_at_second j k x in
      let f = at_first k x y in
      let g = orient_at_second j k y in
      subst (λ (z : ℤ). pos 0 <ℤ z) (sym g)
      (cross_onward (k.x -ℤ a.x) (k.y -ℤ a.y) (k.x -ℤ j.x) (k.y -ℤ j.y) (x.x -ℤ k.x) (x.y -ℤ k.y) (y.x -ℤ k.x) (y.y -ℤ k.y) u_d u_x u_y (omega (arith, ints, e, h)) (subst (λ (z : ℤ). pos 0 <ℤ z) f t))

  -- where y is ahead of k, seen from j, and x is not, y is to the left of x, seen from k
  pub ahead_back : orient j k x ≤ℤ pos 0 → pos 0 <ℤ orient j k y → pos 0 <ℤ orient k x y
  ahead_back h t =
      let e = orient_at_second j k x in
      let f = at_first k x y in
      let swap = cross_swap (k.x -ℤ j.x) (k.y -ℤ j.y) (x.x -ℤ k.x) (x.y -ℤ k.y) in
      subst (λ (z : ℤ). pos 0 <ℤ z) (sym f)
      (cross_onward (k.x -ℤ a.x) (k.y -ℤ a.y) (x.x -ℤ k.x) (x.y -ℤ k.y) (k.x -ℤ j.x) (k.y -ℤ j.y) (y.x -ℤ k.x) (y.y -ℤ k.y) u_x u_d u_y (omega (arith, ints, e, h)) (subst (λ (z : ℤ). pos 0 <ℤ z) (orient_at_second j k y) t))

-- seen from i, all of j, k and m lie to the right of a
pub ahead_through : (a i j k m : Point) → pos 0 <ℤ orient a j i → pos 0 <ℤ orient a k i → pos 0 <ℤ orient a m i → pos 0 <ℤ orient j k i → pos 0 <ℤ orient k m i → pos 0 <ℤ orient j m i
ahead_through a i j k m ji ki mi jk km =
    back j m
    (cross_onward (i.x -ℤ a.x) (i.y -ℤ a.y) (i.x -ℤ j.x) (i.y -ℤ j.y) (i.x -ℤ k.x) (i.y -ℤ k.y) (i.x -ℤ m.x) (i.y -ℤ m.y) (there a j ji) (there a k ki) (there a m mi)
    (let t = there j k jk in omega (arith, ints)) (there k m km))
  where
    there : (p q : Point) → pos 0 <ℤ orient p q i → pos 0 <ℤ cross (i.x -ℤ p.x) (i.y -ℤ p.y) (i.x -ℤ q.x) (i.y -ℤ q.y)
    there p q h = subst (λ (z : ℤ). pos 0 <ℤ z) (orient_turned i p q ∙ orient_back i p q) h

    back : (p q : Point) → pos 0 <ℤ cross (i.x -ℤ p.x) (i.y -ℤ p.y) (i.x -ℤ q.x) (i.y -ℤ q.y) → pos 0 <ℤ orient p q i
    back p q h = subst (λ (z : ℤ). pos 0 <ℤ z) (sym (orient_turned i p q ∙ orient_back i p q)) h
