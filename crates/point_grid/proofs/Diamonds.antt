-- A point that blocks the left side of p to q lies within each box that has p, q and the apex of the diamond.
use Rattle.std.proofs.Common.{◌≡◌, ◌*◌, ◌^◌, ◌≤◌, unsigned_abs, ℤ, pos, ◌+ℤ◌, ◌-ℤ◌, ◌*ℤ◌, ◌≤ℤ◌, ◌<ℤ◌, [], ◌∷◌, arith}
use Rattle.std.proofs.lemmas.Int.{ints}
use Rattle.std.proofs.Math.IntN.{zero-*ℤ}
use Rattle.exact_predicates.specs.declared.point.Point.{Point}
use Rattle.exact_predicates.specs.Blocking.{Blocks}
use Rattle.exact_predicates.specs.Plane.{orient, dot, IsInRange, IsBetween, IsInLeftDiamond}
use Rattle.exact_predicates.proofs.Blocking.{Blocks-between, Blocks-diamond, dot_parts}
use Rattle.exact_predicates.proofs.IntSigns.{mul-nonneg, nonneg-from-mul}
use Rattle.exact_predicates.proofs.Ring.{var, num, plus, less, times, ring}
use Rattle.point_grid.specs.declared.bounds.Bounds.{Bounds}
use Rattle.point_grid.specs.Regions.{IsWithinBounds}

-- with the weights of the three corners
parts : (s c d fd fp u : ℤ) → pos 4 *ℤ ((d *ℤ u) -ℤ ((s *ℤ fd) +ℤ (c *ℤ fp)))
    ≡ (((((pos 4 *ℤ (d -ℤ s)) -ℤ (pos 5 *ℤ c)) *ℤ u) +ℤ (((pos 4 *ℤ s) -ℤ (pos 5 *ℤ c)) *ℤ (u -ℤ fd))) +ℤ (c *ℤ ((pos 10 *ℤ u) -ℤ ((pos 5 *ℤ fd) +ℤ (pos 4 *ℤ fp)))))
parts s c d fd fp u =
    ring (s ∷ c ∷ d ∷ fd ∷ fp ∷ u ∷ [])
    (times (num (pos 4)) (less (times (var 2) (var 5)) (plus (times (var 0) (var 3)) (times (var 1) (var 4)))))
    (plus
    (plus
    (times (less (times (num (pos 4)) (less (var 2) (var 0))) (times (num (pos 5)) (var 1))) (var 5))
    (times (less (times (num (pos 4)) (var 0)) (times (num (pos 5)) (var 1))) (less (var 5) (var 3))))
    (times (var 1) (less (times (num (pos 10)) (var 5)) (plus (times (num (pos 5)) (var 3)) (times (num (pos 4)) (var 4))))))
    (omega arith)

product_less : (d u v : ℤ) → d *ℤ (u -ℤ v) ≡ (d *ℤ u) -ℤ (d *ℤ v)
product_less d u v = ring (d ∷ u ∷ v ∷ []) (times (var 0) (less (var 1) (var 2))) (less (times (var 0) (var 1)) (times (var 0) (var 2))) (omega arith)

-- how far a point is in some direction, by how far q and the apex are, as seen from p
at_most : (s c d fd fp u v : ℤ) → pos 0 <ℤ d → (pos 5 *ℤ c) ≤ℤ (pos 4 *ℤ s) → (pos 5 *ℤ c) ≤ℤ (pos 4 *ℤ (d -ℤ s)) → d *ℤ v ≡ (s *ℤ fd) +ℤ (c *ℤ fp) → pos 0 ≤ℤ u → fd ≤ℤ u
    → pos 0 ≤ℤ (c *ℤ ((pos 10 *ℤ u) -ℤ ((pos 5 *ℤ fd) +ℤ (pos 4 *ℤ fp)))) → v ≤ℤ u
at_most s c d fd fp u v big near far is from to apex =
    let first = mul-nonneg ((pos 4 *ℤ (d -ℤ s)) -ℤ (pos 5 *ℤ c)) u (omega (arith, ints)) from in
    let second = mul-nonneg ((pos 4 *ℤ s) -ℤ (pos 5 *ℤ c)) (u -ℤ fd) (omega (arith, ints)) (omega (arith, ints)) in
    let whole = parts s c d fd fp u in
    let apart = product_less d u v in
    let rest = nonneg-from-mul d (u -ℤ v) big (rw (apart, is) (four _ (rw whole (omega (arith, ints, first, second, apex))))) in
    omega (arith, ints, rest)
  where
    four : (x : ℤ) → pos 0 ≤ℤ (pos 4 *ℤ x) → pos 0 ≤ℤ x
    four x h = omega (arith, ints)

-- vectors to q and r: along x and along y
along_x : (ax ay bx by : ℤ) → ((ax *ℤ ax) +ℤ (ay *ℤ ay)) *ℤ bx ≡ (((ax *ℤ bx) +ℤ (ay *ℤ by)) *ℤ ax) +ℤ (((ax *ℤ by) -ℤ (ay *ℤ bx)) *ℤ (pos 0 -ℤ ay))
along_x ax ay bx by =
    ring (ax ∷ ay ∷ bx ∷ by ∷ [])
    (times (plus (times (var 0) (var 0)) (times (var 1) (var 1))) (var 2))
    (plus
    (times (plus (times (var 0) (var 2)) (times (var 1) (var 3))) (var 0))
    (times (less (times (var 0) (var 3)) (times (var 1) (var 2))) (less (num (pos 0)) (var 1))))
    (omega arith)

along_y : (ax ay bx by : ℤ) → ((ax *ℤ ax) +ℤ (ay *ℤ ay)) *ℤ by ≡ (((ax *ℤ bx) +ℤ (ay *ℤ by)) *ℤ ay) +ℤ (((ax *ℤ by) -ℤ (ay *ℤ bx)) *ℤ ax)
along_y ax ay bx by =
    ring (ax ∷ ay ∷ bx ∷ by ∷ [])
    (times (plus (times (var 0) (var 0)) (times (var 1) (var 1))) (var 3))
    (plus
    (times (plus (times (var 0) (var 2)) (times (var 1) (var 3))) (var 1))
    (times (less (times (var 0) (var 3)) (times (var 1) (var 2))) (var 0)))
    (omega arith)

weighed_x : (p q r : Point) → dot p q q *ℤ (r.x -ℤ p.x) ≡ (dot p q r *ℤ (q.x -ℤ p.x)) +ℤ (orient p q r *ℤ (pos 0 -ℤ (q.y -ℤ p.y)))
unfolding orient dot
weighed_x p q r = along_x (q.x -ℤ p.x) (q.y -ℤ p.y) (r.x -ℤ p.x) (r.y -ℤ p.y)

weighed_y : (p q r : Point) → dot p q q *ℤ (r.y -ℤ p.y) ≡ (dot p q r *ℤ (q.y -ℤ p.y)) +ℤ (orient p q r *ℤ (q.x -ℤ p.x))
unfolding orient dot
weighed_y p q r = along_y (q.x -ℤ p.x) (q.y -ℤ p.y) (r.x -ℤ p.x) (r.y -ℤ p.y)

-- the other way
turned_back : (s c d fd fp v : ℤ) → d *ℤ v ≡ (s *ℤ fd) +ℤ (c *ℤ fp) → d *ℤ (pos 0 -ℤ v) ≡ (s *ℤ (pos 0 -ℤ fd)) +ℤ (c *ℤ (pos 0 -ℤ fp))
turned_back s c d fd fp v h =
    let e = product_less d (pos 0) v in
    let f = product_less s (pos 0) fd in
    let g = product_less c (pos 0) fp in
    omega (arith, ints, h, e, f, g)

-- how much further u is than the apex, for a point that is not on pq
abbrev pub past_apex : ℤ → ℤ → ℤ → ℤ → ℤ
past_apex c fd fp u = c *ℤ ((pos 10 *ℤ u) -ℤ ((pos 5 *ℤ fd) +ℤ (pos 4 *ℤ fp)))

-- the apex is within the bounds, or r is on pq
pub record HoldsApex (p q r : Point) (b : Bounds) : Type 0 where
  pub left : pos 0 ≤ℤ past_apex (orient p q r) (pos 0 -ℤ (q.x -ℤ p.x)) (pos 0 -ℤ (pos 0 -ℤ (q.y -ℤ p.y))) (pos 0 -ℤ (b.left -ℤ p.x))
  pub right : pos 0 ≤ℤ past_apex (orient p q r) (q.x -ℤ p.x) (pos 0 -ℤ (q.y -ℤ p.y)) (b.right -ℤ p.x)
  pub low : pos 0 ≤ℤ past_apex (orient p q r) (pos 0 -ℤ (q.y -ℤ p.y)) (pos 0 -ℤ (q.x -ℤ p.x)) (pos 0 -ℤ (b.low -ℤ p.y))
  pub high : pos 0 ≤ℤ past_apex (orient p q r) (q.y -ℤ p.y) (q.x -ℤ p.x) (b.high -ℤ p.y)

module _ (p q r : Point) (b : Bounds) (h : Blocks p q r) (first : IsWithinBounds b p) (second : IsWithinBounds b q) where
  long : pos 0 <ℤ dot p q q
  long = let l = h.left in let m = h.angle_at_p in let n = h.angle_at_q in omega (arith, ints, dot_parts p q r)

  near : (pos 5 *ℤ orient p q r) ≤ℤ (pos 4 *ℤ dot p q r)
  near = let m = h.angle_at_p in omega (arith, ints)

  far : (pos 5 *ℤ orient p q r) ≤ℤ (pos 4 *ℤ (dot p q q -ℤ dot p q r))
  far = let n = h.angle_at_q in omega (arith, ints, dot_parts p q r)

  one_way : (fd fp u v : ℤ) → dot p q q *ℤ v ≡ (dot p q r *ℤ fd) +ℤ (orient p q r *ℤ fp) → pos 0 ≤ℤ u → fd ≤ℤ u
      → pos 0 ≤ℤ past_apex (orient p q r) fd fp u → v ≤ℤ u
  one_way fd fp u v is from to apex = at_most (dot p q r) (orient p q r) (dot p q q) fd fp u v long near far is from to apex

  other_way : (fd fp u v : ℤ) → dot p q q *ℤ v ≡ (dot p q r *ℤ fd) +ℤ (orient p q r *ℤ fp) → u ≤ℤ pos 0 → u ≤ℤ fd
      → pos 0 ≤ℤ past_apex (orient p q r) (pos 0 -ℤ fd) (pos 0 -ℤ fp) (pos 0 -ℤ u) → u ≤ℤ v
  other_way fd fp u v is from to apex =
      let back = one_way (pos 0 -ℤ fd) (pos 0 -ℤ fp) (pos 0 -ℤ u) (pos 0 -ℤ v) (turned_back (dot p q r) (orient p q r) (dot p q q) fd fp v is) (omega (arith, ints)) (omega (arith, ints)) apex in
      omega (arith, ints)

  pub blocked_within : HoldsApex p q r b → IsWithinBounds b r
  blocked_within apex =
      let pl = first.left in let pr = first.right in let pw = first.low in let ph = first.high in
      let ql = second.left in let qr = second.right in let qw = second.low in let qh = second.high in
      let left = other_way (q.x -ℤ p.x) (pos 0 -ℤ (q.y -ℤ p.y)) (b.left -ℤ p.x) (r.x -ℤ p.x) (weighed_x p q r) (omega (arith, ints)) (omega (arith, ints)) apex.left in
      let right = one_way (q.x -ℤ p.x) (pos 0 -ℤ (q.y -ℤ p.y)) (b.right -ℤ p.x) (r.x -ℤ p.x) (weighed_x p q r) (omega (arith, ints)) (omega (arith, ints)) apex.right in
      let low = other_way (q.y -ℤ p.y) (q.x -ℤ p.x) (b.low -ℤ p.y) (r.y -ℤ p.y) (weighed_y p q r) (omega (arith, ints)) (omega (arith, ints)) apex.low in
      let high = one_way (q.y -ℤ p.y) (q.x -ℤ p.x) (b.high -ℤ p.y) (r.y -ℤ p.y) (weighed_y p q r) (omega (arith, ints)) (omega (arith, ints)) apex.high in
      record { left = omega (arith, ints); right = omega (arith, ints); low = omega (arith, ints); high = omega (arith, ints) }

flat : (c z : ℤ) → c ≡ pos 0 → pos 0 ≤ℤ (c *ℤ z)
flat c z e = rw (e, zero-*ℤ z) (omega (arith, ints))

-- between two points
pub between_within : (p q r : Point) (b : Bounds) → IsWithinBounds b p → IsWithinBounds b q → IsBetween p q r → IsWithinBounds b r
between_within p q r b first second h =
    blocked_within p q r b (Blocks-between p q r h) first second
    (record { left = flat _ _ h.on_line; right = flat _ _ h.on_line; low = flat _ _ h.on_line; high = flat _ _ h.on_line })

-- with the apex within
apex_in : (c fd fp u : ℤ) → pos 0 ≤ℤ c → ((pos 5 *ℤ fd) +ℤ (pos 4 *ℤ fp)) ≤ℤ (pos 10 *ℤ u) → pos 0 ≤ℤ past_apex c fd fp u
apex_in c fd fp u h k = mul-nonneg c ((pos 10 *ℤ u) -ℤ ((pos 5 *ℤ fd) +ℤ (pos 4 *ℤ fp))) h (omega (arith, ints))

-- in the diamond of two points
pub diamond_within : (p q r : Point) (b : Bounds) → IsWithinBounds b p → IsWithinBounds b q
    → (pos 10 *ℤ b.left) ≤ℤ ((pos 5 *ℤ (p.x +ℤ q.x)) +ℤ (pos 4 *ℤ (p.y -ℤ q.y))) → ((pos 5 *ℤ (p.x +ℤ q.x)) +ℤ (pos 4 *ℤ (p.y -ℤ q.y))) ≤ℤ (pos 10 *ℤ b.right)
    → (pos 10 *ℤ b.low) ≤ℤ ((pos 5 *ℤ (p.y +ℤ q.y)) +ℤ (pos 4 *ℤ (q.x -ℤ p.x))) → ((pos 5 *ℤ (p.y +ℤ q.y)) +ℤ (pos 4 *ℤ (q.x -ℤ p.x))) ≤ℤ (pos 10 *ℤ b.high)
    → IsInLeftDiamond p q r → IsWithinBounds b r
diamond_within p q r b first second left right low high h =
    let c = h.left in
    blocked_within p q r b (Blocks-diamond p q r h) first second
    (record {
      left = apex_in (orient p q r) (pos 0 -ℤ (q.x -ℤ p.x)) (pos 0 -ℤ (pos 0 -ℤ (q.y -ℤ p.y))) (pos 0 -ℤ (b.left -ℤ p.x)) (omega (arith, ints)) (omega (arith, ints));
      right = apex_in (orient p q r) (q.x -ℤ p.x) (pos 0 -ℤ (q.y -ℤ p.y)) (b.right -ℤ p.x) (omega (arith, ints)) (omega (arith, ints));
      low = apex_in (orient p q r) (pos 0 -ℤ (q.y -ℤ p.y)) (pos 0 -ℤ (q.x -ℤ p.x)) (pos 0 -ℤ (b.low -ℤ p.y)) (omega (arith, ints)) (omega (arith, ints));
      high = apex_in (orient p q r) (q.y -ℤ p.y) (q.x -ℤ p.x) (b.high -ℤ p.y) (omega (arith, ints)) (omega (arith, ints));
    })

-- a point in range has small coordinates
pub in_size : (p : Point) → IsInRange p → (unsigned_abs p.x ≤ 2 * 10 ^ 10) × (unsigned_abs p.y ≤ 2 * 10 ^ 10)
in_size p h =
    let l = h.left in let r = h.right in let b = h.low in let t = h.high in
    (omega (arith, ints), omega (arith, ints))
