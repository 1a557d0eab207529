-- From an edge that a segment crosses, over an empty triangle on it, to one that the segment crosses nearer to its first end.
use Rattle.std.proofs.Common.{◌≡◌, ◌⊎◌, ℕ, ◌*◌, ◌<◌, ℤ, pos, ◌+ℤ◌, ◌-ℤ◌, ◌*ℤ◌, ◌≤ℤ◌, ◌<ℤ◌, unsigned_abs, ◌∙◌, sym, inl, inr, ⊎_elim, arith}
use Rattle.std.proofs.lemmas.Int.{ints, by_lt_z, unsigned_abs-mul}
use Rattle.std.proofs.Math.IntN.{*ℤ_comm as mulz_comm}
use Rattle.exact_predicates.specs.declared.point.Point.{Point}
use Rattle.exact_predicates.specs.Plane.{orient, AreApart, Crosses, IsBetween}
use Rattle.exact_predicates.proofs.HalfPlane.{cross_four}
use Rattle.exact_predicates.proofs.IntSigns.{mul-nonneg, mul-pos, pos-from-mul}
use Rattle.exact_predicates.proofs.Orientation.{orient_four, orient_swapped, orient_swapped_last, orient_turned}
use Rattle.lmt_network.proofs.Angles.{opposite}

-- how far p is from the line through u and w, times the length of uw
abbrev pub far : Point → Point → Point → ℕ
far p u w = unsigned_abs (orient u w p)

-- the segment pq meets the line through u and w nearer to p than that through r and s
abbrev pub IsNearer : Point → Point → Point → Point → Point → Point → Type 0
IsNearer p q u w r s = far p u w * far q r s < far p r s * far q u w

-- the segments pq and rs cross, and p is to the left of r to s
pub record IsMet (p q r s : Point) : Type 0 where
  pub left : pos 0 <ℤ orient r s p
  pub right : orient r s q <ℤ pos 0
  pub first : orient p q r <ℤ pos 0
  pub last : pos 0 <ℤ orient p q s

-- of two segments that cross, the other one is met in one direction
pub met_cases : (p q x y : Point) → Crosses p q x y → IsMet p q x y ⊎ IsMet p q y x
met_cases p q x y h =
    let around = orient_four x y p q in
    let e1 = orient_turned y p q in
    let e2 = orient_swapped_last p x q in
    let e3 = orient_turned p x q in
    let e4 = orient_turned x q p in
    let e5 = orient_swapped x y p in
    let e6 = orient_swapped x y q in
    let e7 = orient_swapped_last p q x in
    ⊎_elim
    (λ (a : (orient x y p <ℤ pos 0) × (pos 0 <ℤ orient x y q)). let a0 = a.0 in let a1 = a.1 in
    ⊎_elim
    (λ (b : (orient p q x <ℤ pos 0) × (pos 0 <ℤ orient p q y)). let b0 = b.0 in let b1 = b.1 in absurd (omega (arith, ints)))
    (λ (b : (pos 0 <ℤ orient p q x) × (orient p q y <ℤ pos 0)). let b0 = b.0 in let b1 = b.1 in
    inr (record { left = omega (arith, ints); right = omega (arith, ints); first = b1; last = b0 }))
    h.by_line)
    (λ (a : (pos 0 <ℤ orient x y p) × (orient x y q <ℤ pos 0)). let a0 = a.0 in let a1 = a.1 in
    ⊎_elim
    (λ (b : (orient p q x <ℤ pos 0) × (pos 0 <ℤ orient p q y)). let b0 = b.0 in let b1 = b.1 in
    inl (record { left = a0; right = a1; first = b0; last = b1 }))
    (λ (b : (pos 0 <ℤ orient p q x) × (orient p q y <ℤ pos 0)). let b0 = b.0 in let b1 = b.1 in absurd (omega (arith, ints)))
    h.by_line)
    h.by_other

-- the turns between four points seen from a fifth
turns_four : (o a b c d : Point) → orient o a c *ℤ orient o b d ≡ (orient o a b *ℤ orient o c d) +ℤ (orient o a d *ℤ orient o b c)
unfolding orient
turns_four o a b c d = cross_four (a.x -ℤ o.x) (a.y -ℤ o.y) (b.x -ℤ o.x) (b.y -ℤ o.y) (c.x -ℤ o.x) (c.y -ℤ o.y) (d.x -ℤ o.x) (d.y -ℤ o.y)

-- of positive numbers, by what is more
abs_less : (x y z t e : ℤ) → pos 0 <ℤ (x *ℤ y) → pos 0 <ℤ e → z *ℤ t ≡ (x *ℤ y) +ℤ e → unsigned_abs x * unsigned_abs y < unsigned_abs z * unsigned_abs t
abs_less x y z t e some more is =
    let one = unsigned_abs-mul x y in
    let two = unsigned_abs-mul z t in
    let three = at (x *ℤ y) (z *ℤ t) e some more is in
    omega arith
  where
    at : (a b e : ℤ) → pos 0 <ℤ a → pos 0 <ℤ e → b ≡ a +ℤ e → unsigned_abs a < unsigned_abs b
    at a b e ha he is = omega (arith, ints)

pub far_swapped : (u w p : Point) → far p w u ≡ far p u w
far_swapped u w p = at (orient u w p) (orient w u p) (orient_swapped u w p)
  where
    at : (a b : ℤ) → b +ℤ a ≡ pos 0 → unsigned_abs b ≡ unsigned_abs a
    at a b e = omega (arith, ints)

-- Over the triangle r, s, c, outside of which p lies, with c not to the right of p to q: either c is between p and q, or
-- the segment crosses rc, and nearer to p.
step_left : (p q r s c : Point) → IsMet p q r s → pos 0 <ℤ orient r s c → ¬ ((pos 0 ≤ℤ orient s c p) × (pos 0 ≤ℤ orient c r p)) → pos 0 ≤ℤ orient p q c
    → IsBetween p q c ⊎ (Crosses p q r c × IsNearer p q r c r s)
step_left p q r s c met area outside not_right =
    by_lt_z (pos 0) (orient p q c)
    (λ l. inr (
      record {
        by_line = inl (met.first, l);
        by_other = inr (cp_r, beyond);
      },
      nearer,
    ))
    (λ g.
    let on : orient p q c ≡ pos 0 = omega (arith, ints) in
    inl (record {
      on_line = on;
      opposite = opposite c p q r (omega (arith, ints, orient_turned c p q)) (omega (arith, ints, rc, orient_turned c p r)) (omega (arith, ints, beyond, orient_turned r c q));
    }))
  where
    e1 : orient p r q +ℤ orient p q r ≡ pos 0
    e1 = orient_swapped_last p q r

    rs : pos 0 <ℤ orient p r s
    rs = let l = met.left in omega (arith, ints, orient_turned p r s)

    rq : pos 0 <ℤ orient p r q
    rq = let l = met.first in omega (arith, ints, e1)

    -- c is to the left of p to r
    rc : pos 0 <ℤ orient p r c
    rc =
        let qs = met.last in
        let sc = orient_turned p s c in
        let cr = orient_turned p c r in
        let swap = orient_swapped_last p r c in
        let swap_s = orient_swapped_last p s c in
        by_lt_z (orient p s c) (pos 0)
        (λ cs.
        let m = mul-pos (orient p r q) (orient p c s) rq (omega (arith, ints)) in
        let k = mul-nonneg (orient p r s) (orient p q c) (omega (arith, ints, rs)) not_right in
        let all = turns_four p r q c s in
        let comm = mulz_comm (orient p r c) (orient p q s) in
        pos-from-mul (orient p q s) (orient p r c) qs (omega (arith, ints)))
        (λ sc_on. by_lt_z (pos 0) (orient p r c) (λ l. l) (λ g. absurd (outside (omega (arith, ints), omega (arith, ints)))))

    qs_r : pos 0 <ℤ orient r q s
    qs_r = let h = met.right in omega (arith, ints, orient_swapped_last r s q)

    cp_r : pos 0 <ℤ orient r c p
    cp_r = let h = rc in omega (arith, ints, orient_turned p r c)

    qp_r : pos 0 <ℤ orient r q p
    qp_r = let h = rq in omega (arith, ints, orient_turned p r q)

    -- and q is beyond rc
    all_r : orient r q c *ℤ orient r s p ≡ (orient r q s *ℤ orient r c p) +ℤ (orient r q p *ℤ orient r s c)
    all_r = turns_four r q s c p

    beyond : orient r c q <ℤ pos 0
    beyond =
        let m = mul-pos (orient r q s) (orient r c p) qs_r cp_r in
        let k = mul-pos (orient r q p) (orient r s c) qp_r area in
        let comm = mulz_comm (orient r q c) (orient r s p) in
        let all = all_r in
        let l = pos-from-mul (orient r s p) (orient r q c) met.left (omega (arith, ints)) in
        omega (arith, ints, orient_swapped_last r q c)

    nearer : IsNearer p q r c r s
    nearer =
        let m = mul-pos (orient r q s) (orient r c p) qs_r cp_r in
        let k = mul-pos (orient r q p) (orient r s c) qp_r area in
        let h = abs_less (orient r q s) (orient r c p) (orient r q c) (orient r s p) (orient r q p *ℤ orient r s c) m k all_r in
        let one = swapped_last r q s in
        let two = swapped_last r q c in
        let moved = rw (one, two) at h in
        omega arith
      where
        swapped_last : (o a b : Point) → unsigned_abs (orient o a b) ≡ unsigned_abs (orient o b a)
        swapped_last o a b = at (orient o a b) (orient o b a) (orient_swapped_last o a b)
          where
            at : (x y : ℤ) → y +ℤ x ≡ pos 0 → unsigned_abs x ≡ unsigned_abs y
            at x y e = omega (arith, ints)

-- the same seen in a mirror
abbrev mirror : Point → Point
mirror p = record { id = 0; x = p.y; y = p.x }

mirror_turn : (p q r : Point) → orient (mirror p) (mirror q) (mirror r) +ℤ orient p q r ≡ pos 0
unfolding orient
mirror_turn p q r = at ((q.y -ℤ p.y) *ℤ (r.x -ℤ p.x)) ((q.x -ℤ p.x) *ℤ (r.y -ℤ p.y))
  where
    at : (x y : ℤ) → (x -ℤ y) +ℤ (y -ℤ x) ≡ pos 0
    at x y = omega (arith, ints)

mirror_far : (p u w : Point) → far (mirror p) (mirror u) (mirror w) ≡ far p w u
mirror_far p u w = at (orient (mirror u) (mirror w) (mirror p)) (orient u w p) (mirror_turn u w p) ∙ sym (far_swapped u w p)
  where
    at : (a b : ℤ) → a +ℤ b ≡ pos 0 → unsigned_abs a ≡ unsigned_abs b
    at a b e = omega (arith, ints)

step_right : (p q r s c : Point) → IsMet p q r s → pos 0 <ℤ orient r s c → ¬ ((pos 0 ≤ℤ orient s c p) × (pos 0 ≤ℤ orient c r p)) → orient p q c <ℤ pos 0
    → Crosses p q c s × IsNearer p q c s r s
step_right p q r s c met area outside right =
    ⊎_elim
    (λ between. let on = between.on_line in absurd (omega (arith, ints, mirror_turn p q c)))
    (λ (crosses, near). (
      record { by_line = inl (right, met.last); by_other = apart crosses.by_other },
      moved _ _ _ _ _ _ _ _ (mirror_far p s c) (mirror_far q s r) (mirror_far p s r) (mirror_far q s c) near,
    ))
    (step_left (mirror p) (mirror q) (mirror s) (mirror r) (mirror c) in_mirror
    (omega (arith, ints, mirror_turn s r c, orient_swapped r s c))
    (λ in_it. let in0 = in_it.0 in let in1 = in_it.1 in
    outside (omega (arith, ints, mirror_turn c s p, orient_swapped s c p), omega (arith, ints, mirror_turn r c p, orient_swapped c r p)))
    (omega (arith, ints, mirror_turn p q c)))
  where
    in_mirror : IsMet (mirror p) (mirror q) (mirror s) (mirror r)
    in_mirror = record {
      left = let h = met.left in omega (arith, ints, mirror_turn s r p, orient_swapped r s p);
      right = let h = met.right in omega (arith, ints, mirror_turn s r q, orient_swapped r s q);
      first = let h = met.last in omega (arith, ints, mirror_turn p q s);
      last = let h = met.first in omega (arith, ints, mirror_turn p q r);
    }

    apart : AreApart (mirror s) (mirror c) (mirror p) (mirror q) → AreApart c s p q
    apart h =
        let mp = mirror_turn s c p in
        let mq = mirror_turn s c q in
        let sp = orient_swapped s c p in
        let sq = orient_swapped s c q in
        ⊎_elim
        (λ k. let k0 = k.0 in let k1 = k.1 in inl (omega (arith, ints), omega (arith, ints)))
        (λ k. let k0 = k.0 in let k1 = k.1 in inr (omega (arith, ints), omega (arith, ints)))
        h

    moved : (a a' b b' c c' d d' : ℕ) → a ≡ a' → b ≡ b' → c ≡ c' → d ≡ d' → a * b < c * d → a' * b' < c' * d'
    moved a a' b b' c c' d d' ea eb ec ed l =
        let one : a * b ≡ a' * b' = cc in
        let two : c * d ≡ c' * d' = cc in
        omega arith

-- Over the triangle r, s, c, outside of which p lies: c is between p and q, or the segment crosses one of the two other
-- sides, and nearer to p.
pub step : (p q r s c : Point) → IsMet p q r s → pos 0 <ℤ orient r s c → ¬ ((pos 0 ≤ℤ orient s c p) × (pos 0 ≤ℤ orient c r p))
    → IsBetween p q c ⊎ ((Crosses p q r c × IsNearer p q r c r s) ⊎ (Crosses p q c s × IsNearer p q c s r s))
step p q r s c met area outside =
    by_lt_z (orient p q c) (pos 0)
    (λ right. inr (inr (step_right p q r s c met area outside right)))
    (λ not_right. ⊎_elim (λ between. inl between) (λ crossed. inr (inl crossed)) (step_left p q r s c met area outside not_right))
