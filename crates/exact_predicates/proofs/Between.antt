-- A point between two others comes between them in the order by x and then y.
use Rattle.std.proofs.Common.{◌≡◌, ℤ, pos, ◌+ℤ◌, ◌-ℤ◌, ◌*ℤ◌, ◌≤ℤ◌, ◌<ℤ◌, arith, [], ◌∷◌, ap, sym, ◌∙◌, refl, ⊎_elim, ◌⊎◌, inl, inr}
use Rattle.std.proofs.lemmas.Int.{ints}
use Rattle.std.proofs.Math.IntN.{zero-*ℤ, *ℤ-zero}
use Rattle.exact_predicates.specs.declared.point.Point.{Point}
use Rattle.exact_predicates.specs.Plane.{orient, dot, Precedes, IsBetween}
use Rattle.exact_predicates.proofs.Ring.{var, num, plus, less, times, ring}
use Rattle.exact_predicates.proofs.Orientation.{coordinates, orient_term, orient_turned, orient_swapped}
use Rattle.exact_predicates.proofs.HalfPlane.{cross, IsForward, forward_x, forward_from, orient_back}
use Rattle.exact_predicates.proofs.IntSigns.{square-nonneg, mul-nonneg, mul-pos, nonneg-from-mul, pos-from-mul}
use Rattle.exact_predicates.proofs.Order.{Precedes-trans, Precedes-cases}

-- the inner product of two vectors
abbrev inner : ℤ → ℤ → ℤ → ℤ → ℤ
inner ax ay bx by = (ax *ℤ bx) +ℤ (ay *ℤ by)

inner_by_x : (ax ay bx by : ℤ) → ax *ℤ inner ax ay bx by ≡ (((ax *ℤ ax) +ℤ (ay *ℤ ay)) *ℤ bx) +ℤ (ay *ℤ cross ax ay bx by)
inner_by_x ax ay bx by =
    ring (ax ∷ ay ∷ bx ∷ by ∷ [])
    (times (var 0) (plus (times (var 0) (var 2)) (times (var 1) (var 3))))
    (plus (times (plus (times (var 0) (var 0)) (times (var 1) (var 1))) (var 2)) (times (var 1) (less (times (var 0) (var 3)) (times (var 1) (var 2)))))
    (omega arith)

-- two vectors forward on one line point the same way
inner_nonneg : (ax ay bx by : ℤ) → IsForward ax ay → IsForward bx by → cross ax ay bx by ≡ pos 0 → pos 0 ≤ℤ inner ax ay bx by
inner_nonneg ax ay bx by a b e =
    ⊎_elim
    (λ l. nonneg-from-mul ax (inner ax ay bx by) l (sum_nonneg ax ay bx by b e))
    (λ u. upright ax ay bx by u.0 u.1 b e)
    a
  where
    sum_nonneg : (ax ay bx by : ℤ) → IsForward bx by → cross ax ay bx by ≡ pos 0 → pos 0 ≤ℤ (ax *ℤ inner ax ay bx by)
    sum_nonneg ax ay bx by b e =
        let s1 = square-nonneg ax in
        let s2 = square-nonneg ay in
        let m = mul-nonneg ((ax *ℤ ax) +ℤ (ay *ℤ ay)) bx (omega (arith, ints)) (forward_x bx by b) in
        let z : ay *ℤ cross ax ay bx by ≡ pos 0 = ap (λ t. ay *ℤ t) e ∙ *ℤ-zero ay in
        rw (inner_by_x ax ay bx by) (omega (arith, ints))

    upright : (ax ay bx by : ℤ) → ax ≡ pos 0 → pos 0 <ℤ ay → IsForward bx by → cross ax ay bx by ≡ pos 0 → pos 0 ≤ℤ inner ax ay bx by
    upright ax ay bx by z l b e =
        let z1 : ax *ℤ by ≡ pos 0 = ap (λ t. t *ℤ by) z ∙ zero-*ℤ by in
        let z2 : ax *ℤ bx ≡ pos 0 = ap (λ t. t *ℤ bx) z ∙ zero-*ℤ bx in
        ⊎_elim
        (λ right. let m = mul-pos ay bx l right in absurd (omega (arith, ints)))
        (λ up. let k = up.1 in let m = mul-nonneg ay by (omega (arith, ints)) (omega (arith, ints)) in omega (arith, ints))
        b

dot_back : (r p q : Point) → dot r p q ≡ inner (r.x -ℤ p.x) (r.y -ℤ p.y) (r.x -ℤ q.x) (r.y -ℤ q.y)
unfolding dot
dot_back r p q =
    ring (coordinates (r ∷ p ∷ q ∷ []))
    (plus (times (less (var 2) (var 0)) (less (var 4) (var 0))) (times (less (var 3) (var 1)) (less (var 5) (var 1))))
    (plus (times (less (var 0) (var 2)) (less (var 0) (var 4))) (times (less (var 1) (var 3)) (less (var 1) (var 5))))
    (omega arith)

-- on one line, two points on the same side of r are not seen in opposite directions
same_side : (p q r : Point) → (Precedes p r × Precedes q r) ⊎ (Precedes r p × Precedes r q) → orient r p q ≡ pos 0 → pos 0 ≤ℤ dot r p q
unfolding orient dot
same_side p q r h e =
    ⊎_elim
    (λ k. rw (dot_back r p q) (inner_nonneg _ _ _ _ (forward_from p r k.0) (forward_from q r k.1) (sym (orient_back r p q) ∙ e)))
    (λ k. inner_nonneg _ _ _ _ (forward_from r p k.0) (forward_from r q k.1) e)
    h

-- what is seen from a point that is one of the two
at_corner : (p q r : Point) → (r.x ≡ p.x) × (r.y ≡ p.y) → dot r p q ≡ pos 0
unfolding dot
at_corner p q r e =
    let x : p.x -ℤ r.x ≡ pos 0 = let e0 = e.0 in omega (arith, ints) in
    let y : p.y -ℤ r.y ≡ pos 0 = let e1 = e.1 in omega (arith, ints) in
    rw (x, y, zero-*ℤ (q.x -ℤ r.x), zero-*ℤ (q.y -ℤ r.y)) refl

pub dot_comm : (r p q : Point) → dot r p q ≡ dot r q p
unfolding dot
dot_comm r p q =
    ring (coordinates (r ∷ p ∷ q ∷ []))
    (plus (times (less (var 2) (var 0)) (less (var 4) (var 0))) (times (less (var 3) (var 1)) (less (var 5) (var 1))))
    (plus (times (less (var 4) (var 0)) (less (var 2) (var 0))) (times (less (var 5) (var 1)) (less (var 3) (var 1))))
    (omega arith)

-- a point between p and q comes between them in the order of points
pub IsBetween-order : (p q r : Point) → Precedes p q → IsBetween p q r → Precedes p r × Precedes r q
IsBetween-order p q r pq h =
    let on : orient r p q ≡ pos 0 = orient_turned q r p ∙ (orient_turned p q r ∙ h.on_line) in
    let opposite = h.opposite in
    ⊎_elim
    (λ pr. ⊎_elim
    (λ rq. (pr, rq))
    (λ o. ⊎_elim
    (λ e. let z = at_corner q p r e in absurd (omega (arith, ints, dot_comm r p q)))
    (λ qr. let s = same_side p q r (inl (pr, qr)) on in absurd (omega (arith, ints)))
    o)
    (Precedes-cases r q))
    (λ o. ⊎_elim
    (λ e. let z = at_corner p q r (sym e.0, sym e.1) in absurd (omega (arith, ints)))
    (λ rp. let s = same_side p q r (inr (rp, Precedes-trans r p q rp pq)) on in absurd (omega (arith, ints)))
    o)
    (Precedes-cases p r)

-- the two ends may change places
pub IsBetween-turned : (p q r : Point) → IsBetween p q r → IsBetween q p r
IsBetween-turned p q r b =
    let e = b.on_line in
    let l = b.opposite in
    record { on_line = omega (arith, ints, orient_swapped p q r); opposite = omega (arith, ints, dot_comm r p q) }

-- two vectors forward on one line have a positive product
inner_pos : (ax ay bx by : ℤ) → IsForward ax ay → IsForward bx by → cross ax ay bx by ≡ pos 0 → pos 0 <ℤ inner ax ay bx by
inner_pos ax ay bx by a b e =
    ⊎_elim
    (λ right. ⊎_elim
    (λ l. pos-from-mul ax (inner ax ay bx by) right (sum_pos right l))
    (λ u. let m = mul-pos ax by right u.1 in
    let z : ay *ℤ bx ≡ pos 0 = ap (λ t. ay *ℤ t) u.0 ∙ *ℤ-zero ay in
    absurd (omega (arith, ints)))
    b)
    (λ up. ⊎_elim
    (λ l. let m = mul-pos ay bx up.1 l in
    let z : ax *ℤ by ≡ pos 0 = ap (λ t. t *ℤ by) up.0 ∙ zero-*ℤ by in
    absurd (omega (arith, ints)))
    (λ u. let m = mul-pos ay by up.1 u.1 in
    let z : ax *ℤ bx ≡ pos 0 = ap (λ t. t *ℤ bx) up.0 ∙ zero-*ℤ bx in
    omega (arith, ints))
    b)
    a
  where
    sum_pos : pos 0 <ℤ ax → pos 0 <ℤ bx → pos 0 <ℤ (ax *ℤ inner ax ay bx by)
    sum_pos right l =
        let s = mul-pos ax ax right right in
        let t = square-nonneg ay in
        let m = mul-pos ((ax *ℤ ax) +ℤ (ay *ℤ ay)) bx (omega (arith, ints)) l in
        let z : ay *ℤ cross ax ay bx by ≡ pos 0 = ap (λ t. ay *ℤ t) e ∙ *ℤ-zero ay in
        rw (inner_by_x ax ay bx by) (omega (arith, ints))

-- what p and q are seen from r by, with vectors that point forward where r comes between them
dot_between : (r p q : Point) → dot r p q +ℤ inner (r.x -ℤ p.x) (r.y -ℤ p.y) (q.x -ℤ r.x) (q.y -ℤ r.y) ≡ pos 0
unfolding dot
dot_between r p q =
    ring (coordinates (r ∷ p ∷ q ∷ []))
    (plus (plus (times (less (var 2) (var 0)) (less (var 4) (var 0))) (times (less (var 3) (var 1)) (less (var 5) (var 1)))) (plus (times (less (var 0) (var 2)) (less (var 4) (var 0))) (times (less (var 1) (var 3)) (less (var 5) (var 1)))))
    (num (pos 0))
    (omega arith)

orient_between : (p q r : Point) → cross (r.x -ℤ p.x) (r.y -ℤ p.y) (q.x -ℤ r.x) (q.y -ℤ r.y) +ℤ orient p q r ≡ pos 0
unfolding orient
orient_between p q r =
    ring (coordinates (p ∷ q ∷ r ∷ []))
    (plus (less (times (less (var 4) (var 0)) (less (var 3) (var 5))) (times (less (var 5) (var 1)) (less (var 2) (var 4)))) (orient_term 0 2 4))
    (num (pos 0))
    (omega arith)

-- a point on the line of p and q that comes between them in the order of points lies between them
pub IsBetween-from_order : (p q r : Point) → Precedes p r → Precedes r q → orient p q r ≡ pos 0 → IsBetween p q r
IsBetween-from_order p q r pr rq on =
    record {
      on_line = on;
      opposite =
          let h = inner_pos _ _ _ _ (forward_from p r pr) (forward_from r q rq) (omega (arith, ints, orient_between p q r)) in
          omega (arith, ints, dot_between r p q);
    }
