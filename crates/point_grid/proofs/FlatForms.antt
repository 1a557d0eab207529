-- Linear forms that decide the conditions of a flat vector.
use Rattle.std.proofs.Common.{◌≡◌, ℤ, pos, ◌+ℤ◌, ◌-ℤ◌, ◌*ℤ◌, ◌≤ℤ◌, ◌<ℤ◌, arith, [], ◌∷◌, refl}
use Rattle.std.proofs.lemmas.Int.{ints}
use Rattle.exact_predicates.specs.declared.point.Point.{Point}
use Rattle.exact_predicates.specs.Blocking.{Blocks}
use Rattle.exact_predicates.specs.Plane.{orient, dot}
use Rattle.exact_predicates.proofs.Blocking.{dot_parts}
use Rattle.exact_predicates.proofs.Orientation.{coordinates, orient_term, orient_swapped, orient_swapped_last}
use Rattle.exact_predicates.proofs.Ring.{var, plus, less, times, ring}
use Rattle.point_grid.specs.declared.frame.Frame.{Frame}
use Rattle.point_grid.specs.declared.frame.View.{View}
use Rattle.point_grid.specs.Flat.{IsFlat}
use Rattle.point_grid.specs.Frames.{IsInFrame}
use Rattle.point_grid.specs.Views.{IsInView}

-- the conditions hold for all sines and cosines between two ends if they hold for the worse ends
pub flat_from : (s c n most least far near : ℤ) → pos 0 ≤ℤ s → s ≤ℤ most → least ≤ℤ c → c ≤ℤ far → near ≤ℤ n
    → (pos 5 *ℤ most) <ℤ (pos 4 *ℤ least) → (pos 5 *ℤ most) <ℤ (pos 4 *ℤ (near -ℤ far)) → IsFlat s c n
flat_from s c n most least far near h hs hl hf hn k l =
    record { left = h; near = omega (arith, ints); far = omega (arith, ints) }

-- what is flat points forward
pub forward : (s c n : ℤ) → IsFlat s c n → pos 0 ≤ℤ c
forward s c n f = omega (arith, ints, f.left, f.near)

-- and for the better ends if they hold for some
pub near_from : (s c n least most : ℤ) → IsFlat s c n → least ≤ℤ s → c ≤ℤ most → (pos 5 *ℤ least) <ℤ (pos 4 *ℤ most)
near_from s c n least most f h k = omega (arith, ints, f.near)

pub far_from : (s c n least start : ℤ) → IsFlat s c n → least ≤ℤ s → start ≤ℤ c → (pos 5 *ℤ least) <ℤ (pos 4 *ℤ (n -ℤ start))
far_from s c n least start f h k = omega (arith, ints, f.far)

-- what blocks is flat, and the other way round
pub flat_blocks : (p q r : Point) (s c n : ℤ) → s ≡ orient p q r → c ≡ dot p q r → n ≡ dot p q q → Blocks p q r → IsFlat s c n
flat_blocks p q r s c n es ec en b =
    let h = b.left in let k = b.angle_at_p in let l = b.angle_at_q in
    record { left = omega (arith, ints); near = omega (arith, ints); far = omega (arith, ints, dot_parts p q r) }

pub blocks_flat : (p q r : Point) (s c n : ℤ) → s ≡ orient p q r → c ≡ dot p q r → n ≡ dot p q q → IsFlat s c n → Blocks p q r
blocks_flat p q r s c n es ec en f =
    let h = f.left in let k = f.near in let l = f.far in
    record { left = omega (arith, ints); angle_at_p = omega (arith, ints); angle_at_q = omega (arith, ints, dot_parts p q r) }

-- the sines and cosines of points
pub sine_of : (p q r : Point) → ((p.y -ℤ q.y) *ℤ (r.x -ℤ p.x)) +ℤ ((q.x -ℤ p.x) *ℤ (r.y -ℤ p.y)) ≡ orient p q r
unfolding orient
sine_of p q r =
    ring (coordinates (p ∷ q ∷ r ∷ []))
    (plus (times (less (var 1) (var 3)) (less (var 4) (var 0))) (times (less (var 2) (var 0)) (less (var 5) (var 1))))
    (orient_term 0 2 4)
    (omega arith)

pub cosine_of : (p q r : Point) → ((q.x -ℤ p.x) *ℤ (r.x -ℤ p.x)) +ℤ ((q.y -ℤ p.y) *ℤ (r.y -ℤ p.y)) ≡ dot p q r
unfolding dot
cosine_of p q r = refl

-- the same of a witness w, at the other point
pub sine_at : (p q w : Point) → ((w.y -ℤ p.y) *ℤ (q.x -ℤ p.x)) +ℤ ((p.x -ℤ w.x) *ℤ (q.y -ℤ p.y)) ≡ orient p q w
unfolding orient
sine_at p q w =
    ring (coordinates (p ∷ q ∷ w ∷ []))
    (plus (times (less (var 5) (var 1)) (less (var 2) (var 0))) (times (less (var 0) (var 4)) (less (var 3) (var 1))))
    (orient_term 0 2 4)
    (omega arith)

pub cosine_at : (p q w : Point) → ((w.x -ℤ p.x) *ℤ (q.x -ℤ p.x)) +ℤ ((w.y -ℤ p.y) *ℤ (q.y -ℤ p.y)) ≡ dot p q w
unfolding dot
cosine_at p q w =
    ring (coordinates (p ∷ q ∷ w ∷ []))
    (plus (times (less (var 4) (var 0)) (less (var 2) (var 0))) (times (less (var 5) (var 1)) (less (var 3) (var 1))))
    (plus (times (less (var 2) (var 0)) (less (var 4) (var 0))) (times (less (var 3) (var 1)) (less (var 5) (var 1))))
    (omega arith)

-- seen the other way round
pub blocks_back : (p q w : Point) (s c n : ℤ) → s ≡ orient p w q → c ≡ dot p q w → n ≡ dot p q q → IsFlat s c n → Blocks q p w
blocks_back p q w s c n es ec en f =
    let h = f.left in let k = f.near in let l = f.far in
    let e : orient q p w ≡ s = omega (arith, ints, orient_swapped_last p q w, orient_swapped p q w) in
    record { left = omega (arith, ints); angle_at_p = omega (arith, ints, dot_parts p q w); angle_at_q = omega (arith, ints) }

-- what lies in a frame lies in its view
pub in_view : (f : Frame) (p q : Point) (v : View) → v.left ≡ f.left -ℤ p.x → v.right ≡ f.right -ℤ p.x → v.low ≡ f.low -ℤ p.y → v.high ≡ f.high -ℤ p.y
    → IsInFrame f q → IsInView v (q.x -ℤ p.x) (q.y -ℤ p.y)
in_view f p q v e1 e2 e3 e4 i =
    let h1 = i.left in let h2 = i.right in let h3 = i.low in let h4 = i.high in
    record { left = omega (arith, ints); right = omega (arith, ints); low = omega (arith, ints); high = omega (arith, ints) }
