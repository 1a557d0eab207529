-- The middle of an edge, seen from the end of another one: how far it is along that one, and how far from its line.
use Rattle.std.proofs.Common.{◌≡◌, ℕ, ◌+◌, ℤ, pos, ◌+ℤ◌, ◌-ℤ◌, ◌*ℤ◌, ◌≤ℤ◌, [], ◌∷◌, arith, refl}
use Rattle.std.proofs.lemmas.Int.{ints}
use Rattle.exact_predicates.specs.declared.point.Point.{Point}
use Rattle.exact_predicates.specs.Plane.{orient, dot}
use Rattle.exact_predicates.proofs.HalfPlane.{cross}
use Rattle.exact_predicates.proofs.IntSigns.{square-nonneg}
use Rattle.exact_predicates.proofs.Orientation.{coordinates, orient_term}
use Rattle.exact_predicates.proofs.Ring.{Term, var, num, plus, less, times, ring}
use Rattle.diamond_theorem.specs.Discs.{power}
use Rattle.diamond_theorem.proofs.Axis.{along, dot_term}

pub dot_turned : (p q : Point) → dot q p p ≡ dot p q q
unfolding dot
dot_turned p q = ring (coordinates (p ∷ q ∷ [])) (dot_term 2 0 0) (dot_term 0 2 2) (omega arith)

-- the squares of the ways from z to both ends of an edge
pub spread : (a b z : Point) → dot a z z +ℤ dot z b b ≡ dot a b b +ℤ (pos 2 *ℤ power a b z)
unfolding dot
spread a b z = ring (coordinates (a ∷ b ∷ z ∷ [])) (plus (dot_term 0 4 4) (dot_term 4 2 2)) (plus (dot_term 0 2 2) (times (num (pos 2)) (dot_term 4 0 2))) (omega arith)

-- twice the way from z to the middle of ab
abbrev pub middle_x : Point → Point → Point → ℤ
middle_x a b z = (a.x -ℤ z.x) +ℤ (b.x -ℤ z.x)

abbrev pub middle_y : Point → Point → Point → ℤ
middle_y a b z = (a.y -ℤ z.y) +ℤ (b.y -ℤ z.y)

-- the same as terms, where the coordinates of a and b are the first variables and those of z the ones from k on
abbrev middle_x_term : ℕ → Term
middle_x_term k = plus (less (var 0) (var k)) (less (var 2) (var k))

abbrev middle_y_term : ℕ → Term
middle_y_term k = plus (less (var 1) (var (k + 1))) (less (var 3) (var (k + 1)))

-- from the end l of lr: how far it is to the middle of ab along lr, and how far that lies from the line
abbrev pub ways : Point → Point → Point → Point → ℤ
ways a b l r = dot l r a +ℤ dot l r b

abbrev pub turns : Point → Point → Point → Point → ℤ
turns a b l r = orient l r a +ℤ orient l r b

ways_is : (a b l r : Point) → ways a b l r ≡ ((r.x -ℤ l.x) *ℤ middle_x a b l) +ℤ ((r.y -ℤ l.y) *ℤ middle_y a b l)
unfolding dot
ways_is a b l r =
    ring (coordinates (a ∷ b ∷ l ∷ r ∷ []))
    (plus (dot_term 4 6 0) (dot_term 4 6 2))
    (plus (times (less (var 6) (var 4)) (middle_x_term 4)) (times (less (var 7) (var 5)) (middle_y_term 4)))
    (omega arith)

turns_is : (a b l r : Point) → turns a b l r ≡ cross (r.x -ℤ l.x) (r.y -ℤ l.y) (middle_x a b l) (middle_y a b l)
unfolding orient
turns_is a b l r =
    ring (coordinates (a ∷ b ∷ l ∷ r ∷ []))
    (plus (orient_term 4 6 0) (orient_term 4 6 2))
    (less (times (less (var 6) (var 4)) (middle_y_term 4)) (times (less (var 7) (var 5)) (middle_x_term 4)))
    (omega arith)

pub square_is : (a b z : Point) → dot a b b +ℤ (pos 4 *ℤ power a b z) ≡ (middle_x a b z *ℤ middle_x a b z) +ℤ (middle_y a b z *ℤ middle_y a b z)
unfolding dot
square_is a b z =
    ring (coordinates (a ∷ b ∷ z ∷ []))
    (plus (dot_term 0 2 2) (times (num (pos 4)) (dot_term 4 0 2)))
    (plus (times (middle_x_term 4) (middle_x_term 4)) (times (middle_y_term 4) (middle_y_term 4)))
    (omega arith)

half_is : (a b z : Point) → dot b a z -ℤ dot a b z ≡ ((b.x -ℤ a.x) *ℤ middle_x a b z) +ℤ ((b.y -ℤ a.y) *ℤ middle_y a b z)
unfolding dot
half_is a b z =
    ring (coordinates (a ∷ b ∷ z ∷ []))
    (less (dot_term 2 0 4) (dot_term 0 2 4))
    (plus (times (less (var 2) (var 0)) (middle_x_term 4)) (times (less (var 3) (var 1)) (middle_y_term 4)))
    (omega arith)

pub height_is : (a b z : Point) → pos 2 *ℤ orient a b z ≡ cross (middle_x a b z) (middle_y a b z) (b.x -ℤ a.x) (b.y -ℤ a.y)
unfolding orient
height_is a b z =
    ring (coordinates (a ∷ b ∷ z ∷ []))
    (times (num (pos 2)) (orient_term 0 2 4))
    (less (times (middle_x_term 4) (less (var 3) (var 1))) (times (middle_y_term 4) (less (var 2) (var 0))))
    (omega arith)

-- how much farther a point lies along an edge than another, by the way between them
along_is : (a b o z : Point) → along a b o z ≡ ((b.x -ℤ a.x) *ℤ (z.x -ℤ o.x)) +ℤ ((b.y -ℤ a.y) *ℤ (z.y -ℤ o.y))
unfolding dot
along_is a b o z =
    ring (coordinates (a ∷ b ∷ o ∷ z ∷ []))
    (less (dot_term 0 2 6) (dot_term 0 2 4))
    (plus (times (less (var 2) (var 0)) (less (var 6) (var 4))) (times (less (var 3) (var 1)) (less (var 7) (var 5))))
    (omega arith)

pub length_is : (p q : Point) → dot p q q ≡ ((q.x -ℤ p.x) *ℤ (q.x -ℤ p.x)) +ℤ ((q.y -ℤ p.y) *ℤ (q.y -ℤ p.y))
unfolding dot
length_is p q = refl

-- Lagrange's identity
lagrange : (ux uy vx vy : ℤ) → ((ux *ℤ ux) +ℤ (uy *ℤ uy)) *ℤ ((vx *ℤ vx) +ℤ (vy *ℤ vy))
    ≡ (((ux *ℤ vx) +ℤ (uy *ℤ vy)) *ℤ ((ux *ℤ vx) +ℤ (uy *ℤ vy))) +ℤ (cross ux uy vx vy *ℤ cross ux uy vx vy)
lagrange ux uy vx vy =
    ring (ux ∷ uy ∷ vx ∷ vy ∷ [])
    (times (plus (times (var 0) (var 0)) (times (var 1) (var 1))) (plus (times (var 2) (var 2)) (times (var 3) (var 3))))
    (plus
    (times (plus (times (var 0) (var 2)) (times (var 1) (var 3))) (plus (times (var 0) (var 2)) (times (var 1) (var 3))))
    (times (less (times (var 0) (var 3)) (times (var 1) (var 2))) (less (times (var 0) (var 3)) (times (var 1) (var 2)))))
    (omega arith)

-- two vectors by their parts along a third and across it
two_by_third : (ex ey mx my wx wy : ℤ) → ((ex *ℤ mx) +ℤ (ey *ℤ my)) *ℤ ((wx *ℤ mx) +ℤ (wy *ℤ my))
    ≡ (((ex *ℤ wx) +ℤ (ey *ℤ wy)) *ℤ ((mx *ℤ mx) +ℤ (my *ℤ my))) +ℤ (cross mx my ex ey *ℤ cross wx wy mx my)
two_by_third ex ey mx my wx wy =
    ring (ex ∷ ey ∷ mx ∷ my ∷ wx ∷ wy ∷ [])
    (times (plus (times (var 0) (var 2)) (times (var 1) (var 3))) (plus (times (var 4) (var 2)) (times (var 5) (var 3))))
    (plus
    (times (plus (times (var 0) (var 4)) (times (var 1) (var 5))) (plus (times (var 2) (var 2)) (times (var 3) (var 3))))
    (times (less (times (var 2) (var 1)) (times (var 3) (var 0))) (less (times (var 4) (var 3)) (times (var 5) (var 2)))))
    (omega arith)

-- the way from l to the middle of ab, by its parts along lr and across it
pub by_ways : (a b l r : Point) → dot l r r *ℤ (dot a b b +ℤ (pos 4 *ℤ power a b l)) ≡ (ways a b l r *ℤ ways a b l r) +ℤ (turns a b l r *ℤ turns a b l r)
by_ways a b l r =
    rw (square_is a b l, ways_is a b l r, turns_is a b l r, length_is l r) (lagrange (r.x -ℤ l.x) (r.y -ℤ l.y) (middle_x a b l) (middle_y a b l))

-- how far it is to the foot of the middle on lr, by how far it is to the middle along ab
pub by_half : (a b l r : Point) → (dot b a l -ℤ dot a b l) *ℤ ways a b l r
    ≡ (along a b l r *ℤ (dot a b b +ℤ (pos 4 *ℤ power a b l))) +ℤ ((pos 2 *ℤ orient a b l) *ℤ turns a b l r)
by_half a b l r =
    rw (half_is a b l, square_is a b l, ways_is a b l r, turns_is a b l r, along_is a b l r, height_is a b l)
    (two_by_third (b.x -ℤ a.x) (b.y -ℤ a.y) (middle_x a b l) (middle_y a b l) (r.x -ℤ l.x) (r.y -ℤ l.y))

-- a step is at least as long as its part along the edge
pub along_most : (a b l r : Point) → (along a b l r *ℤ along a b l r) ≤ℤ (dot a b b *ℤ dot l r r)
along_most a b l r =
    let e = lagrange (b.x -ℤ a.x) (b.y -ℤ a.y) (r.x -ℤ l.x) (r.y -ℤ l.y) in
    let c = square-nonneg (cross (b.x -ℤ a.x) (b.y -ℤ a.y) (r.x -ℤ l.x) (r.y -ℤ l.y)) in
    rw (along_is a b l r, length_is a b, length_is l r, e) (omega (arith, ints))
