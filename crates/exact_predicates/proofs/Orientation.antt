-- Orientation and distance: what turning and swapping their arguments does.
use Rattle.std.proofs.Common.{◌≡◌, ℕ, ◌+◌, ℤ, pos, ◌+ℤ◌, ◌-ℤ◌, unsigned_abs, arith, List, [], ◌∷◌}
use Rattle.std.proofs.lemmas.Int.{ints}
use Rattle.exact_predicates.specs.declared.point.Point.{Point}
use Rattle.exact_predicates.specs.Plane.{orient, d2}
use Rattle.exact_predicates.proofs.Ring.{Term, var, num, plus, less, times, ring}

abs_swap : (x y : ℤ) → unsigned_abs (x -ℤ y) ≡ unsigned_abs (y -ℤ x)
abs_swap x y = omega (arith, ints)

pub d2_comm : (p q : Point) → d2 p q ≡ d2 q p
unfolding d2
d2_comm p q = rw (abs_swap p.x q.x, abs_swap p.y q.y) (omega arith)

-- the term of `orient` of three points, whose coordinates are the variables from i, j and k on
abbrev pub orient_term : ℕ → ℕ → ℕ → Term
orient_term i j k =
    less (times (less (var j) (var i)) (less (var (k + 1)) (var (i + 1)))) (times (less (var (j + 1)) (var (i + 1))) (less (var k) (var i)))

-- the coordinates of points, as the ring's variables
abbrev pub coordinates : List Point → List ℤ
coordinates [] = []
coordinates (p ∷ ps) = p.x ∷ p.y ∷ coordinates ps

pub orient_turned : (p q r : Point) → orient q r p ≡ orient p q r
unfolding orient
orient_turned p q r = ring (coordinates (p ∷ q ∷ r ∷ [])) (orient_term 2 4 0) (orient_term 0 2 4) (omega arith)

pub orient_swapped : (p q r : Point) → orient q p r +ℤ orient p q r ≡ pos 0
unfolding orient
orient_swapped p q r = ring (coordinates (p ∷ q ∷ r ∷ [])) (plus (orient_term 2 0 4) (orient_term 0 2 4)) (num (pos 0)) (omega arith)

pub orient_swapped_last : (p q r : Point) → orient p r q +ℤ orient p q r ≡ pos 0
unfolding orient
orient_swapped_last p q r = ring (coordinates (p ∷ q ∷ r ∷ [])) (plus (orient_term 0 4 2) (orient_term 0 2 4)) (num (pos 0)) (omega arith)

-- The barycentric identity: the triangles that s makes with the three sides are together the whole one.
pub orient_four : (p q r s : Point) → orient p q s +ℤ (orient q r s +ℤ orient r p s) ≡ orient p q r
unfolding orient
orient_four p q r s = ring (coordinates (p ∷ q ∷ r ∷ s ∷ [])) (plus (orient_term 0 2 6) (plus (orient_term 2 4 6) (orient_term 4 0 6))) (orient_term 0 2 4) (omega arith)

-- three points of which two are the same do not turn
pub orient_last_twice : (p q : Point) → orient p q q ≡ pos 0
orient_last_twice p q = omega (arith, ints, orient_swapped_last p q q)

pub orient_return : (p q : Point) → orient p q p ≡ pos 0
orient_return p q = omega (arith, ints, orient_turned p q p, orient_last_twice q p)
