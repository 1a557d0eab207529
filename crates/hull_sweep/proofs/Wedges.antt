-- Turns between vectors on the two sides of the hull: the lower chain turns to the left, the upper chain to the right.
use Rattle.std.proofs.Common.{◌≡◌, ℕ, ◌+◌, ℤ, pos, ◌+ℤ◌, ◌-ℤ◌, ◌≤ℤ◌, ◌<ℤ◌, arith, [], ◌∷◌}
use Rattle.exact_predicates.specs.declared.point.Point.{Point}
use Rattle.exact_predicates.specs.Plane.{orient, Precedes}
use Rattle.exact_predicates.proofs.HalfPlane.{cross, cross_transitive, cross_strict, cross_strict_last, forward_from}
use Rattle.exact_predicates.proofs.Orientation.{coordinates, orient_term}
use Rattle.exact_predicates.proofs.Ring.{Term, var, num, plus, less, times, ring}
use Rattle.hull_sweep.specs.declared.chain.Chain.{Chain}
use Rattle.hull_sweep.specs.declared.chain.Chain.TheVariants.{Lower, Upper}
use Rattle.hull_sweep.specs.Chain.{turn}

-- the turn from the vector p to q to the vector r to t, positive where a chain of this side may turn
unfoldable pub wedge : Chain → Point → Point → Point → Point → ℤ
wedge Lower p q r t = cross (q.x -ℤ p.x) (q.y -ℤ p.y) (t.x -ℤ r.x) (t.y -ℤ r.y)
wedge Upper p q r t = cross (t.x -ℤ r.x) (t.y -ℤ r.y) (q.x -ℤ p.x) (q.y -ℤ p.y)

-- its term, where the variables of p, q, r and t begin at i, j, k and l
abbrev wedge_term : ℕ → ℕ → ℕ → ℕ → Term
wedge_term i j k l =
    less (times (less (var j) (var i)) (less (var (l + 1)) (var (k + 1)))) (times (less (var (j + 1)) (var (i + 1))) (less (var l) (var k)))

-- a turn of three points is one of two vectors: end to end
pub turn_chain : (s : Chain) (p q r : Point) → turn s p q r ≡ wedge s p q q r
unfolding wedge orient
turn_chain Lower p q r = ring (coordinates (p ∷ q ∷ r ∷ [])) (orient_term 0 2 4) (wedge_term 0 2 2 4) (omega arith)
turn_chain Upper p q r = ring (coordinates (p ∷ q ∷ r ∷ [])) (orient_term 2 0 4) (wedge_term 2 4 0 2) (omega arith)

-- from the first point
pub turn_from : (s : Chain) (p q r : Point) → turn s p q r ≡ wedge s p q p r
unfolding wedge orient
turn_from Lower p q r = ring (coordinates (p ∷ q ∷ r ∷ [])) (orient_term 0 2 4) (wedge_term 0 2 0 4) (omega arith)
turn_from Upper p q r = ring (coordinates (p ∷ q ∷ r ∷ [])) (orient_term 2 0 4) (wedge_term 0 4 0 2) (omega arith)

-- to the second point
pub turn_to : (s : Chain) (p q r : Point) → turn s p q r ≡ wedge s r q p q
unfolding wedge orient
turn_to Lower p q r = ring (coordinates (p ∷ q ∷ r ∷ [])) (orient_term 0 2 4) (wedge_term 4 2 0 2) (omega arith)
turn_to Upper p q r = ring (coordinates (p ∷ q ∷ r ∷ [])) (orient_term 2 0 4) (wedge_term 0 2 4 2) (omega arith)

-- which of three points comes first is free
pub turn_cycle : (s : Chain) (p q r : Point) → turn s q r p ≡ turn s p q r
unfolding wedge orient
turn_cycle Lower p q r = ring (coordinates (p ∷ q ∷ r ∷ [])) (orient_term 2 4 0) (orient_term 0 2 4) (omega arith)
turn_cycle Upper p q r = ring (coordinates (p ∷ q ∷ r ∷ [])) (orient_term 4 2 0) (orient_term 2 0 4) (omega arith)

-- and changing two of them turns the sign
pub turn_swap : (s : Chain) (p q r : Point) → turn s q p r +ℤ turn s p q r ≡ pos 0
unfolding wedge orient
turn_swap Lower p q r = ring (coordinates (p ∷ q ∷ r ∷ [])) (plus (orient_term 2 0 4) (orient_term 0 2 4)) (num (pos 0)) (omega arith)
turn_swap Upper p q r = ring (coordinates (p ∷ q ∷ r ∷ [])) (plus (orient_term 0 2 4) (orient_term 2 0 4)) (num (pos 0)) (omega arith)

-- so does changing the two vectors
pub wedge_swap : (s : Chain) (p q r t : Point) → wedge s p q r t +ℤ wedge s r t p q ≡ pos 0
unfolding wedge
wedge_swap Lower p q r t = ring (coordinates (p ∷ q ∷ r ∷ t ∷ [])) (plus (wedge_term 0 2 4 6) (wedge_term 4 6 0 2)) (num (pos 0)) (omega arith)
wedge_swap Upper p q r t = ring (coordinates (p ∷ q ∷ r ∷ t ∷ [])) (plus (wedge_term 4 6 0 2) (wedge_term 0 2 4 6)) (num (pos 0)) (omega arith)

-- of vectors that point forward, the middle one lies between the two others
pub wedge_transitive : (s : Chain) (p q r t k l : Point) → Precedes p q → Precedes r t → Precedes k l
    → pos 0 ≤ℤ wedge s p q r t → pos 0 ≤ℤ wedge s r t k l → pos 0 ≤ℤ wedge s p q k l
unfolding wedge
wedge_transitive Lower p q r t k l a b c ab bc = cross_transitive _ _ _ _ _ _ (forward_from p q a) (forward_from r t b) (forward_from k l c) ab bc
wedge_transitive Upper p q r t k l a b c ab bc = cross_transitive _ _ _ _ _ _ (forward_from k l c) (forward_from r t b) (forward_from p q a) bc ab

-- strictly so, where the first turn is strict
pub wedge_strict : (s : Chain) (p q r t k l : Point) → Precedes p q → Precedes r t → Precedes k l
    → pos 0 <ℤ wedge s p q r t → pos 0 ≤ℤ wedge s r t k l → pos 0 <ℤ wedge s p q k l
unfolding wedge
wedge_strict Lower p q r t k l a b c ab bc = cross_strict _ _ _ _ _ _ (forward_from p q a) (forward_from r t b) (forward_from k l c) ab bc
wedge_strict Upper p q r t k l a b c ab bc = cross_strict_last _ _ _ _ _ _ (forward_from k l c) (forward_from r t b) (forward_from p q a) bc ab
