-- What a new point sees: the facts on a few points on which the sweep rests.
use Rattle.std.proofs.Common.{◌≡◌, pos, ◌+ℤ◌, ◌≤ℤ◌, ◌<ℤ◌, arith}
use Rattle.std.proofs.lemmas.Int.{ints}
use Rattle.exact_predicates.specs.declared.point.Point.{Point}
use Rattle.exact_predicates.specs.Plane.{orient, Precedes}
use Rattle.exact_predicates.proofs.Orientation.{orient_last_twice, orient_return, orient_swapped}
use Rattle.hull_sweep.specs.declared.chain.Chain.{Chain}
use Rattle.hull_sweep.specs.declared.chain.Chain.TheVariants.{Lower, Upper}
use Rattle.hull_sweep.specs.Chain.{turn}
use Rattle.hull_sweep.proofs.Wedges.{wedge, turn_chain, turn_from, turn_to, turn_cycle, turn_swap, wedge_swap, wedge_transitive, wedge_strict}

-- a triangle with a corner twice has no area
pub turn_first : (s : Chain) (p q : Point) → turn s p q p ≡ pos 0
turn_first Lower p q = orient_return p q
turn_first Upper p q = orient_last_twice q p

-- whichever corner it is
pub turn_last : (s : Chain) (p q : Point) → turn s p q q ≡ pos 0
turn_last Lower p q = orient_last_twice p q
turn_last Upper p q = orient_return q p

-- changing the last two points turns the sign
pub turn_swap_last : (s : Chain) (p q r : Point) → turn s p r q +ℤ turn s p q r ≡ pos 0
turn_swap_last s p q r = omega (arith, ints, turn_cycle s p r q, turn_cycle s r q p, turn_swap s p q r, turn_cycle s q p r)

-- where a pair is hidden from q, so is the pair before it
pub stays_hidden : (s : Chain) (z y x q : Point) → Precedes z y → Precedes y x → Precedes y q
    → pos 0 ≤ℤ turn s z y x → pos 0 ≤ℤ turn s y x q → pos 0 ≤ℤ turn s z y q
stays_hidden s z y x q zy yx yq h k =
    let a = turn_chain s z y x in
    let b = turn_from s y x q in
    let c = wedge_transitive s z y y x y q zy yx yq (omega (arith, ints)) (omega (arith, ints)) in
    omega (arith, ints, turn_chain s z y q)

-- the pair from a to q, where the pair before it is hidden from q, has the earlier points inside
pub new_pair_before : (s : Chain) (z a q r : Point) → Precedes z a → Precedes a q → Precedes r a
    → pos 0 ≤ℤ turn s z a r → pos 0 ≤ℤ turn s z a q → pos 0 ≤ℤ turn s a q r
new_pair_before s z a q r za aq ra h k =
    let b = turn_to s z a r in
    let d = turn_chain s z a q in
    let c = wedge_transitive s r a z a a q ra za aq (omega (arith, ints)) (omega (arith, ints)) in
    omega (arith, ints, turn_chain s r a q, turn_cycle s r a q)

-- the pair from a to q, where the pair from a to x is visible from q, has the later points strictly inside
pub new_pair_after : (s : Chain) (a x q r : Point) → Precedes a x → Precedes a q → Precedes a r
    → pos 0 ≤ℤ turn s a x r → turn s a x q <ℤ pos 0 → pos 0 <ℤ turn s a q r
new_pair_after s a x q r ax aq ar h k =
    let b = turn_from s a x r in
    let d = turn_from s a x q in
    let e = wedge_swap s a x a q in
    let c = wedge_strict s a q a x a r aq ax ar (omega (arith, ints)) (omega (arith, ints)) in
    omega (arith, ints, turn_from s a q r)

-- of the points on the line of a visible pair, those before its lower end do not lie in the triangle with q
pub not_before_pair : (s : Chain) (y x q r : Point) → Precedes y x → Precedes y q → Precedes r y
    → turn s y x q <ℤ pos 0 → turn s y x r ≡ pos 0 → pos 0 ≤ℤ turn s y q r → ⊥
not_before_pair s y x q r yx yq ry seen on inside =
    let a = turn_cycle s r y x in
    let b = turn_chain s r y x in
    let d = wedge_swap s r y y x in
    let e = turn_from s y x q in
    let f = wedge_swap s y x y q in
    let c = wedge_strict s y q y x r y yq yx ry (omega (arith, ints)) (omega (arith, ints)) in
    omega (arith, ints, wedge_swap s y q r y, turn_chain s r y q, turn_cycle s r y q)

-- nor do those after its higher end
pub not_after_pair : (s : Chain) (y x q r : Point) → Precedes y x → Precedes x q → Precedes x r
    → turn s y x q <ℤ pos 0 → turn s y x r ≡ pos 0 → pos 0 ≤ℤ turn s q x r → ⊥
not_after_pair s y x q r yx xq xr seen on inside =
    let a = turn_chain s y x r in
    let b = turn_chain s y x q in
    let d = wedge_swap s y x x q in
    let c = wedge_strict s x q y x x r xq yx xr (omega (arith, ints)) (omega (arith, ints)) in
    omega (arith, ints, turn_from s x q r, turn_swap s x q r)

-- where both last pairs are hidden from q, l to m below and u to m above, these three lie on one line
pub hidden_both : (l u m q : Point) → Precedes l m → Precedes u m → Precedes m q
    → pos 0 ≤ℤ turn Lower l m q → pos 0 ≤ℤ turn Upper u m q → pos 0 ≤ℤ turn Lower l m u → turn Lower l m u ≡ pos 0
unfolding wedge
hidden_both l u m q lm um mq h k inside =
    let a = turn_chain Lower l m q in
    let b : turn Upper u m q ≡ wedge Lower m q u m = turn_chain Upper u m q in
    let c = wedge_transitive Lower l m m q u m lm mq um (omega (arith, ints)) (omega (arith, ints)) in
    omega (arith, ints, turn_to Lower u m l, turn_swap Lower m u l, turn_cycle Lower l m u)

-- a point u inside the pair from y to x is no end of a pair from u to v that has both inside
pub not_strictly_inside : (s : Chain) (y u x v : Point) → Precedes y u → Precedes u v → Precedes u x
    → pos 0 ≤ℤ turn s u v y → pos 0 ≤ℤ turn s u v x → pos 0 <ℤ turn s y x u → ⊥
not_strictly_inside s y u x v yu uv ux h k inside =
    let a = turn_cycle s y u v in
    let b = turn_chain s y u v in
    let d = turn_from s u v x in
    let c = wedge_transitive s y u u v u x yu uv ux (omega (arith, ints)) (omega (arith, ints)) in
    omega (arith, ints, turn_chain s y u x, turn_swap_last s y u x)

-- a point that lies on neither side of a pair is on its line
pub turn_zero : (s : Chain) (p q r : Point) → turn s p q r ≡ pos 0 → orient p q r ≡ pos 0
turn_zero Lower p q r e = e
turn_zero Upper p q r e = omega (arith, ints, orient_swapped p q r)
