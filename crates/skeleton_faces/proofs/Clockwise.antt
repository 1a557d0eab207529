-- Going round a point: what comes between in the order of sides comes between clockwise.
use Rattle.std.proofs.Common.{◌≡◌, ◌⊎◌, pos, ◌+ℤ◌, ◌-ℤ◌, ◌<ℤ◌, [], ◌∷◌, sym, subst, inl, inr, ⊎_elim, arith}
use Rattle.std.proofs.lemmas.Int.{ints, by_lt_z}
use Rattle.exact_predicates.specs.declared.point.Point.{Point}
use Rattle.exact_predicates.specs.Plane.{orient, Precedes}
use Rattle.exact_predicates.proofs.Ring.{var, num, plus, less, times, ring}
use Rattle.exact_predicates.proofs.Orientation.{coordinates, orient_last_twice, orient_term, orient_swapped_last}
use Rattle.exact_predicates.proofs.HalfPlane.{cross, cross_swap, cross_strict_last, forward_from, orient_back}
use Rattle.skeleton_faces.specs.Faces.{AreClockwise}

-- seen from o, p, q and r come one after the other to the left
abbrev pub AreLeftward : Point → Point → Point → Point → Type 0
AreLeftward o p q r =
    ((pos 0 <ℤ orient o p q) × (pos 0 <ℤ orient o q r)) ⊎ (((pos 0 <ℤ orient o q r) × (pos 0 <ℤ orient o r p)) ⊎ ((pos 0 <ℤ orient o r p) × (pos 0 <ℤ orient o p q)))

pub leftward_next : (o p q r : Point) → AreLeftward o p q r → AreLeftward o q r p
leftward_next o p q r h = ⊎_elim (λ a. inr (inr a)) (λ k. ⊎_elim (λ b. inl b) (λ c. inr (inl c)) k) h

pub leftward_clockwise : (o p q r : Point) → AreLeftward o p q r → AreClockwise o q p r
leftward_clockwise o p q r h =
    let e1 = orient_swapped_last o p q in
    let e2 = orient_swapped_last o q r in
    let e3 = orient_swapped_last o r p in
    ⊎_elim
    (λ (a : (pos 0 <ℤ orient o p q) × (pos 0 <ℤ orient o q r)). let a0 = a.0 in let a1 = a.1 in inr (inr (omega (arith, ints), omega (arith, ints))))
    (λ k. ⊎_elim
    (λ (b : (pos 0 <ℤ orient o q r) × (pos 0 <ℤ orient o r p)). let b0 = b.0 in let b1 = b.1 in inr (inl (omega (arith, ints), omega (arith, ints))))
    (λ (c : (pos 0 <ℤ orient o r p) × (pos 0 <ℤ orient o p q)). let c0 = c.0 in let c1 = c.1 in inl (omega (arith, ints), omega (arith, ints)))
    k)
    h

-- the turn to a point that comes before o, by the opposite vector
orient_behind : (o q r : Point) → orient o q r +ℤ cross (q.x -ℤ o.x) (q.y -ℤ o.y) (o.x -ℤ r.x) (o.y -ℤ r.y) ≡ pos 0
unfolding orient
orient_behind o q r =
    ring (coordinates (o ∷ q ∷ r ∷ []))
    (plus (orient_term 0 2 4) (less (times (less (var 2) (var 0)) (less (var 1) (var 5))) (times (less (var 3) (var 1)) (less (var 0) (var 4)))))
    (num (pos 0))
    (omega arith)

ahead : (o p q : Point) → pos 0 <ℤ orient o p q → pos 0 <ℤ cross (p.x -ℤ o.x) (p.y -ℤ o.y) (q.x -ℤ o.x) (q.y -ℤ o.y)
unfolding orient
ahead o p q h = h

-- two points after o and then one before it
pub two_after : (o p q r : Point) → Precedes o p → Precedes o q → Precedes r o → pos 0 <ℤ orient o p q → AreLeftward o p q r
two_after o p q r op oq ro x =
    let ax = p.x -ℤ o.x in
    let ay = p.y -ℤ o.y in
    let bx = q.x -ℤ o.x in
    let by = q.y -ℤ o.y in
    let wx = o.x -ℤ r.x in
    let wy = o.y -ℤ r.y in
    let y_is = orient_behind o q r in
    let z_is = orient_behind o p r in
    let z_swap = orient_swapped_last o p r in
    by_lt_z (pos 0) (cross ax ay wx wy)
    (λ l. inr (inr (omega (arith, ints), x)))
    (λ m. let on = cross_strict_last wx wy ax ay bx by (forward_from r o ro) (forward_from o p op) (forward_from o q oq) (omega (arith, ints, cross_swap ax ay wx wy)) (ahead o p q x) in
    inl (x, omega (arith, ints, cross_swap bx by wx wy)))

-- one point after o and then two before it
pub two_before : (o p q r : Point) → Precedes o p → Precedes q o → Precedes r o → pos 0 <ℤ orient o q r → AreLeftward o p q r
two_before o p q r op qo ro y =
    let ax = p.x -ℤ o.x in
    let ay = p.y -ℤ o.y in
    let ux = o.x -ℤ q.x in
    let uy = o.y -ℤ q.y in
    let wx = o.x -ℤ r.x in
    let wy = o.y -ℤ r.y in
    let x_is = orient_behind o p q in
    let y_is = orient_back o q r in
    let z_is = orient_behind o p r in
    let z_swap = orient_swapped_last o p r in
    by_lt_z (pos 0) (orient o p q)
    (λ l. inl (l, y))
    (λ m. let on = cross_strict_last ax ay ux uy wx wy (forward_from o p op) (forward_from q o qo) (forward_from r o ro) (omega (arith, ints)) (omega (arith, ints)) in
    inr (inl (y, omega (arith, ints))))

-- no point turns to the left to itself
pub not_itself : (o q r : Point) → q ≡ r → pos 0 <ℤ orient o q r → ⊥
not_itself o q r e turn =
    let z = orient_last_twice o q in
    let l = subst (λ (x : Point). pos 0 <ℤ orient o q x) (sym e) turn in
    omega (arith, ints)

-- x and q come after o, and r before it: where x turns to the left to r and to q, q turns to the left to r
pub onto_tail : (o x q r : Point) → Precedes o x → Precedes o q → Precedes r o → pos 0 <ℤ orient o x r → pos 0 <ℤ orient o x q → pos 0 <ℤ orient o q r
onto_tail o x q r ox oq ro xr xq =
    ⊎_elim
    (λ k. k.1)
    (λ m. ⊎_elim (λ k. k.0) (λ k. let k0 = k.0 in absurd (omega (arith, ints, orient_swapped_last o x r))) m)
    (two_after o x q r ox oq ro xq)

-- q and z come after o, and r before it: where r turns to the left to z and q to z, r turns to the left to q
pub onto_head : (o q z r : Point) → Precedes o q → Precedes o z → Precedes r o → pos 0 <ℤ orient o r z → pos 0 <ℤ orient o q z → pos 0 <ℤ orient o r q
onto_head o q z r oq oz ro rz qz =
    ⊎_elim
    (λ k. let k1 = k.1 in absurd (omega (arith, ints, orient_swapped_last o r z)))
    (λ m. ⊎_elim (λ k. k.1) (λ k. k.0) m)
    (two_after o q z r oq oz ro qz)

-- of y and z before o no angle to the left of less than half a turn has a point after o
pub none_ahead : (o q y z : Point) → Precedes o q → Precedes y o → Precedes z o → pos 0 <ℤ orient o y z → pos 0 <ℤ orient o y q → pos 0 <ℤ orient o q z → ⊥
none_ahead o q y z oq yo zo yz yq qz =
    ⊎_elim
    (λ k. let k0 = k.0 in omega (arith, ints, orient_swapped_last o y q))
    (λ m. ⊎_elim (λ k. let k1 = k.1 in omega (arith, ints, orient_swapped_last o q z)) (λ k. let k0 = k.0 in omega (arith, ints, orient_swapped_last o q z)) m)
    (two_before o q y z oq yo zo yz)
