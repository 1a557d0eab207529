-- The order of points, by x and then by y.
use Rattle.std.proofs.Common.{◌≡◌, arith, sym, ⊎_elim, ◌⊎◌, inl, inr}
use Rattle.std.proofs.lemmas.Int.{ints, by_lt_z}
use Rattle.exact_predicates.specs.declared.point.Point.{Point}
use Rattle.exact_predicates.specs.Plane.{Precedes}

pub Precedes-trans : (p q r : Point) → Precedes p q → Precedes q r → Precedes p r
Precedes-trans p q r h k =
    ⊎_elim
    (λ l. ⊎_elim (λ m. inl (omega (arith, ints))) (λ e. let e0 = e.0 in inl (omega (arith, ints))) k)
    (λ d. let d0 = d.0 in let d1 = d.1 in
    ⊎_elim (λ m. inl (omega (arith, ints))) (λ e. let e0 = e.0 in let e1 = e.1 in inr (omega (arith, ints), omega (arith, ints))) k)
    h

-- no two points come before each other
pub Precedes-not : (p q : Point) → Precedes p q → Precedes q p → ⊥
Precedes-not p q h k =
    ⊎_elim
    (λ l. ⊎_elim (λ m. omega (arith, ints)) (λ e. let e0 = e.0 in omega (arith, ints)) k)
    (λ d. let d0 = d.0 in let d1 = d.1 in ⊎_elim (λ m. omega (arith, ints)) (λ e. let e1 = e.1 in omega (arith, ints)) k)
    h

-- which of two points comes first
pub Precedes-cases : (p q : Point) → Precedes p q ⊎ (((p.x ≡ q.x) × (p.y ≡ q.y)) ⊎ Precedes q p)
Precedes-cases p q =
    by_lt_z p.x q.x
    (λ l. inl (inl l))
    (λ h. by_lt_z q.x p.x
    (λ l. inr (inr (inl l)))
    (λ k. let x : p.x ≡ q.x = omega (arith, ints) in
    by_lt_z p.y q.y
    (λ l. inl (inr (x, l)))
    (λ m. by_lt_z q.y p.y
    (λ l. inr (inr (inr (sym x, l))))
    (λ o. inr (inl (x, omega (arith, ints)))))))
