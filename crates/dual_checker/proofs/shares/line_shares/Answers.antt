use Rattle.std.proofs.Common.{◌≡◌, ◌^◌, ◌≤◌, ℤ, ◌-ℤ◌, to_z, of_z, unsigned_abs, refl, ◌∙◌, arith}
use Rattle.std.proofs.lemmas.Int.{ints}
use Rattle.dual_checker.specs.declared.shares.Shares.{Shares}
use Rattle.dual_checker.proofs.shares.line_shares.Goals as goal
use mir.Syntax.{w128}

-- differences of numbers of 64 bits, counted in 128
kept : (x y : ℤ) → unsigned_abs x ≤ 2 ^ 65 → unsigned_abs y ≤ 2 ^ 64 → to_z w128 (of_z w128 (to_z w128 (of_z w128 x) -ℤ to_z w128 (of_z w128 y))) ≡ x -ℤ y
kept x y x_small y_small = omega (arith, ints, x_small, y_small)

twice : (x y z : ℤ) → unsigned_abs x ≤ 2 ^ 64 → unsigned_abs y ≤ 2 ^ 64 → unsigned_abs z ≤ 2 ^ 64
    → to_z w128 (of_z w128 (to_z w128 (of_z w128 (to_z w128 (of_z w128 x) -ℤ to_z w128 (of_z w128 y))) -ℤ to_z w128 (of_z w128 z))) ≡ (x -ℤ y) -ℤ z
twice x y z x_small y_small z_small =
    let first : to_z w128 (of_z w128 (to_z w128 (of_z w128 x) -ℤ to_z w128 (of_z w128 y))) ≡ x -ℤ y = omega (arith, ints, x_small, y_small) in
    omega (arith, ints, first, x_small, y_small, z_small)

both : (a b x y : ℤ) → a ≡ x → b ≡ y → ◌≡◌ {A = Shares} (record { up = a; down = b }) (record { up = x; down = y })
both a b x y e f = pair_of b e ∙ of_pair x f where
  pair_of : (d : ℤ) → a ≡ x → ◌≡◌ {A = Shares} (record { up = a; down = d }) (record { up = x; down = d })
  pair_of d same = rw same refl

  of_pair : (u : ℤ) → b ≡ y → ◌≡◌ {A = Shares} (record { up = u; down = b }) (record { up = u; down = y })
  of_pair u same = rw same refl

pub returns-else-on_hull-clause-is : goal.returns-else-on_hull-clause-is
returns-else-on_hull-clause-is c =
    let value : c.from-value.result ≡ c.args.line.value = c.from-value.ensures ∙ omega (arith, ints) in
    let left : c.from-else-on_hull.result ≡ c.args.line.left = c.from-else-on_hull.ensures ∙ omega (arith, ints) in
    let right : c.from-else-on_hull-2.result ≡ c.args.line.right = c.from-else-on_hull-2.ensures ∙ omega (arith, ints) in
    rw c.if-on_hull.false (both _ _ _ _
    (twice c.from.result c.from-value.result c.from-else-on_hull.result (omega (arith, ints)) (omega (arith, ints)) (omega (arith, ints)) ∙ rw (c.from.ensures, value, left) refl)
    (kept c.from-value.result c.from-else-on_hull-2.result (omega (arith, ints)) (omega (arith, ints)) ∙ rw (value, right) refl))
