-- A place of a hull has a pair, by what follows the place.
use Rattle.std.proofs.Common.{◌≡◌, ◌+◌, length, arith, refl, inl, inr}
use Rattle.exact_predicates.proofs.Rings.{length-ring, pair_at}
use Rattle.exact_predicates.proofs.lists.next_on_hull.Goals as goal

pub returns-then-place-hull-clause-in_pairs : goal.returns-then-place-hull-clause-in_pairs
returns-then-place-hull-clause-in_pairs c = omega (arith, length-ring c.args.hull.now)

pub returns-then-place-hull-clause-pair : goal.returns-then-place-hull-clause-pair
returns-then-place-hull-clause-pair c = λ d.
    pair_at c.args.hull.now _ _ c.args.place d c.requires refl (inl (c.if-place-hull.true, refl))

pub returns-else-place-hull-clause-in_pairs : goal.returns-else-place-hull-clause-in_pairs
returns-else-place-hull-clause-in_pairs c = omega (arith, length-ring c.args.hull.now)

pub returns-else-place-hull-clause-pair : goal.returns-else-place-hull-clause-pair
returns-else-place-hull-clause-pair c = λ d.
    let last : c.args.place + 1 ≡ length c.args.hull.now = omega (arith, c.requires, c.if-place-hull.false) in
    pair_at c.args.hull.now _ _ c.args.place d c.requires refl (inr (last, refl))
