-- The sides of one triangle more, and of one pair of the hull.
use Rattle.std.proofs.Common.{append-nil, ◌≡◌, ◌++◌, [], take, slice_index, sym, subst, arith, refl}
use Rattle.std.proofs.lemmas.List.{take_all}
use Rattle.exact_predicates.proofs.Rings.{length-ring}
use Rattle.exact_predicates.specs.Hull.{ring_pairs}
use Rattle.flip_finish.specs.Halves.{AreSplit, numbered_sides, outer_sides}
use Rattle.flip_finish.proofs.AllSides.{numbered_sides-more, outer_sides-more, ring_apart}
use Rattle.flip_finish.proofs.halves.Halves.of.Goals as goal

pub loop-i-init : goal.loop-i-init
loop-i-init c = rw (c.in_ok-with_capacity.ensures.items, c.in_ok-with_capacity-2.ensures.items) (record { ups_are = refl; downs_are = refl })

pub loop-i-preserved : goal.loop-i-preserved
loop-i-preserved c =
    rw (numbered_sides-more c.args.tris.now c.loop-i.i c.index-tris-i.result c.loop-i-test.true c.index-tris-i.is)
    (c.in_ok-add-3.ensures _ (c.in_ok-add-2.ensures _ (c.in_ok-add.ensures _ c.loop-i.invariant)))

pub loop-k-init : goal.loop-k-init
loop-k-init c =
    let all : take c.loop-i.i c.args.tris.now ≡ c.args.tris.now = take_all _ _ c.loop-i-test.false in
    subst (λ ts. AreSplit (numbered_sides 0 ts ++ []) c.loop-i.halves.ups.items c.loop-i.halves.downs.items) all
    (subst (λ sides. AreSplit sides c.loop-i.halves.ups.items c.loop-i.halves.downs.items) (sym (append-nil _)) c.loop-i.invariant)

pub add-requires-in-loop-k : goal.add-requires-in-loop-k
add-requires-in-loop-k c =
    let h = c.next_on_hull-to.ensures in
    let from = slice_index c.args.hull.now c.loop-k.k in
    let to = c.next_on_hull-to.result in
    λ e. ring_apart c.args.hull.now from to c.requires.some c.requires.distinct (c.loop-k.k, h.in_pairs, h.pair (from, to)) (sym e)

pub loop-k-preserved : goal.loop-k-preserved
loop-k-preserved c =
    let hull = c.args.hull.now in
    let k = c.loop-k.k in
    let from = slice_index hull k in
    let to = c.next_on_hull-to.result in
    rw (outer_sides-more (numbered_sides 0 c.args.tris.now) (ring_pairs hull) k from to c.next_on_hull-to.ensures.in_pairs (c.next_on_hull-to.ensures.pair (from, to)))
    (c.in_ok-add-4.ensures _ c.loop-k.invariant)

pub returns : goal.returns
returns c =
    let all : take c.loop-k.k (ring_pairs c.args.hull.now) ≡ ring_pairs c.args.hull.now = take_all _ _ (omega (arith, length-ring c.args.hull.now, c.loop-k-test.false)) in
    subst (λ pairs. AreSplit (numbered_sides 0 c.args.tris.now ++ outer_sides pairs) c.loop-k.halves.ups.items c.loop-k.halves.downs.items) all c.loop-k.invariant
