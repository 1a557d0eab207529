-- One side more has its next one.
use Rattle.std.proofs.Common.{◌<◌, length, slice_index, ◌∙◌, arith}
use Rattle.std.proofs.lemmas.List.{length-set}
use Rattle.skeleton_faces.proofs.Links.{linked_more}
use Rattle.skeleton_faces.proofs.SideNumbers.{twin-in}
use Rattle.skeleton_faces.proofs.turns.nexts.Goals as goal

pub loop-place-preserved : goal.loop-place-preserved
loop-place-preserved c =
    let order = c.args.order.now in
    let n = c.loop-place.place in
    let p = c.before-in-loop-place.result in
    let nexts = c.loop-place.nexts.items in
    let x = c.other_side.result in
    let x_in : x < length nexts = omega (arith, c.other_side.ensures, twin-in (slice_index order n) (length c.args.edges.now) (c.requires.each n 0 c.loop-place-test.true), c.loop-place.invariant.0, c.requires.count) in (
      length-set nexts x (slice_index order p) ∙ c.loop-place.invariant.0,
      linked_more c.args.edges.now order nexts n p x c.requires.distinct c.loop-place-test.true c.other_side.ensures x_in c.before-in-loop-place.ensures c.loop-place.invariant.1,
    )
