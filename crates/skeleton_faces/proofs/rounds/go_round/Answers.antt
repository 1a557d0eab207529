-- The way is one side longer, and ends where it began.
use Rattle.std.proofs.Common.{◌+◌, ◌∷◌, ◌++◌, [], slice_index, refl, ap, ◌∙◌, add-one, arith}
use Rattle.std.proofs.lemmas.List.{length-set}
use Rattle.skeleton_faces.proofs.Ways.{left_over_falls, way-start, way-more, way-back}
use Rattle.skeleton_faces.proofs.rounds.go_round.Goals as goal

pub loop-done-init : goal.loop-done-init
loop-done-init c = (c.requires.first_in, c.requires.one_each, (0, refl, way-start c.args.edges.now c.args.nexts.now c.requires.following c.args.first c.requires.first_in c.args.done.now c.args.starts.now.items c.requires.one_each))

pub loop-done-smaller : goal.loop-done-smaller
loop-done-smaller c =
    let i = c.loop-done.invariant in
    left_over_falls c.loop-done.done c.loop-done.side (omega (arith, i.0, i.1)) c.loop-done-test.true

pub loop-done-preserved : goal.loop-done-preserved
loop-done-preserved c =
    let nexts = c.args.nexts.now in
    let (side_in, one_each, way) = c.loop-done.invariant in
    let (m, side_is, w) = way in (
      c.requires.following.inside c.loop-done.side side_in,
      length-set c.loop-done.done c.loop-done.side _ ∙ one_each,
      (
        m + 1,
        (let e = ap (λ s. slice_index nexts s) side_is in rw add-one e),
        way-more c.args.edges.now nexts c.requires.following c.args.first c.requires.first_in c.args.done.now c.args.starts.now.items m c.loop-done.done c.loop-done.starts.items c.push.new.self.items c.loop-done.side w side_is c.loop-done-test.true
            (c.in_ok-push.ensures.items ∙ ap (λ s. c.loop-done.starts.items ++ s ∷ []) c.start.ensures),
      ),
    )

pub returns : goal.returns
returns c =
    let (side_in, one_each, way) = c.loop-done.invariant in
    let (m, side_is, w) = way in
    way-back c.args.edges.now c.args.nexts.now c.requires.following c.args.first c.requires.first_in c.args.done.now c.args.starts.now.items m c.loop-done.done c.loop-done.starts.items c.loop-done.side c.requires.closed c.requires.fresh w side_is c.loop-done-test.false
