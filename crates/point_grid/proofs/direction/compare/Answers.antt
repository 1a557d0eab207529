use Rattle.std.proofs.Common.{ap, ◌∙◌}
use Rattle.std.specs.Ordering.{ordering_then}
use Rattle.point_grid.proofs.Sights.{kept}
use Rattle.point_grid.proofs.direction.compare.Goals as goal

pub returns : goal.returns
returns c =
    let s = c.args.s.now in
    let t = c.args.t.now in
    let by_turn = rw (kept s.height t.width s.low t.narrow, kept s.width t.height s.narrow t.low) at c.cmp.ensures in
    c.then.ensures ∙ (ap (λ o. ordering_then o c.cmp-2.result) by_turn ∙ ap (ordering_then _) c.cmp-2.ensures)
