-- The side before is at the place before, or the last one with this start.
use Rattle.std.proofs.Common.{◌∙◌, sym, inr, arith}
use Rattle.skeleton_faces.proofs.Links.{before_first}
use Rattle.skeleton_faces.proofs.turns.before.Goals as goal
use Rattle.skeleton_faces.proofs.turns.before.Goals.{else-place-gt0-via-then-place-gt0+else-start, else-place-gt0-via-else-place-gt0}

pub returns-else-place-gt0 : goal.returns-else-place-gt0
returns-else-place-gt0 c =
    record {
      p_in = c.last_round.ensures.in_range;
      one_start = c.last_round.ensures.one_start;
      place = inr (
        λ k l. elim c.else-place-gt0.branch [
          | else-place-gt0-via-then-place-gt0+else-start w ↦
              before_first c.args.edges.now c.args.order.now c.requires.rise c.args.place k w.if-place-gt0.true c.requires.place_in
              (λ e. w.if-start.false (w.start.ensures ∙ (e ∙ sym w.start-then-place-gt0.ensures))) l
          | else-place-gt0-via-else-place-gt0 w ↦ let z = w.if-place-gt0.false in absurd (omega arith)
        ],
        c.last_round.ensures.last,
      );
    }
