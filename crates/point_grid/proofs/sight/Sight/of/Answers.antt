use Rattle.std.proofs.Common.{⊎_elim, arith}
use Rattle.std.proofs.lemmas.Int.{ints}
use Rattle.exact_predicates.proofs.Gaps.{gap_x, gap_y, width_le, height_le}
use Rattle.exact_predicates.proofs.HalfPlane.{forward_from, forward_x}
use Rattle.point_grid.proofs.sight.Sight.of.Goals as goal

pub invariant_of-result : goal.invariant_of-result
invariant_of-result c =
    let from = c.args.from.now in
    let to = c.args.to.now in
    let ex = gap_x from to c.requires.from_in c.requires.to_in in
    let ey = gap_y from to c.requires.from_in c.requires.to_in in
    let f = forward_from from to c.requires.later in
    record {
      narrow = rw ex (width_le from to c.requires.from_in c.requires.to_in);
      low = rw ey (height_le from to c.requires.from_in c.requires.to_in);
      rightwards = rw ex (forward_x _ _ f);
      or_up = rw (ex, ey) (λ e. ⊎_elim (λ l. absurd (omega (arith, ints))) (λ r. r.1) f);
    }
