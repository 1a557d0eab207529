-- A ray goes to the right, or straight up, and is no longer than the plane allows.
use Rattle.std.proofs.Common.{⊎_elim, arith}
use Rattle.std.proofs.lemmas.Int.{ints}
use Rattle.exact_predicates.proofs.Gaps.{gap_x, gap_y, width_le, height_le}
use Rattle.exact_predicates.proofs.HalfPlane.{forward_from, forward_x}
use Rattle.skeleton_faces.proofs.ray.Ray.of.Goals as goal

pub invariant_of-result : goal.invariant_of-result
invariant_of-result c =
    let a = c.args.a.now in
    let b = c.args.b.now in
    let ex = gap_x a b c.requires.a_in c.requires.b_in in
    let ey = gap_y a b c.requires.a_in c.requires.b_in in
    let f = forward_from a b c.requires.later in
    record {
      narrow = rw ex (width_le a b c.requires.a_in c.requires.b_in);
      low = rw ey (height_le a b c.requires.a_in c.requires.b_in);
      rightwards = rw ex (forward_x _ _ f);
      or_up = rw (ex, ey) (λ e. ⊎_elim (λ l. absurd (omega (arith, ints))) (λ r. r.1) f);
    }
