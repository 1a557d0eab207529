-- The product of widths and heights fits.
use Rattle.skeleton_faces.proofs.Directions.{kept}
use Rattle.skeleton_faces.proofs.rays.compare.Goals as goal

pub returns : goal.returns
returns c =
    let s = c.args.s.now in
    let t = c.args.t.now in
    let by_turn = rw (kept s.height t.width s.low t.narrow, kept s.width t.height s.narrow t.low) at c.cmp-3.ensures in
    let h1 = c.cmp.ensures in let h2 = c.cmp-2.ensures in let h3 = c.then.ensures in let h4 = c.then-2.ensures in cc
