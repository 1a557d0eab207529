use Rattle.std.proofs.Common.{arith}
use Rattle.point_grid.proofs.Bits.{kept64, le_through}
use Rattle.point_grid.proofs.Diamonds.{diamond_within, in_size}
use Rattle.point_grid.proofs.Tenths.{kept_next, tenth_down, tenth_up}
use Rattle.point_grid.proofs.region.around_diamond.Goals as goal

pub returns : goal.returns
returns c = λ r h.
    let p = in_size c.args.p.now c.requires.p_in in
    let q = in_size c.args.q.now c.requires.q_in in
    let px = kept64 c.args.p.now.x p.0 in let py = kept64 c.args.p.now.y p.1 in
    let qx = kept64 c.args.q.now.x q.0 in let qy = kept64 c.args.q.now.y q.1 in
    let x = c.apex-x.result in let xs = c.apex-x.ensures.bound in
    let y = c.apex-y.result in let ys = c.apex-y.ensures.bound in
    let ends = c.around-ends.result in
    let first = c.around-ends.ensures.first in let second = c.around-ends.ensures.second in
    let left = rw (kept64 ends.left ends.left_in) at c.lower.ensures.first in
    let right = rw (kept64 ends.right ends.right_in) at c.upper.ensures.first in
    let low = rw (kept64 ends.low ends.low_in) at c.lower-2.ensures.first in
    let high = rw (kept64 ends.high ends.high_in) at c.upper-2.ensures.first in
    let before_x = rw (kept64 x (omega arith)) at c.lower.ensures.second in
    let past_x = rw (kept_next x xs) at c.upper.ensures.second in
    let before_y = rw (kept64 y (omega arith)) at c.lower-2.ensures.second in
    let past_y = rw (kept_next y ys) at c.upper-2.ensures.second in
    let kl = kept64 c.lower.result c.lower.ensures.bound in let kr = kept64 c.upper.result c.upper.ensures.bound in
    let kb = kept64 c.lower-2.result c.lower-2.ensures.bound in let kt = kept64 c.upper-2.result c.upper-2.ensures.bound in
    diamond_within c.args.p.now c.args.q.now r _
    (record {
      left = rw kl (le_through _ _ _ left first.left);
      right = rw kr (le_through _ _ _ first.right right);
      low = rw kb (le_through _ _ _ low first.low);
      high = rw kt (le_through _ _ _ first.high high);
    })
    (record {
      left = rw kl (le_through _ _ _ left second.left);
      right = rw kr (le_through _ _ _ second.right right);
      low = rw kb (le_through _ _ _ low second.low);
      high = rw kt (le_through _ _ _ second.high high);
    })
    (rw kl (tenth_down _ _ _ before_x (rw (px, py, qx, qy) at c.apex-x.ensures.below)))
    (rw kr (tenth_up _ x _ past_x (rw (px, py, qx, qy) at c.apex-x.ensures.above)))
    (rw kb (tenth_down _ _ _ before_y (rw (px, py, qx, qy) at c.apex-y.ensures.below)))
    (rw kt (tenth_up _ y _ past_y (rw (px, py, qx, qy) at c.apex-y.ensures.above)))
    h
