use Rattle.std.proofs.Common.{below_more, arith, ⊎_elim, ◌∙◌, subst}
use Rattle.std.proofs.lemmas.Int.{ints}
use Rattle.std.proofs.lemmas.List.{get_or_default}
use Rattle.point_grid.specs.Windows.{IsIn}
use Rattle.empty_triangles.proofs.Corners.{IsIn-wider, IsIn-new}
use Rattle.empty_triangles.proofs.window.window_around.Goals as goal

pub loop-i-preserved : goal.loop-i-preserved
loop-i-preserved c =
    let w = c.widened-window.ensures in
    let h = c.loop-i.invariant in
    let more = w.to in
    let b = (c.requires.later c.loop-i.i 0 (omega arith)) in
    record {
      from = w.from ∙ h.from;
      to = ⊎_elim (λ e. omega (arith, h.to)) (λ e. omega (arith, b.1)) w.least;
      low = omega (arith, ints, w.low, h.low);
      high = omega (arith, ints, w.high, h.high);
      each = below_more _ _ (λ k l. IsIn-wider _ _ _ _ _ _ w (h.each k l))
          (IsIn-new _ _ _ _ _ w (omega (arith, h.from, b.0)) c.at-in-loop-i.ensures.value);
    }

pub returns : goal.returns
returns c =
    let h = c.loop-i.invariant in
    record {
      from = h.from;
      to = h.to;
      low = h.low;
      high = h.high;
      each = λ k d l. subst (IsIn _ _) (get_or_default _ k 0 d l) (h.each k (omega arith));
    }
