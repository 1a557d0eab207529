use Rattle.std.proofs.Common.{arith, pos, ◌∙◌, sym}
use Rattle.exact_predicates.proofs.Gaps.{kept}
use Rattle.point_grid.specs.Flat.{sine, cosine, norm}
use Rattle.point_grid.proofs.Bits.{kept_less, le_max, le_through, le_true, max_nonneg, max_small}
use Rattle.point_grid.proofs.FlatForms.{flat_from}
use Rattle.point_grid.proofs.flat.is_flat_over.Goals as goal
use Rattle.point_grid.proofs.flat.is_flat_over.Goals.{then-least-ge0, else-least-ge0}

pub returns-then-is_below_base_angle : goal.returns-then-is_below_base_angle
returns-then-is_below_base_angle c = λ h a b v.
    let t = c.args.turn.now in
    let at_u = kept t.u (omega (arith, t.u_in)) in let at_v = kept t.v (omega (arith, t.v_in)) in
    let at_x = kept t.x (omega (arith, t.x_in)) in let at_y = kept t.y (omega (arith, t.y_in)) in
    let high = rw (at_u, at_v) at (c.greatest.ensures.above a b v) in
    let low = rw (at_u, at_v) at (c.least.ensures.below a b v) in
    let most = rw (at_x, at_y) at (c.greatest-then-is_below_base_angle.ensures.above a b v) in
    let m = rw (kept c.greatest.result c.greatest.ensures.bound) at c.max-sine.ensures.value in
    let n = rw (kept c.greatest-then-is_below_base_angle.result c.greatest-then-is_below_base_angle.ensures.bound) at c.max.ensures.value in
    let at_sine = kept c.max-sine.result (max_small c.greatest.result c.max-sine.result m c.greatest.ensures.bound) in
    let far = rw (at_sine, kept_less c.least_norm.result c.max.result c.least_norm.ensures.positive c.least_norm.ensures.bound (max_nonneg c.greatest-then-is_below_base_angle.result c.max.result n) (max_small c.greatest-then-is_below_base_angle.result c.max.result n c.greatest-then-is_below_base_angle.ensures.bound))
    at (c.is_below_base_angle-then-is_below_base_angle.ensures.0 h) in
    elim c.if-least-ge0.branch [
      | then-least-ge0 w ↦
          let start = rw (at_x, at_y) at (w.least-then-least-ge0.ensures.below a b v) in
          let near = rw (at_sine, kept w.least-then-least-ge0.result w.least-then-least-ge0.ensures.bound) at (w.is_below_base_angle.ensures.0 (sym w.value-is ∙ c.if-is_below_base_angle.true)) in
          let some = rw (kept c.least.result c.least.ensures.bound) at w.if-least-ge0.true in
          flat_from (sine t a b) (cosine t a b) (norm a b) c.max-sine.result w.least-then-least-ge0.result c.max.result c.least_norm.result
          (le_through _ _ _ (le_true (pos 0) c.least.result some) low) (le_through _ _ _ high (le_max _ _ m)) start
          (le_through _ _ _ most (le_max _ _ n)) (c.least_norm.ensures.below a b v) near far
      | else-least-ge0 w ↦ absurd (let e = w.value-is in let k = c.if-is_below_base_angle.true in cc)
    ]
