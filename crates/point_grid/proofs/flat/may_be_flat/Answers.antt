use Rattle.std.proofs.Common.{arith, pos, ◌∙◌, sym}
use Rattle.std.proofs.lemmas.Bool.{false≢true}
use Rattle.exact_predicates.proofs.Gaps.{kept}
use Rattle.point_grid.specs.Flat.{sine, cosine, norm}
use Rattle.point_grid.proofs.Bits.{kept_less, le_through, max_le, max_nonneg, max_small, true_le}
use Rattle.point_grid.proofs.FlatForms.{far_from, forward, near_from}
use Rattle.point_grid.proofs.flat.may_be_flat.Goals as goal
use Rattle.point_grid.proofs.flat.may_be_flat.Goals.{then-greatest-ge0, else-greatest-ge0}

pub returns-then-is_below_base_angle : goal.returns-then-is_below_base_angle
returns-then-is_below_base_angle c = λ a b v f.
    let t = c.args.turn.now in
    let s = sine t a b in
    let d = cosine t a b in
    let u = kept t.u (omega (arith, t.u_in)) in let w = kept t.v (omega (arith, t.v_in)) in
    let x = kept t.x (omega (arith, t.x_in)) in let y = kept t.y (omega (arith, t.y_in)) in
    let low = rw (u, w) at (c.least.ensures.below a b v) in
    let start = rw (x, y) at (c.least-then-is_below_base_angle.ensures.below a b v) in
    let m = rw (kept c.least.result c.least.ensures.bound) at c.max-sine.ensures.value in
    let n = rw (kept c.least-then-is_below_base_angle.result c.least-then-is_below_base_angle.ensures.bound) at c.max.ensures.value in
    let whole = rw (x, y) at c.norm.ensures.value in
    let far = far_from s d (norm t.x t.y) c.max-sine.result c.max.result f (max_le _ _ s m low f.left) (max_le _ _ d n start (forward s d _ f)) in
    c.is_below_base_angle-then-is_below_base_angle.ensures.1
    (rw (
      kept c.max-sine.result (max_small c.least.result c.max-sine.result m c.least.ensures.bound),
      kept_less c.norm.result c.max.result c.norm.ensures.positive c.norm.ensures.bound (max_nonneg c.least-then-is_below_base_angle.result c.max.result n) (max_small c.least-then-is_below_base_angle.result c.max.result n c.least-then-is_below_base_angle.ensures.bound),
    )
    (rw whole far))

pub returns-else-is_below_base_angle : goal.returns-else-is_below_base_angle
returns-else-is_below_base_angle c = λ a b v f.
    let t = c.args.turn.now in
    let s = sine t a b in
    let d = cosine t a b in
    let at_u = kept t.u (omega (arith, t.u_in)) in let at_v = kept t.v (omega (arith, t.v_in)) in
    let at_x = kept t.x (omega (arith, t.x_in)) in let at_y = kept t.y (omega (arith, t.y_in)) in
    let low = rw (at_u, at_v) at (c.least.ensures.below a b v) in
    let high = rw (at_u, at_v) at (c.greatest.ensures.above a b v) in
    let m = rw (kept c.least.result c.least.ensures.bound) at c.max-sine.ensures.value in
    elim c.if-greatest-ge0.branch [
      | then-greatest-ge0 w ↦
          let most = rw (at_x, at_y) at (w.greatest-then-greatest-ge0.ensures.above a b v) in
          w.value-is
          ∙ w.is_below_base_angle.ensures.1
          (rw
          (kept c.max-sine.result (max_small c.least.result c.max-sine.result m c.least.ensures.bound), kept w.greatest-then-greatest-ge0.result w.greatest-then-greatest-ge0.ensures.bound)
          (near_from s d _ c.max-sine.result _ f (max_le _ _ s m low f.left) most))
      | else-greatest-ge0 w ↦
          absurd (false≢true (sym w.if-greatest-ge0.false ∙ rw (kept c.greatest.result c.greatest.ensures.bound) (true_le (pos 0) c.greatest.result (le_through _ _ _ f.left high))))
    ]
