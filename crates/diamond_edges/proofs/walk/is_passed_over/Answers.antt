use Rattle.std.proofs.Common.{◌≡◌, ◌⊎◌, ◌*◌, ◌^◌, ◌≤◌, ℤ, ◌≤ℤ◌, ◌<ℤ◌, unsigned_abs, arith, inl, inr, ⊎_elim}
use Rattle.std.proofs.lemmas.Int.{ints}
use Rattle.exact_predicates.specs.declared.point.Point.{Point}
use Rattle.exact_predicates.specs.Plane.{IsInRange}
use Rattle.exact_predicates.specs.PointSet.{point_at}
use Rattle.exact_predicates.proofs.Numbers.{IsOrdered-points}
use Rattle.point_grid.proofs.Bits.{kept64, lt_true}
use Rattle.diamond_edges.proofs.walk.is_passed_over.Goals as goal

within : (p : Point) → IsInRange p → unsigned_abs p.x ≤ 2 * 10 ^ 10
within p r = omega (arith, ints)

not_after : (f a b : ℤ) → f <ℤ a → b ≤ℤ f → (a <ℤ b) ⊎ (a ≡ b) → ⊥
not_after f a b h k c = ⊎_elim (λ l. omega (arith, ints)) (λ e. omega (arith, ints)) c

pub returns-then-frame-p : goal.returns-then-frame-p
returns-then-frame-p c = λ h b i n.
    let right = i.right in
    let up = (IsOrdered-points _ c.len-count.ensures.valid).rising c.args.a b n.0 n.1 in
    let f = c.args.frame.now in
    let p = c.at-p.result.now in
    let r = c.at-p.ensures.in_range in
    let before = rw (kept64 f.right (omega (arith, f.right_in)), kept64 p.x (within p r)) at c.if-frame-p.true in
    not_after _ _ _ (lt_true _ _ (rw c.at-p.ensures.value at before)) right (⊎_elim (λ l. inl l) (λ e. inr e.0) up)

pub returns-else-frame-p : goal.returns-else-frame-p
returns-else-frame-p c = λ h b i n.
    let dead = c.is_dead.ensures h (point_at c.args.points.now.points b) i in
    ⊎_elim (λ free. free dead.0.0 dead.0.1 dead.0.2) (λ free. free dead.1.0 dead.1.1 dead.1.2) n.2
