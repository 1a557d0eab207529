-- A slot has two triangles where its edge is inside the hull.
use Rattle.std.proofs.Common.{refl, sym, inl, inr}
use Rattle.flip_finish.proofs.Pairing.{left_in, off_hull, on_hull_left, on_hull_right, right_in}
use Rattle.flip_finish.proofs.mesh.Mesh.pair.Goals as goal

pub returns-in_err-left-clause-pair : goal.returns-in_err-left-clause-pair
returns-in_err-left-clause-pair c =
    let inside = rw (← c.self.view_is) at c.requires in
    rw (c.from_residual.ensures, ← c.self.view_is)
    (record { it = c.index-it.result.now; it_at = record { inside = inside; is = sym c.index-it.ensures }; lacks = inl c.in_err-left.was })

pub returns-in_err-left-clause-hull : goal.returns-in_err-left-clause-hull
returns-in_err-left-clause-hull c ps hull =
    let inside = rw (← c.self.view_is) at c.requires in
    rw (c.from_residual.ensures, ← c.self.view_is)
    (λ mesh. ((λ _. on_hull_left _ _ c.args.slot c.index-it.result.now c.self.invariant (record { inside = inside; is = sym c.index-it.ensures }) ps hull mesh c.in_err-left.was), λ _. refl))

pub returns-in_err-right-clause-pair : goal.returns-in_err-right-clause-pair
returns-in_err-right-clause-pair c =
    let inside = rw (← c.self.view_is) at c.requires in
    rw (c.from_residual-in_err-right.ensures, ← c.self.view_is)
    (record { it = c.index-it.result.now; it_at = record { inside = inside; is = sym c.index-it.ensures }; lacks = inr c.in_err-right.was })

pub returns-in_err-right-clause-hull : goal.returns-in_err-right-clause-hull
returns-in_err-right-clause-hull c ps hull =
    let inside = rw (← c.self.view_is) at c.requires in
    rw (c.from_residual-in_err-right.ensures, ← c.self.view_is)
    (λ mesh. ((λ _. on_hull_right _ _ c.args.slot c.index-it.result.now c.self.invariant (record { inside = inside; is = sym c.index-it.ensures }) ps hull mesh c.in_err-right.was), λ _. refl))

pub returns-clause-pair : goal.returns-clause-pair
returns-clause-pair c =
    let inside = rw (← c.self.view_is) at c.requires in
    rw (← c.self.view_is)
    (record { it = c.index-it.result.now; it_at = record { inside = inside; is = sym c.index-it.ensures }; left = c.in_ok-left.was; right = c.in_ok-right.was })

pub returns-clause-below : goal.returns-clause-below
returns-clause-below c =
    let inside = rw (← c.self.view_is) at c.requires in
    rw (← c.self.view_is) (
      left_in _ _ c.args.slot c.index-it.result.now c.self.invariant (record { inside = inside; is = sym c.index-it.ensures }) c.in_ok-left.left c.in_ok-left.was,
      right_in _ _ c.args.slot c.index-it.result.now c.self.invariant (record { inside = inside; is = sym c.index-it.ensures }) c.in_ok-right.right c.in_ok-right.was,
    )

pub returns-clause-hull : goal.returns-clause-hull
returns-clause-hull c ps hull =
    let inside = rw (← c.self.view_is) at c.requires in
    rw (← c.self.view_is)
    (λ mesh. ((λ none. absurd (cc)), λ on. absurd (off_hull _ _ c.args.slot c.index-it.result.now c.self.invariant (record { inside = inside; is = sym c.index-it.ensures }) ps hull c.in_ok-left.left c.in_ok-right.right mesh c.in_ok-left.was c.in_ok-right.was on)))
