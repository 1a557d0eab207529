-- Each bounded face so far is sized, or one is not.
use Rattle.std.proofs.Common.{◌≡◌, ◌<◌, [], false, length, get_or, ap, sym, ◌∙◌, subst, refl, arith}
use Rattle.std.proofs.lemmas.Bool.{false≢true}
use Rattle.face_optimum.specs.Decomposition.{IsSized, is_outer}
use Rattle.face_optimum.proofs.BoundedFaces.{All-bounded_at, All-bounded_from}
use Rattle.face_optimum.proofs.bounded.are_sized.Goals as goal

pub returns-then-not-is_sized : goal.returns-then-not-is_sized
returns-then-not-is_sized c =
    let hull = c.args.hull.now in
    let faces = c.args.faces.now in
    let k = c.loop-i.i in
    let k_in : k < length faces = omega (arith, c.loop-i-test.true, c.len-i-end.ensures) in
    let inside : is_outer hull (get_or faces k []) ≡ false = sym (ap (is_outer hull) c.cycle-cycle.ensures) ∙ (sym c.is_outer.ensures ∙ c.if-not-is_outer.true) in (
      λ h. absurd (false≢true h),
      λ all. absurd (false≢true (sym c.if-not-is_sized.true ∙ c.is_sized.ensures.1 (subst (IsSized c.args.most) (sym c.cycle-cycle.ensures) (All-bounded_at hull (IsSized c.args.most) faces k all k_in inside)))),
    )

pub returns : goal.returns
returns c = (
  λ _. All-bounded_from c.args.hull.now (IsSized c.args.most) c.args.faces.now (λ k k_in inside. c.loop-i.invariant k (omega (arith, k_in, c.loop-i-test.false, c.len-i-end.ensures)) inside),
  λ _. refl,
)
