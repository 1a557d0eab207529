-- None of the edges that were tried crosses it.
use Rattle.std.proofs.Common.{◌≡◌, ℕ, ◌<◌, ◌≤◌, get_or, refl, sym, ◌∙◌, subst, ⊎_elim, arith}
use Rattle.std.proofs.lemmas.Bool.{cases_lt, false≢true}
use Rattle.std.proofs.lemmas.List.{get_or_default}
use Rattle.lmt_network.specs.Skeleton.{AreCrossing}
use Rattle.skeleton_faces.proofs.crossings.crosses_one.Goals as goal

pub loop-other-preserved : goal.loop-other-preserved
loop-other-preserved c = λ k d l.
    ⊎_elim
    (λ (b : k < c.loop-other.other-index). c.loop-other.invariant k d b)
    (λ (m : c.loop-other.other-index ≤ k) h.
    let e : k ≡ c.loop-other.other-index = omega arith in
    let is : get_or c.args.others.now c.loop-other.other-index d ≡ c.other-item.result = get_or_default c.args.others.now c.loop-other.other-index d c.other-item.result c.loop-other-test.true ∙ sym c.other-item.is in
    let here = subst (λ (x : ℕ). AreCrossing c.args.points.now.points c.args.edge.now (get_or c.args.others.now x d)) e h in
    false≢true (sym c.if-are_crossing.false ∙ c.are_crossing.ensures.1 (subst (AreCrossing c.args.points.now.points c.args.edge.now) is here)))
    (cases_lt k c.loop-other.other-index)

pub returns-then-are_crossing : goal.returns-then-are_crossing
returns-then-are_crossing c = (
  λ yes. (c.loop-other.other-index, c.other-item.result, c.loop-other-test.true, sym c.other-item.is, c.are_crossing.ensures.0 c.if-are_crossing.true),
  λ some. refl,
)

pub returns : goal.returns
returns c = (
  λ none. absurd (false≢true none),
  λ (k, other, k_in, at_k, crossing). absurd (c.loop-other.invariant k other (omega arith) (subst (AreCrossing c.args.points.now.points c.args.edge.now) (sym at_k) crossing)),
)
