-- From the order of sides to the next sides, and from these to the faces.
use Rattle.std.proofs.Common.{◌≡◌, ◌≢◌, ◌+◌, ℕ, List, AllPairs, length, sym, ◌∙◌, subst, arith}
use Rattle.exact_predicates.specs.declared.edge.Edge.{Edge}
use Rattle.skeleton_faces.specs.Faces.{AreClear, AreFaces}
use Rattle.skeleton_faces.specs.Rounds.{AreFollowing, AreTraced}
use Rattle.skeleton_faces.specs.Tables.{pieces}
use Rattle.skeleton_faces.specs.Turning.{StartsRise}
use Rattle.skeleton_faces.proofs.AllFaces.{AreFaces-traced, AreFollowing-nexts}
use Rattle.skeleton_faces.proofs.Nexts.{AreNexts-linked, StartsRise-turning, distinct_turning}
use Rattle.skeleton_faces.proofs.Traces.{AreTraced-start}
use Rattle.skeleton_faces.proofs.all_faces.faces.Goals as goal

pub nexts-requires-clause-distinct : goal.nexts-requires-clause-distinct
nexts-requires-clause-distinct c =
    let clear = subst (AreClear c.args.points.now.points) (sym c.as_slice-edges.ensures.is) c.requires in
    let Distinct : List ℕ → Type 0 = AllPairs (λ s t. s ≢ t) in
    subst Distinct (sym c.deref.ensures.value) (distinct_turning _ _ _ c.as_slice.ensures.valid clear (rw c.as_slice.ensures.is at c.in_ok-order.ensures.turning))

pub nexts-requires-clause-rise : goal.nexts-requires-clause-rise
nexts-requires-clause-rise c = subst (StartsRise c.as_slice-edges.result.now) (sym c.deref.ensures.value) (StartsRise-turning c.as_slice.result.now _ _ c.in_ok-order.ensures.turning)

pub loop-edge-init : goal.loop-edge-init
loop-edge-init c =
    let clear = subst (AreClear c.args.points.now.points) (sym c.as_slice-edges.ensures.is) c.requires in
    let linked = rw c.deref.ensures.value at c.in_ok-nexts.ensures in (
      AreNexts-linked c.args.points.now.points c.as_slice-edges.result.now _ _ c.as_slice.ensures.valid clear (rw c.as_slice.ensures.is at c.in_ok-order.ensures.turning) c.in_ok-order.ensures.count linked,
      AreTraced-start c.as_slice-edges.result.now c.in_ok-nexts.nexts.items _ _ (sym (c.len.ensures ∙ c.in_ok-nexts.nexts.ok.0)) c.in_ok-rounds.ensures,
    )

pub take-requires-clause-ascending : goal.take-requires-clause-ascending
take-requires-clause-ascending c =
    let clear = subst (AreClear c.args.points.now.points) (sym c.as_slice-edges.ensures.is) c.requires in
    clear.ascending

pub take-requires-clause-following : goal.take-requires-clause-following
take-requires-clause-following c =
    let clear = subst (AreClear c.args.points.now.points) (sym c.as_slice-edges.ensures.is) c.requires in
    let Follow : List ℕ → Type 0 = AreFollowing c.as_slice-edges.result.now in
    subst Follow (sym c.deref-in-loop-edge.ensures.value) (AreFollowing-nexts c.args.points.now.points c.as_slice-edges.result.now c.in_ok-nexts.nexts.items clear c.loop-edge.invariant.0)

pub take-requires-clause-traced : goal.take-requires-clause-traced
take-requires-clause-traced c =
    let Traced : List ℕ → Type 0 = λ nexts. AreTraced c.as_slice-edges.result.now nexts c.loop-edge.edge c.loop-edge.rounds in
    subst Traced (sym c.deref-in-loop-edge.ensures.value) c.loop-edge.invariant.1

pub loop-edge-preserved : goal.loop-edge-preserved
loop-edge-preserved c =
    let Traced : List ℕ → Type 0 = λ nexts. AreTraced c.as_slice-edges.result.now nexts (c.loop-edge.edge + 1) c.take.new.self in
    (c.loop-edge.invariant.0, subst Traced c.deref-in-loop-edge.ensures.value c.in_ok-take.ensures)

pub returns : goal.returns
returns c =
    let edges_are = c.as_slice-edges.ensures.is in
    let es = c.as_slice-edges.result.now in
    let clear = subst (AreClear c.args.points.now.points) (sym edges_are) c.requires in
    let n_is : c.loop-edge.edge ≡ length es = omega (arith, c.loop-edge-test.false, c.loop-edge.auto.edge-end) in
    let Traced : ℕ → Type 0 = λ n. AreTraced es c.in_ok-nexts.nexts.items n c.loop-edge.rounds in
    let Of : List Edge → Type 0 = λ xs. AreFaces c.args.points.now.points xs (pieces c.loop-edge.rounds.starts.items c.loop-edge.rounds.bounds.items) in
    subst Of edges_are (AreFaces-traced c.args.points.now.points es c.in_ok-nexts.nexts.items c.loop-edge.rounds clear c.loop-edge.invariant.0 (subst Traced n_is c.loop-edge.invariant.1))
