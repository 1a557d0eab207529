-- One flag more falls, or stays.
use Rattle.std.proofs.Common.{ℕ, Any, sym, ◌∙◌, subst, arith}
use Rattle.std.proofs.lemmas.Bool.{false≢true}
use Rattle.exact_predicates.specs.declared.edge.Edge.{Edge}
use Rattle.lmt_network.specs.Network.{edge_at}
use Rattle.lmt_network.specs.Skeleton.{AreCrossing}
use Rattle.skeleton_faces.proofs.Dropping.{dropped_none, dropped_falls, dropped_stays}
use Rattle.skeleton_faces.proofs.live_skeleton.drop_crossed.Goals as goal
use Rattle.skeleton_faces.proofs.live_skeleton.drop_crossed.Goals.{then-flags-e+then-crosses_one, else-flags-e, else-flags-e-via-then-flags-e+else-crosses_one, else-flags-e-via-else-flags-e}

pub loop-e-init : goal.loop-e-init
loop-e-init c = dropped_none _ _

pub loop-e-preserved : goal.loop-e-preserved
loop-e-preserved c =
    let ps = c.args.points.now.points in
    let others = c.args.others.now in
    let Crossed : ℕ → Type 0 = λ k. Any (AreCrossing ps (edge_at c.args.net.now k)) others in
    let Of : Edge → Type 0 = λ e. Any (AreCrossing ps e) others in
    elim c.if-flags-e.branch [
      | then-flags-e+then-crosses_one w ↦
          dropped_falls Crossed c.args.flags.now c.loop-e.e c.loop-e.flags _ c.loop-e.invariant (subst Of w.edge.ensures.value (w.crosses_one.ensures.0 w.if-crosses_one.true)) w.flags-is
      | else-flags-e w ↦
          dropped_stays Crossed c.args.flags.now c.loop-e.e c.loop-e.flags _ c.loop-e.invariant
          (λ up crossed. elim w.else-flags-e.branch [
            | else-flags-e-via-then-flags-e+else-crosses_one v ↦
                false≢true (sym v.if-crosses_one.false ∙ v.crosses_one.ensures.1 (subst Of (sym v.edge.ensures.value) crossed))
            | else-flags-e-via-else-flags-e v ↦ false≢true (sym v.if-flags-e.false ∙ up)
          ])
          w.flags-is
    ]

pub returns-clause-uncrossed : goal.returns-clause-uncrossed
returns-clause-uncrossed c = λ e e_in. c.loop-e.invariant.passed e (omega (arith, c.loop-e-test.false, c.loop-e.auto.e-end, c.edges-e-end.ensures.value))
