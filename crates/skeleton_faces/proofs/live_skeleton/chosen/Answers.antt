-- One edge more is chosen, or not.
use Rattle.std.proofs.Common.{◌≡◌, ◌++◌, ◌∷◌, [], sym, ◌∙◌, ap, List, length, ◌<◌, arith}
use Rattle.std.proofs.lemmas.List.{get_or_default}
use Rattle.exact_predicates.specs.declared.edge.Edge.{Edge}
use Rattle.skeleton_faces.proofs.Flags.{items_where_true-none, items_where_true-take_up, items_where_true-take_down}
use Rattle.skeleton_faces.proofs.live_skeleton.chosen.Goals as goal
use Rattle.skeleton_faces.proofs.live_skeleton.chosen.Goals.{then-flags-e+in_ok-push, else-flags-e}

pub loop-e-init : goal.loop-e-init
loop-e-init c = c.new-chosen.ensures.items ∙ sym (items_where_true-none c.args.flags.now)

pub loop-e-preserved : goal.loop-e-preserved
loop-e-preserved c =
    elim c.if-flags-e.branch [
      | then-flags-e+in_ok-push w ↦
          let e_in : c.loop-e.e < length c.args.net.now.edges = omega (arith, c.loop-e-test.true, c.edges-e-end.ensures.value) in
          let up = items_where_true-take_up c.args.flags.now c.args.net.now.edges c.loop-e.e w.edge.result e_in w.if-flags-e.true in
          let same = get_or_default c.args.net.now.edges c.loop-e.e w.edge.result _ e_in ∙ sym w.edge.ensures.value in
          ap (λ v. v.items) w.chosen-is ∙ (w.in_ok-push.ensures.items ∙ (grown c.loop-e.invariant same ∙ sym up))
      | else-flags-e w ↦
          ap (λ v. v.items) w.chosen-is ∙ (c.loop-e.invariant ∙ sym (items_where_true-take_down c.args.flags.now c.args.net.now.edges c.loop-e.e w.if-flags-e.false))
    ]
  where
    grown : {xs ys : List Edge} {x y : Edge} → xs ≡ ys → y ≡ x → xs ++ x ∷ [] ≡ ys ++ y ∷ []
    grown p q = cc
