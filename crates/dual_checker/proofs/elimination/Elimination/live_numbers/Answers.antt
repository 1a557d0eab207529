use Rattle.std.proofs.Common.{◌≡◌, ◌++◌, ◌∷◌, [], ℕ, ◌<◌, List, length, get_or, sym, ◌∙◌, ap, arith, zero-add}
use Rattle.std.specs.List.{items_where_true, range_with_len}
use Rattle.std.proofs.lemmas.List.{take_all}
use Rattle.std.proofs.lemmas.List.FromFn.{length-range_with_len, get_or-range_with_len}
use Rattle.skeleton_faces.proofs.Flags.{items_where_true-none, items_where_true-take_up, items_where_true-take_down}
use Rattle.dual_checker.proofs.elimination.Elimination.live_numbers.Goals as goal
use Rattle.dual_checker.proofs.elimination.Elimination.live_numbers.Goals.{then-live+in_ok-push, else-live}

pub loop-e-init : goal.loop-e-init
loop-e-init c = c.new-numbers.ensures.items ∙ sym (items_where_true-none c.args.self.now.flags)

pub loop-e-preserved : goal.loop-e-preserved
loop-e-preserved c =
    let flags = c.args.self.now.flags in
    let e = c.loop-e.e in
    let all = range_with_len 0 (length flags) in
    let size = length-range_with_len 0 (length flags) in
    let e_in : e < length flags = omega (arith, c.loop-e-test.true, c.edges-e-end.ensures.value, c.requires) in
    elim c.if-live.branch [
      | then-live+in_ok-push w ↦
          let up = items_where_true-take_up flags all e e (omega arith) (sym c.live.ensures ∙ w.if-live.true) in
          let same : get_or all e e ≡ e = get_or-range_with_len 0 (length flags) e e e_in ∙ zero-add e in
          ap (λ v. v.items) w.numbers-is ∙ (w.in_ok-push.ensures.items ∙ (grown c.loop-e.invariant same ∙ sym up))
      | else-live w ↦
          ap (λ v. v.items) w.numbers-is ∙ (c.loop-e.invariant ∙ sym (items_where_true-take_down flags all e (sym c.live.ensures ∙ w.if-live.false)))
    ]
  where
    grown : {xs ys : List ℕ} {x y : ℕ} → xs ≡ ys → y ≡ x → xs ++ x ∷ [] ≡ ys ++ y ∷ []
    grown p q = cc

pub returns : goal.returns
returns c =
    let flags = c.args.self.now.flags in
    let size = length-range_with_len 0 (length flags) in
    c.loop-e.invariant ∙ ap (items_where_true flags) (take_all c.loop-e.e (range_with_len 0 (length flags)) (omega (arith, c.loop-e-test.false, c.edges-e-end.ensures.value, c.requires)))
