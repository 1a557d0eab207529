use Rattle.std.proofs.Common.{◌<◌, ◌^◌, ◌∷◌, [], ◌++◌, All, List, length, take, ap, sym, ◌∙◌, subst}
use Rattle.std.proofs.lemmas.List.{take_more}
use Rattle.std.proofs.lemmas.List.Elements.{All-push}
use Rattle.exact_predicates.specs.declared.point.Point.{Point}
use Rattle.mwt_tool.proofs.solver.list_of.Goals as goal

pub loop-point-preserved : goal.loop-point-preserved
loop-point-preserved c =
    let xs = c.as_slice-point-items.result.now in
    let i = c.loop-point.point-index in
    let inside : i < length xs = c.loop-point-test.true in
    let pushed = c.in_ok-push.ensures.items in (
      pushed ∙ (ap (λ (ps : List Point). ps ++ c.same.result ∷ []) c.loop-point.invariant.0
          ∙ (ap (λ (p : Point). take i xs ++ p ∷ []) c.same.ensures.is ∙ sym (take_more xs i _ inside))),
      subst (All (λ (p : Point). p.id < 2 ^ 32)) (sym pushed) (All-push (λ (p : Point). p.id < 2 ^ 32) c.loop-point.list.items c.same.result c.loop-point.invariant.1 c.same.ensures.id),
    )
