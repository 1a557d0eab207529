use Rattle.std.proofs.Common.{◌+◌, List, ℕ, ap, subst, sym, ◌∙◌}
use Rattle.cert_text.specs.Texts.{Grows}
use Rattle.mwt_tool.proofs.KilledRows.{kill_rows, killed_before, killed_next_live, rows_next}
use Rattle.mwt_tool.proofs.kills.write_kills.Goals as goal
use Rattle.mwt_tool.proofs.kills.write_kills.Goals.{then-is_killed+in_ok-write_kill, else-is_killed}

pub loop-e-preserved : goal.loop-e-preserved
loop-e-preserved c =
    let n = c.args.net.now in
    let ranks = c.args.ranks.now in
    let e = c.loop-e.e in
    let Grown : List ℕ → Type 0 = λ items. Grows c.args.text.now.items items (kill_rows n ranks (killed_before ranks (e + 1))) in
    elim c.if-is_killed.branch [
      | then-is_killed+in_ok-write_kill w ↦
          subst Grown (sym (ap (λ v. v.items) w.text-is))
          (rows_next n ranks e c.args.text.now.items c.loop-e.text.items _ w.edge.result w.get.result (sym c.is_killed.ensures ∙ w.if-is_killed.true)
          w.edge.ensures.value w.get.ensures c.loop-e.invariant w.in_ok-write_kill.ensures)
      | else-is_killed w ↦
          subst Grown (sym (ap (λ v. v.items) w.text-is))
          (subst (λ (es : List ℕ). Grows c.args.text.now.items c.loop-e.text.items (kill_rows n ranks es))
          (sym (killed_next_live ranks e (sym c.is_killed.ensures ∙ w.if-is_killed.false))) c.loop-e.invariant)
    ]
