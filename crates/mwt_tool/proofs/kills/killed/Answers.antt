use Rattle.std.proofs.Common.{ℕ, [], ◌∷◌, length, ap, arith, sym, ◌∙◌, length-append}
use Rattle.mwt_tool.proofs.KilledRows.{killed_before, killed_next_dead, killed_next_live}
use Rattle.mwt_tool.proofs.kills.killed.Goals as goal
use Rattle.mwt_tool.proofs.kills.killed.Goals.{then-is_killed, else-is_killed}

pub loop-e-preserved : goal.loop-e-preserved
loop-e-preserved c =
    let ranks = c.args.ranks.now in
    let e = c.loop-e.e in
    let before = c.loop-e.invariant.0 in
    let few = c.loop-e.invariant.1 in
    elim c.if-is_killed.branch [
      | then-is_killed w ↦
          let next = ap (length {A = ℕ}) (killed_next_dead ranks e (sym c.is_killed.ensures ∙ w.if-is_killed.true)) in
          let more = length-append (killed_before ranks e) (e ∷ []) in
          let is = w.count-is in
          (omega (arith, next, more, is, before), omega (arith, is, few))
      | else-is_killed w ↦
          let next = ap (length {A = ℕ}) (killed_next_live ranks e (sym c.is_killed.ensures ∙ w.if-is_killed.false)) in
          let is = w.count-is in
          (omega (arith, next, is, before), omega (arith, is, few))
    ]
