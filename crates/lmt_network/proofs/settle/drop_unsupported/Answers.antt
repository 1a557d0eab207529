use Rattle.std.proofs.Common.{◌≡◌, ℕ, ◌+◌, ◌<◌, Bool, true, false, List, length, ap, sym, ◌∙◌, subst, arith}
use Rattle.std.specs.Bool.{OnFalse}
use Rattle.lmt_network.specs.Flags.{live_numbers}
use Rattle.lmt_network.specs.Numbers.{AreClosed}
use Rattle.lmt_network.proofs.Passes.{IsPass, in_turn, turn_of, pass_skips, pass_keeps, pass_drops, pass_quiet}
use Rattle.lmt_network.proofs.settle.drop_unsupported.Goals as goal
use Rattle.lmt_network.proofs.settle.drop_unsupported.Goals.{then-due-e+then-drop_if_unsupported, else-due-e, else-due-e-via-then-due-e+else-drop_if_unsupported, else-due-e-via-else-due-e}

pub loop-k-preserved : goal.loop-k-preserved
loop-k-preserved c =
    let n = c.args.net.now in
    let before = c.args.live.now in
    let down = c.args.downwards in
    let live = c.loop-k.live in
    let due = c.loop-k.due in
    let k = c.loop-k.k in
    let e = c.in_turn-e.result in
    let turn : e ≡ in_turn (length n.edges) k down = c.in_turn-e.ensures ∙ ap (λ (count : ℕ). in_turn count k down) c.edges.ensures.value in
    let e_in : e < length due = omega (arith, (turn_of (length n.edges) k down (omega arith)).0) in
    elim c.if-due-e.branch [
      | then-due-e+then-drop_if_unsupported w ↦
          let tried = w.drop_if_unsupported in
          subst (λ (b : Bool). IsPass n before c.if-due-e.live c.if-due-e.due down (k + 1) b) (sym w.dropped-is)
          (subst (λ (fs : List Bool). IsPass n before fs c.if-due-e.due down (k + 1) true) (sym w.live-is)
          (subst (λ (ds : List Bool). IsPass n before tried.new.live ds down (k + 1) true) (sym w.due-is)
          (pass_drops n before live due tried.new.live tried.new.due down k c.loop-k.dropped c.loop-k.invariant
          tried.ensures.none_lost tried.ensures.supported w.if-drop_if_unsupported.ensures.fewer)))
      | else-due-e w ↦
          let stay = w.else-due-e in
          subst (λ (b : Bool). IsPass n before c.if-due-e.live c.if-due-e.due down (k + 1) b) (sym w.dropped-is)
          (subst (λ (fs : List Bool). IsPass n before fs c.if-due-e.due down (k + 1) c.loop-k.dropped) (sym w.live-is)
          (subst (λ (ds : List Bool). IsPass n before stay.live ds down (k + 1) c.loop-k.dropped) (sym w.due-is)
          (elim stay.branch [
            | else-due-e-via-then-due-e+else-drop_if_unsupported v ↦
                let tried = v.drop_if_unsupported in
                subst (λ (fs : List Bool). IsPass n before fs stay.due down (k + 1) c.loop-k.dropped) (sym v.live-is)
                (subst (λ (ds : List Bool). IsPass n before tried.new.live ds down (k + 1) c.loop-k.dropped) (sym v.due-is)
                (pass_keeps n before live due tried.new.live tried.new.due down k e c.loop-k.dropped c.loop-k.invariant turn e_in
                v.if-drop_if_unsupported.ensures.same v.if-drop_if_unsupported.ensures.tried tried.ensures.none_lost tried.ensures.supported))
            | else-due-e-via-else-due-e v ↦
                subst (λ (fs : List Bool). IsPass n before fs stay.due down (k + 1) c.loop-k.dropped) (sym v.live-is)
                (subst (λ (ds : List Bool). IsPass n before live ds down (k + 1) c.loop-k.dropped) (sym v.due-is)
                (pass_skips n before live due down k e c.loop-k.dropped c.loop-k.invariant turn v.if-due-e.false))
          ])))
    ]

pub returns-clause-closed : goal.returns-clause-closed
returns-clause-closed c =
    at c.loop-k.dropped c.loop-k.invariant
  where
    at : (b : Bool) → IsPass c.args.net.now c.args.live.now c.loop-k.live c.loop-k.due c.args.downwards c.loop-k.k b → OnFalse b (AreClosed c.args.net.now (live_numbers c.loop-k.live))
    at true p = tt
    at false p = pass_quiet c.args.net.now c.args.live.now c.loop-k.live c.loop-k.due c.args.downwards c.loop-k.k p (omega arith) (omega arith)
