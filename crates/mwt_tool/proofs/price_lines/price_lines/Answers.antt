use Rattle.std.proofs.Common.{◌+◌, ◌<◌, ◌≤◌, Bool, false, List, get_or, length, arith, ap, sym, ◌∙◌, subst}
use Rattle.std.proofs.lemmas.List.{length-map}
use Rattle.cert_text.specs.declared.report.PriceLine.{PriceLine}
use Rattle.price_ascent.specs.declared.entry.PriceEntry.{PriceEntry}
use Rattle.price_ascent.specs.Entries.{live_of}
use Rattle.mwt_tool.proofs.PriceLines.{AreLinesUpto, lines_all, lines_next_dead, lines_next_live}
use Rattle.mwt_tool.proofs.price_lines.price_lines.Goals as goal
use Rattle.mwt_tool.proofs.price_lines.price_lines.Goals.{then-live+in_ok-push, else-live}

pub loop-e-preserved : goal.loop-e-preserved
loop-e-preserved c =
    let n = c.args.net.now in
    let es = c.args.prices.now in
    let e_in : c.loop-e.e < length (live_of es) = omega (arith, c.edges-e-end.ensures.value, c.requires.one_each, length-map es (λ (p : PriceEntry). p.live)) in
    let flag = ap (λ (bs : List Bool). get_or bs c.loop-e.e false) (sym c.requires.live) ∙ sym c.live.ensures in
    let P : List PriceLine → Type 0 = λ ls. AreLinesUpto n es ls (c.loop-e.e + 1) in
    elim c.if-live.branch [
      | then-live+in_ok-push w ↦
          subst P (sym (ap (λ v. v.items) w.lines-is ∙ w.in_ok-push.ensures.items))
          (lines_next_live n es c.loop-e.lines.items _ c.loop-e.e c.loop-e.invariant e_in (flag ∙ w.if-live.true) w.price_line.ensures)
      | else-live w ↦
          subst P (sym (ap (λ v. v.items) w.lines-is))
          (lines_next_dead n es c.loop-e.lines.items c.loop-e.e c.loop-e.invariant e_in (flag ∙ w.if-live.false))
    ]

pub returns : goal.returns
returns c =
    let es = c.args.prices.now in
    let past : length (live_of es) ≤ c.loop-e.e
    = omega (arith, c.loop-e-test.false, c.edges-e-end.ensures.value, c.requires.one_each, length-map es (λ (p : PriceEntry). p.live)) in
    c.of.ensures ∙ lines_all c.args.net.now es c.loop-e.lines.items c.loop-e.e c.loop-e.invariant past
