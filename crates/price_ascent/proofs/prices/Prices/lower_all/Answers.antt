use Rattle.std.proofs.Common.{◌≡◌, ◌<◌, ◌+◌, Bool, false, List, length, get_or, refl, ap, sym, ◌∙◌, subst, arith}
use Rattle.std.proofs.lemmas.Bool.{false≢true}
use Rattle.price_ascent.specs.declared.entry.PriceEntry.{PriceEntry}
use Rattle.price_ascent.specs.Swept.{AreSwept}
use Rattle.price_ascent.proofs.Sweeps.{more_swept, none_swept, skipped}
use Rattle.price_ascent.proofs.prices.Prices.lower_all.Goals as goal
use Rattle.price_ascent.proofs.prices.Prices.lower_all.Goals.{then-live+then-not-is_hull+then-lower, else-live, else-live-via-then-live+then-not-is_hull+else-lower, else-live-via-then-live+else-not-is_hull, else-live-via-else-live}

pub loop-e-init : goal.loop-e-init
loop-e-init c = record { swept = none_swept c.args.net.now c.args.self.now c.requires.entries c.requires.feasible; at_rest = λ rest. refl }

pub loop-e-preserved : goal.loop-e-preserved
loop-e-preserved c =
    let n = c.args.net.now in
    let es = c.args.self.now in
    let fs = c.loop-e.self in
    let e = c.loop-e.e in
    let inv = c.loop-e.invariant in
    let e_in : e < length n.edges = let l = c.loop-e-test.true in let is = c.edges-e-end.ensures.value in omega (arith, l, is) in
    let live_is = c.live.ensures ∙ ap (λ (bs : List Bool). get_or bs e false) c.requires.live in
    elim c.if-live.branch [
      | then-live+then-not-is_hull+then-lower w ↦ record {
        swept = subst (λ (xs : List PriceEntry). AreSwept n es xs (e + 1)) (sym w.self-is)
            (more_swept n es fs w.lower.new.self e inv.swept w.lower.ensures.entries w.lower.ensures.feasible e_in
            (sym live_is ∙ w.if-live.true, λ hull. false≢true (sym w.if-not-is_hull.true ∙ w.is_hull.ensures.1 hull)) w.lower.ensures.lowered);
        at_rest = λ rest. absurd (false≢true (sym rest ∙ w.fell-is));
      }
      | else-live w ↦ elim w.else-live.branch [
        | else-live-via-then-live+then-not-is_hull+else-lower v ↦ record {
          swept = subst (λ (xs : List PriceEntry). AreSwept n es xs (e + 1)) (sym (w.self-is ∙ v.self-is))
              (more_swept n es fs v.lower.new.self e inv.swept v.lower.ensures.entries v.lower.ensures.feasible e_in
              (sym live_is ∙ v.if-live.true, λ hull. false≢true (sym v.if-not-is_hull.true ∙ v.is_hull.ensures.1 hull)) v.lower.ensures.lowered);
          at_rest = λ rest. (w.self-is ∙ v.self-is) ∙ (v.lower.ensures.at_rest v.if-lower.false ∙ inv.at_rest (sym w.fell-is ∙ rest));
        }
        | else-live-via-then-live+else-not-is_hull v ↦ record {
          swept = subst (λ (xs : List PriceEntry). AreSwept n es xs (e + 1)) (sym (w.self-is ∙ v.self-is))
              (skipped n es fs e inv.swept (λ inner. inner.1 (v.is_hull.ensures.0 v.if-not-is_hull.false)));
          at_rest = λ rest. (w.self-is ∙ v.self-is) ∙ inv.at_rest (sym w.fell-is ∙ rest);
        }
        | else-live-via-else-live v ↦ record {
          swept = subst (λ (xs : List PriceEntry). AreSwept n es xs (e + 1)) (sym (w.self-is ∙ v.self-is))
              (skipped n es fs e inv.swept (λ inner. false≢true (sym v.if-live.false ∙ (live_is ∙ inner.0))));
          at_rest = λ rest. (w.self-is ∙ v.self-is) ∙ inv.at_rest (sym w.fell-is ∙ rest);
        }
      ]
    ]

pub returns : goal.returns
returns c =
    let n = c.args.net.now in
    let past = c.loop-e-test.false in
    let upto = c.loop-e.auto.e-end in
    let is = c.edges-e-end.ensures.value in
    let all : c.loop-e.e ≡ length n.edges = omega (arith, past, upto, is) in
    record { swept = subst (AreSwept n c.args.self.now c.loop-e.self) all c.loop-e.invariant.swept; at_rest = c.loop-e.invariant.at_rest }
