use Rattle.std.proofs.Common.{◌≡◌, ◌⊎◌, ◌+◌, slice_index, Some, unwrap_or, ℤ, pos, ◌≤ℤ◌, of_z, to_z, w64, ap, sym, ◌∙◌, subst, arith}
use Rattle.std.proofs.lemmas.Int.{ints}
use Rattle.std.proofs.lemmas.Bool.{false≢true}
use Rattle.std.proofs.lemmas.List.Elements.{Contains-get_or}
use Rattle.price_ascent.specs.Ascent.{IsLeastSlack}
use Rattle.price_ascent.specs.Entries.{prices_of}
use Rattle.price_ascent.specs.Steps.{IsLeastUpto, slack_at}
use Rattle.price_ascent.proofs.Leasts.{least_all, least_kept, least_more}
use Rattle.price_ascent.proofs.prices.Prices.least_slack.Goals as goal
use Rattle.price_ascent.proofs.prices.Prices.least_slack.Goals.{then-is_live_triangle, else-is_live_triangle}

pub is_live_triangle-requires-clause-t_in : goal.is_live_triangle-requires-clause-t_in
is_live_triangle-requires-clause-t_in c = ((c.requires.row _).0 (Contains-get_or c.args.row.now c.loop-t.t-index 0 c.loop-t-test.true)).0

pub slack_of-requires-clause-t_in : goal.slack_of-requires-clause-t_in
slack_of-requires-clause-t_in c = ((c.requires.row _).0 (Contains-get_or c.args.row.now c.loop-t.t-index 0 c.loop-t-test.true)).0

pub loop-t-preserved : goal.loop-t-preserved
loop-t-preserved c =
    let n = c.args.net.now in
    let es = c.args.self.now in
    let upto = IsLeastUpto n es c.args.row.now (c.loop-t.t-index + 1) in
    elim c.if-is_live_triangle.branch [
      | then-is_live_triangle w ↦
          let is : to_z w64 (of_z w64 w.slack_of.result) ≡ slack_at n es (slice_index c.args.row.now c.loop-t.t-index) = let h = w.slack_of.ensures in omega (arith, ints, h) in
          let same : to_z w64 (of_z w64 w.lesser.result) ≡ w.lesser.result = omega (arith, ints) in
          subst upto (ap (λ (z : ℤ). Some z) (sym same) ∙ sym w.least-is)
          (least_more n es c.args.row.now c.loop-t.t-index c.loop-t.least w.lesser.result c.loop-t.invariant (c.is_live_triangle.ensures.0 w.if-is_live_triangle.true)
          (subst (λ (z : ℤ). w.lesser.result ≤ℤ z) is w.lesser.ensures.up_to)
          w.lesser.ensures.up_to_least
          (subst (λ (z : ℤ). (w.lesser.result ≡ z) ⊎ (c.loop-t.least ≡ Some w.lesser.result)) is w.lesser.ensures.one))
      | else-is_live_triangle w ↦ subst upto (sym w.least-is)
          (least_kept n es c.args.row.now c.loop-t.t-index c.loop-t.least c.loop-t.invariant (λ live. false≢true (sym w.if-is_live_triangle.false ∙ c.is_live_triangle.ensures.1 live)))
    ]

pub returns : goal.returns
returns c =
    let n = c.args.net.now in
    let es = c.args.self.now in
    let is : to_z w64 (of_z w64 c.unwrap_or.result) ≡ unwrap_or c.loop-t.least (pos 0) = let h = c.unwrap_or.ensures in omega (arith, ints, h) in
    subst (IsLeastSlack n.points n.hull (prices_of n es) c.args.u c.args.v) (sym is)
    (least_all n es c.args.row.now c.args.u c.args.v c.loop-t.t-index c.loop-t.least c.requires.entries c.requires.row c.loop-t-test.false c.loop-t.auto.t-index-end c.loop-t.invariant)
