use Rattle.std.proofs.Common.{set, refl, ap, ◌∙◌}
use Rattle.price_ascent.specs.Steps.{anchored}
use Rattle.price_ascent.proofs.Anchoring.{anchored-belong}
use Rattle.price_ascent.proofs.prices.Prices.anchor.Goals as goal

pub returns-clause-belong : goal.returns-clause-belong
returns-clause-belong c =
    anchored-belong c.args.net.now c.args.self.now c.keep.new.self c.args.e c.requires.belong
    (record { entries = c.requires.belong.entries; e_in = c.requires.e_in; is = c.keep.ensures ∙ ap (set c.args.self.now c.args.e) (c.anchored.ensures ∙ ap anchored c.at-kept.ensures); live = refl }) c.requires.live c.requires.inner
