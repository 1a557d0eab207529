use Rattle.std.proofs.Common.{length, ap, sym, ◌∙◌, inr, arith}
use Rattle.std.proofs.lemmas.Int.{ints}
use Rattle.lmt_network.specs.Flags.{live_edges}
use Rattle.price_ascent.proofs.Kept.{value_is}
use Rattle.price_ascent.proofs.Sweeps.{all_swept, swept_bare, swept_belong}
use Rattle.price_ascent.proofs.prices.Prices.sweep.Goals as goal

pub returns : goal.returns
returns c =
    let n = c.args.net.now in
    let es = c.args.self.now in
    let fs = c.lower_all.new.self in
    let h = c.lower_all.ensures.swept in
    record {
      sweep = all_swept n es fs (length n.edges) c.requires.entries h (omega arith);
      entries = h.entries;
      feasible = h.feasible;
      bare = λ z. swept_bare n es fs (length n.edges) c.requires.entries h z;
      belong = λ b. swept_belong n es fs (length n.edges) h b;
      falls = λ e. let f = h.falls e in let old = value_is es e in let new = value_is fs e in omega (arith, ints, f, old, new);
      anchors = λ e hull. value_is fs e ∙ (h.others e (inr hull) ∙ sym (value_is es e));
      lefts = h.lefts;
      rights = h.rights;
      live = h.live;
      anchored = ap (live_edges n) h.anchored;
    }
