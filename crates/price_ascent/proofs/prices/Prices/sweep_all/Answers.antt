use Rattle.std.proofs.Common.{◌≡◌, ℕ, suc, ◌+◌, ◌-◌, Bool, List, length, ap, sym, ◌∙◌, subst, arith}
use Rattle.lmt_network.specs.Flags.{live_edges}
use Rattle.price_ascent.specs.declared.entry.PriceEntry.{PriceEntry}
use Rattle.price_ascent.specs.Ascent.{AreSweeps, IsSweep}
use Rattle.price_ascent.specs.Entries.{table_of}
use Rattle.price_ascent.proofs.Sweeps.{all_swept, sweeps_at_rest, swept_belong}
use Rattle.price_ascent.proofs.prices.Prices.sweep_all.Goals as goal

pub loop-done-preserved : goal.loop-done-preserved
loop-done-preserved c =
    let n = c.args.net.now in
    let flags = c.args.flags.now in
    let inv = c.loop-done.invariant in
    let es = c.loop-done.self in
    let fs = c.lower_all.new.self in
    let h = c.lower_all.ensures.swept in
    let sweep = all_swept n es fs (length n.edges) inv.belong.entries h (omega arith) in
    let k = c.loop-done._done in
    let next : k + 1 ≡ suc k = omega arith in
    record {
      belong = swept_belong n es fs (length n.edges) h inv.belong;
      live = h.live ∙ inv.live;
      anchored = ap (live_edges n) h.anchored ∙ inv.anchored;
      sweeps = subst (λ (i : ℕ). AreSweeps n flags i (table_of c.args.self.now) (table_of fs)) (sym next)
          (table_of es, inv.sweeps, subst (λ (bs : List Bool). IsSweep n bs (table_of es) (table_of fs)) inv.live sweep);
    }

pub returns-then-not-lower_all : goal.returns-then-not-lower_all
returns-then-not-lower_all c =
    let n = c.args.net.now in
    let flags = c.args.flags.now in
    let inv = c.loop-done.invariant in
    let first = table_of c.args.self.now in
    let es = c.loop-done.self in
    let fs = c.lower_all.new.self in
    let h = c.lower_all.ensures.swept in
    let same : es ≡ fs = sym (c.lower_all.ensures.at_rest c.if-not-lower_all.true) in
    let sweep = subst (λ (bs : List Bool). IsSweep n bs (table_of es) (table_of fs)) inv.live (all_swept n es fs (length n.edges) inv.belong.entries h (omega arith)) in
    let rest = subst (λ (xs : List PriceEntry). IsSweep n flags (table_of xs) (table_of fs)) same sweep in
    let k = c.loop-done._done in
    let below = c.loop-done-test.true in
    let all : (c.args.sweeps - k) + k ≡ c.args.sweeps = omega (arith, below) in
    record {
      sweeps = subst (λ (i : ℕ). AreSweeps n flags i first (table_of fs)) all
          (sweeps_at_rest n flags k (c.args.sweeps - k) first (table_of fs) (subst (λ (xs : List PriceEntry). AreSweeps n flags k first (table_of xs)) same inv.sweeps) rest);
      belong = swept_belong n es fs (length n.edges) h inv.belong;
      live = h.live ∙ (inv.live ∙ c.requires.live);
      anchored = ap (live_edges n) h.anchored ∙ inv.anchored;
    }

pub returns : goal.returns
returns c =
    let inv = c.loop-done.invariant in
    let done = c.loop-done-test.false in
    let upto = c.loop-done.auto._done-end in
    let all : c.loop-done._done ≡ c.args.sweeps = omega (arith, done, upto) in
    record {
      sweeps = subst (λ (i : ℕ). AreSweeps c.args.net.now c.args.flags.now i (table_of c.args.self.now) (table_of c.loop-done.self)) all inv.sweeps;
      belong = inv.belong;
      live = inv.live ∙ c.requires.live;
      anchored = inv.anchored;
    }
