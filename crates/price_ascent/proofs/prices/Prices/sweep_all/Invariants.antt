use Rattle.std.proofs.Common.{◌≡◌}
use Rattle.price_ascent.specs.Ascent.{AreSweeps}
use Rattle.price_ascent.specs.Belonging.{BelongTo}
use Rattle.price_ascent.specs.Entries.{anchored_edges, live_of, table_of}
use Rattle.price_ascent.proofs.prices.Prices.sweep_all.Given as goal

abbrev pub invariant-loop-done : goal.invariant-loop-done
invariant-loop-done l = record {
  belong : BelongTo l.net l.self;
  live : live_of l.self ≡ l.flags;
  anchored : anchored_edges l.net l.self ≡ anchored_edges l.net l.fn.self;
  sweeps : AreSweeps l.net l.flags l._done (table_of l.fn.self) (table_of l.self);
}
