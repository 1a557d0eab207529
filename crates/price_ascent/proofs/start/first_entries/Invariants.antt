use Rattle.std.proofs.Common.{◌≡◌, ℕ, ◌*◌, ◌^◌, ◌<◌, length, slice_index_or, true, false}
use Rattle.length_enclosure.specs.Enclosure.{weight}
use Rattle.lmt_network.specs.Network.{edge_at}
use Rattle.price_ascent.specs.Entries.{entry}
use Rattle.price_ascent.specs.Steps.{start_entry}
use Rattle.price_ascent.proofs.start.first_entries.Given as goal

abbrev pub invariant-loop-e : goal.invariant-loop-e
invariant-loop-e l = record {
  so_many : length l.entries.items ≡ l.e;
  each : (k : ℕ) → k < l.e → entry l.entries.items k ≡ start_entry l.net l.flags k;
  light : (k : ℕ) → k < l.e → slice_index_or l.flags k false ≡ true → weight l.net.points ((edge_at l.net k).a, (edge_at l.net k).b) < 3 * 10 ^ 15;
}
