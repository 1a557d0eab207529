use Rattle.std.proofs.Common.{◌≤◌, ◌<◌, ◌+◌, vec_len}
use Rattle.std.specs.Io.KnownBytes.{Consumes}
use Rattle.mwt_base.proofs.whole.read_whole.Given as goal

abbrev pub invariant-pieces : goal.invariant-pieces
invariant-pieces g l = record {
  taken : Consumes (g.S.Source.left l.initial.source) (g.S.Source.left l.source) l.bytes.items;
  room : 0 < vec_len l.piece;
  within : vec_len l.bytes ≤ l.limit;
  each : l._turn ≤ vec_len l.bytes;
  later : g.S.Source.faults l.initial.source ≤ g.S.Source.faults l.source;
  reads : g.S.Source.reads l.source ≤ g.S.Source.reads l.initial.source + l._turn;
}
