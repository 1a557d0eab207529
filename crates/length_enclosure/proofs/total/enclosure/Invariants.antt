use Rattle.std.proofs.Common.{◌+◌, ◌*◌, ◌^◌, ◌≤◌, length, take}
use Rattle.exact_predicates.specs.Triangulation.{edges}
use Rattle.length_enclosure.specs.Enclosure.{IsEnclosure}
use Rattle.length_enclosure.proofs.total.enclosure.Given as goal

abbrev pub invariant-loop-tri : goal.invariant-loop-tri
invariant-loop-tri l = record {
  ends : IsEnclosure l.points.points (edges l.hull (take l.tri-index l.tris)) l.so_far;
  bound : l.so_far.hi ≤ 3 * 10 ^ 15 * length (edges l.hull (take l.tri-index l.tris));
  few : length (edges l.hull (take l.tri-index l.tris)) ≤ length l.hull + 3 * l.tri-index;
}
