use Rattle.std.proofs.Common.{◌*◌, ◌^◌, ◌≤◌, take}
use Rattle.exact_predicates.specs.Hull.{ring_pairs}
use Rattle.length_enclosure.specs.Enclosure.{IsEnclosure}
use Rattle.length_enclosure.proofs.total.around.Given as goal

abbrev pub invariant-loop-k : goal.invariant-loop-k
invariant-loop-k l =
    record { ends : IsEnclosure l.points.points (take l.k (ring_pairs l.hull)) l.so_far; bound : l.so_far.hi ≤ 3 * 10 ^ 15 * l.k }
