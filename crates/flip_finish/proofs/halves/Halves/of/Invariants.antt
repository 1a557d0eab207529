use Rattle.std.proofs.Common.{◌++◌, take}
use Rattle.exact_predicates.specs.Hull.{ring_pairs}
use Rattle.flip_finish.specs.Halves.{AreSplit, numbered_sides, outer_sides}
use Rattle.flip_finish.proofs.halves.Halves.of.Given as goal

abbrev pub invariant-loop-i : goal.invariant-loop-i
invariant-loop-i l = AreSplit (numbered_sides 0 (take l.i l.tris)) l.halves.ups.items l.halves.downs.items

abbrev pub invariant-loop-k : goal.invariant-loop-k
invariant-loop-k l =
    AreSplit (numbered_sides 0 l.tris ++ outer_sides (take l.k (ring_pairs l.hull))) l.halves.ups.items l.halves.downs.items
