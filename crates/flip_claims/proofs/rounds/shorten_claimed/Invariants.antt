use Rattle.std.proofs.Common.{◌<◌, ◌^◌, length, All, sum_by}
use Rattle.flip_finish.specs.Flipping.{slot_d2}
use Rattle.flip_finish.specs.Mesh.{IsWhole, IsWithin}
use Rattle.flip_claims.specs.Rounds.{AreShortening}
use Rattle.flip_claims.proofs.Repeating.{AreRoundsTo}
use Rattle.flip_claims.proofs.rounds.shorten_claimed.Given as goal

abbrev pub invariant-rounds : goal.invariant-rounds
invariant-rounds g l = record {
  rounds : AreRoundsTo l.points.points l.initial.mesh l.mesh;
  shortening : AreShortening l.points.points l.mesh l.slots.items;
  within : All (IsWithin l.points.points) l.mesh.tris;
  whole : IsWhole l.mesh;
  few : length l.mesh.slots < 2 ^ 32;
}

abbrev pub decreases-rounds : goal.decreases-rounds
decreases-rounds g l = sum_by (slot_d2 l.points.points) l.mesh.slots
