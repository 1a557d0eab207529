-- The test is asked of the four ends.
use Rattle.skeleton_faces.proofs.crossings.are_crossing.Goals as goal

pub returns : goal.returns
returns c = rw (← c.at.ensures.value, ← c.at-2.ensures.value, ← c.at-3.ensures.value, ← c.at-4.ensures.value) c.crosses.ensures
