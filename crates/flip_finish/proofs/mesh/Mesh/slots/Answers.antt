-- A mesh whose faces and slots fit is whole.
use Rattle.std.proofs.Common.{subst}
use Rattle.flip_finish.specs.Mesh.{IsWhole}
use Rattle.flip_finish.proofs.Wholes.{IsWhole-fits}
use Rattle.flip_finish.proofs.mesh.Mesh.slots.Goals as goal

pub returns-clause-whole : goal.returns-clause-whole
returns-clause-whole c = subst IsWhole c.self.view_is (IsWhole-fits _ _ c.self.invariant)
