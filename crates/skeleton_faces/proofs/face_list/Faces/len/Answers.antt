-- There are as many faces as pieces.
use Rattle.std.proofs.Common.{ap, length, arith}
use Rattle.skeleton_faces.proofs.Cuts.{length-pieces}
use Rattle.skeleton_faces.proofs.face_list.Faces.len.Goals as goal

pub returns : goal.returns
returns c =
    let i = c.self.inside in
    omega (arith, length-pieces i.starts.items i.bounds.items, ap length c.self.view_is, c.len.ensures)
