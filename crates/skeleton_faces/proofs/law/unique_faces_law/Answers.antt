use Rattle.skeleton_faces.proofs.OneFaceList.{one_face_list}
use Rattle.skeleton_faces.proofs.law.unique_faces_law.Goals as goal

pub returns : goal.returns
returns c = one_face_list
