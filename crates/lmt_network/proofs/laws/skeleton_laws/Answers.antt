use Rattle.lmt_network.proofs.Skeletons.{one_law, triangulation_law, flip_minimal_law, hull_law}
use Rattle.lmt_network.proofs.laws.skeleton_laws.Goals as goal

pub returns-clause-one : goal.returns-clause-one
returns-clause-one c = one_law

pub returns-clause-in_triangulation : goal.returns-clause-in_triangulation
returns-clause-in_triangulation c = triangulation_law

pub returns-clause-in_flip_minimal : goal.returns-clause-in_flip_minimal
returns-clause-in_flip_minimal c = flip_minimal_law

pub returns-clause-hull : goal.returns-clause-hull
returns-clause-hull c = hull_law
