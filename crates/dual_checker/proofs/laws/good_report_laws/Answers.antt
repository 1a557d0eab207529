use Rattle.dual_checker.proofs.GoodBounds.{bound_is_lower, bound_is_lower_off, bound_is_lower_over_live, faces_are_optimal, skeleton_is_common}
use Rattle.dual_checker.proofs.laws.good_report_laws.Goals as goal

pub returns : goal.returns
returns c = record { bound = bound_is_lower; bound_off = bound_is_lower_off; bound_live = bound_is_lower_over_live; faces = faces_are_optimal; skeleton = skeleton_is_common }
