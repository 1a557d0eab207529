use Rattle.skeleton_faces.specs.Rounds.{AreTraced}
use Rattle.skeleton_faces.specs.Turning.{AreNexts}
use Rattle.skeleton_faces.proofs.all_faces.faces.Given as goal

abbrev pub invariant-loop-edge : goal.invariant-loop-edge
invariant-loop-edge l = AreNexts l.points.points l.edges l.nexts.items × AreTraced l.edges l.nexts.items l.edge l.rounds
