-- No side of a face stands in it twice.
use Rattle.std.proofs.Common.{◌≢◌, ℕ, List, AllPairs}
use Rattle.std.proofs.lemmas.List.Elements.{All-weaker}
use Rattle.exact_predicates.specs.Hull.{ring_pairs}
use Rattle.skeleton_faces.specs.Faces.{IsFace}
use Rattle.face_optimum.proofs.FaceFacts.{pairs_distinct}
use Rattle.face_optimum.proofs.decide.is_cut.Goals as goal

pub is_hull_left_out-requires-clause-once : goal.is_hull_left_out-requires-clause-once
is_hull_left_out-requires-clause-once c =
    All-weaker (IsFace c.args.points.now.points c.args.skeleton.now) (λ (x : List ℕ). AllPairs (λ s t. s ≢ t) (ring_pairs x)) (λ x face. pairs_distinct c.args.points.now.points c.args.skeleton.now x face) c.args.faces.now c.requires.faces_are.each
