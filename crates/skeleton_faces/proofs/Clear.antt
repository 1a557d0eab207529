-- The skeleton of candidate edges has faces.
use Rattle.std.proofs.Common.{ℕ, ◌<◌, List, length, All}
use Rattle.std.proofs.lemmas.List.Elements.{All-contains, All-weaker}
use Rattle.exact_predicates.specs.declared.diamond.Diamond.{Diamond}
use Rattle.exact_predicates.specs.declared.edge.Edge.{Edge}
use Rattle.exact_predicates.specs.declared.point.Point.{Point}
use Rattle.exact_predicates.specs.Candidates.{IsCandidate}
use Rattle.exact_predicates.specs.Plane.{IsBetween}
use Rattle.exact_predicates.specs.PointSet.{point_at}
use Rattle.lmt_network.specs.Skeleton.{AreSkeleton, IsSkeletonEdge}
use Rattle.skeleton_faces.specs.Faces.{AreClear}

-- what `faces` and `connected` ask of the edges holds of the skeleton of candidate edges
pub AreClear-skeleton : (ps : List Point) (hull : List ℕ) (diamond : Diamond) (es skeleton : List Edge) → All (IsCandidate ps hull diamond) es → AreSkeleton ps es skeleton → AreClear ps skeleton
AreClear-skeleton ps hull diamond es skeleton candidates h =
    record {
      ascending = h.ascending;
      ends_in = All-weaker (IsSkeletonEdge ps es) (λ e. e.b < length ps) (λ e k. (All-contains (IsCandidate ps hull diamond) es e candidates k.member).b_in) skeleton h.each;
      clear = All-weaker (IsSkeletonEdge ps es) (λ e. (r : ℕ) → r < length ps → ¬ IsBetween (point_at ps e.a) (point_at ps e.b) (point_at ps r))
          (λ e k. (All-contains (IsCandidate ps hull diamond) es e candidates k.member).clear) skeleton h.each;
    }
