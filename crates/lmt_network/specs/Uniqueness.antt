-- The points of a problem have one list of candidate edges and one live list, with each value of the diamond test.
use Rattle.std.specs.Prelude.{◌≡◌, ℕ, List}
use Rattle.exact_predicates.specs.declared.diamond.Diamond.{Diamond}
use Rattle.exact_predicates.specs.declared.edge.Edge.{Edge}
use Rattle.exact_predicates.specs.declared.point.Point.{Point}
use Rattle.exact_predicates.specs.Candidates.{AreCandidates}
use Rattle.exact_predicates.specs.Hull.{IsHull}
use Rattle.exact_predicates.specs.PointSet.{IsPointSet}
use Rattle.lmt_network.specs.Live.{IsLive}

abbrev pub OneCandidateList : Type 0
OneCandidateList =
    (ps : List Point) (hull other : List ℕ) (diamond : Diamond) (es fs : List Edge)
    → IsPointSet ps → IsHull ps hull → IsHull ps other
    → AreCandidates ps hull diamond es → AreCandidates ps other diamond fs → es ≡ fs

abbrev pub OneLiveList : Type 0
OneLiveList =
    (ps : List Point) (hull other : List ℕ) (diamond : Diamond) (es fs : List Edge)
    → IsPointSet ps → IsHull ps hull → IsHull ps other
    → IsLive ps hull diamond es → IsLive ps other diamond fs → es ≡ fs
