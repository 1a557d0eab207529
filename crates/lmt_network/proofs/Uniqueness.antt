-- There is one list of candidate edges and one live list, since there is one hull.
use Rattle.std.proofs.Common.{ℕ, List, subst}
use Rattle.exact_predicates.specs.Candidates.{AreCandidates}
use Rattle.exact_predicates.proofs.Ascending.{AreCandidates-only}
use Rattle.exact_predicates.proofs.OneHull.{IsHull-only}
use Rattle.lmt_network.specs.Live.{IsLive}
use Rattle.lmt_network.specs.Uniqueness.{OneCandidateList, OneLiveList}
use Rattle.lmt_network.proofs.NumberLaws.{IsLive-only}

pub one_candidate_list_law : OneCandidateList
one_candidate_list_law ps hull other diamond es fs set h k are these =
    AreCandidates-only ps other diamond es fs (subst (λ (x : List ℕ). AreCandidates ps x diamond es) (IsHull-only ps hull other set h k) are) these

pub one_live_list_law : OneLiveList
one_live_list_law ps hull other diamond es fs set h k is_live these =
    IsLive-only ps other diamond es fs (subst (λ (x : List ℕ). IsLive ps x diamond es) (IsHull-only ps hull other set h k) is_live) these
