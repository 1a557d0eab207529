-- What the mode `explain` says of points: which of their candidate edges are not live, and why.
use Rattle.std.specs.Prelude.{◌≡◌, ◌==◌, ℕ, ◌≤◌, List, map, slice_index}
use Rattle.exact_predicates.specs.declared.diamond.Diamond.{Diamond}
use Rattle.exact_predicates.specs.declared.point.Point.{Point}
use Rattle.exact_predicates.specs.Hull.{IsHull}
use Rattle.lmt_network.specs.Derivation.{IsDerivation}
use Rattle.lmt_network.specs.Network.{NetworkParts}
use Rattle.ticket_marks.specs.Finish.{most_ranks}
use Rattle.dual_checker.specs.Elimination.{IsElimination}
use Rattle.mwt_tool.specs.Kills.{kill_text}

-- The text is that of ranks of the candidate edges. The edges with the rank 0 are the live list, so the killed ones are the
-- candidates outside of it; and the ranks are a derivation, none of them above 66 times the number of candidates.
pub record IsExplained (ps : List Point) (diamond : Diamond) (text : List ℕ) : Type 0 where
  pub hull : List ℕ
  pub hull_is : IsHull ps hull
  pub net : NetworkParts
  pub ranks : List ℕ
  pub elimination : IsElimination ps hull diamond net (map (λ m. m == 0) ranks)
  pub derivation : IsDerivation net ranks
  pub low : (e : ℕ) → slice_index ranks e ≤ most_ranks net
  pub text_is : text ≡ kill_text net ranks
