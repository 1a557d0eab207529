-- Where one cycle of the skeleton is left out and goes round the hull, the pairs of the hull are edges of the skeleton.
use Rattle.std.proofs.Common.{ℕ, List, [], Contains, arith, sym, subst}
use Rattle.exact_predicates.specs.declared.edge.Edge.{Edge}
use Rattle.exact_predicates.specs.declared.point.Point.{Point}
use Rattle.exact_predicates.specs.Candidates.{HasEdge}
use Rattle.exact_predicates.specs.Hull.{IsHullPair, ring_pairs}
use Rattle.exact_predicates.proofs.Equalities.{HasEdge-comm}
use Rattle.lmt_network.proofs.Filters.{count_to, filter-from}
use Rattle.lmt_network.proofs.Picked.{Contains-here}
use Rattle.skeleton_faces.specs.Faces.{AreFaces}
use Rattle.face_optimum.specs.Decomposition.{IsHullLeftOut, is_outer}
use Rattle.face_optimum.proofs.Rounds.{edge_of_side, side_of_pair}

-- the cycle that is left out is one of them
outer_in : (hull : List ℕ) (cycles : List (List ℕ)) (out : IsHullLeftOut hull cycles) → Contains cycles out.outer
outer_in hull cycles out =
    (filter-from (is_outer hull) cycles out.outer
    (subst (λ (cs : List (List ℕ)). Contains cs out.outer) (sym out.one) (Contains-here out.outer []))).0

pub hull_in_skeleton : (ps : List Point) (hull : List ℕ) (skeleton : List Edge) (cycles : List (List ℕ)) (u v : ℕ) → AreFaces ps skeleton cycles → IsHullLeftOut hull cycles
    → IsHullPair hull u v → HasEdge skeleton u v
hull_in_skeleton ps hull skeleton cycles u v are out pair =
    let once = out.rim.once u v pair in
    HasEdge-comm skeleton v u
    (edge_of_side ps skeleton cycles are out.outer v u (outer_in hull cycles out) (side_of_pair out.outer v u (count_to (ring_pairs out.outer) v u (omega arith))))
