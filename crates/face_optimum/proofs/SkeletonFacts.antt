-- The edges of the skeleton are live, and so edges of the network.
use Rattle.std.proofs.Common.{◌≡◌, ℕ, ◌<◌, List, Bool, length, get_or, All, Contains, subst}
use Rattle.std.proofs.lemmas.List.Elements.{All-contains, All-weaker}
use Rattle.exact_predicates.specs.declared.edge.Edge.{Edge}
use Rattle.exact_predicates.specs.declared.point.Point.{Point}
use Rattle.exact_predicates.proofs.Equalities.{HasEdge-Contains}
use Rattle.lmt_network.specs.Flags.{live_edges}
use Rattle.lmt_network.specs.Network.{IsNetwork, NetworkParts}
use Rattle.lmt_network.specs.Skeleton.{AreSkeleton, IsSkeletonEdge}
use Rattle.lmt_network.proofs.Naming.{flags_named}
use Rattle.face_optimum.specs.SeatTables.{AreSidesIn}

pub skeleton_live : (ps : List Point) (es skeleton : List Edge) → AreSkeleton ps es skeleton → All (Contains es) skeleton
skeleton_live ps es skeleton are = All-weaker (IsSkeletonEdge ps es) (Contains es) (λ e h. h.member) skeleton are.each

module _ (n : NetworkParts) (flags : List Bool) (net : IsNetwork n) (one_each : length flags ≡ length n.edges) (skeleton : List Edge) (live : All (Contains (live_edges n flags)) skeleton) where
  pub live_known : (e : Edge) → Contains skeleton e → Contains n.edges e
  live_known e has = (flags_named n flags net.ascending one_each).known e (All-contains (Contains (live_edges n flags)) skeleton e live has)

  pub ends_below : (ps : List Point) → n.points ≡ ps → All (λ e. e.b < length ps) skeleton
  ends_below ps same k d k_in =
      subst (λ (qs : List Point). (get_or skeleton k d).b < length qs) same
      (All-contains (λ e. e.b < length n.points) n.edges (get_or skeleton k d) net.ends_in ((flags_named n flags net.ascending one_each).known (get_or skeleton k d) (live k d k_in)))

  pub sides_known : (faces : List (List ℕ)) → AreSidesIn skeleton faces → AreSidesIn n.edges faces
  sides_known faces inside u v s at =
      let (k, x, k_in, at_k, joins) = inside u v s at in
      HasEdge-Contains n.edges x u v joins (live_known x (k, k_in, at_k))
