-- The live edges that are not covered, and that no bare edge crosses, are the skeleton.
use Rattle.std.proofs.Common.{◌≡◌, ◌↔◌, ℕ, ◌<◌, Bool, true, false, List, length, get_or, Any, Contains, sym, ◌∙◌, subst}
use Rattle.std.specs.List.{items_where_true}
use Rattle.std.proofs.lemmas.List.{get_or_default}
use Rattle.std.proofs.lemmas.List.Elements.{All-contains}
use Rattle.exact_predicates.specs.declared.edge.Edge.{Edge}
use Rattle.exact_predicates.specs.Candidates.{EdgePrecedes}
use Rattle.exact_predicates.specs.Plane.{IsBetween}
use Rattle.exact_predicates.specs.PointSet.{point_at}
use Rattle.lmt_network.specs.Flags.{live_edges}
use Rattle.lmt_network.specs.Network.{IsNetwork, NetworkParts, edge_at}
use Rattle.lmt_network.specs.Skeleton.{AreCrossing, AreSkeleton, IsSkeletonEdge}
use Rattle.lmt_network.proofs.Naming.{flags_named}
use Rattle.lmt_network.proofs.Picked.{All-from_members, All-picked, AllPairs-picked, flag_from_live, picked_from, picked_in}
use Rattle.skeleton_faces.specs.Fans.{IsBareEdge, IsCovered}
use Rattle.skeleton_faces.proofs.Crossed.{covered_crossed, uncrossed}

-- what the flags of skeleton edges choose is the skeleton
pub AreSkeleton-chosen : (n : NetworkParts) (flags kept : List Bool) → IsNetwork n → ((e : ℕ) → e < length n.edges → (get_or kept e false ≡ true) ↔ IsSkeletonEdge n.points (live_edges n flags) (edge_at n e))
    → AreSkeleton n.points (live_edges n flags) (items_where_true kept n.edges)
AreSkeleton-chosen n flags kept net told =
    record {
      ascending = AllPairs-picked EdgePrecedes kept n.edges net.ascending;
      each = All-from_members (IsSkeletonEdge n.points (live_edges n flags)) (items_where_true kept n.edges)
          (λ e has.
          let (k, k_in, on, at_k) = picked_from kept n.edges e has in
          subst (IsSkeletonEdge n.points (live_edges n flags)) (get_or_default n.edges k _ e k_in ∙ at_k) ((told k k_in).0 on));
      all = λ e s.
          let (k, k_in, up, at_k) = picked_from flags n.edges e s.member in
          let is : edge_at n k ≡ e = get_or_default n.edges k _ e k_in ∙ at_k in
          subst (Contains (items_where_true kept n.edges)) is (picked_in kept n.edges k _ k_in ((told k k_in).1 (subst (IsSkeletonEdge n.points (live_edges n flags)) (sym is) s)));
    }

-- and these are those of the edges that are left
pub skeleton_told : (n : NetworkParts) (flags : List Bool) (bare : List Edge) → IsNetwork n → length flags ≡ length n.edges
    → ((e : Edge) → Contains bare e ↔ (Contains (live_edges n flags) e × IsBareEdge n.points n.hull (live_edges n flags) e))
    → (e : ℕ) → e < length n.edges
    → (((get_or flags e false ≡ true) × (¬ IsCovered n.points (live_edges n flags) (edge_at n e))) × (¬ Any (AreCrossing n.points (edge_at n e)) bare)) ↔ IsSkeletonEdge n.points (live_edges n flags) (edge_at n e)
skeleton_told n flags bare net one_each bare_are e e_in = (
  λ ((up, free), none). record {
    member = picked_in flags n.edges e _ e_in up;
    uncrossed = λ k d k_in crossing. uncrossed n.points n.hull es x net.hull_is (All-picked (λ f. f.b < length n.points) flags n.edges net.ends_in) x_in clear free
        (λ f f_in f_bare crosses. let (j, j_in, at_j) = (bare_are f).1 (f_in, f_bare) in none (j, f, j_in, at_j, crosses))
        k k_in (subst (λ (f : Edge). AreCrossing n.points x f) (get_or_default es k d _ k_in) crossing);
  },
  λ s. (
    (
      flag_from_live flags e ((flags_named n flags net.ascending one_each).back e e_in s.member),
      λ covered. let (f, f_in, crossing) = covered_crossed n.points es x x_in clear covered in All-contains (λ g. ¬ AreCrossing n.points x g) es f s.uncrossed f_in crossing,
    ),
    λ (k, f, k_in, at_k, crossing). All-contains (λ g. ¬ AreCrossing n.points x g) es f s.uncrossed ((bare_are f).0 (k, k_in, at_k)).0 crossing,
  ),
)
  where
    es : List Edge
    es = live_edges n flags

    x : Edge
    x = edge_at n e

    x_in : (edge_at n e).b < length n.points
    x_in = net.ends_in e _ e_in

    clear : (r : ℕ) → r < length n.points → ¬ IsBetween (point_at n.points (edge_at n e).a) (point_at n.points (edge_at n e).b) (point_at n.points r)
    clear = net.clear e _ e_in

-- so the skeleton is what is left
pub skeleton_left : (n : NetworkParts) (flags uncovered kept : List Bool) (bare : List Edge) → IsNetwork n → length flags ≡ length n.edges
    → ((e : Edge) → Contains bare e ↔ (Contains (live_edges n flags) e × IsBareEdge n.points n.hull (live_edges n flags) e))
    → ((e : ℕ) → e < length n.edges → (get_or uncovered e false ≡ true) ↔ ((get_or flags e false ≡ true) × (¬ IsCovered n.points (live_edges n flags) (edge_at n e))))
    → ((e : ℕ) → e < length n.edges → (get_or kept e false ≡ true) ↔ ((get_or uncovered e false ≡ true) × (¬ Any (AreCrossing n.points (edge_at n e)) bare)))
    → AreSkeleton n.points (live_edges n flags) (items_where_true kept n.edges)
skeleton_left n flags uncovered kept bare net one_each bare_are free left =
    AreSkeleton-chosen n flags kept net
    (λ e e_in.
    let told = skeleton_told n flags bare net one_each bare_are e e_in in
    let first = free e e_in in
    let last = left e e_in in (
      λ on. let (up, none) = last.0 on in told.0 (first.0 up, none),
      λ s. let (up, none) = told.1 s in last.1 (first.1 up, none),
    ))
