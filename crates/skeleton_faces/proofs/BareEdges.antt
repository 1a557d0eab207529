-- Bare edges by the triangles on their sides, and a list of them.
use Rattle.std.proofs.Common.{◌≡◌, ◌↔◌, ℕ, ◌+◌, ◌<◌, ◌≤◌, Bool, true, false, List, [], ◌∷◌, ◌++◌, length, get_or, Any, Contains, sym, ap, ◌∙◌, subst, ⊎_elim, arith}
use Rattle.std.proofs.lemmas.Bool.{cases_lt}
use Rattle.std.proofs.lemmas.List.{get_or_default}
use Rattle.std.proofs.lemmas.List.Elements.{Contains-append_left, Contains-push, Contains-push_cases}
use Rattle.exact_predicates.specs.declared.edge.Edge.{Edge}
use Rattle.exact_predicates.specs.declared.tri.Tri.{Tri}
use Rattle.exact_predicates.specs.Candidates.{IsEmptyOver}
use Rattle.lmt_network.specs.Flags.{live_edges}
use Rattle.lmt_network.specs.Network.{IsNetwork, NetworkParts, edge_at, tri_at}
use Rattle.lmt_network.specs.Numbers.{HasSide}
use Rattle.lmt_network.proofs.Naming.{flags_named, read_member, tri_number}
use Rattle.lmt_network.proofs.Picked.{picked_from, picked_in}
use Rattle.skeleton_faces.specs.Fans.{IsBareEdge, IsFaced}
use Rattle.skeleton_faces.specs.Reaches.{IsLiveTri}

-- the row of the triangles with a side has a live one exactly where some empty triangle over the live edges has the side
pub faced_by_row : (n : NetworkParts) (flags : List Bool) (u v : ℕ) (row : List ℕ) → IsNetwork n → length flags ≡ length n.edges
    → ((t : ℕ) → Contains row t ↔ ((t < length n.tris) × HasSide (tri_at n t) u v)) → Any (IsLiveTri n flags) row ↔ IsFaced n.points (live_edges n flags) u v
faced_by_row n flags u v row net one_each members = (
  λ (k, t, k_in, at_k, live). (tri_at n t, ((members t).0 (k, k_in, at_k)).1, live),
  λ (tri, side, over).
      let there = tri_number n (live_edges n flags) tri net (flags_named n flags net.ascending one_each).known over in
      let is : tri_at n there.0 ≡ tri = read_member n.tris tri _ there in
      let (k, k_in, at_k) = (members there.0).1 (there.1, subst (λ (t : Tri). HasSide t u v) (sym is) side) in
      (k, there.0, k_in, at_k, subst (IsEmptyOver n.points (live_edges n flags)) (sym is) over),
)

-- the bare edges among the first m live ones
abbrev pub IsBareTo : NetworkParts → List Bool → ℕ → List Edge → Type 0
IsBareTo n flags m bare =
    (e : Edge) → Contains bare e ↔ ((k : ℕ) × (k < m) × (get_or flags k false ≡ true) × (edge_at n k ≡ e) × IsBareEdge n.points n.hull (live_edges n flags) e)

pub bare_none : (n : NetworkParts) (flags : List Bool) (bare : List Edge) → bare ≡ [] → IsBareTo n flags 0 bare
bare_none n flags bare is e = (
  λ has. let (k, k_in, at_k) = subst (λ xs. Contains xs e) is has in absurd (omega arith),
  λ (k, l, up, at, b). absurd (omega arith),
)

module _ (n : NetworkParts) (flags : List Bool) (m : ℕ) (bare after : List Edge) (h : IsBareTo n flags m bare) where
  -- one bare edge more
  pub bare_more : get_or flags m false ≡ true → IsBareEdge n.points n.hull (live_edges n flags) (edge_at n m) → after ≡ bare ++ edge_at n m ∷ [] → IsBareTo n flags (m + 1) after
  bare_more up is_bare is e = (
    λ has. ⊎_elim
        (λ old. let (k, l, k_up, at, b) = (h e).0 old in (k, omega arith, k_up, at, b))
        (λ (same : edge_at n m ≡ e). (m, omega arith, up, same, subst (IsBareEdge n.points n.hull (live_edges n flags)) same is_bare))
        (Contains-push_cases bare (edge_at n m) e (subst (λ xs. Contains xs e) is has)),
    λ (k, l, k_up, at, b). subst (λ xs. Contains xs e) (sym is)
        (⊎_elim
        (λ (below : k < m). Contains-append_left bare (edge_at n m ∷ []) e ((h e).1 (k, below, k_up, at, b)))
        (λ (last : m ≤ k). let k_is : k ≡ m = omega arith in subst (Contains (bare ++ edge_at n m ∷ [])) (sym (ap (edge_at n) k_is) ∙ at) (Contains-push bare (edge_at n m)))
        (cases_lt k m)),
  )

  -- and one that is not live, or not bare
  pub bare_same : ¬ ((get_or flags m false ≡ true) × IsBareEdge n.points n.hull (live_edges n flags) (edge_at n m)) → after ≡ bare → IsBareTo n flags (m + 1) after
  bare_same not_bare is e = (
    λ has. let (k, l, k_up, at, b) = (h e).0 (subst (λ xs. Contains xs e) is has) in (k, omega arith, k_up, at, b),
    λ (k, l, k_up, at, b). subst (λ xs. Contains xs e) (sym is)
        (⊎_elim
        (λ (below : k < m). (h e).1 (k, below, k_up, at, b))
        (λ (last : m ≤ k). let k_is : k ≡ m = omega arith in
        absurd (not_bare (subst (λ (x : ℕ). get_or flags x false ≡ true) k_is k_up, subst (IsBareEdge n.points n.hull (live_edges n flags)) (sym at ∙ ap (edge_at n) k_is) b)))
        (cases_lt k m)),
  )

-- in the end they are the bare ones of the live list
pub bare_all : (n : NetworkParts) (flags : List Bool) (bare : List Edge) → length flags ≡ length n.edges → IsBareTo n flags (length n.edges) bare
    → (e : Edge) → Contains bare e ↔ (Contains (live_edges n flags) e × IsBareEdge n.points n.hull (live_edges n flags) e)
bare_all n flags bare one_each h e = (
  λ has. let (k, l, up, at, b) = (h e).0 has in (subst (Contains (live_edges n flags)) at (picked_in flags n.edges k _ l up), b),
  λ (live, b). let (k, k_in, up, at_k) = picked_from flags n.edges e live in (h e).1 (k, k_in, up, get_or_default n.edges k _ e k_in ∙ at_k, b),
)
