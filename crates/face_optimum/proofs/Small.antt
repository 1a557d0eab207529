-- How great costs are.
use Rattle.std.proofs.Common.{◌≡◌, ◌⊎◌, ℕ, ◌+◌, ◌*◌, ◌^◌, ◌<◌, ◌≤◌, List, [], length, slice_index, All, arith, sym, subst, ⊎_elim}
use Rattle.std.proofs.lemmas.List.Elements.{All-from_get_or}
use Rattle.face_optimum.specs.declared.site.Site.{Site}
use Rattle.face_optimum.specs.Cuts.{IsSmallCost, most_cost}
use Rattle.face_optimum.specs.Decomposition.{IsSized}
use Rattle.face_optimum.specs.Places.{face_at}
use Rattle.face_optimum.specs.Seats.{IsOff, edge_seat, span}
use Rattle.face_optimum.specs.Sites.{IsSite, faces_of, most_places}

-- no face has more places than that
pub sizes_of : (s : Site) (h : IsSite s) (f : ℕ) → f < length (faces_of s) → length (face_at (faces_of s) f) ≤ most_places
sizes_of s h f f_in =
    (subst (λ (fs : List (List ℕ)). All (IsSized most_places) fs) (sym h.rings_are) h.cut.sizes f [] f_in).1

-- costs of parts, each by how many sides of its face it has
abbrev pub AreSmall : Site → List ℕ → Type 0
AreSmall s costs = (e : ℕ) → (slice_index costs e ≡ 0) ⊎ (IsOff s.net.now s.flags.now s.skeleton.now e × IsSmallCost (span s.edge_seats.now e) (slice_index costs e))

-- with the weight of an edge each is within the limit of prices
pub small_cost : (s : Site) (costs : List ℕ) (e : ℕ) → IsSite s → AreSmall s costs → slice_index costs e + 3 * 10 ^ 15 ≤ most_cost
small_cost s costs e h small =
    ⊎_elim
    (λ zero. omega (arith, zero))
    (λ some.
    let size = sizes_of s h (edge_seat s.edge_seats.now e).face (h.edges_are.face_in e some.0) in
    let last_in = (h.edges_are.sits e some.0).last_in in
    omega (arith, some.1, size, last_in))
    (small e)

pub small_costs : (s : Site) (costs : List ℕ) → IsSite s → AreSmall s costs → All (λ cost. cost ≤ most_cost) costs
small_costs s costs h small = All-from_get_or (λ cost. cost ≤ most_cost) costs 0 (λ e e_in. let l = small_cost s costs e h small in omega arith)
