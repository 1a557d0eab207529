-- The ends of the edge with a number, and the edges of the hull.
use Rattle.std.proofs.Common.{◌≡◌, ℕ, ◌<◌, ◌≤◌, ℤ, of_z, to_z, w64, sym, subst, arith}
use Rattle.std.proofs.lemmas.Int.{ints}
use Rattle.exact_predicates.specs.declared.edge.Edge.{Edge}
use Rattle.exact_predicates.specs.Candidates.{Joins}
use Rattle.exact_predicates.specs.Hull.{IsHullPair}
use Rattle.exact_predicates.proofs.Rings.{pair_ends}
use Rattle.lmt_network.specs.Network.{IsNetwork, NetworkParts, edge_at}
use Rattle.lmt_network.specs.Numbers.{IsNumberOf}
use Rattle.lmt_network.proofs.SideEdges.{edge_between, hull_edge}
use Rattle.lmt_network.proofs.Naming.{read_member}
use Rattle.price_ascent.specs.Steps.{IsSlack}

pub ends_up : (n : NetworkParts) (e u v : ℕ) → IsNumberOf n u v e → u < v → ((edge_at n e).a ≡ u) × ((edge_at n e).b ≡ v)
ends_up n e u v is l = let low = is.1.0 in let high = is.1.1 in (omega arith, omega arith)

pub ends_down : (n : NetworkParts) (e u v : ℕ) → IsNumberOf n u v e → v ≤ u → ((edge_at n e).b ≡ u) × ((edge_at n e).a ≡ v)
ends_down n e u v is l = let low = is.1.0 in let high = is.1.1 in (omega arith, omega arith)

-- the two members of a pair of the hull have an edge of the network
pub hull_number_there : (n : NetworkParts) (u v : ℕ) → IsNetwork n → IsHullPair n.hull u v → (e : ℕ) × IsNumberOf n u v e
hull_number_there n u v net pair =
    let e = edge_between u v (pair_ends n.points n.hull u v net.hull_is pair).2 in
    let k = net.hull_edges e.0 (hull_edge n.hull e.0 u v e.1 pair) in
    (k.0, (k.1, subst (λ (x : Edge). Joins x u v) (sym (read_member n.edges e.0 _ k)) e.1))

-- a least slack as it is written
pub least_is : (m : ℤ) → IsSlack m → to_z w64 (of_z w64 m) ≡ m
least_is m h = let low = h.0 in let high = h.1 in omega (arith, ints, low, high)
