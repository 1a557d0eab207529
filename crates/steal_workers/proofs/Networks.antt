-- A network has edges, since its hull has.
use Rattle.std.proofs.Common.{◌≢◌, ℕ, ◌<◌, length, slice_index, refl, inl, inr, ⊎_elim, arith}
use Rattle.std.proofs.lemmas.Bool.{cases_lt}
use Rattle.exact_predicates.specs.declared.edge.Edge.{Edge}
use Rattle.exact_predicates.specs.Hull.{IsHullPair}
use Rattle.exact_predicates.proofs.Rings.{pair_of_place}
use Rattle.lmt_network.specs.Network.{NetworkParts, IsNetwork}

one_edge : (n : NetworkParts) → IsNetwork n → (a b : ℕ) → (low : a < b) → IsHullPair n.hull a b → 0 < length n.edges
one_edge n h a b low pair = let e : Edge = record { a = a; b = b; ascending = low } in let has = h.hull_edges e (inl pair) in let k_in = has.1 in omega arith

other_edge : (n : NetworkParts) → IsNetwork n → (a b : ℕ) → (low : a < b) → IsHullPair n.hull b a → 0 < length n.edges
other_edge n h a b low pair = let e : Edge = record { a = a; b = b; ascending = low } in let has = h.hull_edges e (inr pair) in let k_in = has.1 in omega arith

pub has_edges : (n : NetworkParts) → IsNetwork n → 0 < length n.edges
has_edges n h = let three = h.hull_is.three in let u : ℕ = slice_index n.hull 0 in let v : ℕ = slice_index n.hull 1 in
    let pair : IsHullPair n.hull u v = pair_of_place n.hull u v 0 (omega arith) refl (inl (omega arith, refl)) in
    let apart : u ≢ v = h.hull_is.distinct 0 1 0 (omega arith) (omega arith) in
    ⊎_elim (λ l. one_edge n h u v l pair) (λ l. other_edge n h v u (omega arith) pair) (cases_lt u v)
