-- Walks along edges.
use Rattle.std.specs.Prelude.{◌≡◌, ℕ, ◌<◌, List, [], ◌∷◌, length}
use Rattle.exact_predicates.specs.declared.edge.Edge.{Edge}
use Rattle.exact_predicates.specs.declared.point.Point.{Point}
use Rattle.exact_predicates.specs.Candidates.{HasEdge}

-- from u a walk leads by these points, each joined to the next by an edge, to v
abbrev pub LeadsTo : List Edge → ℕ → List ℕ → ℕ → Type 0
LeadsTo es u [] v = u ≡ v
LeadsTo es u (w ∷ walk) v = HasEdge es u w × LeadsTo es w walk v

-- a walk along the edges leads from u to v
abbrev pub AreJoined : List Edge → ℕ → ℕ → Type 0
AreJoined es u v = (walk : List ℕ) × LeadsTo es u walk v

-- the edges join all points
abbrev pub IsConnected : List Point → List Edge → Type 0
IsConnected ps es = (u v : ℕ) → u < length ps → v < length ps → AreJoined es u v
