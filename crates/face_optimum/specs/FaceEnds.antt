-- What `solve_faces` answers.
use Rattle.std.specs.Prelude.{ℕ, List, Bool}
use Rattle.exact_predicates.specs.declared.edge.Edge.{Edge}
use Rattle.lmt_network.specs.Flags.{live_edges}
use Rattle.lmt_network.specs.Network.{NetworkParts}
use Rattle.face_optimum.specs.declared.solve.FaceEnd.{FaceEnd}
use Rattle.face_optimum.specs.declared.solve.FaceEnd.TheVariants.{Whole, Not}
use Rattle.face_optimum.specs.Decomposition.{Decomposes, bounded_faces}
use Rattle.face_optimum.specs.Optimum.{IsFaceOptimum}

-- Where the skeleton decomposes, the optimum on its bounded faces; Not exactly where it does not.
abbrev pub IsFaceEnd : NetworkParts → List Bool → List Edge → List (List ℕ) → ℕ → FaceEnd → Type 0
IsFaceEnd n flags skeleton cycles most (Whole tris prices) =
    Decomposes n.points n.hull (live_edges n flags) skeleton cycles most
    × IsFaceOptimum n flags skeleton (bounded_faces n.hull cycles) tris prices
IsFaceEnd n flags skeleton cycles most Not = ¬ Decomposes n.points n.hull (live_edges n flags) skeleton cycles most
