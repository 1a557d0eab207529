-- The corners of a list of triangles.
use Rattle.std.specs.Prelude.{◌≡◌, ◌↔◌, ℕ, ◌<◌, Bool, true, false, List, length, slice_index_or, Any}
use Rattle.exact_predicates.specs.declared.tri.Tri.{Tri}
use Rattle.exact_predicates.specs.Triangulation.{IsCorner}

-- x is a corner of one of the triangles
abbrev pub IsCornerIn : List Tri → ℕ → Type 0
IsCornerIn tris x = Any (λ t. IsCorner t x) tris

-- of each point, whether it is a corner
pub record AreCornerMarks (count : ℕ) (tris : List Tri) (marks : List Bool) : Type 0 where
  pub one_each : length marks ≡ count
  pub each : (x : ℕ) → x < count → (slice_index_or marks x false ≡ true) ↔ IsCornerIn tris x
