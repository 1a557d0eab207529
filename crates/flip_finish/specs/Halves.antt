-- The directed sides of a triangulation, with the outer sides of its hull: between two points as many one way as the other.
use Rattle.std.specs.Prelude.{◌≡◌, ℕ, Bool, nat_lt, List, [], ◌∷◌, ◌++◌, suc, filter, map, Option, Some, None}
use Rattle.exact_predicates.specs.declared.tri.Tri.{Tri}
use Rattle.exact_predicates.specs.Hull.{ring_pairs}
use Rattle.flip_finish.specs.declared.halves.Half.{Half}

-- the sides of triangles, each with the number of its triangle; the first triangle has the number n
abbrev pub numbered_sides : ℕ → List Tri → List ((ℕ × ℕ) × Option ℕ)
numbered_sides n [] = []
numbered_sides n (t ∷ ts) =
    ((t.a, t.b), Some n) ∷ ((t.b, t.c), Some n) ∷ ((t.c, t.a), Some n) ∷ numbered_sides (suc n) ts

-- the pairs of a hull as seen from outside, where there is no triangle
abbrev pub outer_sides : List (ℕ × ℕ) → List ((ℕ × ℕ) × Option ℕ)
outer_sides pairs = map (λ p. ((p.1, p.0), None)) pairs

-- all of these
abbrev pub all_sides : List ℕ → List Tri → List ((ℕ × ℕ) × Option ℕ)
all_sides hull tris = numbered_sides 0 tris ++ outer_sides (ring_pairs hull)

abbrev pub goes_up : (ℕ × ℕ) × Option ℕ → Bool
goes_up s = nat_lt s.0.0 s.0.1

abbrev pub turned_side : (ℕ × ℕ) × Option ℕ → (ℕ × ℕ) × Option ℕ
turned_side s = ((s.0.1, s.0.0), s.1)

-- a half by the ends of its edge and its triangle
abbrev pub half_key : Half → (ℕ × ℕ) × Option ℕ
half_key h = ((h.edge.a, h.edge.b), h.face)

-- ups are those of the sides that go up, and downs the others
pub record AreSplit (sides : List ((ℕ × ℕ) × Option ℕ)) (ups downs : List Half) : Type 0 where
  pub ups_are : map half_key ups ≡ filter goes_up sides
  pub downs_are : map half_key downs ≡ filter goes_up (map turned_side sides)
