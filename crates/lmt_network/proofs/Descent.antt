-- Shortening flips lead from each triangulation to a flip-minimal one that is not longer.
use Rattle.std.proofs.Common.{ℕ, zero, suc, ◌≤◌, List, sum_by, arith, ⊎_elim}
use Rattle.exact_predicates.specs.declared.point.Point.{Point}
use Rattle.exact_predicates.specs.declared.tri.Tri.{Tri}
use Rattle.exact_predicates.specs.Flip.{IsFlipMinimal}
use Rattle.exact_predicates.specs.Hull.{IsHull}
use Rattle.exact_predicates.specs.Length.{IsNotLonger, edge_d2}
use Rattle.exact_predicates.specs.Triangulation.{IsTriangulation, edges}
use Rattle.exact_predicates.proofs.Flips.{IsNotLonger-flip, IsNotLonger-refl, IsNotLonger-trans, IsTriangulation-flip, sum_d2-flip}
use Rattle.lmt_network.specs.FlipMinimal.{IsFlipMinimalTriangulation}
use Rattle.lmt_network.proofs.Flippable.{IsFlippable, minimal_or_not}

-- a flip-minimal triangulation that is not longer than the triangulation first
pub record Found (ps : List Point) (hull : List ℕ) (first : List Tri) : Type 0 where
  pub tris : List Tri
  pub flip_minimal : IsFlipMinimalTriangulation ps hull tris
  pub not_longer : IsNotLonger ps (edges hull tris) (edges hull first)

-- the triangulation itself
here : (ps : List Point) (hull : List ℕ) (tris : List Tri) → IsHull ps hull → IsTriangulation ps hull tris → IsFlipMinimal ps hull tris → Found ps hull tris
here ps hull tris h t m =
    record {
      tris = tris;
      flip_minimal = record { hull_is = h; triangulation = t; minimal = m };
      not_longer = IsNotLonger-refl ps (edges hull tris);
    }

-- one that is found after a flip
after : (ps : List Point) (hull : List ℕ) (tris : List Tri) (f : IsFlippable ps tris) → IsHull ps hull → IsTriangulation ps hull tris → Found ps hull f.new → Found ps hull tris
after ps hull tris f h t found =
    let shorter = IsNotLonger-flip ps hull tris f.new f.u f.v f.a f.b h t f.flip f.shortening in
    record {
      tris = found.tris;
      flip_minimal = found.flip_minimal;
      not_longer = IsNotLonger-trans ps (edges hull found.tris) (edges hull f.new) (edges hull tris) found.not_longer shorter;
    }

-- by induction on the sum of the squared lengths
descent : (n : ℕ) (ps : List Point) (hull : List ℕ) (tris : List Tri) → IsHull ps hull → IsTriangulation ps hull tris
    → sum_by (edge_d2 ps) (edges hull tris) ≤ n → Found ps hull tris
descent zero ps hull tris h t l =
    ⊎_elim
    (λ (m : IsFlipMinimal ps hull tris). here ps hull tris h t m)
    (λ (f : IsFlippable ps tris). absurd (omega (arith, l, sum_d2-flip ps hull tris f.new f.u f.v f.a f.b h t f.flip f.shortening)))
    (minimal_or_not ps hull tris t)
descent (suc n) ps hull tris h t l =
    ⊎_elim
    (λ (m : IsFlipMinimal ps hull tris). here ps hull tris h t m)
    (λ (f : IsFlippable ps tris).
    let falls = sum_d2-flip ps hull tris f.new f.u f.v f.a f.b h t f.flip f.shortening in
    after ps hull tris f h t
    (descent n ps hull f.new h (IsTriangulation-flip ps hull tris f.new f.u f.v f.a f.b h t f.flip f.shortening) (omega (arith, l, falls))))
    (minimal_or_not ps hull tris t)

pub found_minimal : (ps : List Point) (hull : List ℕ) (first : List Tri) → IsHull ps hull → IsTriangulation ps hull first → Found ps hull first
found_minimal ps hull first h t = descent (sum_by (edge_d2 ps) (edges hull first)) ps hull first h t (omega arith)
