-- Triangulations as lists.
use Rattle.std.proofs.Common.{◌≡◌, ℕ, List, arith, ◌∙◌, sym}
use Rattle.std.proofs.lemmas.List.Sorted.{All-permutation, length_permutation}
use Rattle.std.specs.List.Sorted.{IsPermutation}
use Rattle.exact_predicates.specs.declared.point.Point.{Point}
use Rattle.exact_predicates.specs.declared.tri.Tri.{Tri}
use Rattle.exact_predicates.specs.Triangulation.{IsCorner, IsEmpty, IsTriangulation, side_count}
use Rattle.exact_predicates.proofs.Counts.{side_count-permutation}
use Rattle.exact_predicates.proofs.Elements.{Any-permutation}

-- the order of the triangles is free
pub IsTriangulation-permutation : (ps : List Point) (hull : List ℕ) (ts us : List Tri) → IsPermutation ts us → IsTriangulation ps hull ts → IsTriangulation ps hull us
IsTriangulation-permutation ps hull ts us p t =
    let same : (u v : ℕ) → side_count us u v ≡ side_count ts u v = λ u v. side_count-permutation ts us u v p in
    record {
      empty = All-permutation (IsEmpty ps) ts us p t.empty;
      count = omega (arith, t.count, length_permutation ts us p);
      hull_once = λ u v pair. same u v ∙ t.hull_once u v pair;
      none_outside = λ u v pair. same v u ∙ t.none_outside u v pair;
      balanced = λ u v apart away back. same u v ∙ (t.balanced u v apart away back ∙ sym (same v u));
      corners = λ x x_in. Any-permutation (λ y. IsCorner y x) ts us p (t.corners x x_in);
    }
