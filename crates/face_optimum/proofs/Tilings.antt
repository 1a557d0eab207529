-- Faces in triangles, one after the other.
use Rattle.std.proofs.Common.{◌≡◌, ℕ, ◌+◌, ◌-◌, ◌<◌, List, [], ◌∷◌, ◌++◌, length, slice_index, Any, sum_by, arith, refl, ◌∙◌, subst, ⊎_elim, length-append}
use Rattle.std.proofs.lemmas.List.Elements.{All-append, All-nil, Contains-push_cases}
use Rattle.std.proofs.lemmas.List.Sorted.{All-permutation, length_permutation}
use Rattle.std.proofs.lemmas.List.Sums.{sum_by_push}
use Rattle.std.specs.List.Sorted.{IsPermutation}
use Rattle.exact_predicates.specs.declared.edge.Edge.{Edge}
use Rattle.exact_predicates.specs.declared.tri.Tri.{Tri}
use Rattle.exact_predicates.specs.Hull.{ring_pairs}
use Rattle.exact_predicates.specs.Triangulation.{IsCorner, hit}
use Rattle.exact_predicates.proofs.Counts.{side_count-append, side_count-permutation}
use Rattle.exact_predicates.proofs.Elements.{Any-append_left, Any-append_right, Any-permutation}
use Rattle.exact_predicates.proofs.Pairs.{hit_turned}
use Rattle.face_optimum.specs.Parts.{IsWholePart, IsTiling}
use Rattle.face_optimum.proofs.Parts.{ring_sides}

module _ (P : Tri → Type 0) (skeleton : List Edge) where
  pub tiling_none : IsTiling P skeleton [] []
  tiling_none =
      record {
        balanced = λ x y. refl;
        exact = λ x y has. refl;
        count = refl;
        corners = λ face p (k, k_in, at_k) p_in. absurd (omega arith);
        each = All-nil P;
      }

  -- one more face
  pub tiling_more : (faces : List (List ℕ)) (face : List ℕ) (last : ℕ) (ts us : List Tri) → last + 1 ≡ length face
      → IsTiling P skeleton faces ts → IsWholePart P skeleton face 0 last us → IsTiling P skeleton (faces ++ face ∷ []) (ts ++ us)
  tiling_more faces face last ts us size old cut =
      let f0 = slice_index face 0 in
      let fl = slice_index face last in
      let sum : (x y : ℕ) → _ = λ (x y : ℕ). sum_by_push (λ c. sum_by (hit x y) (ring_pairs c)) faces face in
      record {
        balanced = λ x y. omega (
          arith,
          old.balanced x y,
          cut.balanced x y,
          side_count-append ts us x y,
          side_count-append ts us y x,
          sum x y,
          sum y x,
          ring_sides face last x y size,
          ring_sides face last y x size,
          hit_turned x y fl f0,
          hit_turned y x fl f0,
        );
        exact = λ x y has. omega (arith, old.exact x y has, cut.exact x y has, side_count-append ts us x y, sum x y, ring_sides face last x y size);
        count = omega (arith, old.count, cut.count, length-append ts us, sum_by_push (λ c. length c - 2) faces face);
        corners = λ c p has p_in. ⊎_elim
            (λ before. Any-append_left (λ t. IsCorner t (slice_index c p)) ts us (old.corners c p before p_in))
            (λ (is : face ≡ c). subst (λ (d : List ℕ). p < length d → Any (λ t. IsCorner t (slice_index d p)) (ts ++ us)) is
            (λ l. Any-append_right (λ t. IsCorner t (slice_index face p)) ts us (cut.corners p (omega arith) (omega arith))) p_in)
            (Contains-push_cases faces face c has);
        each = All-append P ts us old.each cut.each;
      }

  -- the order of the triangles is free
  pub tiling_moved : (faces : List (List ℕ)) (ts us : List Tri) → IsPermutation ts us → IsTiling P skeleton faces ts → IsTiling P skeleton faces us
  tiling_moved faces ts us p old =
      record {
        balanced = λ x y. omega (arith, old.balanced x y, side_count-permutation ts us x y p, side_count-permutation ts us y x p);
        exact = λ x y has. side_count-permutation ts us x y p ∙ old.exact x y has;
        count = omega (arith, old.count, length_permutation ts us p);
        corners = λ c i has i_in. Any-permutation (λ t. IsCorner t (slice_index c i)) ts us p (old.corners c i has i_in);
        each = All-permutation P ts us p old.each;
      }
