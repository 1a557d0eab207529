-- Parts of a face in triangles: a side, two parts and the triangle between them, and all of a face.
use Rattle.std.proofs.Common.{◌≡◌, ℕ, zero, suc, ◌+◌, ◌<◌, ◌≤◌, List, [], ◌∷◌, ◌++◌, length, slice_index, Any, sum_by, zip, flat_map, arith, refl, ap, sym, ◌∙◌, subst, ⊎_elim, inl, inr, length-append}
use Rattle.std.proofs.lemmas.Bool.{cases_lt, cases_eq}
use Rattle.std.proofs.lemmas.List.Elements.{All-append, All-cons, All-nil}
use Rattle.std.proofs.lemmas.List.Sums.{sum_by-append, sum_by-cons}
use Rattle.exact_predicates.specs.declared.edge.Edge.{Edge}
use Rattle.exact_predicates.specs.declared.tri.Tri.{Tri}
use Rattle.exact_predicates.specs.Candidates.{HasEdge}
use Rattle.exact_predicates.specs.Hull.{ring_pairs}
use Rattle.exact_predicates.specs.Triangulation.{HasCorners, IsCorner, hit, side_count, sides}
use Rattle.exact_predicates.proofs.Corners.{corner_from}
use Rattle.exact_predicates.proofs.Counts.{side_count-append}
use Rattle.exact_predicates.proofs.Elements.{Any-append_left, Any-append_right}
use Rattle.exact_predicates.proofs.Equalities.{HasEdge-comm}
use Rattle.exact_predicates.proofs.Pairs.{hit_none, hit_turned}
use Rattle.exact_predicates.proofs.Sides.{sum_by-sides}
use Rattle.face_optimum.specs.Parts.{IsWholePart, IsPart, sides_before}

-- the sides of a triangle and of two lists after it
count_all : (t : Tri) (ts us : List Tri) (u v w x y : ℕ) → HasCorners t u v w
    → side_count (t ∷ (ts ++ us)) x y ≡ hit x y (u, v) + hit x y (v, w) + hit x y (w, u) + (side_count ts x y + side_count us x y)
count_all t ts us u v w x y h =
    omega (
      arith,
      sum_by-append (hit x y) (sides t) (flat_map sides (ts ++ us)),
      sum_by-sides (hit x y) t u v w h,
      side_count-append ts us x y,
    )

module _ (P : Tri → Type 0) (skeleton : List Edge) (face : List ℕ) where
  -- from a place to the next there is nothing to cut
  suc_part : (i : ℕ) → IsPart P skeleton face i (suc i) []
  suc_part i =
      record {
        balanced = λ x y. omega (arith, hit_turned y x (slice_index face i) (slice_index face (suc i)));
        exact = λ x y has. omega arith;
        count = omega arith;
        corners = λ p l k. absurd (omega arith);
        each = All-nil P;
      }

  pub side_part : (i l : ℕ) → l ≡ i + 1 → IsPart P skeleton face i l []
  side_part i l e = let next : suc i ≡ l = omega arith in subst (λ (k : ℕ). IsPart P skeleton face i k []) next (suc_part i)

  -- a triangle between two parts
  pub joined : (i j l : ℕ) (t : Tri) (ts us : List Tri) → HasCorners t (slice_index face i) (slice_index face j) (slice_index face l) → P t
      → IsPart P skeleton face i j ts → IsPart P skeleton face j l us → IsWholePart P skeleton face i l (t ∷ (ts ++ us))
  joined i j l t ts us h is_p left right =
      let u = slice_index face i in
      let v = slice_index face j in
      let w = slice_index face l in
      record {
        balanced = λ x y. omega (
          arith,
          count_all t ts us u v w x y h,
          count_all t ts us u v w y x h,
          left.balanced x y,
          right.balanced x y,
          hit_turned y x u v,
          hit_turned y x v w,
          hit_turned y x w u,
        );
        exact = λ x y has. omega (arith, count_all t ts us u v w x y h, left.exact x y has, right.exact x y has);
        count = omega (arith, left.count, right.count, length-append ts us);
        corners = λ p l0 l1. corner p l0 l1;
        each = All-cons P t (ts ++ us) is_p (All-append P ts us left.each right.each);
      }
    where
      here : (x : ℕ) → IsCorner t x → Any (λ s. IsCorner s x) (t ∷ (ts ++ us))
      here x is = (zero, t, omega arith, refl, is)

      later : (x : ℕ) → Any (λ s. IsCorner s x) (ts ++ us) → Any (λ s. IsCorner s x) (t ∷ (ts ++ us))
      later x (k, s, k_in, at_k, is) = (suc k, s, omega arith, at_k, is)

      corner : (p : ℕ) → i ≤ p → p ≤ l → Any (λ s. IsCorner s (slice_index face p)) (t ∷ (ts ++ us))
      corner p above below =
          let x = slice_index face p in
          let own = corner_from t (slice_index face i) (slice_index face j) (slice_index face l) x h in
          ⊎_elim
          (λ (e : p ≡ i). here x (own (inl (ap (slice_index face) e))))
          (λ ne_i. ⊎_elim
          (λ (e : p ≡ j). here x (own (inr (inl (ap (slice_index face) e)))))
          (λ ne_j. ⊎_elim
          (λ (e : p ≡ l). here x (own (inr (inr (ap (slice_index face) e)))))
          (λ ne_l. ⊎_elim
          (λ (less : p < j). later x (Any-append_left (λ s. IsCorner s x) ts us (left.corners p (omega arith) less)))
          (λ (more : j ≤ p). later x (Any-append_right (λ s. IsCorner s x) ts us (right.corners p (omega arith) (omega arith))))
          (cases_lt p j))
          (cases_eq p l))
          (cases_eq p j))
          (cases_eq p i)

  -- a cut is a part where its line is no edge of the skeleton
  pub part_of_cut : (i l : ℕ) (ts : List Tri) → ¬ HasEdge skeleton (slice_index face i) (slice_index face l) → IsWholePart P skeleton face i l ts → IsPart P skeleton face i l ts
  part_of_cut i l ts off cut =
      let u = slice_index face i in
      let v = slice_index face l in
      let none : (x y : ℕ) → HasEdge skeleton x y → hit x y (u, v) ≡ 0 = λ x y has. hit_none x y u v
      (λ (e : (u ≡ x) × (v ≡ y)). off (subst (λ (a : ℕ). HasEdge skeleton a v) (sym e.0) (subst (λ (b : ℕ). HasEdge skeleton x b) (sym e.1) has))) in
      let none_back : (x y : ℕ) → HasEdge skeleton x y → hit x y (v, u) ≡ 0 = λ x y has. hit_turned x y v u ∙ none y x (HasEdge-comm skeleton x y has) in
      let below = cut.count in
      record {
        balanced = cut.balanced;
        exact = λ x y has. omega (arith, cut.exact x y has, none x y has, none_back x y has);
        count = cut.count;
        corners = λ p l0 l1. cut.corners p (omega arith) (omega arith);
        each = cut.each;
      }

-- the pairs of a ring are its sides up to the last place, and the side from there to the first
after_first : (a b : ℕ) (bs : List ℕ) (m x y : ℕ) → sides_before (a ∷ b ∷ bs) (suc m) x y ≡ hit x y (a, b) + sides_before (b ∷ bs) m x y
after_first a b bs zero x y = omega arith
after_first a b bs (suc m) x y = omega (arith, after_first a b bs m x y)

chain_sides : (a : ℕ) (hs : List ℕ) (z x y : ℕ)
    → sum_by (hit x y) (zip (a ∷ hs) (hs ++ z ∷ [])) ≡ sides_before (a ∷ hs) (length hs) x y + hit x y (slice_index (a ∷ hs) (length hs), z)
chain_sides a [] z x y = omega arith
chain_sides a (b ∷ bs) z x y =
    omega (
      arith,
      sum_by-cons (hit x y) (a, b) (zip (b ∷ bs) (bs ++ z ∷ [])),
      chain_sides b bs z x y,
      after_first a b bs (length bs) x y,
    )

pub ring_sides : (face : List ℕ) (last x y : ℕ) → last + 1 ≡ length face
    → sum_by (hit x y) (ring_pairs face) ≡ sides_before face last x y + hit x y (slice_index face last, slice_index face 0)
ring_sides [] last x y e = absurd (omega (arith, e))
ring_sides (h ∷ hs) last x y e =
    let is : length hs ≡ last = omega arith in
    subst (λ (k : ℕ). sum_by (hit x y) (ring_pairs (h ∷ hs)) ≡ sides_before (h ∷ hs) k x y + hit x y (slice_index (h ∷ hs) k, h)) is (chain_sides h hs h x y)
