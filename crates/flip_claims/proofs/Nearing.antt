-- The slots near flips are gathered.
use Rattle.std.proofs.Common.{◌≡◌, ◌⊎◌, ◌↔◌, ℕ, ◌+◌, ◌<◌, ◌≤◌, eqb, List, [], ◌∷◌, ◌++◌, length, get_or, All, Contains, sym, subst, ⊎_elim, arith}
use Rattle.std.specs.List.{dedup}
use Rattle.std.specs.List.Sorted.{IsPermutation, IsSorted}
use Rattle.std.specs.Ordering.{nat_cmp}
use Rattle.std.proofs.lemmas.Bool.{cases_lt}
use Rattle.std.proofs.lemmas.List.Elements.{All-append, All-contains, All-push, Contains-append_left, Contains-append_right, Contains-get_or, Contains-push}
use Rattle.std.proofs.lemmas.List.Kept.{AllPairs-from_increasing, Contains-dedup_nat, Contains-from_dedup}
use Rattle.std.proofs.lemmas.List.Sorted.{Contains-permutation, IsPermutation-sym}
use Rattle.std.proofs.lemmas.Map.Keys.{IsStrictlyIncreasing-dedup}
use Rattle.exact_predicates.specs.declared.point.Point.{Point}
use Rattle.flip_finish.specs.Flipping.{Shortens}
use Rattle.flip_finish.specs.Mesh.{Parts}
use Rattle.flip_finish.specs.Places.{IsAt}
use Rattle.flip_finish.specs.Winners.{HasPair, HasTriangle}
use Rattle.flip_finish.proofs.Standing.{IsAt-only}
use Rattle.flip_claims.specs.Rounds.{AreAround, AreNear, ArePicked, AreShortening, IsTouched}
use Rattle.flip_claims.proofs.Triangles.{one_of_two}
use Rattle.flip_claims.proofs.Winning.{shortening_are}

-- the triangles of the first k slots
pub record AreTrianglesTo (m : Parts) (slots triangles : List ℕ) (k : ℕ) : Type 0 where
  pub in_mesh : All (λ t. t < length m.tris) triangles
  pub all : (j p t : ℕ) → j < k → IsAt slots j p → HasTriangle m p t → Contains triangles t

pub triangles_more : (m : Parts) (slots triangles : List ℕ) (k slot l r : ℕ) → AreTrianglesTo m slots triangles k → IsAt slots k slot → HasPair m slot l r → l < length m.tris → r < length m.tris
    → AreTrianglesTo m slots ((triangles ++ l ∷ []) ++ r ∷ []) (k + 1)
triangles_more m slots triangles k slot l r h at_k pair l_in r_in =
    let In : ℕ → Type 0 = λ t. t < length m.tris in
    let more : List ℕ = triangles ++ l ∷ [] in
    record {
      in_mesh = All-push In more r (All-push In triangles l h.in_mesh l_in) r_in;
      all = λ j p t low at_j has. ⊎_elim
          (λ (old : j < k). Contains-append_left more (r ∷ []) t (Contains-append_left triangles (l ∷ []) t (h.all j p t old at_j has)))
          (λ (new : k ≤ j).
          let same : k ≡ j = omega arith in
          let is : slot ≡ p = IsAt-only slots j slot p (subst (λ (i : ℕ). IsAt slots i slot) same at_k) at_j in
          ⊎_elim
          (λ (left : l ≡ t). subst (Contains (more ++ r ∷ [])) left (Contains-append_left more (r ∷ []) l (Contains-push triangles l)))
          (λ (right : r ≡ t). subst (Contains (more ++ r ∷ [])) right (Contains-push more r))
          (one_of_two m slot l r t pair (subst (λ (i : ℕ). HasTriangle m i t) (sym is) has)))
          (cases_lt j k);
    }

-- the slots, and those with one of the first k triangles
pub record AreAroundTo (m : Parts) (slots triangles near : List ℕ) (k : ℕ) : Type 0 where
  pub in_slots : All (λ p. p < length m.slots) near
  pub old : (p : ℕ) → Contains slots p → Contains near p
  pub sides : (j p t : ℕ) → j < k → IsAt triangles j t → HasTriangle m p t → Contains near p

pub around_more : (m : Parts) (slots triangles near sides : List ℕ) (k t : ℕ) → AreAroundTo m slots triangles near k → IsAt triangles k t → ((p : ℕ) → Contains sides p ↔ HasTriangle m p t)
    → AreAroundTo m slots triangles (near ++ sides) (k + 1)
around_more m slots triangles near sides k t h at_k are = record {
  in_slots = All-append (λ p. p < length m.slots) near sides h.in_slots (λ i d low. ((are (get_or sides i d)).0 (Contains-get_or sides i d low)).it_at.inside);
  old = λ p has. Contains-append_left near sides p (h.old p has);
  sides = λ j p u low at_j has. ⊎_elim
      (λ (before : j < k). Contains-append_left near sides p (h.sides j p u before at_j has))
      (λ (new : k ≤ j).
      let same : k ≡ j = omega arith in
      let is : t ≡ u = IsAt-only triangles j t u (subst (λ (i : ℕ). IsAt triangles i t) same at_k) at_j in
      Contains-append_right near sides p ((are p).1 (subst (HasTriangle m p) (sym is) has)))
      (cases_lt j k);
}

pub around_end : (m : Parts) (slots triangles near : List ℕ) (k : ℕ) → length triangles ≤ k → AreAroundTo m slots triangles near k → AreAround m slots triangles near
around_end m slots triangles near k past h = record {
  in_slots = h.in_slots;
  old = h.old;
  sides = λ p t (j, j_in, at_j) has. h.sides j p t (omega arith) (record { inside = j_in; is = at_j }) has;
}

-- sorted, and each once
pub near_sorted : (m : Parts) (slots triangles found sorted near : List ℕ) → AreAround m slots triangles found → IsPermutation found sorted → IsSorted nat_cmp sorted → near ≡ dedup eqb sorted
    → AreNear m slots triangles near
near_sorted m slots triangles found sorted near h moved order is =
    let kept : (p : ℕ) → Contains found p → Contains near p = λ p has. subst (λ (l : List ℕ). Contains l p) (sym is) (Contains-dedup_nat sorted p (Contains-permutation found sorted p moved has)) in
    record {
      ascending = rw is (AllPairs-from_increasing _ (IsStrictlyIncreasing-dedup sorted order));
      around = record {
        in_slots = λ i d low.
            let there = subst (λ (l : List ℕ). Contains l (get_or near i d)) is (Contains-get_or near i d low) in
            All-contains (λ p. p < length m.slots) found (get_or near i d) h.in_slots (Contains-permutation sorted found (get_or near i d) (IsPermutation-sym found sorted moved) (Contains-from_dedup eqb sorted (get_or near i d) there));
        old = λ p has. kept p (h.old p has);
        sides = λ p t t_in has. kept p (h.sides p t t_in has);
      };
    }

-- all that shorten after flips are near them
pub near_short : (ps : List Point) (old new : Parts) (slots winners triangles near found : List ℕ) → AreShortening ps old slots → AreNear new slots triangles near
    → ((p t : ℕ) → Contains winners p → HasTriangle old p t → Contains triangles t)
    → ((p : ℕ) → Shortens ps new p → IsTouched old new winners p ⊎ Shortens ps old p)
    → ArePicked (Shortens ps new) near found → AreShortening ps new found
near_short ps old new slots winners triangles near found short are all back picked =
    shortening_are ps new near found
    (λ p s. ⊎_elim
    (λ z. are.around.sides p z.t (all z.w z.t z.among z.had) z.has)
    (λ before. are.around.old p (short.all p before))
    (back p s))
    picked
