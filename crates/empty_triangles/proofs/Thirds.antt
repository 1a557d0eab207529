-- Third corners: those that the second corner sees past all between, and their order.
use Rattle.std.proofs.Common.{◌≡◌, ◌≢◌, ℕ, ◌+◌, ◌<◌, ◌≤◌, pos, ◌<ℤ◌, eqb, List, [], ◌∷◌, ◌++◌, length, slice_index, get_or, All, AllPairs, Contains, ⊎_elim, refl, arith, sym, subst, ◌∙◌}
use Rattle.std.proofs.lemmas.Bool.{ne_eqb, eqb-false, cases_lt, cases_order}
use Rattle.std.proofs.lemmas.Cmp.{nat_eq_equiv}
use Rattle.std.proofs.lemmas.Int.{ints}
use Rattle.std.proofs.lemmas.List.{get_or_default}
use Rattle.std.proofs.lemmas.List.Elements.{All-push, All-weaker, Contains-push, Contains-append_left}
use Rattle.std.proofs.lemmas.List.Quantifiers.{all_pairs_push}
use Rattle.std.proofs.lemmas.List.Sorted.{All-permutation, Contains-permutation}
use Rattle.std.specs.List.Sorted.{IsPermutation}
use Rattle.exact_predicates.specs.declared.edge.Edge.{Edge}
use Rattle.exact_predicates.specs.declared.point.Point.{Point}
use Rattle.exact_predicates.specs.Candidates.{HasEdge}
use Rattle.exact_predicates.specs.Plane.{orient}
use Rattle.exact_predicates.specs.PointSet.{IsPointSet, point_at}
use Rattle.exact_predicates.proofs.ListFacts.{AllPairs-IsPermutation}
use Rattle.exact_predicates.proofs.Orientation.{orient_swapped_last, orient_last_twice}
use Rattle.empty_triangles.specs.Enumeration.{IsThird, AreThirds}
use Rattle.empty_triangles.specs.Corners.{IsCorner}
use Rattle.empty_triangles.specs.Rays.{IsOnRay, AreSeen}
use Rattle.empty_triangles.proofs.Fans.{heads_apart, bare_seen, seen_bare, second_first, third_first}

-- their order does not matter
pub AreThirds-permutation : (ps : List Point) (es : List Edge) (a b : ℕ) (cs ds : List ℕ) → IsPermutation cs ds → AreThirds ps es a b cs → AreThirds ps es a b ds
AreThirds-permutation ps es a b cs ds moved h = record {
  each = All-permutation (IsThird ps es a b) cs ds moved h.each;
  all = λ c k. Contains-permutation cs ds c moved (h.all c k);
}

-- distinct numbers in order rise
pub rising : (cs ds : List ℕ) → IsPermutation cs ds → AllPairs (λ c d. c ≢ d) cs → ((j k x : ℕ) → j ≤ k → k < length ds → get_or ds j x ≤ get_or ds k x) → AllPairs ◌<◌ ds
rising cs ds moved distinct sorted j k x l k_in =
    let differ = AllPairs-IsPermutation eqb (λ c d. nat_eq_equiv.symm c d) cs ds moved (λ i m y up m_in. ne_eqb _ _ (distinct i m y up m_in)) j k x l k_in in
    let apart = eqb-false _ _ differ in
    let weak = sorted j k x (omega arith) k_in in
    omega arith

-- the third corners at the first places of a list of what the second corner sees
pub record AreThirdsTo (ps : List Point) (es : List Edge) (a : ℕ) (heads : List ℕ) (j : ℕ) (places : List ℕ) (s : ℕ) (cs : List ℕ) : Type 0 where
  pub each : All (IsThird ps es a (slice_index heads j)) cs
  pub all : (k : ℕ) → k < s → IsThird ps es a (slice_index heads j) (slice_index heads (slice_index places k)) → Contains cs (slice_index heads (slice_index places k))
  pub placed : All (λ c. (k : ℕ) × (k < s) × (slice_index heads (slice_index places k) ≡ c)) cs
  pub distinct : AllPairs (λ c d. c ≢ d) cs

module _ (ps : List Point) (es : List Edge) (a : ℕ) (row heads : List ℕ) (v : IsPointSet ps) (a_in : a < length ps) (f : IsCorner ps es a row heads) (j : ℕ) (j_in : j < length heads) (b_in : Contains row (slice_index heads j))
    (places : List ℕ) (p : AreSeen ps heads j places) where
  abbrev b : ℕ
  b = slice_index heads j

  abbrev at : ℕ → ℕ
  at k = slice_index heads (slice_index places k)

  abbrev IsPlaced : ℕ → ℕ → Type 0
  IsPlaced s c = (k : ℕ) × (k < s) × (at k ≡ c)

  pub AreThirdsTo-none : AreThirdsTo ps es a heads j places 0 []
  AreThirdsTo-none = record {
    each = λ k c l. absurd (omega arith);
    all = λ k l t. absurd (omega arith);
    placed = λ k c l. absurd (omega arith);
    distinct = λ k l c m n. absurd (omega arith);
  }

  -- what the second corner sees is a third one, where the edges are there
  third_at : (s : ℕ) → s < length places → HasEdge es a (at s) → HasEdge es b (at s) → IsThird ps es a b (at s)
  third_at s s_in ac bc =
      let seen = p.each s 0 s_in in
      let i_j = seen.before in
      let n = f.around.each (slice_index places s) 0 (omega arith) in
      let left = f.around.turning (slice_index places s) j 0 i_j j_in in
      record {
        bare = bare_seen ps v a a_in heads f.around (slice_index places s) j j_in seen (λ r r_in inside. f.inside b (at s) r b_in (f.neighbors.all (at s) n.0 ac) r_in left inside);
        ac = ac;
        bc = bc;
      }

  more : (s : ℕ) (cs : List ℕ) → All (IsPlaced s) cs → All (IsPlaced (s + 1)) cs
  more s cs = All-weaker (IsPlaced s) (IsPlaced (s + 1)) (λ c h. let l = h.1 in (h.0, omega arith, h.2)) cs

  distinct_places : (k s : ℕ) → k < s → s < length places → at k ≢ at s
  distinct_places k s l s_in same =
      let i_j = (p.each k 0 (omega arith)).before in
      heads_apart ps v a a_in heads f.around (slice_index places s) (slice_index places k) (p.falling k s 0 l s_in) (omega arith) (sym same)

  pub AreThirdsTo-push : (s : ℕ) (cs : List ℕ) (c : ℕ) → c ≡ at s → s < length places → HasEdge es a c × HasEdge es b c → AreThirdsTo ps es a heads j places s cs → AreThirdsTo ps es a heads j places (s + 1) (cs ++ c ∷ [])
  AreThirdsTo-push s cs c e s_in joined h =
      rw e (record {
        each = All-push (IsThird ps es a b) cs (at s) h.each (third_at s s_in (rw e at joined.0) (rw e at joined.1));
        all = λ k l t. ⊎_elim
            (λ m. Contains-append_left cs (at s ∷ []) (at k) (h.all k m t))
            (λ m. let same : s ≡ k = omega arith in subst (λ (x : ℕ). Contains (cs ++ at s ∷ []) (at x)) same (Contains-push cs (at s)))
            (cases_lt k s);
        placed = All-push (IsPlaced (s + 1)) cs (at s) (more s cs h.placed) (s, omega arith, refl);
        distinct = all_pairs_push (λ x y. x ≢ y) cs (at s) h.distinct (λ k d l same. let q = h.placed k d l in distinct_places q.0 s q.1 s_in (q.2 ∙ same));
      })

  pub AreThirdsTo-skip : (s : ℕ) (cs : List ℕ) (c : ℕ) → c ≡ at s → (¬ (HasEdge es a c × HasEdge es b c)) → AreThirdsTo ps es a heads j places s cs → AreThirdsTo ps es a heads j places (s + 1) cs
  AreThirdsTo-skip s cs c e none h = record {
    each = h.each;
    all = λ k l t. ⊎_elim
        (λ m. h.all k m t)
        (λ m. let same : k ≡ s = omega arith in absurd (let u = subst (λ (x : ℕ). IsThird ps es a b (at x)) same t in none (rw e (u.ac, u.bc))))
        (cases_lt k s);
    placed = more s cs h.placed;
    distinct = h.distinct;
  }

  -- all of them are found
  pub AreThirds-all : (s : ℕ) (cs : List ℕ) → length places ≤ s → AreThirdsTo ps es a heads j places s cs → AreThirds ps es a b cs
  AreThirds-all s cs past h = record {
    each = h.each;
    all = λ c t. let n = f.around.each j 0 j_in in found c t (third_first ps v a a_in heads f.around b c n.0 n.1 t.bare (on_ray c (f.neighbors.all c t.bare.after t.ac)));
  }
    where
      on_ray : (c : ℕ) → Contains row c → IsOnRay ps a heads c
      on_ray c (k, k_in, at_k) = subst (IsOnRay ps a heads) at_k (f.ends k c k_in)

      listed : (i : ℕ) → IsThird ps es a b (slice_index heads i) → Contains places i → Contains cs (slice_index heads i)
      listed i t (k, k_in, at_k) =
          let here : slice_index places k ≡ i = get_or_default places k 0 i k_in ∙ at_k in
          subst (λ (x : ℕ). Contains cs (slice_index heads x)) here (h.all k (omega arith) (subst (λ (x : ℕ). IsThird ps es a b (slice_index heads x)) (sym here) t))

      found : (c : ℕ) → IsThird ps es a b c → Contains heads c → Contains cs c
      found c t (i, i_in, at_i) =
          let here : slice_index heads i ≡ c = get_or_default heads i 0 c i_in ∙ at_i in
          let u : IsThird ps es a b (slice_index heads i) = subst (IsThird ps es a b) (sym here) t in
          let left = u.bare.turns_left in
          subst (Contains cs) here
          (⊎_elim
          (λ e. absurd (let on = subst (λ (x : ℕ). pos 0 <ℤ orient (point_at ps a) (point_at ps b) (point_at ps (slice_index heads x))) e left in omega (arith, ints, orient_last_twice (point_at ps a) (point_at ps b))))
          (⊎_elim
          (λ l. listed i u (p.all i (seen_bare ps v a a_in heads f.around i j l j_in u.bare)))
          (λ l. let right = f.around.turning j i 0 l i_in in absurd (omega (arith, ints, orient_swapped_last (point_at ps a) (point_at ps b) (point_at ps (slice_index heads i))))))
          (cases_order i j))

-- a second corner that is no head has none
pub AreThirds-hidden : (ps : List Point) (es : List Edge) (a : ℕ) (row heads : List ℕ) (b : ℕ) → IsPointSet ps → a < length ps → IsCorner ps es a row heads → Contains row b → b < length ps → (¬ Contains heads b) → AreThirds ps es a b []
AreThirds-hidden ps es a row heads b v a_in f (k, k_in, at_k) b_in none = record {
  each = λ i c l. absurd (omega arith);
  all = λ c t. absurd (none (second_first ps v a a_in heads f.around b c (subst (λ (x : ℕ). a < x) at_k (f.neighbors.each k b k_in).0) b_in t.bare (subst (IsOnRay ps a heads) at_k (f.ends k b k_in))));
}
