-- The test for distinct ids.
use Rattle.std.proofs.Common.{◌≡◌, ◌≢◌, ℕ, ◌+◌, ◌<◌, true, false, not, cond, eqb, Decides, List, [], ◌∷◌, ◌++◌, length, take, AllPairs, IsPermutation, refl, arith, sym, ap, ◌∙◌}
use Rattle.std.specs.List.{list_any}
use Rattle.std.specs.Ordering.{nat_cmp}
use Rattle.std.specs.BTreeSet.{BTreeSet, contains}
use Rattle.std.specs.BTreeMap.{is_at}
use Rattle.std.proofs.lemmas.Bool.{and_parts, and_from, not-true, not-false, not_from_false, both_ways, false_from_ne_true, eqb-true, eqb-false, eq-eqb, ne_eqb}
use Rattle.std.proofs.lemmas.Cmp.{nat_eq_equiv}
use Rattle.std.proofs.lemmas.Bool.Decides.{nat_tests}
use Rattle.std.proofs.lemmas.List.{length-take, get_or-take, get_or_default, take_more}
use Rattle.std.proofs.lemmas.List.Kept.{AllPairs-cons}
use Rattle.std.proofs.lemmas.List.Folds.{list_any_at, list_any_none, Any-from_list_any}
use Rattle.std.proofs.lemmas.List.Quantifiers.{all_pairs_push}
use Rattle.exact_predicates.specs.declared.point.Point.{Point}
use Rattle.exact_predicates.specs.PointSet.{point_at}
use Rattle.exact_predicates.specs.Merging.{has_distinct_ids}
use Rattle.exact_predicates.proofs.ListFacts.{AllPairs-head, AllPairs-tail, AllPairs-IsPermutation, list_any-push}

-- the test finds whether each two points have different ids
pub Decides-has_distinct_ids : (ps : List Point) → Decides (has_distinct_ids ps) (AllPairs (λ p q. p.id ≢ q.id) ps)
Decides-has_distinct_ids [] = (λ e. λ i j d l k. absurd (omega arith), λ h. refl)
Decides-has_distinct_ids (p ∷ ps) =
    let rest = Decides-has_distinct_ids ps in (
      λ e. let both = and_parts _ _ e in
          AllPairs-cons (λ r q. r.id ≢ q.id) p ps
          (λ k d l s. both_ways _ (not-true _ both.0) (list_any_at (λ (q : Point). eqb q.id p.id) ps k d l (eq-eqb _ _ (sym s))))
          (rest.0 both.1),
      λ h. and_from _ _
          (not_from_false _ (list_any_none (λ (q : Point). eqb q.id p.id) ps (λ k d l. ne_eqb _ _ (λ s. AllPairs-head (λ r q. r.id ≢ q.id) p ps h k d l (sym s)))))
          (rest.1 (AllPairs-tail (λ r q. r.id ≢ q.id) p ps h)),
    )

-- a set compares ids by equality
is_at-nat : (a b : ℕ) → is_at (nat_cmp a) b ≡ eqb a b
is_at-nat a b = grind (arith, nat_tests)

-- the points ps have distinct ids, which are those in the set
pub record AreIds (ps : List Point) (ids : BTreeSet ℕ) : Type 0 where
  pub distinct : has_distinct_ids ps ≡ true
  pub known : (q : ℕ) → contains nat_cmp ids q ≡ list_any (λ r. eqb r.id q) ps

-- one more point, whose id is new
pub AreIds-push : (ps : List Point) (old new : BTreeSet ℕ) (p : Point) → AreIds ps old → true ≡ not (contains nat_cmp old p.id)
    → ((q : ℕ) → contains nat_cmp new q ≡ cond (is_at (nat_cmp p.id) q) true (contains nat_cmp old q)) → AreIds (ps ++ p ∷ []) new
AreIds-push ps old new p h fresh has =
    record {
      distinct = (Decides-has_distinct_ids (ps ++ p ∷ [])).1 (all_pairs_push (λ r q. r.id ≢ q.id) ps p ((Decides-has_distinct_ids ps).0 h.distinct)
          (λ k d l s. both_ways _ (not-true _ (sym (fresh ∙ ap not (h.known p.id)))) (list_any_at (λ (r : Point). eqb r.id p.id) ps k d l (eq-eqb _ _ s))));
      known = λ q. has q ∙ (ap (λ b. cond b true (contains nat_cmp old q)) (is_at-nat p.id q)
          ∙ (ap (λ b. cond (eqb p.id q) true b) (h.known q) ∙ sym (list_any-push (λ r. eqb r.id q) ps p)));
    }

-- the next point of a list, whose id is new
pub AreIds-more : (ps : List Point) (i : ℕ) (old new : BTreeSet ℕ) → i < length ps → AreIds (take i ps) old → true ≡ not (contains nat_cmp old (point_at ps i).id)
    → ((q : ℕ) → contains nat_cmp new q ≡ cond (is_at (nat_cmp (point_at ps i).id) q) true (contains nat_cmp old q)) → AreIds (take (i + 1) ps) new
AreIds-more ps i old new l h fresh has =
    let more : take (i + 1) ps ≡ take i ps ++ point_at ps i ∷ [] = take_more ps i _ l in
    rw more (AreIds-push (take i ps) old new (point_at ps i) h fresh has)

-- the next point of a list, whose id an earlier one has
pub has_distinct_ids-repeated : (ps : List Point) (i : ℕ) (ids : BTreeSet ℕ) → i < length ps → AreIds (take i ps) ids → false ≡ not (contains nat_cmp ids (point_at ps i).id) → false ≡ has_distinct_ids ps
has_distinct_ids-repeated ps i ids l h had =
    let p = point_at ps i in
    let (k, x, k_in, at, same) = Any-from_list_any (λ (r : Point). eqb r.id p.id) (take i ps) (sym (h.known p.id) ∙ not-false _ (sym had)) in
    let below : k < i = omega (arith, length-take i ps, k_in) in
    sym (false_from_ne_true _ (λ e. (Decides-has_distinct_ids ps).0 e k i x below l
    (ap (λ r. r.id) (sym (get_or-take i ps k x below) ∙ at) ∙ (eqb-true _ _ same ∙ ap (λ r. r.id) (get_or_default ps i _ x l)))))

-- the order of the points does not matter
pub distinct_ids-IsPermutation : (ps qs : List Point) → IsPermutation ps qs → AllPairs (λ p q. p.id ≢ q.id) ps → AllPairs (λ p q. p.id ≢ q.id) qs
distinct_ids-IsPermutation ps qs moved h =
    let apart = AllPairs-IsPermutation (λ p q. eqb p.id q.id) (λ p q. nat_eq_equiv.symm p.id q.id) ps qs moved (λ i j d l k. ne_eqb _ _ (h i j d l k)) in
    λ i j d l k. eqb-false _ _ (apart i j d l k)
