-- The places of points, their order, and a set of places.
use Rattle.std.proofs.Common.{◌≡◌, ℕ, ◌+◌, ◌<◌, ◌≤◌, ℤ, ◌<ℤ◌, length, take, get_or, Bool, true, false, not, ◌&&◌, cond, List, [], ◌∷◌, ◌++◌, AllPairs, IsPermutation, refl, sym, ap, ◌∙◌, ⊎_elim, arith, Ordering}
use Rattle.std.specs.declared.cmp.Ordering.TheVariants.{Less, Equal, Greater}
use Rattle.std.specs.List.{list_any}
use Rattle.std.specs.Ordering.{int_cmp, ordering_then, is_eq, is_lt}
use Rattle.std.specs.Cmp.{IsTotalOrder}
use Rattle.std.specs.List.Sorted.{IsSortedByKey}
use Rattle.std.specs.BTreeSet.{BTreeSet, contains}
use Rattle.std.specs.BTreeMap.{is_at}
use Rattle.std.proofs.lemmas.Bool.{both_ways, and_from}
use Rattle.std.proofs.lemmas.Bool.Decides.{Decides-int_eq}
use Rattle.std.proofs.lemmas.Cmp.{then_total, on_total, int_cmp_total, int_eq_equiv, int_ranked, by_ranked}
use Rattle.std.proofs.lemmas.Int.{ints}
use Rattle.std.proofs.lemmas.List.Sorted.{ranks_by, sorted_far}
use Rattle.std.proofs.lemmas.List.{take_more, take_all, length-append}
use Rattle.exact_predicates.specs.declared.point.Point.{Point}
use Rattle.exact_predicates.specs.declared.staying.Coordinates.{Coordinates}
use Rattle.exact_predicates.specs.Plane.{Precedes}
use Rattle.exact_predicates.specs.PointSet.{point_at}
use Rattle.exact_predicates.specs.Merging.{is_same_place, firsts}
use Rattle.exact_predicates.proofs.Firsts.{HasDistinctPlaces, firsts-push, firsts-take}
use Rattle.exact_predicates.proofs.ListFacts.{AllPairs-IsPermutation, list_any-push}
use Rattle.exact_predicates.proofs.Order.{Precedes-cases}

-- the order of places: by x and then by y
abbrev pub place_cmp : Coordinates → Coordinates → Ordering
place_cmp p q = ordering_then (int_cmp p.x q.x) (int_cmp p.y q.y)

-- where a point stands
abbrev pub place_of : Point → Coordinates
place_of p = record { x = p.x; y = p.y }

-- two orders in turn find equal what both find equal
is_eq-ordering_then : (a b : Ordering) → is_eq (ordering_then a b) ≡ (is_eq a && is_eq b)
is_eq-ordering_then Less b = refl
is_eq-ordering_then Equal b = refl
is_eq-ordering_then Greater b = refl

-- a set compares places as coordinates are compared
pub is_at-place : (p q : Point) → is_at (place_cmp (place_of p)) (place_of q) ≡ is_same_place p q
is_at-place p q = is_eq-ordering_then (int_cmp p.x q.x) (int_cmp p.y q.y)

-- the order of places keeps the laws of an order
place_total : IsTotalOrder place_cmp
place_total = then_total (on_total (λ p. p.x) int_cmp_total) (on_total (λ p. p.y) int_cmp_total)

-- what two numbers compare to
int_cmp-less : (a b : ℤ) → a <ℤ b → int_cmp a b ≡ Less
int_cmp-less a b h = by_ranked _ _ _ (int_cmp a b) (int_ranked a b _ refl) (λ e l. e) (λ e l. absurd (omega (arith, ints))) (λ e l. absurd (omega (arith, ints)))

int_cmp-equal : (a b : ℤ) → a ≡ b → int_cmp a b ≡ Equal
int_cmp-equal a b h = by_ranked _ _ _ (int_cmp a b) (int_ranked a b _ refl) (λ e l. absurd (omega (arith, ints))) (λ e l. e) (λ e l. absurd (omega (arith, ints)))

-- a point's place is below that of a later one
is_lt-Precedes : (p q : Point) → Precedes p q → is_lt (place_cmp (place_of p) (place_of q)) ≡ true
is_lt-Precedes p q h =
    ⊎_elim
    (λ l. ap (λ o. is_lt (ordering_then o (int_cmp p.y q.y))) (int_cmp-less p.x q.x l))
    (λ d. ap (λ o. is_lt (ordering_then o (int_cmp p.y q.y))) (int_cmp-equal p.x q.x d.0) ∙ ap is_lt (int_cmp-less p.y q.y d.1))
    h

-- points that are sorted by their places, which differ
pub ascending-from_sorted : (ps : List Point) → HasDistinctPlaces ps → IsSortedByKey place_of place_cmp ps → AllPairs Precedes ps
ascending-from_sorted ps apart sorted = λ i j d l k.
    let p = get_or ps i d in
    let q = get_or ps j d in
    let up = sorted_far (λ a b. is_lt (place_cmp (place_of a) (place_of b))) (ranks_by place_total place_of) ps sorted i j d (omega arith) k in
    ⊎_elim (λ h. h)
    (λ rest. ⊎_elim
    (λ same. absurd (both_ways _ (apart i j d l k) (and_from _ _ ((Decides-int_eq p.x q.x).1 same.0) ((Decides-int_eq p.y q.y).1 same.1))))
    (λ back. absurd (both_ways _ up (is_lt-Precedes q p back)))
    rest)
    (Precedes-cases p q)

-- the order of the points does not matter
pub HasDistinctPlaces-IsPermutation : (ps qs : List Point) → IsPermutation ps qs → HasDistinctPlaces ps → HasDistinctPlaces qs
HasDistinctPlaces-IsPermutation ps qs moved h = AllPairs-IsPermutation is_same_place flips ps qs moved h
  where
    flips : (p q : Point) → is_same_place p q ≡ is_same_place q p
    flips p q = cc (int_eq_equiv.symm p.x q.x, int_eq_equiv.symm p.y q.y)

-- what stays of the points ps, and the set of their places, where one more than most may stay
pub record IsMerged (ps : List Point) (most : ℕ) (taken : BTreeSet Coordinates) (kept : List Point) : Type 0 where
  pub stay : kept ≡ firsts ps
  pub known : (q : Point) → contains place_cmp taken (place_of q) ≡ list_any (λ r. is_same_place r q) ps
  pub few : length kept ≤ most + 1

-- the next point of a list, whose place goes into the set
pub IsMerged-more : (ps : List Point) (i most : ℕ) (old new : BTreeSet Coordinates) (kept : List Point) (added : Bool) → i < length ps → IsMerged (take i ps) most old kept → length kept ≤ most
    → added ≡ not (contains place_cmp old (place_of (point_at ps i)))
    → ((q : Coordinates) → contains place_cmp new q ≡ cond (is_at (place_cmp (place_of (point_at ps i))) q) true (contains place_cmp old q))
    → IsMerged (take (i + 1) ps) most new (kept ++ cond added (point_at ps i ∷ []) [])
IsMerged-more ps i most old new kept added l h few is_added has =
    let p = point_at ps i in
    let more : take (i + 1) ps ≡ take i ps ++ p ∷ [] = take_more ps i _ l in
    record {
      stay = rw (more, h.stay, is_added, h.known p) (sym (firsts-push (take i ps) p));
      known = λ q. has (place_of q) ∙ (ap (λ b. cond b true (contains place_cmp old (place_of q))) (is_at-place p q)
          ∙ (ap (λ b. cond (is_same_place p q) true b) (h.known q) ∙ (sym (list_any-push (λ r. is_same_place r q) (take i ps) p) ∙ ap (list_any (λ r. is_same_place r q)) (sym more))));
      few = omega (arith, length-append kept (cond added (p ∷ []) []), one added p);
    }
  where
    one : (b : Bool) (p : Point) → length (cond b (p ∷ []) []) ≤ 1
    one true p = omega arith
    one false p = omega arith

-- after the last point
pub IsMerged-all : (ps : List Point) (i most : ℕ) (taken : BTreeSet Coordinates) (kept : List Point) → length ps ≤ i → IsMerged (take i ps) most taken kept → kept ≡ take (most + 1) (firsts ps)
IsMerged-all ps i most taken kept past h =
    let all : kept ≡ firsts ps = h.stay ∙ ap firsts (take_all i ps past) in
    all ∙ sym (take_all (most + 1) (firsts ps) (omega (arith, h.few, ap length all)))

-- once too many stay
pub IsMerged-full : (ps : List Point) (i most : ℕ) (taken : BTreeSet Coordinates) (kept : List Point) → most < length kept → IsMerged (take i ps) most taken kept → kept ≡ take (most + 1) (firsts ps)
IsMerged-full ps i most taken kept many h =
    let full : length (firsts (take i ps)) ≡ most + 1 = omega (arith, h.few, ap length h.stay) in
    h.stay ∙ (sym (firsts-take i ps) ∙ ap (λ n. take n (firsts ps)) full)
