-- The points that stay where equal coordinates are merged.
use Rattle.std.proofs.Common.{◌≡◌, ℕ, ◌+◌, ◌<◌, ◌≤◌, Bool, true, false, not, ◌&&◌, ◌||◌, cond, List, [], ◌∷◌, ◌++◌, length, take, drop, filter, All, AllPairs, refl, ap, ◌∙◌, sym, arith}
use Rattle.std.proofs.lemmas.Bool.{not_from_false, not-true}
use Rattle.std.specs.List.{list_any}
use Rattle.std.proofs.lemmas.List.{length-take, take_all, take_at, take-append-drop}
use Rattle.std.proofs.lemmas.List.Elements.{All-weaker, All-head, All-tail, All-cons, All-filter, filter-append, filter_passes}
use Rattle.std.proofs.lemmas.List.Kept.{AllPairs-cons, AllPairs-filter}
use Rattle.exact_predicates.specs.declared.point.Point.{Point}
use Rattle.exact_predicates.specs.Merging.{is_same_place, firsts}
use Rattle.exact_predicates.proofs.ListFacts.{AllPairs-head, AllPairs-tail, filter-all, filter-filter, length-filter-le}

-- no two points have the same coordinates
abbrev pub HasDistinctPlaces : List Point → Type 0
HasDistinctPlaces ps = AllPairs (λ p q. is_same_place p q ≡ false) ps

-- a list with no equal coordinates stays whole
pub firsts-distinct : (ps : List Point) → HasDistinctPlaces ps → firsts ps ≡ ps
firsts-distinct [] h = refl
firsts-distinct (p ∷ ps) h =
    let R : Point → Point → Type 0 = λ r q. is_same_place r q ≡ false in
    ap (λ qs. p ∷ filter (λ q. not (is_same_place p q)) qs) (firsts-distinct ps (AllPairs-tail R p ps h))
    ∙ ap (λ qs. p ∷ qs) (filter-all (λ q. not (is_same_place p q)) ps (All-weaker (R p) (λ q. not (is_same_place p q) ≡ true) (λ q e. not_from_false _ e) ps (AllPairs-head R p ps h)))

-- at most as many stay as there are
pub length-firsts-le : (ps : List Point) → length (firsts ps) ≤ length ps
length-firsts-le [] = omega arith
length-firsts-le (p ∷ ps) = omega (arith, length-filter-le (λ q. not (is_same_place p q)) (firsts ps), length-firsts-le ps)

-- what stays of two lists: of the second, the points whose coordinates the first has not
pub firsts-append : (ps qs : List Point) → firsts (ps ++ qs) ≡ firsts ps ++ filter (λ q. not (list_any (λ p. is_same_place p q) ps)) (firsts qs)
firsts-append [] qs = sym (filter-all (λ q. true) (firsts qs) (λ k d l. refl))
firsts-append (p ∷ ps) qs =
    let apart : Point → Bool = λ q. not (is_same_place p q) in
    let new : Point → Bool = λ q. not (list_any (λ r. is_same_place r q) ps) in
    ap (λ rs. p ∷ filter apart rs) (firsts-append ps qs)
    ∙ ap (λ rs. p ∷ rs) (filter-append apart (firsts ps) (filter new (firsts qs)) ∙ ap (λ rs. filter apart (firsts ps) ++ rs) (filter-filter apart new _ (λ q. neither (is_same_place p q) (list_any (λ r. is_same_place r q) ps)) (firsts qs)))
  where
    neither : (a b : Bool) → not (a || b) ≡ (not a && not b)
    neither true b = refl
    neither false b = refl

-- the first points stay where more follow
pub firsts-take : (i : ℕ) (ps : List Point) → take (length (firsts (take i ps))) (firsts ps) ≡ firsts (take i ps)
firsts-take i ps =
    ap (λ qs. take (length (firsts (take i ps))) qs) (ap firsts (sym (take-append-drop i ps)) ∙ firsts-append (take i ps) (drop i ps))
    ∙ take_at (firsts (take i ps)) _ _ refl

-- one more point stays where no earlier one has its coordinates
pub firsts-push : (ps : List Point) (p : Point) → firsts (ps ++ p ∷ []) ≡ firsts ps ++ cond (not (list_any (λ r. is_same_place r p) ps)) (p ∷ []) []
firsts-push ps p = firsts-append ps (p ∷ [])

-- what holds of each point holds of each that stays
pub All-firsts : (P : Point → Type 0) (ps : List Point) → All P ps → All P (firsts ps)
All-firsts P [] h = h
All-firsts P (p ∷ ps) h = All-cons P p _ (All-head P p ps h) (All-filter (λ q. not (is_same_place p q)) P (firsts ps) (All-firsts P ps (All-tail P p ps h)))

-- what holds of each two points holds of each two that stay
pub AllPairs-firsts : (R : Point → Point → Type 0) (ps : List Point) → AllPairs R ps → AllPairs R (firsts ps)
AllPairs-firsts R [] h = h
AllPairs-firsts R (p ∷ ps) h =
    AllPairs-cons R p _
    (All-filter (λ q. not (is_same_place p q)) (R p) (firsts ps) (All-firsts (R p) ps (AllPairs-head R p ps h)))
    (AllPairs-filter R (λ q. not (is_same_place p q)) (firsts ps) (AllPairs-firsts R ps (AllPairs-tail R p ps h)))

-- no two points that stay have the same coordinates
pub HasDistinctPlaces-firsts : (ps : List Point) → HasDistinctPlaces (firsts ps)
HasDistinctPlaces-firsts [] = λ i j d l k. absurd (omega arith)
HasDistinctPlaces-firsts (p ∷ ps) =
    let R : Point → Point → Type 0 = λ r q. is_same_place r q ≡ false in
    let test : Point → Bool = λ q. not (is_same_place p q) in
    AllPairs-cons R p _
    (All-weaker (λ q. test q ≡ true) (R p) (λ q e. not-true _ e) _ (filter_passes test (firsts ps)))
    (AllPairs-filter R test (firsts ps) (HasDistinctPlaces-firsts ps))

-- the first points that stay, one more than most, where these are too many
pub firsts-many : (most : ℕ) (ps kept : List Point) → kept ≡ take (most + 1) (firsts ps) → most < length kept → most < length (firsts ps)
firsts-many most ps kept is many = omega (arith, ap length is, length-take (most + 1) (firsts ps))

-- the same, where these are not too many
pub firsts-few : (most : ℕ) (ps kept : List Point) → kept ≡ take (most + 1) (firsts ps) → length kept ≤ most → kept ≡ firsts ps
firsts-few most ps kept is few = is ∙ take_all (most + 1) (firsts ps) (omega (arith, ap length is, length-take (most + 1) (firsts ps)))
