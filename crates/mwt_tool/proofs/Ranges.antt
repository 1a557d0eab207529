-- Lists of a report that ascend, and how long they are.
use Rattle.std.proofs.Common.{ℕ, ◌<◌, ◌≤◌, List, length, get_or, map, All, AllPairs, Contains, arith, subst}
use Rattle.std.specs.List.{range_with_len}
use Rattle.std.proofs.lemmas.List.{length-map}
use Rattle.std.proofs.lemmas.List.Elements.{All-weaker}
use Rattle.std.proofs.lemmas.List.FromFn.{get_or-range_with_len, length-range_with_len}
use Rattle.exact_predicates.specs.declared.edge.Edge.{Edge}
use Rattle.exact_predicates.specs.declared.point.Point.{Point}
use Rattle.exact_predicates.specs.Candidates.{EdgePrecedes}
use Rattle.exact_predicates.specs.Hull.{IsHull}
use Rattle.exact_predicates.proofs.Few.{length-le_from_distinct}
use Rattle.exact_predicates.proofs.ListOrder.{EdgePrecedes-irreflexive}
use Rattle.price_ascent.proofs.Kept.{get_or-mapped}

-- rows whose parts are in order
pub pairs_of_parts : {X Y : Type 0} (R : Y → Y → Type 0) (f : X → Y) (xs : List X) → AllPairs R (map f xs) → AllPairs (λ x y. R (f x) (f y)) xs
pairs_of_parts {X} {Y} R f xs h = λ i j d l k.
    let size = length-map xs f in
    let r : R (get_or (map f xs) i (f d)) (get_or (map f xs) j (f d)) = h i j (f d) l (omega (arith, size, k)) in
    subst (λ (y : Y). R (f (get_or xs i d)) y) (get_or-mapped f xs j d) (subst (λ (y : Y). R y (get_or (map f xs) j (f d))) (get_or-mapped f xs i d) r)

-- edges in order are no more than those among which they are
pub edges_upto : (es fs : List Edge) → AllPairs EdgePrecedes es → All (Contains fs) es → length es ≤ length fs
edges_upto es fs up among = length-le_from_distinct fs es (λ i j d l k same. EdgePrecedes-irreflexive (get_or es j d) (subst (λ (x : Edge). EdgePrecedes x (get_or es j d)) same (up i j d l k))) among

-- a hull has no more points than there are
pub hull_upto : (ps : List Point) (hull : List ℕ) → IsHull ps hull → length hull ≤ length ps
hull_upto ps hull h =
    let count = length ps in
    let known : All (Contains (range_with_len 0 count)) hull
    = All-weaker (λ u. u < count) (Contains (range_with_len 0 count))
    (λ u l. let is = get_or-range_with_len 0 count u u l in (u, omega (arith, length-range_with_len 0 count, l), omega (arith, is))) hull h.within in
    omega (arith, length-range_with_len 0 count, length-le_from_distinct (range_with_len 0 count) hull h.distinct known)
