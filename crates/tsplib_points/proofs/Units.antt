-- The unit of a file, by what is kept of its nodes.
use Rattle.std.proofs.Common.{◌≡◌, ℕ, zero, suc, ◌+◌, ◌<◌, ◌≤◌, max, Bool, ◌&&◌, leb, List, [], ◌∷◌, length, get_or, take, find, unwrap_or, All, inl, inr, refl, sym, ap, ◌∙◌, arith}
use Rattle.std.specs.List.{AllZip, range_with_len}
use Rattle.std.proofs.lemmas.Bool.{cases_lt, le-leb, lt-leb}
use Rattle.std.proofs.lemmas.Bool.Decides.{nat_tests}
use Rattle.std.proofs.lemmas.List.{take_more}
use Rattle.std.proofs.lemmas.List.Recursion.{max_push, max_bounds}
use Rattle.mwt_base.specs.Limits.{most_unit}
use Rattle.tsplib_points.specs.declared.node.KeptNode.{KeptNode}
use Rattle.tsplib_points.specs.Real.{Real, is_whole}
use Rattle.tsplib_points.specs.Nodes.{Node}
use Rattle.tsplib_points.specs.Kept.{Keeps}
use Rattle.tsplib_points.specs.Gathering.{KeepsNode, IsWithinUnit}
use Rattle.tsplib_points.specs.Refusals.{are_whole, unit}

-- the greatest unit of the two coordinates of a node, and of all nodes
abbrev pub own_unit : KeptNode → ℕ
own_unit n = max n.x.unit n.y.unit

abbrev pub greatest_unit : List KeptNode → ℕ
greatest_unit [] = 0
greatest_unit (n ∷ ns) = max (own_unit n) (greatest_unit ns)

-- one more node, as a loop takes it
pub greatest_unit-more : (ns : List KeptNode) (i own old new : ℕ) (d : KeptNode) → i < length ns → old ≡ greatest_unit (take i ns)
    → own ≡ max (get_or ns i d).x.unit (get_or ns i d).y.unit → new ≡ max own old → new ≡ greatest_unit (take (i + 1) ns)
greatest_unit-more ns i own old new d h before e f =
    let pushed = max_push greatest_unit own_unit refl (λ x xs. refl) (take i ns) (get_or ns i d) in
    let taken = ap greatest_unit (take_more ns i d h) in
    omega arith

-- A kept decimal is whole at k exactly where k is not below its unit.
whole_from : (negative : Bool) (own size k : ℕ) (r : Real) → Keeps negative own size r → is_whole k r ≡ leb own k
whole_from negative own size k r kept = elim (cases_lt k own) [
  | inl low ↦ kept.least k low ∙ sym (lt-leb own k low)
  | inr high ↦ kept.whole k high ∙ sym (le-leb own k high)
]

both_leb : (a b m k : ℕ) → ((leb a k && leb b k) && leb m k) ≡ leb (max (max a b) m) k
both_leb a b m k = grind (arith, nat_tests)

pub are_whole_from : (kept : List KeptNode) (ns : List Node) → AllZip KeepsNode kept ns → (k : ℕ) → are_whole ns k ≡ leb (greatest_unit kept) k
are_whole_from [] [] z k = sym (le-leb 0 k (omega arith))
are_whole_from [] (n ∷ ns) z k = absurd z
are_whole_from (p ∷ kept) [] z k = absurd z
are_whole_from (p ∷ kept) (n ∷ ns) z k =
    let x = whole_from p.x.negative p.x.unit p.x.size k n.x z.0.x in
    let y = whole_from p.y.negative p.y.unit p.y.size k n.y z.0.y in
    rw (x, y, are_whole_from kept ns z.1 k) (both_leb p.x.unit p.y.unit (greatest_unit kept) k)

-- no unit is above the limit
pub greatest_unit-le : (kept : List KeptNode) (ns : List Node) → AllZip KeepsNode kept ns → greatest_unit kept ≤ most_unit
greatest_unit-le [] [] z = omega arith
greatest_unit-le [] (n ∷ ns) z = absurd z
greatest_unit-le (p ∷ kept) [] z = absurd z
greatest_unit-le (p ∷ kept) (n ∷ ns) z =
    let few = greatest_unit-le kept ns z.1 in
    let x = z.0.x.small in
    let y = z.0.y.small in
    omega arith

find-same : {X : Type 0} (p q : X → Bool) → ((x : X) → p x ≡ q x) → (xs : List X) → find p xs ≡ find q xs
find-same p q same [] = refl
find-same p q same (x ∷ xs) = rw (same x, find-same p q same xs) refl

abbrev powers : List ℕ
powers = range_with_len 0 (most_unit + 1)

least_from : (u : ℕ) → u ≤ 6 → unwrap_or (find (leb u) powers) 6 ≡ u
least_from zero h = refl
least_from (suc zero) h = refl
least_from (suc (suc zero)) h = refl
least_from (suc (suc (suc zero))) h = refl
least_from (suc (suc (suc (suc zero)))) h = refl
least_from (suc (suc (suc (suc (suc zero))))) h = refl
least_from (suc (suc (suc (suc (suc (suc zero)))))) h = refl
least_from (suc (suc (suc (suc (suc (suc (suc u))))))) h = absurd (omega arith)

-- The unit of a file is the greatest of its coordinates.
pub unit_from : (kept : List KeptNode) (ns : List Node) → AllZip KeepsNode kept ns → greatest_unit kept ≡ unit ns
unfolding unit
unit_from kept ns z =
    sym (ap (λ o. unwrap_or o 6) (find-same (are_whole ns) (leb (greatest_unit kept)) (are_whole_from kept ns z) powers)
    ∙ least_from (greatest_unit kept) (greatest_unit-le kept ns z))

-- Every coordinate is whole in the unit of the file, which is within the limit.
pub unit_within : (kept : List KeptNode) (ns : List Node) → AllZip KeepsNode kept ns → All (IsWithinUnit (unit ns)) kept
unit_within kept ns z k d h =
    let u = unit_from kept ns z in
    let b = max_bounds greatest_unit own_unit refl (λ x xs. refl) kept k d h in
    record { x = omega arith; y = omega arith }

pub unit_few : (kept : List KeptNode) (ns : List Node) → AllZip KeepsNode kept ns → unit ns ≤ most_unit
unit_few kept ns z =
    let u = unit_from kept ns z in
    let b = greatest_unit-le kept ns z in
    omega arith
