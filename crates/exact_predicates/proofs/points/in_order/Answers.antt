-- Each refusal has its rule, and what stays keeps all of them.
use Rattle.std.proofs.Common.{◌≡◌, ℕ, List, length, Some, ap, sym, ◌∙◌, arith}
use Rattle.std.proofs.lemmas.List.Sorted.{length_permutation, All-permutation}
use Rattle.exact_predicates.specs.declared.point.Point.{Point}
use Rattle.exact_predicates.specs.declared.points.PointsStop.TheVariants.{Refused}
use Rattle.exact_predicates.specs.Plane.{IsInRange}
use Rattle.exact_predicates.specs.Merging.{is_in_range, firsts, is_flat, points_code}
use Rattle.exact_predicates.proofs.ListFacts.{Decides-list_all}
use Rattle.exact_predicates.proofs.InRange.{Decides-is_in_range}
use Rattle.exact_predicates.proofs.Firsts.{firsts-many, firsts-few, HasDistinctPlaces-firsts, All-firsts}
use Rattle.exact_predicates.proofs.Flatness.{is_flat-IsPermutation}
use Rattle.exact_predicates.proofs.Codes.{points_code-out_of_range, points_code-repeated_id, points_code-too_many, points_code-too_few, points_code-flat, IsMadeFrom-sorted}
use Rattle.exact_predicates.proofs.points.in_order.Goals as goal

-- a refusal tells the code
told : (list : List Point) (rule : ℕ) → points_code list ≡ Some rule → (code : ℕ) → Refused rule ≡ Refused code → points_code list ≡ Some code
told list rule h code e = cc

pub returns-then-not-are_in_range-clause-refused : goal.returns-then-not-are_in_range-clause-refused
returns-then-not-are_in_range-clause-refused c =
    told c.args.points.now 4 (points_code-out_of_range c.args.points.now (sym c.are_in_range.ensures ∙ c.if-not-are_in_range.true))

pub returns-then-not-branch-clause-refused : goal.returns-then-not-branch-clause-refused
returns-then-not-branch-clause-refused c =
    told c.args.points.now 5 (points_code-repeated_id c.args.points.now (sym c.are_in_range.ensures ∙ c.if-not-are_in_range.false) (sym c.in_ok-has_distinct_ids.ensures ∙ c.if-not-branch.true))

pub returns-then-len-gt-MOST_POINTS-clause-refused : goal.returns-then-len-gt-MOST_POINTS-clause-refused
returns-then-len-gt-MOST_POINTS-clause-refused c =
    told c.args.points.now 2 (points_code-too_many c.args.points.now (sym c.are_in_range.ensures ∙ c.if-not-are_in_range.false) (sym c.in_ok-has_distinct_ids.ensures ∙ c.if-not-branch.false)
    (firsts-many 10000 c.args.points.now c.in_ok-kept.kept.items c.in_ok-kept.ensures (omega arith)))

pub returns-then-len-lt-FEWEST_POINTS-clause-refused : goal.returns-then-len-lt-FEWEST_POINTS-clause-refused
returns-then-len-lt-FEWEST_POINTS-clause-refused c =
    let all = firsts-few 10000 c.args.points.now c.in_ok-kept.kept.items c.in_ok-kept.ensures (omega arith) in
    told c.args.points.now 1 (points_code-too_few c.args.points.now (sym c.are_in_range.ensures ∙ c.if-not-are_in_range.false) (sym c.in_ok-has_distinct_ids.ensures ∙ c.if-not-branch.false)
    (omega (arith, ap length all)))

pub sort_by_place-requires : goal.sort_by_place-requires
sort_by_place-requires c =
    let all = firsts-few 10000 c.args.points.now c.in_ok-kept.kept.items c.in_ok-kept.ensures (omega arith) in
    rw all (HasDistinctPlaces-firsts c.args.points.now)

pub is_flat-requires-clause-some : goal.is_flat-requires-clause-some
is_flat-requires-clause-some c =
    omega (arith, length_permutation c.in_ok-kept.kept.items c.sort_by_place.new.points.items c.in_ok-sort_by_place.ensures.permutation)

pub is_flat-requires-clause-in_range : goal.is_flat-requires-clause-in_range
is_flat-requires-clause-in_range c =
    let all = firsts-few 10000 c.args.points.now c.in_ok-kept.kept.items c.in_ok-kept.ensures (omega arith) in
    let ranged = (Decides-list_all is_in_range IsInRange Decides-is_in_range c.args.points.now).0 (sym c.are_in_range.ensures ∙ c.if-not-are_in_range.false) in
    rw c.deref.ensures.value (All-permutation IsInRange c.in_ok-kept.kept.items _ c.in_ok-sort_by_place.ensures.permutation (rw all (All-firsts IsInRange c.args.points.now ranged)))

pub returns-then-is_flat-clause-refused : goal.returns-then-is_flat-clause-refused
returns-then-is_flat-clause-refused c =
    let ps = c.args.points.now in
    let all = firsts-few 10000 ps c.in_ok-kept.kept.items c.in_ok-kept.ensures (omega arith) in
    let moved = rw all at c.in_ok-sort_by_place.ensures.permutation in
    told ps 3 (points_code-flat ps (sym c.are_in_range.ensures ∙ c.if-not-are_in_range.false) (sym c.in_ok-has_distinct_ids.ensures ∙ c.if-not-branch.false)
    (omega (arith, ap length all)) (omega (arith, ap length all))
    (sym (is_flat-IsPermutation (firsts ps) _ moved) ∙ (ap is_flat (sym c.deref.ensures.value) ∙ (sym c.is_flat.ensures ∙ c.if-is_flat.true))))

pub returns-clause-made : goal.returns-clause-made
returns-clause-made c =
    let ps = c.args.points.now in
    let all = firsts-few 10000 ps c.in_ok-kept.kept.items c.in_ok-kept.ensures (omega arith) in
    let moved = rw all at c.in_ok-sort_by_place.ensures.permutation in
    IsMadeFrom-sorted ps _ (record {
      in_range = sym c.are_in_range.ensures ∙ c.if-not-are_in_range.false;
      distinct_ids = sym c.in_ok-has_distinct_ids.ensures ∙ c.if-not-branch.false;
      not_more = omega (arith, ap length all);
      enough = omega (arith, ap length all);
      not_flat = sym (is_flat-IsPermutation (firsts ps) _ moved) ∙ (ap is_flat (sym c.deref.ensures.value) ∙ (sym c.is_flat.ensures ∙ c.if-is_flat.false));
    }) moved c.in_ok-sort_by_place.ensures.ascending
