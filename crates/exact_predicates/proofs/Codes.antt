-- What the code of a list of points says.
use Rattle.std.proofs.Common.{◌≡◌, ◌≢◌, ℕ, ◌≤◌, ◌<◌, ◌-◌, Bool, true, false, not, List, length, Option, Some, None, ◌⊎◌, inl, inr, if◌then◌else◌, All, AllPairs, IsPermutation, refl, ap, sym, ◌∙◌, arith}
use Rattle.std.specs.List.{list_all}
use Rattle.std.proofs.lemmas.Bool.{ltb-false, le-ltb, lt-ltb}
use Rattle.std.proofs.lemmas.List.Sorted.{length_permutation, All-permutation}
use Rattle.exact_predicates.specs.declared.point.Point.{Point}
use Rattle.exact_predicates.specs.Plane.{IsInRange, Precedes}
use Rattle.exact_predicates.specs.PointSet.{PointSet, HasTurn}
use Rattle.exact_predicates.specs.Merging.{is_in_range, firsts, has_distinct_ids, is_flat, points_code, IsMadeFrom}
use Rattle.exact_predicates.proofs.ListFacts.{Decides-list_all}
use Rattle.exact_predicates.proofs.InRange.{Decides-is_in_range}
use Rattle.exact_predicates.proofs.DistinctIds.{Decides-has_distinct_ids, distinct_ids-IsPermutation}
use Rattle.exact_predicates.proofs.Flatness.{is_flat-HasTurn, HasTurn-from_is_flat, is_flat-IsPermutation}
use Rattle.exact_predicates.proofs.Firsts.{HasDistinctPlaces, firsts-distinct, length-firsts-le, All-firsts, AllPairs-firsts}

-- the code, by the answers of its tests
abbrev code_of : Bool → Bool → Bool → Bool → Bool → Option ℕ
code_of ranged apart many few flat = if not ranged then Some 4 else if not apart then Some 5 else if many then Some 2 else if few then Some 1 else if flat then Some 3 else None

-- the rules that a list keeps whose code is None
pub record IsLawful (list : List Point) : Type 0 where
  pub in_range : list_all is_in_range list ≡ true
  pub distinct_ids : has_distinct_ids list ≡ true
  pub not_more : length (firsts list) ≤ 10000
  pub enough : 3 ≤ length (firsts list)
  pub not_flat : is_flat (firsts list) ≡ false

-- the code is None where each test answers so
code_of-none : (a b c d e : Bool) → code_of a b c d e ≡ None → (a ≡ true) × (b ≡ true) × (c ≡ false) × (d ≡ false) × (e ≡ false)
code_of-none false b c d e h = absurd (cc)
code_of-none true false c d e h = absurd (cc)
code_of-none true true true d e h = absurd (cc)
code_of-none true true false true e h = absurd (cc)
code_of-none true true false false true h = absurd (cc)
code_of-none true true false false false h = (refl, refl, refl, refl, refl)

-- a list that keeps the rules has no code
pub points_code-lawful : (list : List Point) → IsLawful list → points_code list ≡ None
unfolding points_code
points_code-lawful list h =
    rw (h.in_range, h.distinct_ids, le-ltb 10000 (length (firsts list)) h.not_more, le-ltb (length (firsts list)) 3 h.enough, h.not_flat) refl

-- a list with no code keeps the rules
pub IsLawful-from_code : (list : List Point) → points_code list ≡ None → IsLawful list
unfolding points_code
IsLawful-from_code list h =
    let parts = code_of-none _ _ _ _ _ h in
    record { in_range = parts.0; distinct_ids = parts.1; not_more = ltb-false _ _ parts.2; enough = ltb-false _ _ parts.3; not_flat = parts.4 }

-- a list that keeps the rules as it stands, with no equal coordinates
pub points_code-distinct : (list : List Point) → All IsInRange list → AllPairs (λ p q. p.id ≢ q.id) list → HasDistinctPlaces list → 3 ≤ length list → length list ≤ 10000 → HasTurn list → points_code list ≡ None
points_code-distinct list ranged ids places enough few turn =
    let whole = firsts-distinct list places in
    points_code-lawful list (record {
      in_range = (Decides-list_all is_in_range IsInRange Decides-is_in_range list).1 ranged;
      distinct_ids = (Decides-has_distinct_ids list).1 ids;
      not_more = rw whole few;
      enough = rw whole enough;
      not_flat = rw whole (is_flat-HasTurn list turn);
    })

-- the rules, by the tests of a list, in the order in which they are told
pub points_code-out_of_range : (list : List Point) → list_all is_in_range list ≡ false → points_code list ≡ Some 4
unfolding points_code
points_code-out_of_range list ranged = rw ranged refl

pub points_code-repeated_id : (list : List Point) → list_all is_in_range list ≡ true → has_distinct_ids list ≡ false → points_code list ≡ Some 5
unfolding points_code
points_code-repeated_id list ranged apart = rw (ranged, apart) refl

pub points_code-too_many : (list : List Point) → list_all is_in_range list ≡ true → has_distinct_ids list ≡ true → 10000 < length (firsts list) → points_code list ≡ Some 2
unfolding points_code
points_code-too_many list ranged apart many = rw (ranged, apart, lt-ltb 10000 (length (firsts list)) many) refl

pub points_code-too_few : (list : List Point) → list_all is_in_range list ≡ true → has_distinct_ids list ≡ true → length (firsts list) < 3 → points_code list ≡ Some 1
unfolding points_code
points_code-too_few list ranged apart few =
    let not_many : length (firsts list) ≤ 10000 = omega arith in
    rw (ranged, apart, le-ltb 10000 (length (firsts list)) not_many, lt-ltb (length (firsts list)) 3 few) refl

pub points_code-flat : (list : List Point) → list_all is_in_range list ≡ true → has_distinct_ids list ≡ true → length (firsts list) ≤ 10000 → 3 ≤ length (firsts list) → is_flat (firsts list) ≡ true → points_code list ≡ Some 3
unfolding points_code
points_code-flat list ranged apart not_many not_few flat =
    rw (ranged, apart, le-ltb 10000 (length (firsts list)) not_many, le-ltb (length (firsts list)) 3 not_few, flat) refl

-- the points that stay, in order, of a list that breaks no rule
pub IsMadeFrom-sorted : (list sorted : List Point) → IsLawful list → IsPermutation (firsts list) sorted → AllPairs Precedes sorted → IsMadeFrom list (record { points = sorted; merged = length list - length sorted })
IsMadeFrom-sorted list sorted h moved up =
    let same = length_permutation (firsts list) sorted moved in
    let ranged = (Decides-list_all is_in_range IsInRange Decides-is_in_range list).0 h.in_range in
    let apart = (Decides-has_distinct_ids list).0 h.distinct_ids in
    record {
      lawful = points_code-lawful list h;
      stay = moved;
      ordered = record {
        enough = omega (arith, same, h.enough);
        not_more = omega (arith, same, h.not_more);
        in_range = All-permutation IsInRange (firsts list) sorted moved (All-firsts IsInRange list ranged);
        distinct_ids = distinct_ids-IsPermutation (firsts list) sorted moved (AllPairs-firsts (λ p q. p.id ≢ q.id) list apart);
        ascending = up;
        not_flat = HasTurn-from_is_flat sorted (is_flat-IsPermutation (firsts list) sorted moved ∙ h.not_flat);
      };
      merged = omega (arith, same, length-firsts-le list);
    }

late_code_of : (c d e : Bool) (code : ℕ) → code_of true true c d e ≡ Some code → (code ≡ 2) ⊎ (code ≡ 1) ⊎ (code ≡ 3)
late_code_of true d e code h = inl cc
late_code_of false true e code h = inr (inl cc)
late_code_of false false true code h = inr (inr cc)
late_code_of false false false code h = absurd (cc)

-- the rules that a list in range with distinct ids can break
pub points_code-late : (list : List Point) → list_all is_in_range list ≡ true → has_distinct_ids list ≡ true → (code : ℕ) → points_code list ≡ Some code
    → (code ≡ 2) ⊎ (code ≡ 1) ⊎ (code ≡ 3)
unfolding points_code
points_code-late list ranged apart code h = late_code_of _ _ _ code (rw (ranged, apart) at h)
