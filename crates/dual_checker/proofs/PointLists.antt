-- The points of a report are kept as they stand, since they ascend.
use Rattle.std.proofs.Common.{◌≡◌, ◌≢◌, true, false, List, get_or, AllPairs, Contains, None, sym, subst, arith, ⊎_elim}
use Rattle.std.specs.Ordering.{int_eq}
use Rattle.std.proofs.lemmas.Bool.{and_parts, cases_Bool}
use Rattle.std.proofs.lemmas.Bool.Decides.{Decides-int_eq}
use Rattle.std.proofs.lemmas.Int.{ints}
use Rattle.std.proofs.lemmas.List.Sorted.{Contains-permutation, IsPermutation-sym}
use Rattle.exact_predicates.specs.declared.point.Point.{Point}
use Rattle.exact_predicates.specs.Merging.{is_same_place, firsts, points_code, IsMadeFrom}
use Rattle.exact_predicates.specs.Plane.{Precedes}
use Rattle.exact_predicates.specs.PointSet.{PointSet, HasTurn}
use Rattle.exact_predicates.proofs.Ascending.{ascending-only}
use Rattle.exact_predicates.proofs.Codes.{points_code-distinct}
use Rattle.exact_predicates.proofs.Firsts.{HasDistinctPlaces, firsts-distinct}
use Rattle.exact_predicates.proofs.Order.{Precedes-not}
use Rattle.cert_text.specs.declared.report.Report.{Report}
use Rattle.cert_text.specs.Within.{IsWithin}
use Rattle.dual_checker.specs.GoodReport.{HasPoints}

-- a point before another has another place
apart-Precedes : (p q : Point) → Precedes p q → is_same_place p q ≡ false
apart-Precedes p q h = ⊎_elim (λ same. absurd (clash (and_parts _ _ same) h)) (λ no. no) (cases_Bool (is_same_place p q)) where
  clash : (int_eq p.x q.x ≡ true) × (int_eq p.y q.y ≡ true) → Precedes p q → ⊥
  clash same before =
      let x = (Decides-int_eq p.x q.x).0 same.0 in
      let y = (Decides-int_eq p.y q.y).0 same.1 in
      ⊎_elim (λ l. omega (arith, ints)) (λ r. let r1 = r.1 in omega (arith, ints)) before

pub HasDistinctPlaces-ascending : (ps : List Point) → AllPairs Precedes ps → HasDistinctPlaces ps
HasDistinctPlaces-ascending ps up = λ i j d l m. apart-Precedes (get_or ps i d) (get_or ps j d) (up i j d l m)

-- points made of an ascending list are this list
pub made_whole : (list : List Point) (set : PointSet) → AllPairs Precedes list → IsMadeFrom list set → set.points ≡ list
made_whole list set up made =
    let whole = firsts-distinct list (HasDistinctPlaces-ascending list up) in
    ascending-only Precedes Precedes-not set.points list made.ordered.ascending up
    (λ p has. subst (λ (ps : List Point). Contains ps p) whole (Contains-permutation set.points (firsts list) p (IsPermutation-sym (firsts list) set.points made.stay) has))
    (λ p has. Contains-permutation (firsts list) set.points p made.stay (subst (λ (ps : List Point). Contains ps p) (sym whole) has))

-- a report whose points are refused has not the points of a good one
pub HasPoints-no_code : (r : Report) → IsWithin r → HasPoints r → points_code r.points ≡ None
HasPoints-no_code r is h =
    let count = is.points_count in
    points_code-distinct r.points (λ k d inside. (is.points k d inside).place) h.distinct_ids (HasDistinctPlaces-ascending r.points is.points_ascend)
    count.least (let most = count.most in omega arith) h.not_flat

-- and one whose points are made has them
pub HasPoints-made : (r : Report) (set : PointSet) → set.points ≡ r.points → IsMadeFrom r.points set → HasPoints r
HasPoints-made r set same made = record {
  distinct_ids = subst (λ (ps : List Point). AllPairs (λ p q. p.id ≢ q.id) ps) same made.ordered.distinct_ids;
  not_flat = subst HasTurn same made.ordered.not_flat;
}
