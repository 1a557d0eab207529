-- What the parts of a report decide together.
use Rattle.std.proofs.Common.{◌≡◌, ℕ, Bool, true, false, not, eqb, List, Option, None, Some, refl, sym, ap, subst, ◌∙◌, inr}
use Rattle.std.specs.Cmp.Lexicographic.{pointwise}
use Rattle.std.proofs.lemmas.Bool.{false≢true}
use Rattle.std.proofs.lemmas.Bool.Decides.{Decides-eqb}
use Rattle.std.proofs.lemmas.Slice.Eq.{slice_eq-Decides}
use Rattle.exact_predicates.specs.declared.point.Point.{Point}
use Rattle.exact_predicates.specs.Hull.{IsHull}
use Rattle.exact_predicates.specs.PointSet.{IsPointSet}
use Rattle.exact_predicates.proofs.OneHull.{IsHull-only}
use Rattle.cert_text.specs.declared.report.Report.{Report}
use Rattle.cert_text.specs.Within.{IsWithin}
use Rattle.dual_checker.specs.declared.verdict.Verdict.{Verdict}
use Rattle.dual_checker.specs.declared.verdict.Verdict.TheVariants.{Valid, Broken}
use Rattle.dual_checker.specs.GoodReport.{HasPoints, HasHull, edge_parts}
use Rattle.dual_checker.specs.Parts.{IsFirstToFail}
use Rattle.dual_checker.specs.Verdicts.{IsVerdict, verdict_of}

-- one hull that was found, and one that was read
pub hulls_agree : (r : Report) (ps : List Point) (found xs ys : List ℕ) (differ : Bool) → ps ≡ r.points → IsHull ps found → xs ≡ found → ys ≡ r.hull
    → differ ≡ not (pointwise eqb xs ys) → differ ≡ false → found ≡ r.hull
hulls_agree r ps found xs ys differ points is first second says none =
    sym first ∙ ((slice_eq-Decides Decides-eqb xs ys (pointwise eqb xs ys) refl).0 (equal (pointwise eqb xs ys) (sym says ∙ none)) ∙ second)
  where
    equal : (b : Bool) → not b ≡ false → b ≡ true
    equal true h = refl
    equal false h = absurd (false≢true (sym h))

pub hulls_differ : (r : Report) (ps : List Point) (found xs ys : List ℕ) (differ : Bool) → IsPointSet ps → ps ≡ r.points → IsHull ps found → xs ≡ found → ys ≡ r.hull
    → differ ≡ not (pointwise eqb xs ys) → differ ≡ true → ¬ HasHull r
hulls_differ r ps found xs ys differ set points is first second says other = λ hull.
    let own : IsHull ps r.hull = subst (λ (qs : List Point). IsHull qs r.hull) (sym points) hull in
    let same : xs ≡ ys = first ∙ (IsHull-only ps found r.hull set is own ∙ sym second) in
    let equal = (slice_eq-Decides Decides-eqb xs ys (pointwise eqb xs ys) refl).1 same in
    false≢true (sym (ap not equal) ∙ (sym says ∙ other))

-- where the first two parts hold
verdict_valid : (r : Report) → IsWithin r → HasPoints r → HasHull r → IsFirstToFail 3 (edge_parts r) None → IsVerdict r Valid
verdict_valid r is points hull (candidates, (live, (skeleton, (triangulation, (len, (marks, (slack, (bound, (gap, (faces, end)))))))))) = record {
  within = is;
  points = points;
  hull = hull;
  candidates = candidates;
  live = live;
  skeleton = skeleton;
  triangulation = triangulation;
  length = len;
  marks = marks;
  slack = slack;
  bound = bound;
  gap = gap;
  faces = faces;
}

verdict_broken : (r : Report) (k : ℕ) → HasPoints r → HasHull r → IsFirstToFail 3 (edge_parts r) (Some k) → IsVerdict r (Broken k)
verdict_broken r k points hull fails = inr (points, inr (hull, fails))

-- the verdict, by the first part after the hull that fails
pub verdict_decides : (r : Report) (broken : Option ℕ) (v : Verdict) → IsWithin r → HasPoints r → HasHull r → IsFirstToFail 3 (edge_parts r) broken → v ≡ verdict_of broken → IsVerdict r v
verdict_decides r None v is points hull first same = subst (IsVerdict r) (sym same) (verdict_valid r is points hull first)
verdict_decides r (Some k) v is points hull first same = subst (IsVerdict r) (sym same) (verdict_broken r k points hull first)
