-- What is tested of half-edges decides whether triangles are a flip-minimal triangulation.
use Rattle.std.proofs.Common.{◌≡◌, ℕ, ◌+◌, ◌*◌, ◌<◌, ◌≤◌, List, length, get_or, map, count_by, All, Any, Contains, IsPermutation, sym, ap, subst, ◌∙◌, arith, inl, inr}
use Rattle.std.specs.List.{list_any}
use Rattle.std.specs.Prelude.{◌==◌}
use Rattle.std.proofs.lemmas.Bool.{cases_Bool, cases_lt, false≢true, eqb-true, eqb-false}
use Rattle.std.proofs.lemmas.List.Elements.{All-contains, Contains-get_or}
use Rattle.exact_predicates.specs.declared.point.Point.{Point}
use Rattle.exact_predicates.specs.declared.tri.Tri.{Tri}
use Rattle.exact_predicates.specs.Hull.{ring_pairs, IsHullPair}
use Rattle.exact_predicates.specs.Triangulation.{IsEmpty, IsCorner, IsTriangulation, side_count, is_side}
use Rattle.exact_predicates.proofs.Pairs.{is_pair_decides}
use Rattle.dual_checker.specs.declared.half_edges.HalfEdge.{HalfEdge}
use Rattle.dual_checker.specs.declared.half_edges.Side.{Side}
use Rattle.dual_checker.specs.HalfEdges.{half_edges, is_on, side_of, reversed, IsCoveredOnce, IsBalancedAt}
use Rattle.dual_checker.proofs.Rims.{rim_has}
use Rattle.dual_checker.proofs.Halving.{count-half_edges, on_counted, counted_on}

-- the half-edges of triangles, and the pairs of a hull as sides
pub record AreOf (hull : List ℕ) (tris : List Tri) (halves : List HalfEdge) (rim : List Side) : Type 0 where
  pub halves_are : IsPermutation (half_edges tris) halves
  pub rim_is : IsPermutation (map side_of (ring_pairs hull)) rim

pub in_rim : {hull : List ℕ} {tris : List Tri} {halves : List HalfEdge} {rim : List Side} → AreOf hull tris halves rim → (s : Side) → IsHullPair hull s.from s.to → Contains rim s
in_rim {hull = hull} {rim = rim} are s pair = (rim_has hull rim s are.rim_is).1 pair

pub pair_in : {hull : List ℕ} {tris : List Tri} {halves : List HalfEdge} {rim : List Side} → AreOf hull tris halves rim → (s : Side) → Contains rim s → IsHullPair hull s.from s.to
pair_in {hull = hull} {rim = rim} are s has = (rim_has hull rim s are.rim_is).0 has

-- how often a side occurs
count_is : {hull : List ℕ} {tris : List Tri} {halves : List HalfEdge} {rim : List Side} → AreOf hull tris halves rim → (s : Side) → count_by (is_on s) halves ≡ side_count tris s.from s.to
count_is {tris = tris} {halves = halves} are s = count-half_edges tris halves s are.halves_are

-- what is tested for a triangulation
pub record PassesTests (ps : List Point) (hull : List ℕ) (tris : List Tri) (halves : List HalfEdge) (rim : List Side) : Type 0 where
  pub empty : All (IsEmpty ps) tris
  pub count : length tris + length hull + 2 ≡ 2 * length ps
  pub corners : (x : ℕ) → x < length ps → Any (λ t. IsCorner t x) tris
  pub covered : All (IsCoveredOnce halves) rim
  pub balanced : All (λ h. IsBalancedAt halves rim h.side) halves

-- a side that occurs, and is no pair of the hull, is balanced
balance_at : {hull : List ℕ} {tris : List Tri} {halves : List HalfEdge} {rim : List Side} → AreOf hull tris halves rim → All (λ h. IsBalancedAt halves rim h.side) halves
    → (s : Side) → ¬ IsHullPair hull s.from s.to → 1 ≤ count_by (is_on s) halves → count_by (is_on s) halves ≡ count_by (is_on (reversed s)) halves
balance_at {halves = halves} {rim = rim} are balanced s away some =
    let (h, has, same) = on_counted halves s some in
    let at : IsBalancedAt halves rim s = subst (λ (x : Side). IsBalancedAt halves rim x) same (All-contains (λ (g : HalfEdge). IsBalancedAt halves rim g.side) halves h balanced has) in
    elim at [ inl on_rim ↦ absurd (away (pair_in are s on_rim)) | inr equal ↦ equal ]

balance_of : {hull : List ℕ} {tris : List Tri} {halves : List HalfEdge} {rim : List Side} → AreOf hull tris halves rim → All (λ h. IsBalancedAt halves rim h.side) halves
    → (s : Side) → ¬ IsHullPair hull s.from s.to → ¬ IsHullPair hull s.to s.from → count_by (is_on s) halves ≡ count_by (is_on (reversed s)) halves
balance_of {halves = halves} are balanced s away back =
    elim (cases_lt 0 (count_by (is_on s) halves)) [
      | inl some ↦ balance_at are balanced s away (omega arith)
      | inr none ↦ elim (cases_lt 0 (count_by (is_on (reversed s)) halves)) [
        | inl some ↦ sym (balance_at are balanced (reversed s) back (omega arith))
        | inr neither ↦ omega arith
      ]
    ]

pub IsTriangulation-tests : (ps : List Point) (hull : List ℕ) (tris : List Tri) (halves : List HalfEdge) (rim : List Side) → AreOf hull tris halves rim
    → PassesTests ps hull tris halves rim → IsTriangulation ps hull tris
IsTriangulation-tests ps hull tris halves rim are tests = record {
  empty = tests.empty;
  count = tests.count;
  hull_once = λ u v pair.
      let s : Side = side_of (u, v) in
      sym (count_is are s) ∙ (All-contains (IsCoveredOnce halves) rim s tests.covered (in_rim are s pair)).0;
  none_outside = λ u v pair.
      let s : Side = side_of (u, v) in
      sym (count_is are (reversed s)) ∙ (All-contains (IsCoveredOnce halves) rim s tests.covered (in_rim are s pair)).1;
  balanced = λ u v apart away back.
      let s : Side = side_of (u, v) in
      sym (count_is are s) ∙ balance_of are tests.balanced s away back ∙ count_is are (reversed s);
  corners = tests.corners;
}

-- the other way round
covered_by : {hull : List ℕ} {tris : List Tri} {halves : List HalfEdge} {rim : List Side} → AreOf hull tris halves rim → (ps : List Point) → IsTriangulation ps hull tris
    → (s : Side) → Contains rim s → IsCoveredOnce halves s
covered_by are ps t s has =
    let pair = pair_in are s has in
    (count_is are s ∙ t.hull_once s.from s.to pair, count_is are (reversed s) ∙ t.none_outside s.from s.to pair)

balanced_by : {hull : List ℕ} {tris : List Tri} {halves : List HalfEdge} {rim : List Side} → AreOf hull tris halves rim → (ps : List Point) → IsTriangulation ps hull tris
    → (h : HalfEdge) → Contains halves h → IsBalancedAt halves rim h.side
balanced_by {hull = hull} {tris = tris} {halves = halves} are ps t h has =
    let s = h.side in
    let same : count_by (is_on s) halves ≡ side_count tris s.from s.to = count_is are s in
    let turned : count_by (is_on (reversed s)) halves ≡ side_count tris s.to s.from = count_is are (reversed s) in
    elim (cases_Bool (list_any (is_side s.from s.to) (ring_pairs hull))) [
      | inl on_rim ↦ inl (in_rim are s ((is_pair_decides hull s.from s.to).0 on_rim))
      | inr off ↦
          let away : ¬ IsHullPair hull s.from s.to = λ pair. false≢true (sym off ∙ (is_pair_decides hull s.from s.to).1 pair) in
          inr (elim (cases_Bool (list_any (is_side s.to s.from) (ring_pairs hull))) [
            | inl back ↦ let none = t.none_outside s.to s.from ((is_pair_decides hull s.to s.from).0 back) in let some = counted_on halves h has in absurd (omega arith)
            | inr off2 ↦
                let back : ¬ IsHullPair hull s.to s.from = λ pair. false≢true (sym off2 ∙ (is_pair_decides hull s.to s.from).1 pair) in
                elim (cases_Bool (s.from == s.to)) [
                  | inl loop ↦ let e = eqb-true s.from s.to loop in ap (λ (x : Side). count_by (is_on x) halves) (ap (λ (v : ℕ). record { from = s.from; to = v }) (sym e) ∙ ap (λ (u : ℕ). record { from = u; to = s.from }) e)
                  | inr apart ↦ same ∙ (t.balanced s.from s.to (eqb-false s.from s.to apart) away back ∙ sym turned)
                ]
          ])
    ]

pub tests-IsTriangulation : (ps : List Point) (hull : List ℕ) (tris : List Tri) (halves : List HalfEdge) (rim : List Side) → AreOf hull tris halves rim
    → IsTriangulation ps hull tris → PassesTests ps hull tris halves rim
tests-IsTriangulation ps hull tris halves rim are t = record {
  empty = t.empty;
  count = t.count;
  corners = t.corners;
  covered = λ k d inside. covered_by are ps t (get_or rim k d) (Contains-get_or rim k d inside);
  balanced = λ k d inside. balanced_by are ps t (get_or halves k d) (Contains-get_or halves k d inside);
}
