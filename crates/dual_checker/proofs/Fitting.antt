-- Half-edges that fit are those of a triangulation, and of a flip-minimal one where the method is flips.
use Rattle.std.proofs.Common.{◌≡◌, ℕ, ◌+◌, ◌*◌, ◌<◌, Bool, IsTrue, ◌↔◌, List, length, get_or, All, Any, IsPermutation, Contains, sym, subst, ap, ◌∙◌, arith, inl, inr}
use Rattle.std.proofs.lemmas.List.Elements.{Contains-get_or}
use Rattle.exact_predicates.specs.declared.point.Point.{Point}
use Rattle.exact_predicates.specs.declared.tri.Tri.{Tri}
use Rattle.exact_predicates.specs.Triangulation.{IsEmpty, IsCorner, HasCorners}
use Rattle.cert_text.specs.declared.report.Report.{Report}
use Rattle.cert_text.specs.Within.{IsTriRow, IsWithin}
use Rattle.dual_checker.specs.declared.half_edges.HalfEdge.{HalfEdge}
use Rattle.dual_checker.specs.declared.half_edges.Side.{Side}
use Rattle.dual_checker.specs.Corners.{IsCornerIn}
use Rattle.dual_checker.specs.GoodReport.{HasTriangulation}
use Rattle.dual_checker.specs.HalfEdges.{half_edges, IsWithinPoints, AreFitting}
use Rattle.dual_checker.proofs.Halving.{corners-Contains}
use Rattle.dual_checker.proofs.Minimality.{IsFlipMinimal-tests, tests-IsFlipMinimal}
use Rattle.dual_checker.proofs.Triangulations.{AreOf, IsTriangulation-tests, tests-IsTriangulation}

-- what is asked of triangles besides
pub record AreTiles (ps : List Point) (hull : List ℕ) (tris : List Tri) : Type 0 where
  pub count : length tris + length hull + 2 ≡ 2 * length ps
  pub empty : All (IsEmpty ps) tris
  pub corners : (x : ℕ) → x < length ps → Any (λ t. IsCorner t x) tris

-- parts of it, of the points and triangles that were read
pub empty_read : (r : Report) (ps : List Point) (tris : List Tri) → ps ≡ r.points → tris ≡ r.tris → HasTriangulation r → All (IsEmpty ps) tris
empty_read r ps tris points same h =
    subst (λ (ts : List Tri). All (IsEmpty ps) ts) (sym same) (subst (λ (qs : List Point). All (IsEmpty qs) r.tris) (sym points) h.triangulation.empty)

pub rows_read : (r : Report) (ps : List Point) (tris : List Tri) → ps ≡ r.points → tris ≡ r.tris → IsWithin r → All (IsTriRow (length ps)) tris
rows_read r ps tris points same h =
    subst (λ (ts : List Tri). All (IsTriRow (length ps)) ts) (sym same) (subst (λ (qs : List Point). All (IsTriRow (length qs)) r.tris) (sym points) h.tris)

pub corners_read : (r : Report) (ps : List Point) (tris : List Tri) (count : ℕ) → ps ≡ r.points → tris ≡ r.tris → count ≡ length ps → HasTriangulation r
    → (x : ℕ) → x < count → IsCornerIn tris x
corners_read r ps tris count points same size h x inside =
    let all : count ≡ length r.points = size ∙ ap length points in
    subst (λ (ts : List Tri). IsCornerIn ts x) (sym same) (h.triangulation.corners x (omega (arith, all, inside)))

-- and back
pub tiles_read : (r : Report) (ps : List Point) (tris : List Tri) (count : ℕ) → ps ≡ r.points → tris ≡ r.tris → count ≡ length ps
    → length r.tris + length r.hull + 2 ≡ 2 * length r.points → All (IsEmpty ps) tris → ((x : ℕ) → x < count → IsCornerIn tris x) → AreTiles r.points r.hull r.tris
tiles_read r ps tris count points same size counted empty corners = record {
  count = counted;
  empty = subst (λ (qs : List Point). All (IsEmpty qs) r.tris) points (subst (λ (ts : List Tri). All (IsEmpty ps) ts) same empty);
  corners = λ x inside.
      let all : count ≡ length r.points = size ∙ ap length points in
      subst (λ (ts : List Tri). IsCornerIn ts x) same (corners x (omega (arith, all, inside)));
}

pub decides_triangulation : (r : Report) (halves : List HalfEdge) (rim : List Side) (b : Bool) → AreOf r.hull r.tris halves rim → AreTiles r.points r.hull r.tris
    → (IsTrue b ↔ AreFitting r.points halves rim r.method) → IsTrue b ↔ HasTriangulation r
decides_triangulation r halves rim b are tiles says = (
  λ t. let fit = says.0 t in record {
    triangulation = IsTriangulation-tests r.points r.hull r.tris halves rim are (record { empty = tiles.empty; count = tiles.count; corners = tiles.corners; covered = fit.covered; balanced = fit.balanced });
    minimal = λ flips. IsFlipMinimal-tests r.points r.hull r.tris halves rim are (fit.minimal flips);
  },
  λ h. let tests = tests-IsTriangulation r.points r.hull r.tris halves rim are h.triangulation in says.1 (record {
    covered = tests.covered;
    balanced = tests.balanced;
    minimal = λ flips. tests-IsFlipMinimal r.points r.hull r.tris halves rim are (h.minimal flips);
  }),
)

-- the half-edges of triangles of the points are within them
within_corners : (ps : List Point) (t : Tri) (u v w : ℕ) → IsTriRow (length ps) t → HasCorners t u v w → (u < length ps) × (v < length ps) × (w < length ps)
within_corners ps t u v w is corners =
    let below = t.below_b in
    let b_in = is.b in
    let c_in = is.c in
    elim corners [
      | inl e ↦ let e0 = e.0 in let e1 = e.1 in let e2 = e.2 in (omega arith, omega arith, omega arith)
      | inr f ↦ elim f [
        | inl e ↦ let e0 = e.0 in let e1 = e.1 in let e2 = e.2 in (omega arith, omega arith, omega arith)
        | inr e ↦ let e0 = e.0 in let e1 = e.1 in let e2 = e.2 in (omega arith, omega arith, omega arith)
      ]
    ]

pub halves_within : (ps : List Point) (tris : List Tri) (halves : List HalfEdge) → All (IsTriRow (length ps)) tris → IsPermutation (half_edges tris) halves → All (IsWithinPoints ps) halves
halves_within ps tris halves rows p = λ i d inside. each (get_or halves i d) (Contains-get_or halves i d inside) where
  each : (h : HalfEdge) → Contains halves h → IsWithinPoints ps h
  each h has =
      let (k, t, k_in, at, corners) = corners-Contains tris halves h p has in
      let row : IsTriRow (length ps) t = subst (λ (u : Tri). IsTriRow (length ps) u) at (rows k t k_in) in
      let w = within_corners ps t h.side.from h.side.to h.apex row corners in
      record { from = w.0; to = w.1; apex = w.2 }
