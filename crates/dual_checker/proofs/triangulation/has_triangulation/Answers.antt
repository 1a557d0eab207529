use Rattle.std.proofs.Common.{◌≡◌, ◌↔◌, ◌+◌, ◌*◌, ◌<◌, ℕ, IsTrue, List, length, map, All, IsPermutation, ap, subst, arith}
use Rattle.exact_predicates.specs.declared.point.Point.{Point}
use Rattle.exact_predicates.specs.declared.tri.Tri.{Tri}
use Rattle.exact_predicates.specs.Hull.{ring_pairs}
use Rattle.exact_predicates.specs.Triangulation.{IsEmpty}
use Rattle.dual_checker.specs.Corners.{IsCornerIn}
use Rattle.dual_checker.specs.GoodReport.{HasTriangulation}
use Rattle.dual_checker.specs.HalfEdges.{AreFitting, half_edges, side_of}
use Rattle.dual_checker.proofs.Deciding.{part_fails}
use Rattle.dual_checker.proofs.Fitting.{AreTiles, tiles_read, corners_read, empty_read, rows_read, decides_triangulation, halves_within}
use Rattle.dual_checker.proofs.Triangulations.{AreOf}
use Rattle.dual_checker.proofs.triangulation.has_triangulation.Goals as goal

pub are_empty-requires-clause-within : goal.are_empty-requires-clause-within
are_empty-requires-clause-within c =
    let rows = rows_read c.args.report.now c.args.points.now.points c.as_slice-tris.result.now c.requires.points c.as_slice-tris.ensures.is c.requires.within in
    λ k d inside. let row = rows k d inside in (row.b, row.c)

pub returns-then-not-are_empty : goal.returns-then-not-are_empty
returns-then-not-are_empty c =
    part_fails (HasTriangulation c.args.report.now) (All (IsEmpty c.args.points.now.points) c.as_slice-tris.result.now) c.are_empty.result
    (empty_read c.args.report.now c.args.points.now.points c.as_slice-tris.result.now c.requires.points c.as_slice-tris.ensures.is) c.are_empty.ensures c.if-not-are_empty.true

pub returns-then-not-branch : goal.returns-then-not-branch
returns-then-not-branch c =
    part_fails (HasTriangulation c.args.report.now) ((x : ℕ) → x < c.len-2.result → IsCornerIn c.as_slice-tris.result.now x) c.in_ok-are_corners.field-0
    (corners_read c.args.report.now c.args.points.now.points c.as_slice-tris.result.now c.len-2.result c.requires.points c.as_slice-tris.ensures.is c.len-2.ensures.value) c.in_ok-are_corners.ensures c.if-not-branch.true

pub are_fitting-requires : goal.are_fitting-requires
are_fitting-requires c =
    record {
      within = halves_within c.args.points.now.points c.as_slice-tris.result.now c.in_ok-halves.halves
          (rows_read c.args.report.now c.args.points.now.points c.as_slice-tris.result.now c.requires.points c.as_slice-tris.ensures.is c.requires.within) c.in_ok-halves.ensures;
    }

pub returns : goal.returns
returns c =
    let r = c.args.report.now in
    let ps = c.args.points.now.points in
    let tris = c.as_slice-tris.result.now in
    let count : length c.args.report.now.tris + length c.args.report.now.hull + 2 ≡ 2 * length c.args.report.now.points =
    omega (arith, c.if-tris-hull.false, c.len.ensures.value, ap length c.as_slice-tris.ensures.is, ap length c.as_slice-hull.ensures.is, ap length c.requires.points) in
    let each = c.in_ok-are_corners.ensures.0 c.if-not-branch.false in
    let tiles : AreTiles c.args.report.now.points c.args.report.now.hull c.args.report.now.tris =
    tiles_read r ps tris c.len-2.result c.requires.points c.as_slice-tris.ensures.is c.len-2.ensures.value count (c.are_empty.ensures.0 c.if-not-are_empty.false) each in
    let are : AreOf c.args.report.now.hull c.args.report.now.tris c.in_ok-halves.halves c.in_ok-rim.rim = record {
      halves_are = subst (λ (ts : List Tri). IsPermutation (half_edges ts) c.in_ok-halves.halves) c.as_slice-tris.ensures.is c.in_ok-halves.ensures;
      rim_is = subst (λ (hull : List ℕ). IsPermutation (map side_of (ring_pairs hull)) c.in_ok-rim.rim) c.as_slice-hull.ensures.is c.in_ok-rim.ensures;
    } in
    decides_triangulation r c.in_ok-halves.halves c.in_ok-rim.rim c.are_fitting.result are tiles
    (subst (λ (qs : List Point). IsTrue c.are_fitting.result ↔ AreFitting qs c.in_ok-halves.halves c.in_ok-rim.rim r.method) c.requires.points c.are_fitting.ensures)
