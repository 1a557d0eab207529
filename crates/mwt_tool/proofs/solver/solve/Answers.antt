use Rattle.std.proofs.Common.{ℕ, ◌<◌, List, length, arith, refl, subst, sym}
use Rattle.std.proofs.lemmas.List.Elements.{All-weaker}
use Rattle.exact_predicates.specs.declared.edge.Edge.{Edge}
use Rattle.exact_predicates.specs.declared.point.Point.{Point}
use Rattle.exact_predicates.specs.Candidates.{AreCandidates}
use Rattle.exact_predicates.specs.Triangulation.{IsEmpty, IsTriangulation}
use Rattle.flip_finish.proofs.Ordered.{ascending_tris}
use Rattle.cert_text.specs.declared.report.Report.{Report}
use Rattle.mwt_tool.specs.Found.{report_of}
use Rattle.mwt_tool.specs.ReportOf.{IsReportOf}
use Rattle.mwt_tool.specs.declared.solver.Found.{Found}
use Rattle.mwt_tool.specs.Solution.{HasLiveFlags, IsSolution}
use Rattle.mwt_tool.proofs.Solutions.{bound_range, of_points, to_network}
use Rattle.mwt_tool.proofs.Solved.{report_of_steps}
use Rattle.mwt_tool.proofs.solver.solve.Goals as goal

pub of-requires-clause-live : goal.of-requires-clause-live
of-requires-clause-live g c =
    let network = c.in_ok-net.ensures.network in
    let diamond = c.args.settings.now.diamond in
    let live : HasLiveFlags c.in_ok-net.net c.in_ok-flags.flags = record {
      one_each = c.in_ok-flags.ensures.one_each;
      numbers = c.in_ok-flags.ensures.live;
      diamond = diamond;
      edges = c.in_ok-flags.ensures.live_edges diamond
          (to_network (λ (ps : List Point) (hull : List ℕ). AreCandidates ps hull diamond c.in_ok-net.net.edges) network network.candidates);
    } in
    λ _ _. live

pub enclosure-ends-requires-clause-within : goal.enclosure-ends-requires-clause-within
enclosure-ends-requires-clause-within g c =
    let tris = c.in_ok-solution.solution.tris in
    let ps = c.args.file.now.points.points in
    let t = of_points (λ (xs : List Point) (hull : List ℕ). IsTriangulation xs hull tris) c.in_ok-net.ensures.network c.in_ok-solution.ensures.triangulation in
    All-weaker (IsEmpty ps) (λ t. (t.b < length ps) × (t.c < length ps)) (λ t e. (e.b_in, e.c_in)) tris t.empty

pub report-requires-clause-not_negative : goal.report-requires-clause-not_negative
report-requires-clause-not_negative g c =
    let network = c.in_ok-net.ensures.network in
    let tris = c.in_ok-solution.solution.tris in
    let t = of_points (λ (xs : List Point) (hull : List ℕ). IsTriangulation xs hull tris) network c.in_ok-solution.ensures.triangulation in
    let hi = c.enclosure-ends.ensures.of_triangulation t in
    let lower = c.enclosure-ends.ensures.lo in
    let ordered = c.enclosure-ends.ensures.ordered in
    let part = c.in_ok-part.ensures in
    (bound_range c.in_ok-part.part.bound network c.in_ok-solution.ensures (omega (arith, hi, lower, ordered)) part.priced.bound_is part.low part.high).0

pub report-requires-clause-high : goal.report-requires-clause-high
report-requires-clause-high g c =
    let network = c.in_ok-net.ensures.network in
    let tris = c.in_ok-solution.solution.tris in
    let t = of_points (λ (xs : List Point) (hull : List ℕ). IsTriangulation xs hull tris) network c.in_ok-solution.ensures.triangulation in
    let hi = c.enclosure-ends.ensures.of_triangulation t in
    let lower = c.enclosure-ends.ensures.lo in
    let ordered = c.enclosure-ends.ensures.ordered in
    let part = c.in_ok-part.ensures in
    (bound_range c.in_ok-part.part.bound network c.in_ok-solution.ensures (omega (arith, hi, lower, ordered)) part.priced.bound_is part.low part.high).1

pub report-requires-clause-short : goal.report-requires-clause-short
report-requires-clause-short g c =
    let tris = c.in_ok-solution.solution.tris in
    let t = of_points (λ (xs : List Point) (hull : List ℕ). IsTriangulation xs hull tris) c.in_ok-net.ensures.network c.in_ok-solution.ensures.triangulation in
    c.enclosure-ends.ensures.of_triangulation t

pub returns-clause-report : goal.returns-clause-report
returns-clause-report g c =
    let file = c.args.file.now in
    let settings = c.args.settings.now in
    let solution = c.in_ok-solution.solution in
    let found : Found = record {
      points = c.in_ok-points.points;
      hull = c.in_ok-hull.field-0.hull;
      candidates = c.edges.result;
      part = c.in_ok-part.part;
      method = solution.method;
      tris = solution.tris;
      ends = c.enclosure-ends.result;
    } in
    let triangulation = of_points (λ (xs : List Point) (hull : List ℕ). IsTriangulation xs hull solution.tris) c.in_ok-net.ensures.network c.in_ok-solution.ensures.triangulation in
    let hi = c.enclosure-ends.ensures.of_triangulation triangulation in
    let ordered = c.enclosure-ends.ensures.ordered in
    let lower = c.enclosure-ends.ensures.lo in
    let part = c.in_ok-part.ensures in
    let range = bound_range c.in_ok-part.part.bound c.in_ok-net.ensures.network c.in_ok-solution.ensures (omega (arith, hi, lower, ordered)) part.priced.bound_is part.low part.high in
    subst (λ (r : Report). IsReportOf file settings r) (sym c.report.ensures.report)
    (report_of_steps file settings c.in_ok-net.net c.in_ok-flags.flags solution.prices c.in_ok-hull.field-0.tris (report_of file settings found)
    (record {
      version = refl;
      unit = c.requires.unit;
      merged = c.report.ensures.merged;
      points_are = c.in_ok-points.ensures.items;
      ids = c.in_ok-points.ensures.ids;
      lawful = c.in_ok-points.ensures.valid;
      hull = c.in_ok-hull.ensures.hull;
      first_is = record {
        triangulation = c.in_ok-hull.ensures.tris;
        rule = c.in_ok-hull.ensures.rule;
        ascending = ascending_tris file.points.points c.in_ok-hull.field-0.hull c.in_ok-hull.field-0.tris c.in_ok-points.ensures.valid c.in_ok-hull.ensures.hull
            c.in_ok-hull.ensures.tris c.in_ok-hull.ensures.ascending;
      };
      network = c.in_ok-net.ensures.network;
      one_each = c.in_ok-flags.ensures.one_each;
      leaves = c.in_ok-flags.ensures.live_edges;
      candidates = c.edges.ensures.value;
      priced = part.priced;
      solution = subst (λ (es : List Edge). IsSolution c.in_ok-net.net c.in_ok-flags.flags es c.in_ok-hull.field-0.tris settings.sweeps solution)
          (sym c.in_ok-part.ensures.same) c.in_ok-solution.ensures;
      not_negative = range.0;
      high = range.1;
      lower = lower;
      upper = c.enclosure-ends.ensures.hi;
      lo_few = omega (arith, ordered, hi);
      hi_few = hi;
      gap = refl;
    })
    refl refl refl)
