-- From the steps of `solve` to its report.
use Rattle.std.proofs.Common.{◌≡◌, ◌⊎◌, ℕ, ◌*◌, ◌^◌, ◌<◌, ◌≤◌, ◌==◌, Bool, List, [], length, cond, filter, All, pos, ◌-ℤ◌, ◌≤ℤ◌, arith, ap, sym, ◌∙◌, subst, inr}
use Rattle.std.specs.Prelude.{◌↔◌}
use Rattle.std.proofs.lemmas.Int.{ints}
use Rattle.std.proofs.lemmas.List.Elements.{All-contains, All-weaker}
use Rattle.mwt_base.specs.Limits.{most_anchor, most_edges, most_length, most_unit}
use Rattle.exact_predicates.specs.declared.edge.Edge.{Edge}
use Rattle.exact_predicates.specs.declared.point.Point.{Point}
use Rattle.exact_predicates.specs.declared.tri.Tri.{Tri}
use Rattle.exact_predicates.specs.Flip.{IsFlipMinimal}
use Rattle.exact_predicates.specs.Hull.{IsHull}
use Rattle.exact_predicates.specs.Length.{IsNotLonger}
use Rattle.exact_predicates.specs.Plane.{IsInRange}
use Rattle.exact_predicates.specs.PointSet.{IsPointSet}
use Rattle.exact_predicates.specs.Triangulation.{IsEmpty, IsTriangulation, edges}
use Rattle.length_enclosure.specs.Enclosure.{lo, hi}
use Rattle.flip_claims.specs.Descent.{IsDescendant}
use Rattle.hull_sweep.specs.First.{IsFirst}
use Rattle.lmt_network.specs.Edges.{HasEdgesIn}
use Rattle.lmt_network.specs.Flags.{live_edges, live_numbers}
use Rattle.lmt_network.specs.Live.{IsHullEdge, IsLive}
use Rattle.lmt_network.specs.Network.{NetworkParts}
use Rattle.lmt_network.specs.PriceTables.{table_prices}
use Rattle.lmt_network.specs.Prices.{IsTight, Priced, bound}
use Rattle.skeleton_faces.specs.Faces.{AreFaces}
use Rattle.price_ascent.specs.declared.entry.PriceEntry.{PriceEntry}
use Rattle.price_ascent.specs.Ascent.{IsAscent}
use Rattle.price_ascent.specs.Entries.{anchored_edges, prices_of as prices_in, table_of}
use Rattle.face_optimum.specs.Decomposition.{Decomposes, bounded_faces}
use Rattle.face_optimum.specs.FaceRule.{FollowsFaceRule}
use Rattle.face_optimum.specs.Sites.{most_places}
use Rattle.tsplib_points.specs.declared.file.File.{File}
use Rattle.lmt_network.proofs.Picked.{All-from_members}
use Rattle.cert_text.specs.declared.report.LineKind.TheVariants.{Hull}
use Rattle.cert_text.specs.declared.report.Method.TheVariants.{Faces, Flips}
use Rattle.cert_text.specs.declared.report.PriceLine.{PriceLine}
use Rattle.cert_text.specs.declared.report.Report.{Report}
use Rattle.cert_text.specs.Lines.{most_bound}
use Rattle.cert_text.specs.Within.{IsLiveRow, IsPointRow, IsTriRow, IsUpto, IsWithin}
use Rattle.dual_checker.specs.Elimination.{IsElimination, IsNetworkOf}
use Rattle.dual_checker.specs.GoodReport.{HasLiveTriangle, HasMarks, IsGoodReport, IsMarked, IsSkeletonKind, anchored_of, is_off_hull, live_edges_of, prices_of}
use Rattle.dual_checker.proofs.Networks.{IsElimination-settled, LeavesLive}
use Rattle.mwt_tool.specs.declared.priced.Priced.{Priced as Part}
use Rattle.mwt_tool.specs.declared.solution.Solution.{Solution}
use Rattle.mwt_tool.specs.declared.solver.Settings.{Settings}
use Rattle.mwt_tool.specs.Priced.{ArePriced}
use Rattle.mwt_tool.specs.ReportOf.{HasAscentPrices, HasDecidedMethod, IsDescended, HasFaceOptimum, IsReportOf}
use Rattle.mwt_tool.specs.Solution.{IsSolution}
use Rattle.mwt_tool.proofs.GoodReports.{certified}
use Rattle.mwt_tool.proofs.PricedFacts.{SayRight, line_edges, line_prices, says_right}
use Rattle.mwt_tool.proofs.Ranges.{hull_upto}
use Rattle.mwt_tool.proofs.Solutions.{of_points}
use Rattle.mwt_tool.proofs.TriOrder.{tris_follow}

-- what a report says of the live edges
abbrev pub part_of : Report → Part
part_of r = record { live = r.live; skeleton = r.skeleton; bound = r.bound }

-- the triangulation of a report, with its method and these prices
abbrev pub solution_of : Report → List PriceEntry → Solution
solution_of r entries = record { method = r.method; tris = r.tris; prices = entries }

-- What the steps of `solve` say of its report r of the points ps: n is the network, flags tell which of its edges are live,
-- and their prices are in these entries.
pub record IsMade (ps : List Point) (n : NetworkParts) (flags : List Bool) (entries : List PriceEntry) (first : List Tri) (sweeps : ℕ) (r : Report) : Type 0 where
  pub version : r.version ≡ 2
  pub unit : r.unit ≤ most_unit
  pub merged : r.merged < 2 ^ 32
  pub points_are : r.points ≡ ps
  pub ids : All (λ p. p.id < 2 ^ 32) r.points
  pub lawful : IsPointSet ps
  pub hull : IsHull ps r.hull
  pub first_is : IsFirst ps r.hull first
  pub network : IsNetworkOf ps r.hull r.diamond n
  pub one_each : length flags ≡ length n.edges
  pub leaves : LeavesLive n flags
  pub candidates : r.candidates ≡ length n.edges
  pub priced : ArePriced n flags entries (part_of r)
  pub solution : IsSolution n flags r.skeleton first sweeps (solution_of r entries)
  pub not_negative : pos 0 ≤ℤ r.bound
  pub high : r.bound ≤ℤ pos (2 * most_anchor * most_edges)
  pub lower : r.lo ≡ lo ps (edges r.hull r.tris)
  pub upper : r.hi ≡ hi ps (edges r.hull r.tris)
  pub lo_few : r.lo ≤ most_length
  pub hi_few : r.hi ≤ most_length
  pub gap : r.gap ≡ pos r.hi -ℤ r.bound

-- the ids and places of the points
point_rows : (ps : List Point) → All (λ p. p.id < 2 ^ 32) ps → All IsInRange ps → All IsPointRow ps
point_rows ps ids places = λ k d k_in. record { id = ids k d k_in; place = places k d k_in }

module _ {n : NetworkParts} {flags : List Bool} {entries : List PriceEntry} {first : List Tri} {sweeps : ℕ} {r : Report} (m : IsMade r.points n flags entries first sweeps r) where
  elimination : IsElimination r.points r.hull r.diamond n flags
  elimination = IsElimination-settled r.points r.hull r.diamond n flags m.network m.one_each m.leaves

  -- what is said of the points and the hull of the network holds of those of the report
  of_report : (P : List Point → List ℕ → Type 0) → P n.points n.hull → P r.points r.hull
  of_report P h = of_points P m.network h

  right : SayRight r.points r.hull (length n.edges) r.live r.skeleton (anchored_edges n entries) r.bound
  right = of_report (λ ps hull. SayRight ps hull (length n.edges) r.live r.skeleton (anchored_edges n entries) r.bound) (says_right m.priced)

  triangulation : IsTriangulation r.points r.hull r.tris
  triangulation = of_report (λ ps hull. IsTriangulation ps hull r.tris) m.solution.triangulation

  live_is : live_edges_of r ≡ live_edges n flags
  live_is = line_edges m.priced

  within : IsWithin r
  within =
      let version = m.version in
      let count = triangulation.count in
      let three = m.hull.three in
      let enough = m.lawful.enough in
      let not_more = m.lawful.not_more in
      let hull = hull_upto r.points r.hull m.hull in
      let few = m.network.few_edges in
      let candidates = m.candidates in
      let lines = right.few in
      let skeleton = right.skeleton_few in
      let low = m.not_negative in
      let high = m.high in
      let gap = m.gap in
      let hi = m.hi_few in
      let most : most_bound r.version ≡ 10 ^ 24 = ap most_bound version in
      record {
        version = inr version;
        unit = m.unit;
        merged = m.merged;
        points_count = record { least = enough; most = omega (arith, not_more) };
        points = point_rows r.points m.ids m.lawful.in_range;
        points_ascend = m.lawful.ascending;
        hull_count = record { least = three; most = omega (arith, hull) };
        hull = m.hull.within;
        candidates = omega (arith, candidates, few);
        live_count = omega (arith, lines, few);
        live = subst (λ (v : ℕ). All (IsLiveRow v (length r.points)) r.live) (sym version) right.rows;
        live_ascend = right.ascend;
        skeleton_count = omega (arith, skeleton, few);
        skeleton = right.skeleton_rows;
        skeleton_ascends = right.skeleton_is.ascending;
        tris_count = omega (arith, count, not_more);
        tris = All-weaker (IsEmpty r.points) (IsTriRow (length r.points)) (λ t e. record { b = e.b_in; c = e.c_in }) r.tris triangulation.empty;
        tris_ascend = tris_follow r.tris m.solution.ascending;
        method = λ one. absurd (omega (arith, one, version));
        lo = m.lo_few;
        hi = m.hi_few;
        bound = subst (λ (k : ℕ). IsUpto k r.bound) (sym most) (record { least = omega (arith, ints, low); most = omega (arith, ints, high) });
        gap = subst (λ (k : ℕ). IsUpto k r.gap) (sym most) (record { least = omega (arith, ints, gap, high); most = omega (arith, ints, gap, low, hi) });
      }

  -- the edges with anchors on both sides
  anchored : anchored_edges n entries ≡ anchored_of r
  anchored = sym right.anchored_are ∙ ap (λ (v : ℕ). cond (v == 1) [] (filter (is_off_hull r.hull) r.skeleton)) (sym m.version)

  -- each line is marked by what its edge is
  marked : All (λ l. (l.kind ≡ Hull) ↔ IsHullEdge r.hull l.edge) r.live → All (IsSkeletonKind r) r.live
      → All (λ l. l.kind ≡ Hull → HasLiveTriangle r l.edge ⊎ (l.value ≡ pos 0)) r.live → HasMarks r
  marked hull skeleton bare = All-from_members (IsMarked r) r.live
      (λ l has. record {
        hull = All-contains (λ (m : PriceLine). (m.kind ≡ Hull) ↔ IsHullEdge r.hull m.edge) r.live l hull has;
        skeleton = λ _. All-contains (IsSkeletonKind r) r.live l skeleton has;
        bare = All-contains (λ (m : PriceLine). m.kind ≡ Hull → HasLiveTriangle r m.edge ⊎ (m.value ≡ pos 0)) r.live l bare has;
      })

  bound_is_lo : r.method ≡ Faces → r.bound ≡ pos (lo r.points (edges r.hull r.tris))
  bound_is_lo faces = m.priced.bound_is ∙ of_report (λ ps hull. bound n.hull (prices_in n entries) ≡ pos (lo ps (edges hull r.tris))) (m.solution.by_faces faces).bound_is

  pub good : IsGoodReport r
  good =
      record {
        within = within;
        points = record { distinct_ids = m.lawful.distinct_ids; not_flat = m.lawful.not_flat };
        hull = m.hull;
        candidates = record { list = n.edges; are = m.network.candidates; count = m.candidates };
        live = subst (IsLive r.points r.hull r.diamond) (sym live_is) elimination.live;
        skeleton = right.skeleton_is;
        triangulation = record { triangulation = triangulation; minimal = λ flips. of_report (λ ps hull. IsFlipMinimal ps hull r.tris) (m.solution.by_flips flips).minimal };
        length = record { lower = m.lower; upper = m.upper };
        marks = marked right.hull_marks right.skeleton_marks right.bare;
        slack = right.feasible;
        bound = record { sum = right.sum_is; tight = subst (λ (es : List Edge). IsTight r.points r.hull es (prices_of r)) anchored right.tight };
        gap = m.gap;
        faces = λ faces. bound_is_lo faces;
      }

  -- which method it has, and by which faces
  pub decided : HasDecidedMethod r
  decided =
      let d = m.solution.decided in
      record {
        faces = d.faces;
        faces_are = of_report (λ ps hull. AreFaces ps r.skeleton d.faces) d.faces_are;
        exactly = of_report (λ ps hull. (r.method ≡ Faces) ↔ Decomposes ps hull (live_edges_of r) r.skeleton d.faces most_places)
            (subst (λ (es : List Edge). (r.method ≡ Faces) ↔ Decomposes n.points n.hull es r.skeleton d.faces most_places) (sym live_is) d.exactly);
      }

  pub face_optimum : r.method ≡ Faces → HasFaceOptimum decided.faces r
  unfolding decided
  face_optimum faces =
      let d = m.solution.decided in
      let f = m.solution.by_faces faces in
      let Rule : List Edge → List Priced → Type 0 = λ live prices.
      FollowsFaceRule n.points n.hull live r.skeleton (bounded_faces n.hull d.faces) r.tris prices in
      let rule : Rule (live_edges_of r) (prices_of r)
      = subst (λ live. Rule live (prices_of r)) (sym live_is) (subst (Rule (live_edges n flags)) (sym (line_prices m.priced)) f.rule) in
      record {
        live = of_report (λ ps hull. HasEdgesIn hull r.tris (live_edges_of r)) (subst (HasEdgesIn n.hull r.tris) (sym live_is) f.edges_live);
        rule = of_report (λ ps hull. FollowsFaceRule ps hull (live_edges_of r) r.skeleton (bounded_faces hull d.faces) r.tris (prices_of r)) rule;
      }

  ascent : r.method ≡ Flips → HasAscentPrices sweeps r
  ascent flips = record {
    net = n;
    flags = flags;
    table = table_of entries;
    elimination = elimination;
    ascent = subst (λ (es : List Edge). IsAscent n flags es sweeps (table_of entries)) anchored (m.solution.by_flips flips).ascent;
    prices = line_prices m.priced ∙ ap (λ (bs : List Bool). table_prices n (table_of entries) (live_numbers bs)) m.priced.prices.live;
  }

  pub descended : r.method ≡ Flips → IsDescended sweeps r
  descended flips = record {
    ascent = ascent flips;
    shortened = record {
      first = first;
      first_is = m.first_is;
      descendant = of_report (λ ps hull. IsDescendant ps hull first r.tris) (m.solution.by_flips flips).descendant;
      not_longer = of_report (λ ps hull. IsNotLonger ps (edges hull r.tris) (edges hull first)) (m.solution.by_flips flips).not_longer;
    };
  }

-- the report of a file
pub report_of_steps : (file : File) (settings : Settings) (n : NetworkParts) (flags : List Bool) (entries : List PriceEntry) (first : List Tri) (r : Report)
    → IsMade file.points.points n flags entries first settings.sweeps r → r.diamond ≡ settings.diamond → r.unit ≡ file.unit → r.merged ≡ file.merged
    → IsReportOf file settings r
report_of_steps file settings n flags entries first r m diamond unit merged =
    let own : IsMade r.points n flags entries first settings.sweeps r
    = subst (λ (ps : List Point). IsMade ps n flags entries first settings.sweeps r) (sym m.points_are) m in
    record {
      version = m.version;
      diamond = diamond;
      unit = unit;
      merged = merged;
      points = m.points_are;
      certified = certified (good own);
      decided = decided own;
      by_faces = face_optimum own;
      by_flips = descended own;
    }
