-- Two reports of one file are alike.
use Rattle.std.proofs.Common.{◌≡◌, ℕ, ◌<◌, List, length, get_or, Contains, ℤ, pos, ◌-ℤ◌, lit<, refl, ap, sym, ◌∙◌, subst}
use Rattle.std.specs.Prelude.{◌↔◌}
use Rattle.std.proofs.lemmas.List.{ext_get_or, length-map}
use Rattle.exact_predicates.specs.declared.diamond.Diamond.{Diamond}
use Rattle.exact_predicates.specs.declared.edge.Edge.{Edge}
use Rattle.exact_predicates.specs.declared.point.Point.{Point}
use Rattle.exact_predicates.specs.declared.tri.Tri.{Tri}
use Rattle.exact_predicates.specs.Triangulation.{edges}
use Rattle.length_enclosure.specs.Enclosure.{lo, hi}
use Rattle.lmt_network.specs.Live.{IsHullEdge}
use Rattle.lmt_network.specs.Prices.{Priced, bound}
use Rattle.price_ascent.proofs.Kept.{get_or-mapped}
use Rattle.flip_claims.specs.Descent.{IsDescendant}
use Rattle.flip_claims.proofs.Descending.{one_descendant}
use Rattle.hull_sweep.specs.First.{IsFirst}
use Rattle.hull_sweep.proofs.OneFirst.{one_first}
use Rattle.skeleton_faces.specs.Faces.{AreFaces}
use Rattle.skeleton_faces.proofs.OneFaceList.{one_face_list}
use Rattle.face_optimum.specs.Decomposition.{Decomposes, bounded_faces}
use Rattle.face_optimum.specs.FaceRule.{FollowsFaceRule}
use Rattle.face_optimum.specs.Sites.{most_places}
use Rattle.face_optimum.proofs.OneOptimum.{one_optimum}
use Rattle.cert_text.specs.declared.report.LineKind.{LineKind}
use Rattle.cert_text.specs.declared.report.LineKind.TheVariants.{Hull, Inner, Skeleton}
use Rattle.cert_text.specs.declared.report.Method.{Method}
use Rattle.cert_text.specs.declared.report.Method.TheVariants.{Faces, Flips}
use Rattle.cert_text.specs.declared.report.PriceLine.{PriceLine}
use Rattle.cert_text.specs.declared.report.Report.{Report}
use Rattle.dual_checker.specs.GoodReport.{IsGoodReport, IsMarked, live_edges_of, price_of, prices_of}
use Rattle.tsplib_points.specs.declared.file.File.{File}
use Rattle.mwt_tool.specs.declared.solver.Settings.{Settings}
use Rattle.mwt_tool.specs.OneFile.{AreAlike, OneFileAlike, ShareEdges, ShareTriangulation}
use Rattle.mwt_tool.specs.ReportOf.{HasAscentPrices, HasFaceOptimum, IsReportOf, IsShortenedSweep}
use Rattle.mwt_tool.proofs.OneAscent.{ascent_prices, candidates, hull, live, point_set, skeleton}
use Rattle.mwt_tool.proofs.SameKinds.{same_kind, same_method}

same_line : (l m : PriceLine) → price_of l ≡ price_of m → l.kind ≡ m.kind → l ≡ m
same_line l m price kind =
    ap (λ (p : Priced). record { edge = p.edge; kind = l.kind; value = p.value; left = p.left; right = p.right }) price
    ∙ ap (λ (k : LineKind). record { edge = m.edge; kind = k; value = m.value; left = m.left; right = m.right }) kind

through : {A B C : Type 0} → (A ↔ B) → (C ↔ B) → (A ↔ C)
through f g = (λ a. g.1 (f.0 a), λ c. f.1 (g.0 c))

module _ {r q : Report} (version : r.version ≡ 2) (other_version : q.version ≡ 2) (points : r.points ≡ q.points) (diamond : r.diamond ≡ q.diamond)
    (g : IsGoodReport r) (k : IsGoodReport q) where
  hull_is : r.hull ≡ q.hull
  hull_is = hull points diamond g k

  live_is : live_edges_of r ≡ live_edges_of q
  live_is = live points diamond g k

  skeleton_is : r.skeleton ≡ q.skeleton
  skeleton_is = skeleton points diamond g k

  -- what is said of the points, the hull, the live edges and the skeleton of q holds of those of r
  as_of : (P : List Point → List ℕ → List Edge → List Edge → Type 0) → P q.points q.hull (live_edges_of q) q.skeleton
      → P r.points r.hull (live_edges_of r) r.skeleton
  as_of P h =
      subst (λ (ps : List Point). P ps r.hull (live_edges_of r) r.skeleton) (sym points)
      (subst (λ (x : List ℕ). P q.points x (live_edges_of r) r.skeleton) (sym hull_is)
      (subst (λ (es : List Edge). P q.points q.hull es r.skeleton) (sym live_is)
      (subst (λ (es : List Edge). P q.points q.hull (live_edges_of q) es) (sym skeleton_is) h)))

  -- with the same prices they have the same lines
  same_lines : prices_of r ≡ prices_of q → r.live ≡ q.live
  same_lines prices =
      let size : length r.live ≡ length q.live = sym (length-map r.live price_of) ∙ (ap (λ (ps : List Priced). length ps) prices ∙ length-map q.live price_of) in
      let none : PriceLine = record { edge = record { a = 0; b = 1; ascending = lit< tt }; kind = Inner; value = pos 0; left = pos 0; right = pos 0 } in
      ext_get_or none r.live q.live size
      (λ i i_in.
      let l = get_or r.live i none in
      let m = get_or q.live i none in
      let price : price_of l ≡ price_of m =
      sym (get_or-mapped price_of r.live i none) ∙ (ap (λ (ps : List Priced). get_or ps i (price_of none)) prices ∙ get_or-mapped price_of q.live i none) in
      let edge : l.edge ≡ m.edge = ap (λ (p : Priced). p.edge) price in
      let a : IsMarked r l = g.marks i none i_in in
      let b : IsMarked q m = k.marks i none (subst (λ (n : ℕ). i < n) size i_in) in
      let on : (m.kind ≡ Hull) ↔ IsHullEdge r.hull l.edge =
      subst (λ (x : List ℕ). (m.kind ≡ Hull) ↔ IsHullEdge x l.edge) (sym hull_is) (subst (λ (e : Edge). (m.kind ≡ Hull) ↔ IsHullEdge q.hull e) (sym edge) b.hull) in
      let inner : (m.kind ≡ Skeleton) ↔ (Contains r.skeleton l.edge × (¬ IsHullEdge r.hull l.edge)) =
      as_of (λ _ (x : List ℕ) _ (es : List Edge). (m.kind ≡ Skeleton) ↔ (Contains es l.edge × (¬ IsHullEdge x l.edge)))
      (subst (λ (e : Edge). (m.kind ≡ Skeleton) ↔ (Contains q.skeleton e × (¬ IsHullEdge q.hull e))) (sym edge) (b.skeleton other_version)) in
      same_line l m price (same_kind l.kind m.kind (through a.hull on) (through (a.skeleton version) inner)))

  -- with the same prices they have the same bound
  same_bound : prices_of r ≡ prices_of q → r.bound ≡ q.bound
  same_bound prices = g.bound.sum ∙ (ap (λ (x : List ℕ). bound x (prices_of r)) hull_is ∙ (ap (λ (ps : List Priced). bound q.hull ps) prices ∙ sym k.bound.sum))

  pub share_edges : r.method ≡ q.method → ShareEdges r q
  share_edges method = record {
    points = points;
    hull = hull_is;
    candidates = candidates points diamond g k;
    live = live_is;
    skeleton = skeleton_is;
    method = method;
  }

  -- with the same triangles they have the same length
  share_triangulation : r.tris ≡ q.tris → ShareTriangulation r q
  share_triangulation tris = record {
    tris = tris;
    lo = g.length.lower
        ∙ (ap (λ (ps : List Point). lo ps (edges r.hull r.tris)) points
        ∙ (ap (λ (x : List ℕ). lo q.points (edges x r.tris)) hull_is ∙ (ap (λ (ts : List Tri). lo q.points (edges q.hull ts)) tris ∙ sym k.length.lower)));
    hi = g.length.upper
        ∙ (ap (λ (ps : List Point). hi ps (edges r.hull r.tris)) points
        ∙ (ap (λ (x : List ℕ). hi q.points (edges x r.tris)) hull_is ∙ (ap (λ (ts : List Tri). hi q.points (edges q.hull ts)) tris ∙ sym k.length.upper)));
  }

  -- with the same triangles and prices they are one
  one_report : r.unit ≡ q.unit → r.merged ≡ q.merged → r.method ≡ q.method → ShareTriangulation r q → prices_of r ≡ prices_of q → r ≡ q
  one_report unit merged method shared prices =
      let tris = shared.tris in
      let low = shared.lo in
      let high = shared.hi in
      let sum = same_bound prices in
      let gap : r.gap ≡ q.gap = g.gap ∙ (ap (λ (h : ℕ). pos h -ℤ r.bound) high ∙ (ap (λ (b : ℤ). pos q.hi -ℤ b) sum ∙ sym k.gap)) in
      ap (λ (x : ℕ). record r { version = x }) (version ∙ sym other_version)
      ∙ (ap (λ (x : Diamond). record r { version = q.version; diamond = x }) diamond
      ∙ (ap (λ (x : ℕ). record r { version = q.version; diamond = q.diamond; unit = x }) unit
      ∙ (ap (λ (x : ℕ). record r { version = q.version; diamond = q.diamond; unit = q.unit; merged = x }) merged
      ∙ (ap (λ (x : List Point). record r { version = q.version; diamond = q.diamond; unit = q.unit; merged = q.merged; points = x }) points
      ∙ (ap (λ (x : List ℕ). record r { version = q.version; diamond = q.diamond; unit = q.unit; merged = q.merged; points = q.points; hull = x }) hull_is
      ∙ (ap (λ (x : ℕ). record q { candidates = x; live = r.live; skeleton = r.skeleton; tris = r.tris; method = r.method; lo = r.lo; hi = r.hi; bound = r.bound; gap = r.gap }) (candidates points diamond g k)
      ∙ (ap (λ (x : List PriceLine). record q { live = x; skeleton = r.skeleton; tris = r.tris; method = r.method; lo = r.lo; hi = r.hi; bound = r.bound; gap = r.gap }) (same_lines prices)
      ∙ (ap (λ (x : List Edge). record q { skeleton = x; tris = r.tris; method = r.method; lo = r.lo; hi = r.hi; bound = r.bound; gap = r.gap }) skeleton_is
      ∙ (ap (λ (x : List Tri). record q { tris = x; method = r.method; lo = r.lo; hi = r.hi; bound = r.bound; gap = r.gap }) tris
      ∙ (ap (λ (x : Method). record q { method = x; lo = r.lo; hi = r.hi; bound = r.bound; gap = r.gap }) method
      ∙ (ap (λ (x : ℕ). record q { lo = x; hi = r.hi; bound = r.bound; gap = r.gap }) low
      ∙ (ap (λ (x : ℕ). record q { hi = x; bound = r.bound; gap = r.gap }) high
      ∙ (ap (λ (x : ℤ). record q { bound = x; gap = r.gap }) sum ∙ ap (λ (x : ℤ). record q { gap = x }) gap)))))))))))))

  module _ (cycles others : List (List ℕ)) (first : AreFaces r.points r.skeleton cycles) (second : AreFaces q.points q.skeleton others) where
    -- the faces of both are the same
    faces_are : cycles ≡ others
    faces_are = one_face_list r.points r.skeleton cycles others first (as_of (λ (ps : List Point) _ _ (es : List Edge). AreFaces ps es others) second)

    -- what is said of q and its faces holds of r and its own
    with_faces : (P : List Point → List ℕ → List Edge → List Edge → List (List ℕ) → Type 0) → P q.points q.hull (live_edges_of q) q.skeleton others
        → P r.points r.hull (live_edges_of r) r.skeleton cycles
    with_faces P h = subst (P r.points r.hull (live_edges_of r) r.skeleton) (sym faces_are) (as_of (λ ps x live es. P ps x live es others) h)

    method_is : (r.method ≡ Faces) ↔ Decomposes r.points r.hull (live_edges_of r) r.skeleton cycles most_places
        → (q.method ≡ Faces) ↔ Decomposes q.points q.hull (live_edges_of q) q.skeleton others most_places → r.method ≡ q.method
    method_is a b =
        let c = with_faces (λ ps x live es fs. (q.method ≡ Faces) ↔ Decomposes ps x live es fs most_places) b in
        same_method r.method q.method (λ is. c.1 (a.0 is)) (λ is. a.1 (c.0 is))

    optimum_is : Decomposes r.points r.hull (live_edges_of r) r.skeleton cycles most_places → HasFaceOptimum cycles r → HasFaceOptimum others q
        → (r.tris ≡ q.tris) × (prices_of r ≡ prices_of q)
    optimum_is decomposes a b =
        one_optimum r.points r.hull (live_edges_of r) r.skeleton cycles most_places r.tris q.tris (prices_of r) (prices_of q)
        g.hull g.live.closed.ascending g.skeleton first decomposes a.rule
        (with_faces (λ ps x live es fs. FollowsFaceRule ps x live es (bounded_faces x fs) q.tris (prices_of q)) b.rule)

  -- both descend from the first triangulation of the points
  descendant_is : IsShortenedSweep r → IsShortenedSweep q → r.tris ≡ q.tris
  descendant_is a b =
      let first : a.first ≡ b.first =
      one_first r.points r.hull q.hull a.first b.first a.first_is (subst (λ (ps : List Point). IsFirst ps q.hull b.first) (sym points) b.first_is) in
      let other : IsDescendant r.points r.hull a.first q.tris =
      subst (λ (ts : List Tri). IsDescendant r.points r.hull ts q.tris) (sym first)
      (as_of (λ (ps : List Point) (x : List ℕ) _ _. IsDescendant ps x b.first q.tris) b.descendant) in
      one_descendant r.points r.hull a.first r.tris q.tris (point_set r g) g.hull a.descendant other

-- reports of the same points with the same value of the diamond test, unit and number of merged nodes
pub are_alike : (file other : File) (s t : Settings) (r q : Report) → s.diamond ≡ t.diamond → file.points.points ≡ other.points.points → file.unit ≡ other.unit
    → file.merged ≡ other.merged → IsReportOf file s r → IsReportOf other t q → AreAlike s t r q
are_alike file other s t r q words points_same unit merged a b =
    let points = a.points ∙ (points_same ∙ sym b.points) in
    let diamond = a.diamond ∙ (words ∙ sym b.diamond) in
    let g = a.certified.good in
    let k = b.certified.good in
    let method = method_is a.version b.version points diamond g k a.decided.faces b.decided.faces a.decided.faces_are b.decided.faces_are
    a.decided.exactly b.decided.exactly in
    let optimum : r.method ≡ Faces → (r.tris ≡ q.tris) × (prices_of r ≡ prices_of q)
    = λ faces. optimum_is a.version b.version points diamond g k a.decided.faces b.decided.faces a.decided.faces_are b.decided.faces_are
    (a.decided.exactly.0 faces) (a.by_faces faces) (b.by_faces (sym method ∙ faces)) in
    let ascent : s.sweeps ≡ t.sweeps → r.method ≡ Flips → prices_of r ≡ prices_of q
    = λ sweeps flips. ascent_prices points diamond g k s.sweeps a.version b.version (a.by_flips flips).ascent
    (subst (λ (n : ℕ). HasAscentPrices n q) (sym sweeps) (b.by_flips (sym method ∙ flips)).ascent) in
    let descent : r.method ≡ Flips → r.tris ≡ q.tris
    = λ flips. descendant_is a.version b.version points diamond g k (a.by_flips flips).shortened (b.by_flips (sym method ∙ flips)).shortened in
    let shared = share_triangulation a.version b.version points diamond g k (by_method r.method refl (λ faces. (optimum faces).0) descent) in
    let one : prices_of r ≡ prices_of q → r ≡ q
    = one_report a.version b.version points diamond g k (a.unit ∙ (unit ∙ sym b.unit)) (a.merged ∙ (merged ∙ sym b.merged)) method shared in
    record {
      edges = share_edges a.version b.version points diamond g k method;
      triangulation = shared;
      same = λ sweeps. one (by_method r.method refl (λ faces. (optimum faces).1) (ascent sweeps));
      same_faces = λ faces. one (optimum faces).1;
    }
  where
    by_method : {A : Type 0} → (m : Method) → r.method ≡ m → (r.method ≡ Faces → A) → (r.method ≡ Flips → A) → A
    by_method Faces is faces flips = faces is
    by_method Flips is faces flips = flips is

pub one_file_alike : OneFileAlike
one_file_alike file s t r q diamond a b = are_alike file file s t r q diamond refl refl refl a b
