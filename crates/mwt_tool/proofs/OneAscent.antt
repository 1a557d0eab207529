-- Two good reports of the same points, with the same value of the diamond test: their edges, and the prices of an ascent.
use Rattle.std.proofs.Common.{◌≡◌, ℕ, ◌<◌, ◌==◌, Bool, true, false, cond, List, [], length, filter, get_or, AllPairs, Contains, refl, ap, sym, ◌∙◌, subst, arith}
use Rattle.std.proofs.lemmas.Bool.Decides.{Decides-not}
use Rattle.std.proofs.lemmas.List.{ext_get_or}
use Rattle.std.proofs.lemmas.List.Elements.{All-weaker}
use Rattle.exact_predicates.specs.declared.diamond.Diamond.{Diamond}
use Rattle.exact_predicates.specs.declared.edge.Edge.{Edge}
use Rattle.exact_predicates.specs.declared.point.Point.{Point}
use Rattle.exact_predicates.specs.declared.tri.Tri.{Tri}
use Rattle.exact_predicates.specs.Candidates.{AreCandidates, AreTrianglesOver, EdgePrecedes, IsCandidate}
use Rattle.exact_predicates.specs.Hull.{IsHull}
use Rattle.exact_predicates.specs.Plane.{IsInRange}
use Rattle.exact_predicates.specs.PointSet.{IsPointSet}
use Rattle.exact_predicates.proofs.Ascending.{AreCandidates-only, AreTrianglesOver-only}
use Rattle.exact_predicates.proofs.OneHull.{IsHull-only}
use Rattle.lmt_network.specs.Flags.{live_edges, live_numbers}
use Rattle.lmt_network.specs.Live.{IsHullEdge, IsLive}
use Rattle.lmt_network.specs.Network.{NetworkParts, IsNetwork, edge_at}
use Rattle.lmt_network.specs.PriceTables.{table_prices}
use Rattle.lmt_network.specs.Prices.{is_on_hull}
use Rattle.lmt_network.specs.Skeleton.{AreSkeleton}
use Rattle.lmt_network.proofs.Entries.{is_on_hull_decides}
use Rattle.lmt_network.proofs.Filters.{filter-from}
use Rattle.lmt_network.proofs.Naming.{edge_at-once, read_member}
use Rattle.lmt_network.proofs.NumberLaws.{IsLive-only}
use Rattle.lmt_network.proofs.Picked.{flag_in, picked_in, picked_from}
use Rattle.lmt_network.proofs.Skeletons.{one_law}
use Rattle.price_ascent.specs.Ascent.{IsAscent}
use Rattle.price_ascent.proofs.OneAscent.{one_ascent}
use Rattle.cert_text.specs.declared.report.Report.{Report}
use Rattle.cert_text.specs.Within.{IsPointRow}
use Rattle.dual_checker.specs.Elimination.{IsElimination}
use Rattle.dual_checker.specs.GoodReport.{IsGoodReport, anchored_of, is_off_hull, live_edges_of, prices_of}
use Rattle.mwt_tool.specs.ReportOf.{HasAscentPrices}

-- the points of a good report are those of a problem
pub point_set : (r : Report) → IsGoodReport r → IsPointSet r.points
point_set r g =
    let most = g.within.points_count.most in
    record {
      enough = g.within.points_count.least;
      not_more = omega (arith, most);
      in_range = All-weaker IsPointRow IsInRange (λ p row. row.place) r.points g.within.points;
      distinct_ids = g.points.distinct_ids;
      ascending = g.within.points_ascend;
      not_flat = g.points.not_flat;
    }

-- networks with the same parts
abbrev parts : List Point → List ℕ → List Edge → List Tri → NetworkParts
parts ps hull es ts = record { points = ps; hull = hull; edges = es; tris = ts }

parts_same : (n m : NetworkParts) → n.points ≡ m.points → n.hull ≡ m.hull → n.edges ≡ m.edges → n.tris ≡ m.tris → n ≡ m
parts_same n m p h e t =
    ap (λ (x : List Point). parts x n.hull n.edges n.tris) p
    ∙ (ap (λ (x : List ℕ). parts m.points x n.edges n.tris) h
    ∙ (ap (λ (x : List Edge). parts m.points m.hull x n.tris) e
    ∙ ap (λ (x : List Tri). parts m.points m.hull m.edges x) t))

-- two truth values, each of which is true where the other is
same_truth : (a b : Bool) → (a ≡ true → b ≡ true) → (b ≡ true → a ≡ true) → a ≡ b
same_truth true b to back = sym (to refl)
same_truth false true to back = back refl
same_truth false false to back = refl

-- flags that pick the same edges are the same
goes : (n : NetworkParts) (flags others : List Bool) (e : ℕ) → AllPairs EdgePrecedes n.edges → length flags ≡ length n.edges
    → live_edges n flags ≡ live_edges n others → get_or flags e false ≡ true → get_or others e false ≡ true
goes n flags others e up one same h =
    let e_in : e < length n.edges = let l = flag_in flags e h in omega (arith, l, one) in
    let r = picked_from others n.edges (edge_at n e) (subst (λ (es : List Edge). Contains es (edge_at n e)) same (picked_in flags n.edges e _ e_in h)) in
    let at : edge_at n r.0 ≡ edge_at n e = read_member n.edges (edge_at n e) _ (r.0, r.1, r.3) in
    let k_is : r.0 ≡ e = edge_at-once n r.0 e up r.1 e_in at in
    subst (λ (k : ℕ). get_or others k false ≡ true) k_is r.2

flags_same : (n : NetworkParts) (flags others : List Bool) → AllPairs EdgePrecedes n.edges → length flags ≡ length n.edges → length others ≡ length n.edges
    → live_edges n flags ≡ live_edges n others → flags ≡ others
flags_same n flags others up one other same = ext_get_or false flags others (one ∙ sym other)
    (λ e e_in. same_truth (get_or flags e false) (get_or others e false) (goes n flags others e up one same) (goes n others flags e up other (sym same)))

-- an elimination has a network
is_network : (n : NetworkParts) (diamond : Diamond) (flags : List Bool) → IsPointSet n.points → IsHull n.points n.hull
    → IsElimination n.points n.hull diamond n flags → IsNetwork n
is_network n diamond flags set hull e = record {
  points_are = set;
  hull_is = hull;
  ascending = e.network.candidates.ascending;
  ends_in = All-weaker (IsCandidate n.points n.hull diamond) (λ f. f.b < length n.points) (λ f c. c.b_in) n.edges e.network.candidates.each;
  clear = λ k d k_in. (e.network.candidates.each k d k_in).clear;
  hull_edges = λ f on. let r = picked_from flags n.edges f (e.live.hull_edges f on) in (r.0, r.1, r.3);
  tris_are = e.network.triangles;
  few_edges = e.network.few_edges;
  few_tris = e.network.few_triangles;
}

own_elimination : (ps : List Point) (hull : List ℕ) (diamond : Diamond) (n : NetworkParts) (flags : List Bool)
    → IsElimination ps hull diamond n flags → IsElimination n.points n.hull diamond n flags
own_elimination ps hull diamond n flags e =
    subst (λ (xs : List Point). IsElimination xs n.hull diamond n flags) (sym e.network.points_are)
    (subst (λ (x : List ℕ). IsElimination ps x diamond n flags) (sym e.network.hull_is) e)

network_of : (ps : List Point) (hull : List ℕ) (diamond : Diamond) (n : NetworkParts) (flags : List Bool) → IsPointSet ps → IsHull ps hull
    → IsElimination ps hull diamond n flags → IsNetwork n
network_of ps hull diamond n flags set h e =
    is_network n diamond flags
    (subst IsPointSet (sym e.network.points_are) set)
    (subst (λ (xs : List Point). IsHull xs n.hull) (sym e.network.points_are) (subst (λ (x : List ℕ). IsHull ps x) (sym e.network.hull_is) h))
    (own_elimination ps hull diamond n flags e)

module _ {r q : Report} (points : r.points ≡ q.points) (diamond : r.diamond ≡ q.diamond) (g : IsGoodReport r) (k : IsGoodReport q) where
  set : IsPointSet r.points
  set = point_set r g

  pub hull : r.hull ≡ q.hull
  hull = IsHull-only r.points r.hull q.hull set g.hull (subst (λ (ps : List Point). IsHull ps q.hull) (sym points) k.hull)

  -- what is said of the points, the hull and the diamond word of q holds of those of r
  as_of : (P : List Point → List ℕ → Diamond → Type 0) → P q.points q.hull q.diamond → P r.points r.hull r.diamond
  as_of P h =
      subst (λ (ps : List Point). P ps r.hull r.diamond) (sym points)
      (subst (λ (x : List ℕ). P q.points x r.diamond) (sym hull) (subst (λ (d : Diamond). P q.points q.hull d) (sym diamond) h))

  listed : g.candidates.list ≡ k.candidates.list
  listed = AreCandidates-only r.points r.hull r.diamond g.candidates.list k.candidates.list g.candidates.are
      (as_of (λ (ps : List Point) (x : List ℕ) (d : Diamond). AreCandidates ps x d k.candidates.list) k.candidates.are)

  pub live : live_edges_of r ≡ live_edges_of q
  live = IsLive-only r.points r.hull r.diamond (live_edges_of r) (live_edges_of q) g.live
      (as_of (λ (ps : List Point) (x : List ℕ) (d : Diamond). IsLive ps x d (live_edges_of q)) k.live)

  pub skeleton : r.skeleton ≡ q.skeleton
  skeleton = one_law r.points (live_edges_of r) r.skeleton q.skeleton g.skeleton
      (subst (λ (es : List Edge). AreSkeleton r.points es q.skeleton) (sym live)
      (subst (λ (ps : List Point). AreSkeleton ps (live_edges_of q) q.skeleton) (sym points) k.skeleton))

  pub candidates : r.candidates ≡ q.candidates
  candidates = g.candidates.count ∙ (ap (λ (es : List Edge). length es) listed ∙ sym k.candidates.count)

  anchored : r.version ≡ 2 → q.version ≡ 2 → anchored_of r ≡ anchored_of q
  anchored two other_two =
      ap (λ (v : ℕ). cond (v == 1) [] (filter (is_off_hull r.hull) r.skeleton)) two
      ∙ (ap (λ (x : List ℕ). filter (is_off_hull x) r.skeleton) hull
      ∙ (ap (λ (es : List Edge). filter (is_off_hull q.hull) es) skeleton
      ∙ sym (ap (λ (v : ℕ). cond (v == 1) [] (filter (is_off_hull q.hull) q.skeleton)) other_two)))

  -- no anchored edge is one of the hull
  off : r.version ≡ 2 → (e : Edge) → Contains (anchored_of r) e → ¬ IsHullEdge r.hull e
  off two e has =
      let kept : Contains (filter (is_off_hull r.hull) r.skeleton) e
      = subst (λ (es : List Edge). Contains es e) (ap (λ (v : ℕ). cond (v == 1) [] (filter (is_off_hull r.hull) r.skeleton)) two) has in
      (Decides-not (is_on_hull r.hull e.a e.b) (is_on_hull_decides r.hull e.a e.b)).0 (filter-from (is_off_hull r.hull) r.skeleton e kept).1

  pub ascent_prices : (sweeps : ℕ) → r.version ≡ 2 → q.version ≡ 2 → HasAscentPrices sweeps r → HasAscentPrices sweeps q → prices_of r ≡ prices_of q
  ascent_prices sweeps two other_two a b =
      let e : IsElimination r.points r.hull r.diamond a.net a.flags = a.elimination in
      let f : IsElimination r.points r.hull r.diamond b.net b.flags
      = as_of (λ (ps : List Point) (x : List ℕ) (d : Diamond). IsElimination ps x d b.net b.flags) b.elimination in
      let edges : a.net.edges ≡ b.net.edges
      = AreCandidates-only r.points r.hull r.diamond a.net.edges b.net.edges e.network.candidates f.network.candidates in
      let tris : a.net.tris ≡ b.net.tris
      = AreTrianglesOver-only r.points a.net.edges a.net.tris b.net.tris e.network.triangles
      (subst (λ (es : List Edge). AreTrianglesOver r.points es b.net.tris) (sym edges) f.network.triangles) in
      let net : a.net ≡ b.net
      = parts_same a.net b.net (e.network.points_are ∙ sym f.network.points_are) (e.network.hull_is ∙ sym f.network.hull_is) edges tris in
      let over : IsElimination r.points r.hull r.diamond a.net b.flags
      = subst (λ (n : NetworkParts). IsElimination r.points r.hull r.diamond n b.flags) (sym net) f in
      let flags : a.flags ≡ b.flags
      = flags_same a.net a.flags b.flags e.network.candidates.ascending e.one_each over.one_each
      (IsLive-only r.points r.hull r.diamond (live_edges a.net a.flags) (live_edges a.net b.flags) e.live over.live) in
      let ascent : IsAscent a.net a.flags (anchored_of r) sweeps b.table
      = subst (λ (es : List Edge). IsAscent a.net a.flags es sweeps b.table) (sym (anchored two other_two))
      (subst (λ (bs : List Bool). IsAscent a.net bs (anchored_of q) sweeps b.table) (sym flags)
      (subst (λ (n : NetworkParts). IsAscent n b.flags (anchored_of q) sweeps b.table) (sym net) b.ascent)) in
      let apart : (x : Edge) → Contains (anchored_of r) x → ¬ IsHullEdge a.net.hull x
      = λ x has on. off two x has (subst (λ (ring : List ℕ). IsHullEdge ring x) e.network.hull_is on) in
      a.prices
      ∙ (one_ascent a.net a.flags (anchored_of r) sweeps a.table b.table (network_of r.points r.hull r.diamond a.net a.flags set g.hull e) e.one_each apart a.ascent ascent
      ∙ (ap (λ (n : NetworkParts). table_prices n b.table (live_numbers a.flags)) net
      ∙ (ap (λ (bs : List Bool). table_prices b.net b.table (live_numbers bs)) flags ∙ sym b.prices)))
