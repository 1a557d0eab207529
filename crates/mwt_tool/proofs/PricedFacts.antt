-- What a report says of priced live edges is right.
use Rattle.std.proofs.Common.{◌≡◌, ◌⊎◌, ℕ, ◌≤◌, Bool, List, [], ◌∷◌, length, map, filter, All, AllPairs, Contains, ℤ, pos, arith, refl, ap, sym, ◌∙◌, subst}
use Rattle.std.specs.Prelude.{◌↔◌, Decides}
use Rattle.std.proofs.lemmas.Bool.Decides.{Decides-not}
use Rattle.std.proofs.lemmas.List.{length-map}
use Rattle.std.proofs.lemmas.List.Elements.{All-contains}
use Rattle.std.proofs.lemmas.List.Kept.{AllPairs-filter}
use Rattle.exact_predicates.specs.declared.edge.Edge.{Edge}
use Rattle.exact_predicates.specs.declared.point.Point.{Point}
use Rattle.exact_predicates.specs.declared.tri.Tri.{Tri}
use Rattle.exact_predicates.specs.Candidates.{EdgePrecedes}
use Rattle.exact_predicates.proofs.Ascending.{ascending-only, EdgePrecedes-not}
use Rattle.lmt_network.specs.Flags.{live_edges, live_numbers}
use Rattle.lmt_network.specs.Live.{IsHullEdge}
use Rattle.lmt_network.specs.Network.{NetworkParts}
use Rattle.lmt_network.specs.Numbers.{HasSide}
use Rattle.lmt_network.specs.PriceTables.{entry_at}
use Rattle.lmt_network.specs.Prices.{Priced, IsFeasible, IsLiveTriangle, IsTight, bound, is_on_hull}
use Rattle.lmt_network.specs.Skeleton.{AreSkeleton, IsSkeletonEdge}
use Rattle.lmt_network.proofs.Entries.{is_on_hull_decides}
use Rattle.lmt_network.proofs.Filters.{filter-from, filter-to}
use Rattle.lmt_network.proofs.Picked.{AllPairs-picked, All-from_members, picked_from}
use Rattle.price_ascent.specs.declared.entry.PriceEntry.{PriceEntry}
use Rattle.price_ascent.specs.Entries.{anchored_edges, live_of, prices_of, table_of}
use Rattle.price_ascent.proofs.LiveSides.{edges-kept}
use Rattle.cert_text.specs.declared.report.LineKind.TheVariants.{Hull, Skeleton}
use Rattle.cert_text.specs.declared.report.PriceLine.{PriceLine}
use Rattle.cert_text.specs.Within.{IsEdgeRow, IsLiveRow, LivePrecedes}
use Rattle.dual_checker.specs.GoodReport.{is_off_hull, price_of}
use Rattle.mwt_tool.specs.PriceLines.{line_at}
use Rattle.mwt_tool.specs.Priced.{ArePriced}
use Rattle.mwt_tool.specs.declared.priced.Priced.{Priced as Part}
use Rattle.mwt_tool.proofs.LineFacts.{bare_lines, hull_marks, line_rows, skeleton_marks}
use Rattle.mwt_tool.proofs.Ranges.{edges_upto, pairs_of_parts}

map-map : {X Y Z : Type 0} (g : Y → Z) (f : X → Y) (xs : List X) → map g (map f xs) ≡ map (λ x. g (f x)) xs
map-map g f [] = refl
map-map g f (x ∷ xs) = ap (λ ys. g (f x) ∷ ys) (map-map g f xs)

-- what the lines say of the points ps with this hull
pub record SayRight (ps : List Point) (hull : List ℕ) (count : ℕ) (lines : List PriceLine) (skeleton anchored : List Edge) (sum : ℤ) : Type 0 where
  pub skeleton_is : AreSkeleton ps (map (λ l. l.edge) lines) skeleton
  pub hull_marks : All (λ l. (l.kind ≡ Hull) ↔ IsHullEdge hull l.edge) lines
  pub skeleton_marks : All (λ l. (l.kind ≡ Skeleton) ↔ (Contains skeleton l.edge × (¬ IsHullEdge hull l.edge))) lines
  pub bare : All (λ l. l.kind ≡ Hull
      → ((t : Tri) × (HasSide t l.edge.a l.edge.b ⊎ HasSide t l.edge.b l.edge.a) × IsLiveTriangle ps (map price_of lines) t) ⊎ (l.value ≡ pos 0)) lines
  pub feasible : IsFeasible ps hull (map price_of lines)
  pub tight : IsTight ps hull anchored (map price_of lines)
  pub sum_is : sum ≡ bound hull (map price_of lines)
  pub anchored_are : filter (is_off_hull hull) skeleton ≡ anchored
  pub rows : All (IsLiveRow 2 (length ps)) lines
  pub ascend : AllPairs LivePrecedes lines
  pub few : length lines ≤ count
  pub skeleton_rows : All (IsEdgeRow (length ps)) skeleton
  pub skeleton_few : length skeleton ≤ count

module _ {n : NetworkParts} {flags : List Bool} {entries : List PriceEntry} {part : Part} (a : ArePriced n flags entries part) where
  -- the edges of the lines are the live ones, and their prices those of the table
  pub line_edges : map (λ l. l.edge) part.live ≡ live_edges n flags
  line_edges =
      let es = entries in
      let nums = live_numbers (live_of es) in
      ap (map (λ (l : PriceLine). l.edge)) a.lines
      ∙ (map-map (λ (l : PriceLine). l.edge) (line_at n es) nums
      ∙ (sym (map-map (λ (p : Priced). p.edge) (entry_at n (table_of es)) nums)
      ∙ (edges-kept n es a.prices.kept.one_each ∙ ap (live_edges n) a.prices.live)))

  pub line_prices : map price_of part.live ≡ prices_of n entries
  line_prices = ap (map price_of) a.lines ∙ map-map price_of (line_at n entries) (live_numbers (live_of entries))

  -- a live edge is an edge of the network
  live_in : (e : Edge) → Contains (map (λ l. l.edge) part.live) e → Contains n.edges e
  live_in e has =
      let r = picked_from flags n.edges e (subst (λ es. Contains es e) line_edges has) in
      (r.0, r.1, r.3)

  skeleton_in : All (Contains n.edges) part.skeleton
  skeleton_in = All-from_members (Contains n.edges) part.skeleton
      (λ e has.
      let member = (All-contains (IsSkeletonEdge n.points (live_edges n flags)) part.skeleton e a.prices.skeleton_is.each has).member in
      let r = picked_from flags n.edges e member in
      (r.0, r.1, r.3))

  off_hull : (e : Edge) → Decides (is_off_hull n.hull e) (¬ IsHullEdge n.hull e)
  off_hull e = Decides-not (is_on_hull n.hull e.a e.b) (is_on_hull_decides n.hull e.a e.b)

  pub anchored_list : filter (is_off_hull n.hull) part.skeleton ≡ anchored_edges n entries
  anchored_list =
      ascending-only EdgePrecedes EdgePrecedes-not (filter (is_off_hull n.hull) part.skeleton) (anchored_edges n entries)
      (AllPairs-filter EdgePrecedes (is_off_hull n.hull) part.skeleton a.prices.skeleton_is.ascending)
      (AllPairs-picked EdgePrecedes (map (λ (p : PriceEntry). p.anchored) entries) n.edges a.prices.kept.network.ascending)
      (λ e has. let r = filter-from (is_off_hull n.hull) part.skeleton e has in (a.prices.anchored e).1 (r.0, (off_hull e).0 r.1))
      (λ e has. let r = (a.prices.anchored e).0 has in filter-to (is_off_hull n.hull) part.skeleton e r.0 ((off_hull e).1 r.1))

  pub says_right : SayRight n.points n.hull (length n.edges) part.live part.skeleton (anchored_edges n entries) part.bound
  says_right =
      let es = entries in
      let up : AllPairs EdgePrecedes (map (λ l. l.edge) part.live)
      = subst (AllPairs EdgePrecedes) (sym line_edges) (AllPairs-picked EdgePrecedes flags n.edges a.prices.kept.network.ascending) in
      let Bare : List Priced → List PriceLine → Type 0 = λ prices lines. All (λ (l : PriceLine). l.kind ≡ Hull
      → ((t : Tri) × (HasSide t l.edge.a l.edge.b ⊎ HasSide t l.edge.b l.edge.a) × IsLiveTriangle n.points prices t) ⊎ (l.value ≡ pos 0)) lines in
      record {
        skeleton_is = subst (λ (xs : List Edge). AreSkeleton n.points xs part.skeleton) (sym line_edges) a.prices.skeleton_is;
        hull_marks = subst (All (λ (l : PriceLine). (l.kind ≡ Hull) ↔ IsHullEdge n.hull l.edge)) (sym a.lines) (hull_marks n es a.prices.kept);
        skeleton_marks = subst (All (λ (l : PriceLine). (l.kind ≡ Skeleton) ↔ (Contains part.skeleton l.edge × (¬ IsHullEdge n.hull l.edge)))) (sym a.lines)
            (skeleton_marks n es part.skeleton a.prices.kept a.prices.anchored);
        bare = subst (λ (prices : List Priced). Bare prices part.live) (sym line_prices)
            (subst (Bare (prices_of n es)) (sym a.lines) (bare_lines n es a.prices.kept a.prices.tight));
        feasible = subst (IsFeasible n.points n.hull) (sym line_prices) a.prices.feasible;
        tight = subst (IsTight n.points n.hull (anchored_edges n es)) (sym line_prices) a.prices.tight;
        sum_is = a.bound_is ∙ ap (bound n.hull) (sym line_prices);
        anchored_are = anchored_list;
        rows = subst (All (IsLiveRow 2 (length n.points))) (sym a.lines) (line_rows n es a.prices.kept a.prices.within);
        ascend = pairs_of_parts EdgePrecedes (λ (l : PriceLine). l.edge) part.live up;
        few = let size = length-map part.live (λ (l : PriceLine). l.edge) in
            let few = edges_upto (map (λ l. l.edge) part.live) n.edges up (All-from_members (Contains n.edges) (map (λ l. l.edge) part.live) live_in) in
            omega (arith, size, few);
        skeleton_rows = All-from_members (IsEdgeRow (length n.points)) part.skeleton
            (λ e has. All-contains (IsEdgeRow (length n.points)) n.edges e a.prices.kept.network.ends_in (All-contains (Contains n.edges) part.skeleton e skeleton_in has));
        skeleton_few = edges_upto part.skeleton n.edges a.prices.skeleton_is.ascending skeleton_in;
      }
