-- The live lines of a report, by the numbers of the edges of a network.
use Rattle.std.proofs.Common.{◌≡◌, ◌≢◌, ℕ, ◌+◌, ◌<◌, ◌≤◌, Bool, cond, nat_lt, List, [], ◌∷◌, length, get_or, set, map, All, Contains, IsTrue, ◌↔◌, pos, refl, sym, ap, ◌∙◌, arith, subst, inl, inr}
use Rattle.std.proofs.lemmas.Bool.{cases_eq, cases_lt, cond-true, cond-false, lt-ltb, le-ltb}
use Rattle.std.proofs.lemmas.List.{get_or-map, length-map, length-set, get_or-set_same, get_or-set_other, get_or_default}
use Rattle.std.proofs.lemmas.List.Elements.{All-set, Contains-get_or}
use Rattle.exact_predicates.specs.declared.edge.Edge.{Edge}
use Rattle.exact_predicates.specs.declared.point.Point.{Point}
use Rattle.exact_predicates.specs.declared.tri.Tri.{Tri}
use Rattle.exact_predicates.specs.Candidates.{IsEmptyOver}
use Rattle.lmt_network.specs.Flags.{live_numbers}
use Rattle.length_enclosure.specs.Enclosure.{weight}
use Rattle.lmt_network.specs.Live.{IsHullEdge}
use Rattle.lmt_network.specs.Network.{NetworkParts, IsNetwork, edge_at, tri_at}
use Rattle.lmt_network.specs.Numbers.{IsNumberOf, IsSideOf}
use Rattle.lmt_network.specs.PriceTables.{PriceTable, entry_at, table_prices}
use Rattle.lmt_network.specs.Prices.{Priced, priced_edges, share, IsLiveTriangle}
use Rattle.lmt_network.proofs.Picked.{flag_in, flag_from_live}
use Rattle.lmt_network.proofs.PriceTables.{by_number_law}
use Rattle.cert_text.specs.declared.report.PriceLine.{PriceLine}
use Rattle.cert_text.specs.declared.report.Report.{Report}
use Rattle.dual_checker.specs.declared.shares.Shares.{Shares}
use Rattle.dual_checker.specs.GoodReport.{price_of, prices_of}
use Rattle.dual_checker.specs.LiveLines.{HasNumbers, AreSmall, AreSharesOf, AreShares, line_shares, no_shares}
use Rattle.dual_checker.proofs.OwnPrices.{shares_own}

-- as many numbers as lines
pub length-numbers : (r : Report) (net : NetworkParts) (flags : List Bool) (numbers : List ℕ) → HasNumbers r net flags numbers → length numbers ≡ length r.live
length-numbers r net flags numbers h = sym (length-map numbers (edge_at net)) ∙ (ap length h.lines_are ∙ length-map r.live (λ l. l.edge))

-- the edge of a line has the number at its place
pub line_edge : (r : Report) (net : NetworkParts) (flags : List Bool) (numbers : List ℕ) (k : ℕ) (l : PriceLine) → HasNumbers r net flags numbers → k < length r.live
    → l ≡ get_or r.live k l → l.edge ≡ edge_at net (get_or numbers k 0)
line_edge r net flags numbers k l h inside at =
    let size = length-numbers r net flags numbers h in
    ap (λ (m : PriceLine). m.edge) at
    ∙ (sym (get_or-map (λ (m : PriceLine). m.edge) r.live k l l.edge inside)
    ∙ (ap (λ (es : List Edge). get_or es k l.edge) (sym h.lines_are)
    ∙ get_or-map (edge_at net) numbers k 0 l.edge (omega arith)))

-- the shares of the first k lines
pub record SharesUpto (r : Report) (net : NetworkParts) (numbers : List ℕ) (shares : List Shares) (k : ℕ) : Type 0 where
  pub one_each : length shares ≡ length net.edges
  pub small : All AreSmall shares
  pub each : (j : ℕ) → j < k → AreSharesOf r (edge_at net (get_or numbers j 0)) (get_or shares (get_or numbers j 0) no_shares)

pub SharesUpto-more : (r : Report) (net : NetworkParts) (numbers : List ℕ) (shares : List Shares) (k e : ℕ) (s : Shares) → SharesUpto r net numbers shares k
    → e ≡ get_or numbers k 0 → e < length net.edges → AreSmall s → AreSharesOf r (edge_at net e) s → SharesUpto r net numbers (set shares e s) (k + 1)
SharesUpto-more r net numbers shares k e s h at inside small is =
    let size = h.one_each in
    record {
      one_each = length-set shares e s ∙ h.one_each;
      small = All-set AreSmall shares e s small h.small;
      each = λ j l. elim (cases_eq (get_or numbers j 0) e) [
        | inl same ↦ subst (λ (f : ℕ). AreSharesOf r (edge_at net f) (get_or (set shares e s) f no_shares)) (sym same)
            (subst (λ (t : Shares). AreSharesOf r (edge_at net e) t) (sym (get_or-set_same shares e s no_shares (omega arith))) is)
        | inr apart ↦ elim (cases_lt j k) [
          | inl before ↦ subst (λ (t : Shares). AreSharesOf r (edge_at net (get_or numbers j 0)) t) (sym (get_or-set_other shares e (get_or numbers j 0) s no_shares apart)) (h.each j before)
          | inr last ↦ let here : j ≡ k = omega arith in absurd (apart (ap (λ (i : ℕ). get_or numbers i 0) here ∙ sym at))
        ]
      ];
    }

pub AreShares-all : (r : Report) (net : NetworkParts) (flags : List Bool) (numbers : List ℕ) (shares : List Shares) (k : ℕ) → HasNumbers r net flags numbers → length r.live ≤ k
    → SharesUpto r net numbers shares k → AreShares r net flags shares
AreShares-all r net flags numbers shares k h past upto = record {
  one_each = upto.one_each;
  small = upto.small;
  each = λ e has.
      let (j, j_in, at) : Contains numbers e = subst (λ (ns : List ℕ). Contains ns e) (sym h.numbers_are) has in
      let size = length-numbers r net flags numbers h in
      let is : get_or numbers j 0 ≡ e = get_or_default numbers j 0 e j_in ∙ at in
      subst (λ (f : ℕ). AreSharesOf r (edge_at net f) (get_or shares f no_shares)) is (upto.each j (omega arith));
}

pub map-map : {X Y Z : Type 0} (g : Y → Z) (f : X → Y) (xs : List X) → map g (map f xs) ≡ map (λ x. g (f x)) xs
map-map g f [] = refl
map-map g f (x ∷ xs) = ap (λ ys. g (f x) ∷ ys) (map-map g f xs)

-- the priced edges are the live edges of the network
pub no_table : PriceTable
no_table = record { values = []; lefts = []; rights = [] }

same_edges : (r : Report) (net : NetworkParts) (flags : List Bool) (numbers : List ℕ) → HasNumbers r net flags numbers
    → priced_edges (table_prices net no_table (live_numbers flags)) ≡ priced_edges (prices_of r)
same_edges r net flags numbers h =
    map-map (λ (p : Priced). p.edge) (entry_at net no_table) (live_numbers flags)
    ∙ (ap (map (edge_at net)) (sym h.numbers_are)
    ∙ (h.lines_are ∙ sym (map-map (λ (p : Priced). p.edge) price_of r.live)))

pub within_range : (net : NetworkParts) (flags : List Bool) → length flags ≡ length net.edges → All (λ e. e < length net.edges) (live_numbers flags)
within_range net flags size = λ k d inside.
    let has = Contains-get_or (live_numbers flags) k d inside in
    let low = flag_in flags (get_or (live_numbers flags) k d) (flag_from_live flags (get_or (live_numbers flags) k d) has) in
    omega arith

-- a triangle of the network is live where its sides are
pub live_by_sides : (r : Report) (net : NetworkParts) (flags : List Bool) (numbers : List ℕ) (t : ℕ) → IsNetwork net → HasNumbers r net flags numbers → t < length net.tris
    → IsLiveTriangle r.points (prices_of r) (tri_at net t) ↔ ((f : ℕ) → IsSideOf net t f → Contains (live_numbers flags) f)
live_by_sides r net flags numbers t is h inside =
    let law = by_number_law net no_table (live_numbers flags) is (within_range net flags h.one_each) in
    subst (λ (es : List Edge). IsEmptyOver r.points es (tri_at net t) ↔ ((f : ℕ) → IsSideOf net t f → Contains (live_numbers flags) f)) (same_edges r net flags numbers h)
    (subst (λ (ps : List Point). IsEmptyOver ps (priced_edges (table_prices net no_table (live_numbers flags))) (tri_at net t) ↔ ((f : ℕ) → IsSideOf net t f → Contains (live_numbers flags) f)) h.points_are
    (law.triangles t inside))

-- and each live triangle is one of the network
pub live_in_network : (r : Report) (net : NetworkParts) (flags : List Bool) (numbers : List ℕ) (t : Tri) → IsNetwork net → HasNumbers r net flags numbers
    → IsLiveTriangle r.points (prices_of r) t → (i : ℕ) × (i < length net.tris) × (tri_at net i ≡ t)
live_in_network r net flags numbers t is h live =
    let law = by_number_law net no_table (live_numbers flags) is (within_range net flags h.one_each) in
    let over = subst (λ (es : List Edge). IsEmptyOver r.points es t) (sym (same_edges r net flags numbers h)) live in
    let there = subst (λ (ps : List Point). IsEmptyOver ps (priced_edges (table_prices net no_table (live_numbers flags))) t) (sym h.points_are) over in
    let (i, i_in, at) = law.all t there in
    (i, i_in, get_or_default net.tris i _ t i_in ∙ at)

-- the slack of a triangle is the sum of what its sides give
pub side_up : (r : Report) (net : NetworkParts) (flags : List Bool) (shares : List Shares) (u v f : ℕ) → AreShares r net flags shares → IsNumberOf net u v f → Contains (live_numbers flags) f → u < v
    → (get_or shares f no_shares).up ≡ share r.points r.hull (prices_of r) u v
side_up r net flags shares u v f h is live up =
    let a : (edge_at net f).a ≡ u = let j = is.1.0 in omega arith in
    let b : (edge_at net f).b ≡ v = let j = is.1.1 in omega arith in
    (h.each f live).up ∙ rw (a, b) refl

pub side_down : (r : Report) (net : NetworkParts) (flags : List Bool) (shares : List Shares) (u v f : ℕ) → AreShares r net flags shares → IsNumberOf net u v f → Contains (live_numbers flags) f → v < u
    → (get_or shares f no_shares).down ≡ share r.points r.hull (prices_of r) u v
side_down r net flags shares u v f h is live down =
    let a : (edge_at net f).a ≡ v = let j = is.1.0 in omega arith in
    let b : (edge_at net f).b ≡ u = let j = is.1.1 in omega arith in
    (h.each f live).down ∙ rw (a, b) refl

pub side_between : (r : Report) (net : NetworkParts) (flags : List Bool) (shares : List Shares) (u v f : ℕ) → AreShares r net flags shares → IsNumberOf net u v f → Contains (live_numbers flags) f → u ≢ v
    → cond (nat_lt u v) (get_or shares f no_shares).up (get_or shares f no_shares).down ≡ share r.points r.hull (prices_of r) u v
side_between r net flags shares u v f h is live apart = elim (cases_lt u v) [
  | inl up ↦ cond-true (nat_lt u v) _ _ (lt-ltb u v up) ∙ side_up r net flags shares u v f h is live up
  | inr down ↦ cond-false (nat_lt u v) _ _ (le-ltb u v down) ∙ side_down r net flags shares u v f h is live (omega arith)
]

-- the number of a line is that of an edge
pub number_in : (r : Report) (net : NetworkParts) (flags : List Bool) (numbers : List ℕ) (k : ℕ) → HasNumbers r net flags numbers → k < length r.live → get_or numbers k 0 < length net.edges
number_in r net flags numbers k h inside =
    let size = length-numbers r net flags numbers h in
    let all : All (λ e. e < length net.edges) numbers = subst (λ (es : List ℕ). All (λ e. e < length net.edges) es) (sym h.numbers_are) (within_range net flags h.one_each) in
    all k 0 (omega arith)

-- the shares of the edge of a line, by its number
pub shares_at : (r : Report) (net : NetworkParts) (flags : List Bool) (numbers : List ℕ) (k w : ℕ) (on : Bool) (l : PriceLine) (s : Shares) → HasNumbers r net flags numbers → k < length r.live
    → l ≡ get_or r.live k l → w ≡ weight net.points ((edge_at net (get_or numbers k 0)).a, (edge_at net (get_or numbers k 0)).b)
    → (IsTrue on ↔ IsHullEdge net.hull (edge_at net (get_or numbers k 0))) → s ≡ line_shares (pos w) on l → AreSharesOf r (edge_at net (get_or numbers k 0)) s
shares_at r net flags numbers k w on l s h inside at weighs says is =
    let e : Edge = edge_at net (get_or numbers k 0) in
    let own : l.edge ≡ e = line_edge r net flags numbers k l h inside at in
    let at_points : w ≡ weight r.points (e.a, e.b) = weighs ∙ ap (λ (ps : List Point). weight ps (e.a, e.b)) h.points_are in
    let at_line : w ≡ weight r.points (l.edge.a, l.edge.b) = at_points ∙ ap (λ (x : Edge). weight r.points (x.a, x.b)) (sym own) in
    let on_ring : IsTrue on ↔ IsHullEdge r.hull e = subst (λ (hull : List ℕ). IsTrue on ↔ IsHullEdge hull e) h.hull_is says in
    let on_line : IsTrue on ↔ IsHullEdge r.hull l.edge = subst (λ (x : Edge). IsTrue on ↔ IsHullEdge r.hull x) (sym own) on_ring in
    let mine : AreSharesOf r l.edge (line_shares (pos w) on l) = shares_own r l w on h.within (k, inside, sym at) on_line at_line in
    subst (λ (x : Edge). AreSharesOf r x s) own (subst (λ (y : Shares). AreSharesOf r l.edge y) (sym is) mine)
