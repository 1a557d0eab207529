-- The lists of a report, by the network and the live edges that are found for its points.
use Rattle.std.proofs.Common.{◌≡◌, ℕ, ◌+◌, ◌<◌, ◌≤◌, Bool, true, false, ◌&&◌, eqb, not, List, length, get_or, take, map, IsTrue, ◌↔◌, Decides, nat_eq, refl, sym, ap, subst, ◌∙◌, arith}
use Rattle.std.proofs.lemmas.Bool.{eqb-true, eq-eqb, false≢true}
use Rattle.std.proofs.lemmas.Bool.Decides.{Decides-eqb, Decides-and, Decides-like}
use Rattle.std.proofs.lemmas.List.{get_or-map, length-map, take_all, take_more_same}
use Rattle.exact_predicates.proofs.Equalities.{Edge-equal}
use Rattle.cert_text.specs.declared.report.PriceLine.{PriceLine}
use Rattle.exact_predicates.specs.declared.edge.Edge.{Edge}
use Rattle.exact_predicates.specs.declared.point.Point.{Point}
use Rattle.exact_predicates.proofs.Ascending.{AreCandidates-only}
use Rattle.lmt_network.specs.Flags.{live_numbers, live_edges}
use Rattle.lmt_network.specs.Live.{IsLive}
use Rattle.lmt_network.specs.Network.{NetworkParts, IsNetwork, edge_at}
use Rattle.lmt_network.specs.PriceTables.{entry_at}
use Rattle.lmt_network.specs.Prices.{Priced}
use Rattle.lmt_network.specs.Skeleton.{AreSkeleton}
use Rattle.lmt_network.proofs.NumberLaws.{IsLive-only}
use Rattle.lmt_network.proofs.PriceTables.{edges_law}
use Rattle.lmt_network.proofs.Skeletons.{one_law}
use Rattle.cert_text.specs.declared.report.Report.{Report}
use Rattle.cert_text.specs.Within.{IsWithin}
use Rattle.dual_checker.specs.Elimination.{IsElimination, IsNetworkOf}
use Rattle.dual_checker.specs.GoodReport.{HasCandidates, HasLive, HasSkeleton, live_edges_of}
use Rattle.dual_checker.specs.LiveLines.{AreEdgesOf, HasNumbers}
use Rattle.dual_checker.proofs.Ledgers.{map-map, no_table}

-- the number of candidate edges decides
pub candidates_decide : (r : Report) (net : NetworkParts) → IsNetworkOf r.points r.hull r.diamond net → IsTrue (nat_eq r.candidates (length net.edges)) ↔ HasCandidates r
candidates_decide r net is = (
  λ t. record { list = net.edges; are = is.candidates; count = eqb-true _ _ t },
  λ h. eq-eqb _ _ (h.count ∙ ap length (AreCandidates-only r.points r.hull r.diamond h.list net.edges h.are is.candidates)),
)

-- the edges with the numbers of the live edges are these
pub named_live : (net : NetworkParts) (flags : List Bool) → length flags ≡ length net.edges → map (edge_at net) (live_numbers flags) ≡ live_edges net flags
named_live net flags size = sym (map-map (λ (p : Priced). p.edge) (entry_at net no_table) (live_numbers flags)) ∙ edges_law net no_table flags size

pub live_from_edges : (r : Report) (net : NetworkParts) (flags : List Bool) → IsElimination r.points r.hull r.diamond net flags → AreEdgesOf net (live_numbers flags) r.live → HasLive r
live_from_edges r net flags is same = subst (λ (es : List Edge). IsLive r.points r.hull r.diamond es) (sym (named_live net flags is.one_each) ∙ same) is.live

pub edges_from_live : (r : Report) (net : NetworkParts) (flags : List Bool) → IsElimination r.points r.hull r.diamond net flags → HasLive r → AreEdgesOf net (live_numbers flags) r.live
edges_from_live r net flags is live =
    named_live net flags is.one_each ∙ IsLive-only r.points r.hull r.diamond (live_edges net flags) (live_edges_of r) is.live live

pub HasNumbers-live : (r : Report) (net : NetworkParts) (flags : List Bool) (numbers : List ℕ) → IsWithin r → IsNetwork net → IsElimination r.points r.hull r.diamond net flags → HasLive r
    → numbers ≡ live_numbers flags → HasNumbers r net flags numbers
HasNumbers-live r net flags numbers within valid is live same = record {
  within = within;
  network = valid;
  points_are = is.network.points_are;
  hull_is = is.network.hull_is;
  one_each = is.one_each;
  numbers_are = same;
  lines_are = subst (λ (ns : List ℕ). AreEdgesOf net ns r.live) (sym same) (edges_from_live r net flags is live);
}

-- whether the edges of these lines are those with these numbers of live edges
pub live_decides : (r : Report) (net : NetworkParts) (flags : List Bool) (numbers : List ℕ) (lines : List PriceLine) (b : Bool) → IsElimination r.points r.hull r.diamond net flags
    → numbers ≡ live_numbers flags → lines ≡ r.live → (IsTrue b ↔ AreEdgesOf net numbers lines) → IsTrue b ↔ HasLive r
live_decides r net flags numbers lines b is are same says =
    let own = subst (λ (ls : List PriceLine). IsTrue b ↔ AreEdgesOf net (live_numbers flags) ls) same (subst (λ (ns : List ℕ). IsTrue b ↔ AreEdgesOf net ns lines) are says) in
    (λ t. live_from_edges r net flags is (own.0 t), λ h. own.1 (edges_from_live r net flags is h))

-- there are as many
pub as_many_lines : (r : Report) (net : NetworkParts) (flags : List Bool) (numbers : List ℕ) (lines : List PriceLine) → IsElimination r.points r.hull r.diamond net flags
    → numbers ≡ live_numbers flags → lines ≡ r.live → HasLive r → length numbers ≡ length lines
as_many_lines r net flags numbers lines is are same live =
    ap length are ∙ (sym (length-map (live_numbers flags) (edge_at net)) ∙ (ap length (edges_from_live r net flags is live) ∙ (length-map r.live (λ l. l.edge) ∙ sym (ap length same))))

-- two edges are one where both ends are
pub Edge-decides : (e f : Edge) → Decides (eqb e.a f.a && eqb e.b f.b) (e ≡ f)
Edge-decides e f =
    Decides-like (eqb e.a f.a && eqb e.b f.b) (λ same. Edge-equal e f same.0 same.1) (λ same. (ap (λ (g : Edge). g.a) same, ap (λ (g : Edge). g.b) same))
    (Decides-and (eqb e.a f.a) (eqb e.b f.b) (Decides-eqb e.a f.a) (Decides-eqb e.b f.b))

-- the edge with a number and that of the line at its place, both in their lists
numbered : (net : NetworkParts) (numbers : List ℕ) (lines : List PriceLine) (k : ℕ) (l : PriceLine) (e : Edge) → length numbers ≡ length lines → k < length lines → l ≡ get_or lines k l
    → e ≡ edge_at net (get_or numbers k 0) → (e ≡ get_or (map (edge_at net) numbers) k e) × (l.edge ≡ get_or (map (λ (m : PriceLine). m.edge) lines) k e)
numbered net numbers lines k l e size inside at is = (
  is ∙ sym (get_or-map (edge_at net) numbers k 0 e (omega arith)),
  ap (λ (m : PriceLine). m.edge) at ∙ sym (get_or-map (λ (m : PriceLine). m.edge) lines k l e inside),
)

-- one more
pub edges_more : (net : NetworkParts) (numbers : List ℕ) (lines : List PriceLine) (k : ℕ) (l : PriceLine) (e : Edge) (differ : Bool) → length numbers ≡ length lines → k < length lines
    → l ≡ get_or lines k l → e ≡ edge_at net (get_or numbers k 0) → differ ≡ not (eqb e.a l.edge.a && eqb e.b l.edge.b) → differ ≡ false
    → take k (map (edge_at net) numbers) ≡ take k (map (λ (m : PriceLine). m.edge) lines) → take (k + 1) (map (edge_at net) numbers) ≡ take (k + 1) (map (λ (m : PriceLine). m.edge) lines)
edges_more net numbers lines k l e differ size inside at is says none before =
    let (first, second) = numbered net numbers lines k l e size inside at is in
    let same : e ≡ l.edge = (Edge-decides e l.edge).0 (not_from_true _ (sym says ∙ none)) in
    take_more_same (map (edge_at net) numbers) (map (λ (m : PriceLine). m.edge) lines) k e (omega (arith, length-map numbers (edge_at net))) (omega (arith, length-map lines (λ (m : PriceLine). m.edge)))
    before (sym first ∙ (same ∙ second))
  where
    not_from_true : (b : Bool) → not b ≡ false → b ≡ true
    not_from_true true h = refl
    not_from_true false h = absurd (false≢true (sym h))

-- one that differs
pub edges_differ : (net : NetworkParts) (numbers : List ℕ) (lines : List PriceLine) (k : ℕ) (l : PriceLine) (e : Edge) (differ : Bool) → length numbers ≡ length lines → k < length lines
    → l ≡ get_or lines k l → e ≡ edge_at net (get_or numbers k 0) → differ ≡ not (eqb e.a l.edge.a && eqb e.b l.edge.b) → differ ≡ true → IsTrue false ↔ AreEdgesOf net numbers lines
edges_differ net numbers lines k l e differ size inside at is says other = (
  λ f. absurd (false≢true f),
  λ all.
      let (first, second) = numbered net numbers lines k l e size inside at is in
      let same : e ≡ l.edge = first ∙ (ap (λ (es : List Edge). get_or es k e) all ∙ sym second) in
      absurd (false≢true (sym (ap not ((Edge-decides e l.edge).1 same)) ∙ (sym says ∙ other))),
)

-- at all places
pub edges_all : (net : NetworkParts) (numbers : List ℕ) (lines : List PriceLine) (k : ℕ) → length numbers ≡ length lines → length lines ≤ k
    → take k (map (edge_at net) numbers) ≡ take k (map (λ (m : PriceLine). m.edge) lines) → IsTrue true ↔ AreEdgesOf net numbers lines
edges_all net numbers lines k size past upto = (
  λ t. sym (take_all k (map (edge_at net) numbers) (omega (arith, length-map numbers (edge_at net))))
      ∙ (upto ∙ take_all k (map (λ (m : PriceLine). m.edge) lines) (omega (arith, length-map lines (λ (m : PriceLine). m.edge)))),
  λ all. refl,
)

-- the skeleton of the live edges of a network is that of the live lines
pub skeleton_decides : (r : Report) (net : NetworkParts) (flags : List Bool) (ps : List Point) (skeleton xs ys : List Edge) (b : Bool) → IsElimination r.points r.hull r.diamond net flags → HasLive r
    → ps ≡ r.points → AreSkeleton ps (live_edges net flags) skeleton → xs ≡ skeleton → ys ≡ r.skeleton → Decides b (xs ≡ ys) → IsTrue b ↔ HasSkeleton r
skeleton_decides r net flags ps skeleton xs ys b is live points own first second says =
    let edges = IsLive-only r.points r.hull r.diamond (live_edges net flags) (live_edges_of r) is.live live in
    let mine : AreSkeleton r.points (live_edges_of r) skeleton =
    subst (λ (es : List Edge). AreSkeleton r.points es skeleton) edges (subst (λ (qs : List Point). AreSkeleton qs (live_edges net flags) skeleton) points own) in (
      λ t. subst (λ (es : List Edge). AreSkeleton r.points (live_edges_of r) es) (sym first ∙ (says.0 t ∙ second)) mine,
      λ h. says.1 (first ∙ (one_law r.points (live_edges_of r) skeleton r.skeleton mine h ∙ sym second)),
    )
