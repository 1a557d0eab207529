-- What the live lines of a report say of an edge.
use Rattle.std.proofs.Common.{◌≡◌, ℕ, ◌<◌, max, Bool, true, false, List, [], ◌∷◌, length, map, AllPairs, Contains, Decides, pos, refl, sym, ap, ◌∙◌, arith}
use Rattle.std.proofs.lemmas.Bool.Decides.{same_from_decides}
use Rattle.std.proofs.lemmas.List.{get_or-map, length-map}
use Rattle.exact_predicates.specs.declared.edge.Edge.{Edge}
use Rattle.exact_predicates.specs.Candidates.{EdgePrecedes, Joins}
use Rattle.length_enclosure.specs.Enclosure.{weight}
use Rattle.lmt_network.specs.Live.{IsHullEdge}
use Rattle.lmt_network.specs.Prices.{Priced, priced, priced_edges, find_priced, is_on_hull, weight_between}
use Rattle.lmt_network.proofs.Entries.{contains_map, find_priced-own, is_on_hull_decides, is_on_hull-comm}
use Rattle.lmt_network.proofs.Slacks.{share-on, share-up, share-down}
use Rattle.cert_text.specs.declared.report.PriceLine.{PriceLine}
use Rattle.cert_text.specs.declared.report.Report.{Report}
use Rattle.cert_text.specs.Within.{IsWithin}
use Rattle.dual_checker.specs.GoodReport.{price_of, prices_of}
use Rattle.dual_checker.specs.LiveLines.{line_shares, AreSharesOf}

-- an order of what a list maps to
AllPairs-map : {X Y : Type 0} (R : Y → Y → Type 0) (f : X → Y) (xs : List X) → AllPairs (λ x y. R (f x) (f y)) xs → AllPairs R (map f xs)
AllPairs-map R f [] up = λ i j d l m. absurd (omega arith)
AllPairs-map {X = X} R f (x ∷ xs) up = λ i j d l m.
    let size = length-map (x ∷ xs) f in
    let j_in : j < length (x ∷ xs) = omega arith in
    let i_in : i < length (x ∷ xs) = omega arith in
    rw (get_or-map f (x ∷ xs) i x d i_in, get_or-map f (x ∷ xs) j x d j_in) (up i j x l j_in)

-- the priced edges ascend
pub prices_ascend : (r : Report) → IsWithin r → AllPairs EdgePrecedes (priced_edges (prices_of r))
prices_ascend r is =
    AllPairs-map EdgePrecedes (λ (p : Priced). p.edge) (prices_of r)
    (AllPairs-map (λ (p q : Priced). EdgePrecedes p.edge q.edge) price_of r.live is.live_ascend)

-- an edge joins its own ends, in either order
pub joins_up : (e : Edge) → Joins e e.a e.b
joins_up e = let up = e.ascending in (omega arith, omega arith)

pub joins_down : (e : Edge) → Joins e e.b e.a
joins_down e = let up = e.ascending in (omega arith, omega arith)

-- the price of an edge is that of its line
pub priced_own : (r : Report) (l : PriceLine) (u v : ℕ) → IsWithin r → Contains r.live l → Joins l.edge u v → priced (prices_of r) u v ≡ price_of l
priced_own r l u v is has joins =
    ap (λ (x : ℕ). find_priced (prices_of r) x (max u v)) (sym joins.0)
    ∙ (ap (λ (y : ℕ). find_priced (prices_of r) l.edge.a y) (sym joins.1)
    ∙ find_priced-own (prices_of r) (price_of l) (prices_ascend r is) (contains_map price_of r.live l has))

-- the shares of an edge are those by its line
pub shares_own : (r : Report) (l : PriceLine) (w : ℕ) (on : Bool) → IsWithin r → Contains r.live l → Decides on (IsHullEdge r.hull l.edge)
    → w ≡ weight r.points (l.edge.a, l.edge.b) → AreSharesOf r l.edge (line_shares (pos w) on l)
shares_own r l w on is has d weighs = go on (same_from_decides _ _ (is_on_hull_decides r.hull l.edge.a l.edge.b) d) where
  a : ℕ
  a = l.edge.a

  b : ℕ
  b = l.edge.b

  weight_up : weight_between r.points l.edge.a l.edge.b ≡ pos w
  weight_up = let j = joins_up l.edge in ap (λ (x : ℕ). pos (weight r.points (x, max l.edge.a l.edge.b))) (sym j.0) ∙ (ap (λ (y : ℕ). pos (weight r.points (l.edge.a, y))) (sym j.1) ∙ ap pos (sym weighs))

  weight_down : weight_between r.points l.edge.b l.edge.a ≡ pos w
  weight_down = let j = joins_down l.edge in ap (λ (x : ℕ). pos (weight r.points (x, max l.edge.b l.edge.a))) (sym j.0) ∙ (ap (λ (y : ℕ). pos (weight r.points (l.edge.a, y))) (sym j.1) ∙ ap pos (sym weighs))

  own_up : priced (prices_of r) l.edge.a l.edge.b ≡ price_of l
  own_up = priced_own r l l.edge.a l.edge.b is has (joins_up l.edge)

  own_down : priced (prices_of r) l.edge.b l.edge.a ≡ price_of l
  own_down = priced_own r l l.edge.b l.edge.a is has (joins_down l.edge)

  go : (o : Bool) → is_on_hull r.hull l.edge.a l.edge.b ≡ o → AreSharesOf r l.edge (line_shares (pos w) o l)
  go true h = record {
    up = sym (share-on r.points r.hull (prices_of r) l.edge.a l.edge.b h ∙ rw (weight_up, own_up) refl);
    down = sym (share-on r.points r.hull (prices_of r) l.edge.b l.edge.a (is_on_hull-comm r.hull l.edge.a l.edge.b ∙ h) ∙ rw (weight_down, own_down) refl);
  }
  go false h = record {
    up = sym (share-up r.points r.hull (prices_of r) l.edge.a l.edge.b h l.edge.ascending ∙ rw (weight_up, own_up) refl);
    down = sym (share-down r.points r.hull (prices_of r) l.edge.b l.edge.a (is_on_hull-comm r.hull l.edge.a l.edge.b ∙ h) l.edge.ascending ∙ rw own_down refl);
  }
