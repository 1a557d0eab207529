-- There is one start, and one sweep of given prices.
use Rattle.std.proofs.Common.{◌≡◌, ◌⊎◌, ℕ, zero, suc, ◌+◌, ◌<◌, ◌≤◌, Bool, true, false, List, [], ◌∷◌, ◌++◌, length, get_or, take, drop, ℤ, pos, ◌-ℤ◌, ◌≤ℤ◌, refl, ap, sym, ◌∙◌, subst, arith, ⊎_elim, inl, inr}
use Rattle.std.specs.Int.{int_max}
use Rattle.std.proofs.lemmas.Bool.{cases_Bool}
use Rattle.std.proofs.lemmas.Int.{ints}
use Rattle.std.proofs.lemmas.List.{get_or_default, same_lists, take_all, take_more}
use Rattle.exact_predicates.specs.declared.point.Point.{Point}
use Rattle.exact_predicates.specs.declared.tri.Tri.{Tri}
use Rattle.lmt_network.specs.Flags.{live_numbers}
use Rattle.lmt_network.specs.Network.{NetworkParts, edge_at}
use Rattle.lmt_network.specs.Numbers.{IsHullNumber}
use Rattle.lmt_network.specs.PriceTables.{PriceTable, table_prices}
use Rattle.lmt_network.specs.Prices.{Priced, slack}
use Rattle.price_ascent.specs.Ascent.{AreSweeps, IsInner, IsLeastSlack, IsLiveOn, IsStart, IsSweep, lowest, mixed, value_at}
use Rattle.price_ascent.proofs.Kept.{same_table}
use Rattle.price_ascent.proofs.Shares.{hull_number, inner_number, on_hull}

-- a side has one least slack
pub least_once : (ps : List Point) (hull : List ℕ) (prices : List Priced) (u v : ℕ) (m k : ℤ) → IsLeastSlack ps hull prices u v m → IsLeastSlack ps hull prices u v k → m ≡ k
least_once ps hull prices u v m k a b =
    ⊎_elim
    (λ (h : ((t : Tri) × IsLiveOn ps prices u v t × (slack ps hull prices t ≡ m)) × ((t : Tri) → IsLiveOn ps prices u v t → m ≤ℤ slack ps hull prices t)).
    ⊎_elim
    (λ (g : ((t : Tri) × IsLiveOn ps prices u v t × (slack ps hull prices t ≡ k)) × ((t : Tri) → IsLiveOn ps prices u v t → k ≤ℤ slack ps hull prices t)).
    let low = h.1 g.0.0 g.0.1 in
    let is = g.0.2 in
    let high = g.1 h.0.0 h.0.1 in
    let same = h.0.2 in
    omega (arith, ints, low, is, high, same))
    (λ (g : ((t : Tri) → ¬ IsLiveOn ps prices u v t) × (k ≡ pos 0)). absurd (g.0 h.0.0 h.0.1))
    b)
    (λ (h : ((t : Tri) → ¬ IsLiveOn ps prices u v t) × (m ≡ pos 0)).
    ⊎_elim
    (λ (g : ((t : Tri) × IsLiveOn ps prices u v t × (slack ps hull prices t ≡ k)) × ((t : Tri) → IsLiveOn ps prices u v t → k ≤ℤ slack ps hull prices t)). absurd (h.0 g.0.0 g.0.1))
    (λ (g : ((t : Tri) → ¬ IsLiveOn ps prices u v t) × (k ≡ pos 0)). h.1 ∙ sym g.1)
    b)
    a

-- an edge has a price of its own or has none
inner_or_not : (n : NetworkParts) (live : List Bool) (e : ℕ) → IsInner n live e ⊎ ((get_or live e false ≡ false) ⊎ IsHullNumber n e)
inner_or_not n live e =
    ⊎_elim
    (λ (yes : get_or live e false ≡ true). ⊎_elim (λ on. inr (inr (hull_number n e on))) (λ off. inl (yes, inner_number n e off)) (cases_Bool (on_hull n e)))
    (λ (dead : get_or live e false ≡ false). inr (inl dead))
    (cases_Bool (get_or live e false))

pub one_start : (n : NetworkParts) (live : List Bool) (s t : PriceTable) → IsStart n live s → IsStart n live t → s ≡ t
one_start n live s t a b =
    same_table _ _ _ _ _ _
    (same_lists s.values t.values (a.one_each ∙ sym b.one_each) (λ k d l.
    get_or_default s.values k d (pos 0) l
    ∙ (⊎_elim (λ inner. a.prices k inner ∙ sym (b.prices k inner)) (λ out. a.others k out ∙ sym (b.others k out)) (inner_or_not n live k)
    ∙ get_or_default t.values k (pos 0) d (let one = a.one_each in let same = b.one_each in omega arith))))
    (a.lefts ∙ sym b.lefts)
    (a.rights ∙ sym b.rights)

module _ {n : NetworkParts} {live : List Bool} {o s t : PriceTable} (full : length o.values ≡ length n.edges) (a : IsSweep n live o s) (b : IsSweep n live o t) where
  -- where the prices of smaller edges are the same, so is that of an edge
  same_at : (k : ℕ) → k < length n.edges → take k s.values ≡ take k t.values → value_at s k ≡ value_at t k
  same_at k k_in fronts =
      ⊎_elim
      (λ inner.
      let p = a.prices k k_in inner in
      let q = b.prices k k_in inner in
      let tables : mixed k s o ≡ mixed k t o = same_table _ _ _ _ _ _ (ap (λ xs. xs ++ drop k o.values) fronts) refl refl in
      let least = subst (λ (x : PriceTable). IsLeastSlack n.points n.hull (table_prices n x (live_numbers live)) (edge_at n k).b (edge_at n k).a p.m) tables p.least in
      let same = least_once n.points n.hull _ (edge_at n k).b (edge_at n k).a p.m q.m least q.least in
      p.value ∙ (ap (λ m. int_max (value_at o k -ℤ m) lowest) same ∙ sym q.value))
      (λ out. a.others k out ∙ sym (b.others k out))
      (inner_or_not n live k)

  fronts_same : (k : ℕ) → k ≤ length n.edges → take k s.values ≡ take k t.values
  fronts_same zero l = refl
  fronts_same (suc k) l =
      let fronts = fronts_same k (omega arith) in
      let next : k + 1 ≡ suc k = omega arith in
      let one = a.one_each in
      let other = b.one_each in
      subst (λ (j : ℕ). take j s.values ≡ take j t.values) next
      (take_more s.values k (pos 0) (omega arith)
      ∙ (ap (λ xs. xs ++ value_at s k ∷ []) fronts ∙ (ap (λ v. take k t.values ++ v ∷ []) (same_at k (omega arith) fronts) ∙ sym (take_more t.values k (pos 0) (omega arith)))))

  pub one_sweep : s ≡ t
  one_sweep =
      let one = a.one_each in
      let other = b.one_each in
      same_table _ _ _ _ _ _
      (sym (take_all (length n.edges) s.values (omega arith)) ∙ (fronts_same (length n.edges) (omega arith) ∙ take_all (length n.edges) t.values (omega arith)))
      (a.lefts ∙ sym b.lefts)
      (a.rights ∙ sym b.rights)

-- sweeps keep the number of values
pub sweeps_full : (n : NetworkParts) (live : List Bool) (k : ℕ) (o s : PriceTable) → AreSweeps n live k o s → length o.values ≡ length n.edges → length s.values ≡ length n.edges
sweeps_full n live zero o s h full = ap (λ (x : PriceTable). length x.values) h ∙ full
sweeps_full n live (suc k) o s (before, first, last) full = last.one_each ∙ sweeps_full n live k o before first full

pub one_sweeps : (n : NetworkParts) (live : List Bool) (k : ℕ) (o s t : PriceTable) → length o.values ≡ length n.edges → AreSweeps n live k o s → AreSweeps n live k o t → s ≡ t
one_sweeps n live zero o s t full a b = a ∙ sym b
one_sweeps n live (suc k) o s t full (p, first, last) (q, other, end) =
    let same : p ≡ q = one_sweeps n live k o p q full first other in
    one_sweep (sweeps_full n live k o p first full) last (subst (λ (x : PriceTable). IsSweep n live x t) (sym same) end)
