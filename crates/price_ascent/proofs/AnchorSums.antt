-- The sum of all anchors, edge by edge.
use Rattle.std.proofs.Common.{◌≡◌, ℕ, ◌+◌, ◌<◌, ◌≤◌, Bool, true, false, List, ◌∷◌, length, drop, pos, ◌+ℤ◌, refl, ap, sym, ◌∙◌, arith}
use Rattle.std.specs.List.{items_where_true, range_with_len}
use Rattle.std.proofs.lemmas.Bool.{cond-false, cond-true, false≢true}
use Rattle.std.proofs.lemmas.Int.{ints}
use Rattle.std.proofs.lemmas.List.{drop_all, drop_more, length-map}
use Rattle.std.proofs.lemmas.List.FromFn.{get_or-range_with_len, length-range_with_len}
use Rattle.lmt_network.specs.Network.{NetworkParts}
use Rattle.lmt_network.specs.PriceTables.{entry_at}
use Rattle.lmt_network.specs.Prices.{anchors_of, bound, int_sum_by}
use Rattle.lmt_network.specs.Flags.{live_numbers}
use Rattle.lmt_network.proofs.IntSums.{int_sum_by-cons, int_sum_by-map}
use Rattle.price_ascent.specs.declared.entry.PriceEntry.{PriceEntry}
use Rattle.price_ascent.specs.Belonging.{AreEntriesOf}
use Rattle.price_ascent.specs.Entries.{entry, live_of, prices_of, table_of}
use Rattle.price_ascent.specs.Sums.{anchors_from, live_from}
use Rattle.price_ascent.proofs.Kept.{entry_at-kept, live_at}
use Rattle.price_ascent.proofs.Shares.{hull_number, on_hull}

-- the anchors of an edge, by where it lies
pub anchors_on : (n : NetworkParts) (es : List PriceEntry) (e : ℕ) → on_hull n e ≡ true → anchors_of n.hull (entry_at n (table_of es) e) ≡ (entry es e).value
anchors_on n es e on = ap (anchors_of n.hull) (entry_at-kept n es e) ∙ cond-true (on_hull n e) _ _ on

pub anchors_off : (n : NetworkParts) (es : List PriceEntry) (e : ℕ) → on_hull n e ≡ false → anchors_of n.hull (entry_at n (table_of es) e) ≡ (entry es e).left +ℤ (entry es e).right
anchors_off n es e off = ap (anchors_of n.hull) (entry_at-kept n es e) ∙ cond-false (on_hull n e) _ _ off

-- a killed edge has none
dead_anchors : (n : NetworkParts) (es : List PriceEntry) (e : ℕ) → AreEntriesOf n es → e < length n.edges → (entry es e).live ≡ false → anchors_of n.hull (entry_at n (table_of es) e) ≡ pos 0
dead_anchors n es e b e_in dead =
    at (on_hull n e) refl (entry es e).anchored refl
  where
    at : (t : Bool) → on_hull n e ≡ t → (a : Bool) → (entry es e).anchored ≡ a → anchors_of n.hull (entry_at n (table_of es) e) ≡ pos 0
    at true on a is = absurd (false≢true (sym dead ∙ (b.each e e_in).hull_live (hull_number n e on)))
    at false off true is = absurd (false≢true (sym dead ∙ ((b.each e e_in).inner is).0))
    at false off false is =
        let zero = (b.each e e_in).elsewhere is in
        let left = zero.0 in
        let right = zero.1 in
        let sum = anchors_off n es e off in
        omega (arith, ints, left, right, sum)

-- the live numbers from an edge on
from_at : (es : List PriceEntry) (e : ℕ) (b : Bool) → e < length es → (entry es e).live ≡ b
    → live_from es e ≡ items_where_true (b ∷ drop (e + 1) (live_of es)) (e ∷ drop (e + 1) (range_with_len 0 (length (live_of es))))
from_at es e b e_in is =
    let flags = live_of es in
    let many : length flags ≡ length es = length-map es (λ (p : PriceEntry). p.live) in
    let flag : drop e flags ≡ b ∷ drop (e + 1) flags = drop_more flags e false (omega arith) ∙ ap (λ x. x ∷ drop (e + 1) flags) (live_at es e ∙ is) in
    let numbers = range_with_len 0 (length flags) in
    let number : drop e numbers ≡ e ∷ drop (e + 1) numbers
    = drop_more numbers e 0 (let l = length-range_with_len 0 (length flags) in omega arith)
    ∙ ap (λ x. x ∷ drop (e + 1) numbers) (get_or-range_with_len 0 (length flags) e 0 (omega arith) ∙ omega arith) in
    ap (λ bs. items_where_true bs (drop e numbers)) flag ∙ ap (λ xs. items_where_true (b ∷ drop (e + 1) flags) xs) number

-- one edge less is left
pub anchors_next : (n : NetworkParts) (es : List PriceEntry) (e : ℕ) → AreEntriesOf n es → e < length n.edges
    → anchors_from n es e ≡ anchors_of n.hull (entry_at n (table_of es) e) +ℤ anchors_from n es (e + 1)
anchors_next n es e b e_in = at (entry es e).live refl
  where
    at : (t : Bool) → (entry es e).live ≡ t → anchors_from n es e ≡ anchors_of n.hull (entry_at n (table_of es) e) +ℤ anchors_from n es (e + 1)
    at true is =
        let in_es : e < length es = let one = b.one_each in omega arith in
        ap (int_sum_by (λ k. anchors_of n.hull (entry_at n (table_of es) k))) (from_at es e true in_es is)
        ∙ int_sum_by-cons (λ k. anchors_of n.hull (entry_at n (table_of es) k)) e (live_from es (e + 1))
    at false is =
        let in_es : e < length es = let one = b.one_each in omega arith in
        let zero = dead_anchors n es e b e_in is in
        let rest = ap (int_sum_by (λ k. anchors_of n.hull (entry_at n (table_of es) k))) (from_at es e false in_es is) in
        omega (arith, ints, zero, rest)

-- all edges are left at first, and none at the end
pub anchors_all : (n : NetworkParts) (es : List PriceEntry) → pos 0 +ℤ anchors_from n es 0 ≡ bound n.hull (prices_of n es)
anchors_all n es =
    let is = int_sum_by-map (anchors_of n.hull) (entry_at n (table_of es)) (live_numbers (live_of es)) in
    omega (arith, ints, is)

pub anchors_none : (n : NetworkParts) (es : List PriceEntry) (e : ℕ) → AreEntriesOf n es → length n.edges ≤ e → anchors_from n es e ≡ pos 0
anchors_none n es e b past =
    let many : length (live_of es) ≤ e = let l = length-map es (λ (p : PriceEntry). p.live) in let one = b.one_each in omega arith in
    ap (λ bs. int_sum_by (λ k. anchors_of n.hull (entry_at n (table_of es) k)) (items_where_true bs (drop e (range_with_len 0 (length (live_of es)))))) (drop_all e (live_of es) many)
