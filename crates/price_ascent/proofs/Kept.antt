-- What is kept of the edges, read as a table of prices.
use Rattle.std.proofs.Common.{◌≡◌, ℕ, zero, suc, ◌<◌, true, false, cond, nat_lt, List, [], ◌∷◌, length, get_or, map, Contains, ℤ, ◌-ℤ◌, refl, ap, sym, ◌∙◌, arith}
use Rattle.exact_predicates.specs.declared.point.Point.{Point}
use Rattle.lmt_network.specs.Flags.{live_numbers}
use Rattle.lmt_network.specs.Network.{IsNetwork, NetworkParts, edge_at}
use Rattle.lmt_network.specs.Numbers.{IsNumberOf}
use Rattle.lmt_network.specs.PriceTables.{IsByNumber, PriceTable, entry_at}
use Rattle.lmt_network.specs.Prices.{Priced, is_on_hull, priced, share, weight_between}
use Rattle.lmt_network.proofs.Picked.{All-from_members, flag_from_live, flag_in, live_from_flag}
use Rattle.lmt_network.proofs.PriceTables.{by_number_law}
use Rattle.std.proofs.lemmas.List.{length-map}
use Rattle.price_ascent.specs.declared.entry.PriceEntry.{PriceEntry}
use Rattle.price_ascent.specs.Ascent.{value_at}
use Rattle.price_ascent.specs.Entries.{entry, live_of, no_entry, prices_of, table_of}

-- an element of a mapped list, also past its end
pub get_or-mapped : {X Y : Type 0} (f : X → Y) (xs : List X) (k : ℕ) (d : X) → get_or (map f xs) k (f d) ≡ f (get_or xs k d)
get_or-mapped f [] k d = refl
get_or-mapped f (x ∷ xs) zero d = refl
get_or-mapped f (x ∷ xs) (suc k) d = get_or-mapped f xs k d

pub live_at : (es : List PriceEntry) (e : ℕ) → get_or (live_of es) e false ≡ (entry es e).live
live_at es e = get_or-mapped (λ p. p.live) es e no_entry

pub value_is : (es : List PriceEntry) (k : ℕ) → value_at (table_of es) k ≡ (entry es k).value
value_is es k = get_or-mapped (λ (p : PriceEntry). p.value) es k no_entry

-- tables with the same lists
abbrev pub table : List ℤ → List ℤ → List ℤ → PriceTable
table values lefts rights = record { values = values; lefts = lefts; rights = rights }

pub same_table : (a b c x y z : List ℤ) → a ≡ x → b ≡ y → c ≡ z → table a b c ≡ table x y z
same_table a b c x y z e f g = cc

-- the live numbers
pub live_number : (es : List PriceEntry) (e : ℕ) → (entry es e).live ≡ true → Contains (live_numbers (live_of es)) e
live_number es e is = live_from_flag (live_of es) e (live_at es e ∙ is)

pub number-live : (es : List PriceEntry) (e : ℕ) → Contains (live_numbers (live_of es)) e → (entry es e).live ≡ true
number-live es e has = sym (live_at es e) ∙ flag_from_live (live_of es) e has

pub by_number : (n : NetworkParts) (es : List PriceEntry) → IsNetwork n → length es ≡ length n.edges → IsByNumber n (table_of es) (live_numbers (live_of es))
by_number n es net one_each =
    by_number_law n (table_of es) (live_numbers (live_of es)) net
    (All-from_members (λ e. e < length n.edges) (live_numbers (live_of es))
    (λ e has. let l = flag_in (live_of es) e (flag_from_live (live_of es) e has) in omega (arith, length-map es (λ (p : PriceEntry). p.live), l)))

-- what the prices say of an edge
abbrev pub kept_price : NetworkParts → List PriceEntry → ℕ → Priced
kept_price n es e = record { edge = edge_at n e; value = (entry es e).value; left = (entry es e).left; right = (entry es e).right }

pub entry_at-kept : (n : NetworkParts) (es : List PriceEntry) (e : ℕ) → entry_at n (table_of es) e ≡ kept_price n es e
entry_at-kept n es e =
    let value = get_or-mapped (λ (p : PriceEntry). p.value) es e no_entry in
    let left = get_or-mapped (λ (p : PriceEntry). p.left) es e no_entry in
    let right = get_or-mapped (λ (p : PriceEntry). p.right) es e no_entry in
    cc

pub priced-kept : (n : NetworkParts) (es : List PriceEntry) (e u v : ℕ) → IsNetwork n → length es ≡ length n.edges → (entry es e).live ≡ true → IsNumberOf n u v e
    → priced (prices_of n es) u v ≡ kept_price n es e
priced-kept n es e u v net one_each live is = (by_number n es net one_each).entries e u v (live_number es e live) is ∙ entry_at-kept n es e

-- the share of a side, by the price of its edge
abbrev pub side_share : List Point → List ℕ → Priced → ℕ → ℕ → ℤ
side_share ps hull p u v =
    cond (is_on_hull hull u v) (weight_between ps u v -ℤ p.value)
    (cond (nat_lt u v) ((weight_between ps u v -ℤ p.value) -ℤ p.left) (p.value -ℤ p.right))

pub share-kept : (n : NetworkParts) (es : List PriceEntry) (e u v : ℕ) → IsNetwork n → length es ≡ length n.edges → (entry es e).live ≡ true → IsNumberOf n u v e
    → share n.points n.hull (prices_of n es) u v ≡ side_share n.points n.hull (kept_price n es e) u v
unfolding share
share-kept n es e u v net one_each live is = ap (λ p. side_share n.points n.hull p u v) (priced-kept n es e u v net one_each live is)
