-- Anchors that are raised side by side.
use Rattle.std.specs.Prelude.{◌≡◌, ◌⊎◌, ℕ, cond, nat_lt, Bool, List, [], ◌∷◌, drop, flat_map, map, slice_index_or, slice_set, Contains, ℤ, pos, ◌+ℤ◌, ◌≤ℤ◌}
use Rattle.std.specs.List.{items_where_true}
use Rattle.exact_predicates.specs.declared.tri.Tri.{Tri}
use Rattle.lmt_network.specs.Network.{NetworkParts}
use Rattle.lmt_network.specs.Flags.{live_numbers}
use Rattle.lmt_network.specs.Numbers.{IsHullNumber, IsNumberOf}
use Rattle.lmt_network.specs.PriceTables.{PriceTable, table_prices}
use Rattle.lmt_network.specs.Prices.{IsFeasible, is_on_hull, slack}
use Rattle.price_ascent.specs.declared.entry.PriceEntry.{PriceEntry}
use Rattle.price_ascent.specs.Ascent.{IsLeastSlack, IsLiveOn, both_sides}
use Rattle.price_ascent.specs.Belonging.{AreEntriesOf, AreZeroWhereBare, IsBareSide}
use Rattle.price_ascent.specs.Entries.{entry, live_of, prices_of, table_of}

-- the list with m more at the place e
abbrev pub with_more : List ℤ → ℕ → ℤ → List ℤ
with_more xs e m = slice_set xs e (slice_index_or xs e (pos 0) +ℤ m)

-- the table in which the anchor of the side u to v of the edge e is m more
abbrev pub raised : NetworkParts → PriceTable → ℕ → ℕ → ℕ → ℤ → PriceTable
raised n table e u v m =
    cond (is_on_hull n.hull u v)
    (record { values = with_more table.values e m; lefts = table.lefts; rights = table.rights })
    (cond (nat_lt u v)
    (record { values = table.values; lefts = with_more table.lefts e m; rights = table.rights })
    (record { values = table.values; lefts = table.lefts; rights = with_more table.rights e m }))

-- the anchor of the side u to v is raised by the least slack of the live triangles with this side
pub record IsRaisedNext (n : NetworkParts) (live : List Bool) (old new : PriceTable) (u v : ℕ) : Type 0 where
  pub e : ℕ
  pub number : IsNumberOf n u v e
  pub m : ℤ
  pub least : IsLeastSlack n.points n.hull (table_prices n old (live_numbers live)) u v m
  pub new_is : new ≡ raised n old e u v m

-- the anchors of these sides are raised one after the other, each under those that are raised already
abbrev pub IsRaisedAlong : NetworkParts → List Bool → List (ℕ × ℕ) → PriceTable → PriceTable → Type 0
IsRaisedAlong n live [] old new = new ≡ old
IsRaisedAlong n live (s ∷ sides) old new = (next : PriceTable) × IsRaisedNext n live old next s.0 s.1 × IsRaisedAlong n live sides next new

-- some live triangle with the side u to v has no slack, or there is none
abbrev pub IsSettled : NetworkParts → List PriceEntry → ℕ → ℕ → Type 0
IsSettled n es u v =
    ((t : Tri) × IsLiveOn n.points (prices_of n es) u v t × (slack n.points n.hull (prices_of n es) t ≡ pos 0))
    ⊎ IsBareSide n.points (prices_of n es) u v

-- Of the sides, all but the rest have been raised one after the other, from es to fs.
pub record AreRaised (n : NetworkParts) (es fs : List PriceEntry) (sides rest : List (ℕ × ℕ)) : Type 0 where
  pub entries : AreEntriesOf n fs
  pub feasible : IsFeasible n.points n.hull (prices_of n fs)
  pub bare : AreZeroWhereBare n es → AreZeroWhereBare n fs
  pub live : live_of fs ≡ live_of es
  pub anchored : map (λ p. p.anchored) fs ≡ map (λ p. p.anchored) es
  pub prices : (e : ℕ) → ¬ IsHullNumber n e → (entry fs e).value ≡ (entry es e).value
  pub anchors : (e : ℕ) → IsHullNumber n e → (entry es e).value ≤ℤ (entry fs e).value
  pub lefts : (e : ℕ) → (entry es e).left ≤ℤ (entry fs e).left
  pub rights : (e : ℕ) → (entry es e).right ≤ℤ (entry fs e).right
  pub along : (end : PriceTable) → IsRaisedAlong n (live_of es) rest (table_of fs) end → IsRaisedAlong n (live_of es) sides (table_of es) end
  pub keeps : (u v : ℕ) → IsSettled n es u v → IsSettled n fs u v
  pub settled : (u v : ℕ) → Contains sides (u, v) → Contains rest (u, v) ⊎ IsSettled n fs u v

-- the sides of the anchored inner edges from the edge e on
abbrev pub sides_from : NetworkParts → List PriceEntry → ℕ → List (ℕ × ℕ)
sides_from n es e = flat_map both_sides (items_where_true (drop e (map (λ p. p.anchored) es)) (drop e n.edges))
