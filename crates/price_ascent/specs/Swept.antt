-- A sweep, edge by edge.
use Rattle.std.specs.Prelude.{◌≡◌, ◌⊎◌, ℕ, ◌<◌, false, List, drop, map, slice_index_or, ◌≤ℤ◌}
use Rattle.lmt_network.specs.Network.{NetworkParts}
use Rattle.lmt_network.specs.Numbers.{IsHullNumber}
use Rattle.lmt_network.specs.Prices.{IsFeasible}
use Rattle.price_ascent.specs.declared.entry.PriceEntry.{PriceEntry}
use Rattle.price_ascent.specs.Ascent.{IsInner, IsSwept}
use Rattle.price_ascent.specs.Belonging.{AreEntriesOf}
use Rattle.price_ascent.specs.Entries.{entry, live_of, prices_of, table_of}

-- Of the edges, the first i have been swept, from es to fs.
pub record AreSwept (n : NetworkParts) (es fs : List PriceEntry) (i : ℕ) : Type 0 where
  pub entries : AreEntriesOf n fs
  pub feasible : IsFeasible n.points n.hull (prices_of n fs)
  pub live : live_of fs ≡ live_of es
  pub anchored : map (λ p. p.anchored) fs ≡ map (λ p. p.anchored) es
  pub lefts : map (λ p. p.left) fs ≡ map (λ p. p.left) es
  pub rights : map (λ p. p.right) fs ≡ map (λ p. p.right) es
  pub rest : drop i fs ≡ drop i es
  pub prices : (k : ℕ) → k < i → IsInner n (live_of es) k → IsSwept n (live_of es) (table_of es) (table_of fs) k
  pub others : (k : ℕ) → (slice_index_or (live_of es) k false ≡ false) ⊎ IsHullNumber n k → (entry fs k).value ≡ (entry es k).value
  pub falls : (k : ℕ) → (entry fs k).value ≤ℤ (entry es k).value
