-- The anchors of the edges from one on.
use Rattle.std.specs.Prelude.{ℕ, List, drop, length, ℤ}
use Rattle.std.specs.List.{items_where_true, range_with_len}
use Rattle.lmt_network.specs.Network.{NetworkParts}
use Rattle.lmt_network.specs.PriceTables.{entry_at}
use Rattle.lmt_network.specs.Prices.{anchors_of, int_sum_by}
use Rattle.price_ascent.specs.declared.entry.PriceEntry.{PriceEntry}
use Rattle.price_ascent.specs.Entries.{live_of, table_of}

-- the live numbers from e on
abbrev pub live_from : List PriceEntry → ℕ → List ℕ
live_from es e = items_where_true (drop e (live_of es)) (drop e (range_with_len 0 (length (live_of es))))

-- their anchors together
abbrev pub anchors_from : NetworkParts → List PriceEntry → ℕ → ℤ
anchors_from n es e = int_sum_by (λ k. anchors_of n.hull (entry_at n (table_of es) k)) (live_from es e)
