-- The live lines of a report, by what is kept of the prices of each edge.
use Rattle.std.specs.Prelude.{ℕ, Bool, cond, List, map}
use Rattle.lmt_network.specs.Flags.{live_numbers}
use Rattle.lmt_network.specs.Network.{NetworkParts, edge_at}
use Rattle.lmt_network.specs.PriceTables.{entry_at}
use Rattle.lmt_network.specs.Prices.{Priced, is_on_hull}
use Rattle.price_ascent.specs.declared.entry.PriceEntry.{PriceEntry}
use Rattle.price_ascent.specs.Entries.{entry, live_of, table_of}
use Rattle.cert_text.specs.declared.report.LineKind.{LineKind}
use Rattle.cert_text.specs.declared.report.LineKind.TheVariants.{Hull, Inner, Skeleton}
use Rattle.cert_text.specs.declared.report.PriceLine.{PriceLine}

-- the kind of a live line, by whether its edge is one of the hull, and whether its sides have anchors of their own
abbrev pub kind_of : Bool → Bool → LineKind
kind_of on_hull anchored = cond on_hull Hull (cond anchored Skeleton Inner)

abbrev pub line_of : Bool → Bool → Priced → PriceLine
line_of on_hull anchored p =
    record { edge = p.edge; kind = kind_of on_hull anchored; value = p.value; left = p.left; right = p.right }

-- the line of the edge e
abbrev pub line_at : NetworkParts → List PriceEntry → ℕ → PriceLine
line_at n es e = line_of (is_on_hull n.hull (edge_at n e).a (edge_at n e).b) (entry es e).anchored (entry_at n (table_of es) e)

-- the lines of all live edges
abbrev pub price_lines : NetworkParts → List PriceEntry → List PriceLine
price_lines n es = map (line_at n es) (live_numbers (live_of es))
