use Rattle.std.proofs.Common.{◌≡◌, map, take}
use Rattle.lmt_network.specs.Network.{edge_at}
use Rattle.cert_text.specs.declared.report.PriceLine.{PriceLine}
use Rattle.dual_checker.proofs.lists.are_edges.Given as goal

abbrev pub invariant-loop-k : goal.invariant-loop-k
invariant-loop-k l = take l.k (map (edge_at l.net) l.numbers) ≡ take l.k (map (λ (m : PriceLine). m.edge) l.lines)
