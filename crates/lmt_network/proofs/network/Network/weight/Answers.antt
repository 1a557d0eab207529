use Rattle.std.proofs.Common.{◌≡◌, ◌*◌, ◌^◌, ap, refl, ◌∙◌}
use Rattle.exact_predicates.specs.Length.{edge_d2}
use Rattle.exact_predicates.specs.Root.{root_down}
use Rattle.lmt_network.specs.Network.{edge_at}
use Rattle.lmt_network.proofs.network.Network.weight.Goals as goal

pub returns-clause-value : goal.returns-clause-value
returns-clause-value c =
    let n = c.args.self.now in
    let squared : c.d2.result ≡ edge_d2 n.points ((edge_at n c.args.e).a, (edge_at n c.args.e).b) =
    c.d2.ensures.value ∙ rw (c.point.ensures.value, c.point-2.ensures.value, c.edge-edge.ensures.value) refl in
    c.weight.ensures.value ∙ ap (λ d. root_down (10 ^ 12 * d)) squared
