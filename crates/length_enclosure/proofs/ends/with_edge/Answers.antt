use Rattle.std.proofs.Common.{◌≡◌, ℕ, ◌*◌, ◌^◌, Decides, arith, ap, refl, subst, ◌∙◌}
use Rattle.exact_predicates.specs.Length.{edge_d2}
use Rattle.exact_predicates.specs.Root.{root_down}
use Rattle.length_enclosure.specs.Enclosure.{weight}
use Rattle.length_enclosure.proofs.Edges.{hi_edge}
use Rattle.length_enclosure.proofs.ends.with_edge.Goals as goal
use Rattle.length_enclosure.proofs.ends.with_edge.Goals.{then-is_square, else-is_square}

pub returns-clause-longer : goal.returns-clause-longer
returns-clause-longer c =
    let squared : c.d2-d2.result ≡ edge_d2 c.args.points.now.points (c.args.u, c.args.v) =
    c.d2-d2.ensures.value ∙ rw (c.at.ensures.value, c.at-2.ensures.value) refl in
    let down : c.from-down.result ≡ weight c.args.points.now.points (c.args.u, c.args.v) =
    c.from-down.ensures ∙ c.weight.ensures.value ∙ ap (λ d. root_down (10 ^ 12 * d)) squared in
    let whole = subst (λ d. Decides c.is_square.result ((r : ℕ) × (r * r ≡ d))) squared c.is_square.ensures in
    let more = hi_edge c.args.points.now.points (c.args.u, c.args.v) c.is_square.result whole in
    record {
      lower = omega arith;
      upper = elim c.if-is_square.branch [
        | then-is_square w ↦ omega (arith, w.up-is, rw w.if-is_square.true at more)
        | else-is_square w ↦ omega (arith, w.up-is, rw w.if-is_square.false at more)
      ];
    }
