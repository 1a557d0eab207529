-- No edge has its amounts at the start, and all have them at the end.
use Rattle.std.proofs.Common.{◌≡◌, ℕ, length, arith, subst}
use Rattle.face_optimum.specs.Priced.{ArePutUpto}
use Rattle.face_optimum.proofs.site.Site.prices.Goals as goal

pub loop-e-init : goal.loop-e-init
loop-e-init c =
    let start = c.in_ok-prices.ensures in
    record { entries = start.belong.entries; live = start.live; anchored = start.anchored; done = λ e l. absurd (omega arith); within = λ e l flag. absurd (omega arith) }

pub returns : goal.returns
returns c =
    let all : c.loop-e.e ≡ length c.args.self.now.net.now.edges = omega (arith, c.loop-e-test.false, c.loop-e.auto.e-end, c.edges-e-end.ensures.value) in
    subst (λ (k : ℕ). ArePutUpto c.args.self.now c.args.costs.now c.args.root_costs.now k c.loop-e.prices) all c.loop-e.invariant
