use Rattle.std.proofs.Common.{IsTrue, ◌↔◌, ℕ, nat_eq, sym, subst}
use Rattle.dual_checker.specs.GoodReport.{HasCandidates}
use Rattle.dual_checker.proofs.LiveLists.{candidates_decide}
use Rattle.dual_checker.proofs.lists.has_candidates.Goals as goal

pub returns-clause-decides : goal.returns-clause-decides
returns-clause-decides c =
    subst (λ (n : ℕ). IsTrue (nat_eq c.args.report.now.candidates n) ↔ HasCandidates c.args.report.now) (sym c.edges.ensures.value)
    (candidates_decide c.args.report.now c.args.net.now c.requires)
