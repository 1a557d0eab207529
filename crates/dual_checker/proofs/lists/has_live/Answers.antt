use Rattle.std.proofs.Common.{◌<◌, ℕ, List, length, All, sym, subst}
use Rattle.std.proofs.lemmas.Bool.{eqb-true, eq-eqb}
use Rattle.dual_checker.proofs.Ledgers.{within_range}
use Rattle.dual_checker.proofs.LiveLists.{live_decides, as_many_lines}
use Rattle.dual_checker.proofs.lists.has_live.Goals as goal

pub are_edges-requires-clause-in_range : goal.are_edges-requires-clause-in_range
are_edges-requires-clause-in_range c =
    subst (λ (ns : List ℕ). All (λ e. e < length c.args.elimination.now.net.edges) ns) (sym c.requires.numbers)
    (within_range c.args.elimination.now.net c.args.elimination.now.flags c.requires.eliminated.one_each)

pub returns-then-numbers-lines : goal.returns-then-numbers-lines
returns-then-numbers-lines c =
    live_decides c.args.report.now c.args.elimination.now.net c.args.elimination.now.flags c.args.numbers.now c.as_slice-lines.result.now c.are_edges.result
    c.requires.eliminated c.requires.numbers c.as_slice-lines.ensures.is c.are_edges.ensures

pub returns-else-numbers-lines : goal.returns-else-numbers-lines
returns-else-numbers-lines c = (
  λ t. absurd (c.if-numbers-lines.false (eqb-true _ _ t)),
  λ live. eq-eqb _ _ (as_many_lines c.args.report.now c.args.elimination.now.net c.args.elimination.now.flags c.args.numbers.now c.as_slice-lines.result.now
      c.requires.eliminated c.requires.numbers c.as_slice-lines.ensures.is live),
)
