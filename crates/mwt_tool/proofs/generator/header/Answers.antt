use Rattle.std.proofs.Common.{◌≤◌, ◌∙◌, List, ℕ, length, subst, sym}
use Rattle.mwt_tool.proofs.Made.{header_is, header_short}
use Rattle.mwt_tool.proofs.generator.header.Goals as goal

pub returns-clause-lines : goal.returns-clause-lines
returns-clause-lines c = c.in_ok-text.ensures.ok ∙ header_is c.args.seed c.args.n

pub returns-clause-short : goal.returns-clause-short
returns-clause-short c =
    subst (λ (t : List ℕ). length t ≤ 200) (sym c.in_ok-text.ensures.ok) (header_short c.args.seed c.args.n c.ranges.seed.fits c.ranges.n.fits)
