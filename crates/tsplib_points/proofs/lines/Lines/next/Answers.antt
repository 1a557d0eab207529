-- The next line of a file, and those after it.
use Rattle.std.proofs.Common.{◌<◌, length, arith, sym, ◌∙◌}
use Rattle.std.proofs.lemmas.Grind.{common_steps}
use Rattle.tsplib_points.proofs.Pieces.{texts_next, empty_texts, nothing}
use Rattle.tsplib_points.specs.Lines.{is_line_feed}
use Rattle.tsplib_points.proofs.lines.Lines.next.Goals as goal

pub returns-then-is_empty-clause-line : goal.returns-then-is_empty-clause-line
returns-then-is_empty-clause-line c = empty_texts _ (nothing _ (sym c.is_empty.ensures ∙ c.if-is_empty.true))

pub returns-clause-line : goal.returns-clause-line
returns-clause-line c =
    let text = c.args.self.now.rest.now in
    let some : 0 < length text = grind (arith, common_steps) in
    let line = c.cut_at.ensures.before is_line_feed c.position_of.ensures.first in
    let rest = c.cut_at.ensures.behind is_line_feed c.position_of.ensures.first in
    rw (c.without_return.ensures.line, line, rest) (texts_next text some)
