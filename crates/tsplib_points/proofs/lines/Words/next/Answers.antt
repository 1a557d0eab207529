-- The next word of a text, and those after it.
use Rattle.std.proofs.Common.{sym, ◌∙◌}
use Rattle.tsplib_points.proofs.Pieces.{words_trim, words_after, nothing, something}
use Rattle.tsplib_points.specs.Lines.{is_blank}
use Rattle.tsplib_points.proofs.lines.Words.next.Goals as goal

pub returns-then-is_empty-clause-word : goal.returns-then-is_empty-clause-word
returns-then-is_empty-clause-word c =
    let none = nothing _ (sym c.is_empty.ensures ∙ c.if-is_empty.true) in
    let left = rw c.trim_front-text.ensures.trimmed at none in
    words_trim _ ∙ rw left at (words_after c.args.self.now.rest.now)

pub returns-clause-word : goal.returns-clause-word
returns-clause-word c =
    let some = something _ (sym c.is_empty.ensures ∙ c.if-is_empty.false) in
    let left = rw c.trim_front-text.ensures.trimmed at some in
    let word = c.cut_at.ensures.before is_blank c.position_of_blank.ensures.first in
    let rest = c.cut_at.ensures.behind is_blank c.position_of_blank.ensures.first in
    rw (word, rest, c.trim_front-text.ensures.trimmed) (words_trim c.args.self.now.rest.now ∙ rw left at (words_after c.args.self.now.rest.now))
