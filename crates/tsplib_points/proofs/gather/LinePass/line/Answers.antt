-- One line, by the part of the file where it stands.
use Rattle.std.proofs.Common.{Some, sym, ap, ◌∙◌}
use Rattle.tsplib_points.specs.Lines.{Line}
use Rattle.tsplib_points.proofs.Steps.{reason_blank, reason_ended, blank_nothing, passes_nothing}
use Rattle.tsplib_points.proofs.gather.LinePass.line.Goals as goal

pub returns-then-is_blank_text-clause-over : goal.returns-then-is_blank_text-clause-over
returns-then-is_blank_text-clause-over c = λ before h.
    let l : Line = record { number = c.args.number; text = c.args.text.now } in
    let blank = sym c.is_blank_text.ensures ∙ c.if-is_blank_text.true in
    (reason_blank before l blank, passes_nothing c.args.self.now before l h (blank_nothing c.args.number c.args.text.now blank))

pub returns-then-self-clause-fails : goal.returns-then-self-clause-fails
returns-then-self-clause-fails c = λ before h.
    let l : Line = record { number = c.args.number; text = c.args.text.now } in
    let some = sym c.is_blank_text.ensures ∙ c.if-is_blank_text.false in
    rw (reason_ended before l some (sym h.end ∙ c.if-self.true)) (ap Some (sym c.at.ensures))
