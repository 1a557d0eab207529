-- One line of the header: what it marks, or why it fails.
use Rattle.std.proofs.Common.{Some, sym, ap, ◌∙◌}
use Rattle.tsplib_points.specs.Lines.{Line}
use Rattle.tsplib_points.specs.Header.{header_reason, parts_of}
use Rattle.tsplib_points.proofs.Steps.{reason_header, dimension_known, first_dimension, passes_end, passes_section, passes_dimension, passes_entry}
use Rattle.tsplib_points.proofs.gather.LinePass.header_line.Goals as goal

pub returns-in-Err-clause-fails : goal.returns-in-Err-clause-fails
returns-in-Err-clause-fails c = λ before h.
    let l : Line = record { number = c.args.number; text = c.args.text.now } in
    let judged = reason_header before l c.requires.some (sym h.end ∙ c.requires.open) (sym h.section ∙ c.requires.header) in
    let known = dimension_known c.args.self.now before h c.requires.open c.requires.header in
    let why = rw (c.is_some.ensures, c.of.ensures) at c.in-Err.ensures.told in
    rw (judged, known, why) (ap Some (sym c.at.ensures))

pub returns-in-Ok-End-clause-over : goal.returns-in-Ok-End-clause-over
returns-in-Ok-End-clause-over c = λ before h.
    let l : Line = record { number = c.args.number; text = c.args.text.now } in
    let judged = reason_header before l c.requires.some (sym h.end ∙ c.requires.open) (sym h.section ∙ c.requires.header) in
    let known = dimension_known c.args.self.now before h c.requires.open c.requires.header in
    let fine = rw (c.is_some.ensures, c.of.ensures) at c.in-Ok-End.ensures.fine in
    let told = rw (c.in-Ok-End.field-0-is, c.of.ensures) at c.in-Ok-End.ensures.told in
    (judged ∙ ap (λ b. header_reason b (parts_of l.text)) known ∙ fine, passes_end c.args.self.now before l h told)

pub returns-in-Ok-Section-clause-over : goal.returns-in-Ok-Section-clause-over
returns-in-Ok-Section-clause-over c = λ before h.
    let l : Line = record { number = c.args.number; text = c.args.text.now } in
    let judged = reason_header before l c.requires.some (sym h.end ∙ c.requires.open) (sym h.section ∙ c.requires.header) in
    let known = dimension_known c.args.self.now before h c.requires.open c.requires.header in
    let fine = rw (c.is_some.ensures, c.of.ensures) at c.in-Ok-Section.ensures.fine in
    let told = rw (c.in-Ok-Section.field-0-is, c.of.ensures) at c.in-Ok-Section.ensures.told in
    (judged ∙ ap (λ b. header_reason b (parts_of l.text)) known ∙ fine, passes_section c.args.self.now before l h c.requires.open c.requires.header told.0 told.1)

pub returns-in-Ok-Dimension-clause-over : goal.returns-in-Ok-Dimension-clause-over
returns-in-Ok-Dimension-clause-over c = λ before h.
    let l : Line = record { number = c.args.number; text = c.args.text.now } in
    let judged = reason_header before l c.requires.some (sym h.end ∙ c.requires.open) (sym h.section ∙ c.requires.header) in
    let known = dimension_known c.args.self.now before h c.requires.open c.requires.header in
    let fine = rw (c.is_some.ensures, c.of.ensures) at c.in-Ok-Dimension.ensures.fine in
    let told = rw (c.in-Ok-Dimension.field-0-is, c.of.ensures) at c.in-Ok-Dimension.ensures.told in
    let first = first_dimension _ _ told.0 told.1 told.2 fine in
    (judged ∙ ap (λ b. header_reason b (parts_of l.text)) known ∙ fine, passes_dimension c.args.self.now before l _ h c.requires.open c.requires.header first told.0 told.1 told.2 told.3)

pub returns-in-Ok-Nothing-clause-over : goal.returns-in-Ok-Nothing-clause-over
returns-in-Ok-Nothing-clause-over c = λ before h.
    let l : Line = record { number = c.args.number; text = c.args.text.now } in
    let judged = reason_header before l c.requires.some (sym h.end ∙ c.requires.open) (sym h.section ∙ c.requires.header) in
    let known = dimension_known c.args.self.now before h c.requires.open c.requires.header in
    let fine = rw (c.is_some.ensures, c.of.ensures) at c.in-Ok-Nothing.ensures.fine in
    let told = rw (c.in-Ok-Nothing.field-0-is, c.of.ensures) at c.in-Ok-Nothing.ensures.told in
    (judged ∙ ap (λ b. header_reason b (parts_of l.text)) known ∙ fine, passes_entry c.args.self.now before l h c.requires.open c.requires.header told.0 told.1 told.2)
