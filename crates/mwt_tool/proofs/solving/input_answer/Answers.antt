use Rattle.std.proofs.Common.{◌≡◌, subst}
use Rattle.tsplib_points.specs.declared.file.Refusal.{Refusal as FileRefusal}
use Rattle.mwt_tool.specs.declared.refusal.Refusal.TheVariants.{File}
use Rattle.mwt_tool.specs.Refusal.{refusal_line}
use Rattle.mwt_tool.specs.Texts.{bytes_of}
use Rattle.mwt_tool.specs.Solves.{accepted, refused}
use Rattle.mwt_tool.proofs.solving.input_answer.Goals as goal

pub returns-in_ok-file_answer-in-Ok-clause-answers : goal.returns-in_ok-file_answer-in-Ok-clause-answers
returns-in_ok-file_answer-in-Ok-clause-answers g c = accepted _ c.in-Ok.ensures.file c.in_ok-file_answer-in-Ok.ensures.answers

pub returns-in_ok-refusal_answer-in-Err-Refused-clause-answers : goal.returns-in_ok-refusal_answer-in-Err-Refused-clause-answers
returns-in_ok-refusal_answer-in-Err-Refused-clause-answers g c =
    let answer = c.in_ok-refusal_answer-in-Err-Refused in
    let line : FileRefusal → Type 0 = λ why. bytes_of answer.field-0.text ≡ refusal_line (File why) in
    refused c.in-Err-Refused.why (c.in-Err-Refused.ensures.refused c.in-Err-Refused.why c.in-Err-Refused.field-0-is)
    (answer.ensures.status, subst line c.in-Err-Refused.why-is answer.ensures.text)
