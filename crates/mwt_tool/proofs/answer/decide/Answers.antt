use Rattle.std.proofs.Common.{◌∙◌, List, ℕ, subst}
use Rattle.mwt_tool.specs.Modes.{Answers, Reads}
use Rattle.mwt_tool.specs.Texts.{bytes_of}
use Rattle.mwt_tool.proofs.Meaning.{Means-usage, Means-unread}
use Rattle.mwt_tool.proofs.answer.decide.Goals as goal

pub returns-in_ok-answer_of-in-Ok-2-clause-means : goal.returns-in_ok-answer_of-in-Ok-2-clause-means
returns-in_ok-answer_of-in-Ok-2-clause-means g c =
    let mode = c.in-Ok.mode in
    let answer = c.in_ok-answer_of-in-Ok-2.field-0 in
    let never : ¬ Reads mode = λ reads. cc (c.reads.ensures.1 reads, c.if-reads.false) in
    Means-unread _ _ mode _ _ c.in-Ok.ensures.asked never
    (subst (λ (input : List ℕ). Answers mode input answer.status (bytes_of answer.text)) (c.of.ensures ∙ c.new.ensures.items) c.in_ok-answer_of-in-Ok-2.ensures.answers)

pub returns-in_ok-refusal_answer-in-Err-Usage-clause-means : goal.returns-in_ok-refusal_answer-in-Err-Usage-clause-means
returns-in_ok-refusal_answer-in-Err-Usage-clause-means g c =
    Means-usage _ _ _ _ (c.mode_of.ensures.usage (cc (c.in-Err-Usage.is, c.in-Err-Usage.field-0-is)))
    (c.in_ok-refusal_answer-in-Err-Usage.ensures.status, c.in_ok-refusal_answer-in-Err-Usage.ensures.text)

pub returns-in_ok-refusal_answer-in-Err-Usage-clause-read_to_the_end : goal.returns-in_ok-refusal_answer-in-Err-Usage-clause-read_to_the_end
returns-in_ok-refusal_answer-in-Err-Usage-clause-read_to_the_end g c = λ has.
    absurd (c.mode_of.ensures.usage (cc (c.in-Err-Usage.is, c.in-Err-Usage.field-0-is)) has.mode has.asked)
