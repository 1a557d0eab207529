use Rattle.mwt_tool.proofs.Meaning.{Means-too_long, Means-answered}
use Rattle.mwt_tool.proofs.answer.read_answer.Goals as goal

pub returns-in_ok-answer_of-in-Ok-clause-means : goal.returns-in_ok-answer_of-in-Ok-clause-means
returns-in_ok-answer_of-in-Ok-clause-means g c = λ words asked.
    Means-answered words _ _ c.in-Ok.input c.args.mode _ _ asked c.in-Ok.ensures.whole c.in-Ok.ensures.within
    c.in_ok-answer_of-in-Ok.ensures.answers

pub returns-in_ok-refusal_answer-in-Err-TooLong-clause-means : goal.returns-in_ok-refusal_answer-in-Err-TooLong-clause-means
returns-in_ok-refusal_answer-in-Err-TooLong-clause-means g c = λ words asked.
    Means-too_long words _ _ c.args.mode _ _ asked c.requires.reads (c.in-Err-TooLong.ensures.too_long (cc c.in-Err-TooLong.field-0-is))
    (c.in_ok-refusal_answer-in-Err-TooLong.ensures.status, c.in_ok-refusal_answer-in-Err-TooLong.ensures.text)
