use Rattle.std.proofs.Common.{arith}
use Rattle.svg_picture.proofs.Drawing.{Means-answered, Means-too_long, Means-usage}
use Rattle.svg_picture.proofs.answer.decide.Goals as goal

pub returns-then-words-gt0-clause-means : goal.returns-then-words-gt0-clause-means
returns-then-words-gt0-clause-means g c =
    Means-usage _ _ _ _ c.if-words-gt0.true (c.in_ok-refused.ensures.status, c.in_ok-refused.ensures.text)

pub returns-in_ok-input_answer-in-Ok-clause-means : goal.returns-in_ok-input_answer-in-Ok-clause-means
returns-in_ok-input_answer-in-Ok-clause-means g c =
    Means-answered _ _ _ c.in-Ok.input _ _ (omega arith) c.in-Ok.ensures.whole c.in-Ok.ensures.within c.in_ok-input_answer-in-Ok.ensures.draws

pub returns-in_ok-refused-in-Err-TooLong-clause-means : goal.returns-in_ok-refused-in-Err-TooLong-clause-means
returns-in_ok-refused-in-Err-TooLong-clause-means g c =
    Means-too_long _ _ _ _ _ (omega arith) (c.in-Err-TooLong.ensures.too_long (cc c.in-Err-TooLong.field-0-is))
    (c.in_ok-refused-in-Err-TooLong.ensures.status, c.in_ok-refused-in-Err-TooLong.ensures.text)
