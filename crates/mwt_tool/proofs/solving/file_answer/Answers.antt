use Rattle.std.proofs.Common.{refl}
use Rattle.mwt_tool.specs.Solves.{tells}
use Rattle.mwt_tool.proofs.solving.file_answer.Goals as goal

pub returns-in-Ok-clause-answers : goal.returns-in-Ok-clause-answers
returns-in-Ok-clause-answers g c = tells c.in-Ok.ensures.within refl c.in-Ok.ensures.tells
