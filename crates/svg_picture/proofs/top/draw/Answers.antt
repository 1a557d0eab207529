use Rattle.std.proofs.Common.{inl}
use Rattle.svg_picture.proofs.Drawing.{Means-done}
use Rattle.svg_picture.proofs.top.draw.Goals as goal

pub returns-in-Ok-write_whole-clause-complete : goal.returns-in-Ok-write_whole-clause-complete
returns-in-Ok-write_whole-clause-complete g c = λ none is read wrote. inl (Means-done _ _ _ _ none is c.in-Ok.ensures.means)
