use Rattle.std.proofs.Common.{inl}
use Rattle.mwt_tool.proofs.Meaning.{Means-done}
use Rattle.mwt_tool.proofs.top.run.Goals as goal

pub returns-in-Ok-write_whole-clause-complete : goal.returns-in-Ok-write_whole-clause-complete
returns-in-Ok-write_whole-clause-complete g c = λ has read wrote. inl (Means-done _ _ _ _ has c.in-Ok.ensures.means)
