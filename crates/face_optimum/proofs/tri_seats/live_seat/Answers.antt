-- Of a triangle that is not live nothing is asked.
use Rattle.std.proofs.Common.{sym, ◌∙◌}
use Rattle.std.proofs.lemmas.Bool.{false≢true}
use Rattle.face_optimum.proofs.tri_seats.live_seat.Goals as goal

pub returns-then-not-is_live-clause-is : goal.returns-then-not-is_live-clause-is
returns-then-not-is_live-clause-is c = λ live. absurd (false≢true (sym c.if-not-is_live.true ∙ c.is_live.ensures.1 live))

pub returns-then-not-is_live-clause-only : goal.returns-then-not-is_live-clause-only
returns-then-not-is_live-clause-only c = λ live s linked. absurd (false≢true (sym c.if-not-is_live.true ∙ c.is_live.ensures.1 live))

pub returns-then-not-is_live-clause-live : goal.returns-then-not-is_live-clause-live
returns-then-not-is_live-clause-live c = λ h. absurd (cc)

pub returns-clause-live : goal.returns-clause-live
returns-clause-live c = λ _. c.is_live.ensures.0 c.if-not-is_live.false
