-- What the answers say of the mark that was found.
use Rattle.std.proofs.Common.{◌≡◌, ℕ, zero, suc, ◌<◌, refl, arith}
use Rattle.ticket_marks.specs.declared.answer.Rank.TheVariants.{Live, Killed}
use Rattle.ticket_marks.specs.Answers.{rank_of}

pub rank_killed : (x m : ℕ) → rank_of x ≡ Killed m → 0 < x
rank_killed zero m h = absurd (cc)
rank_killed (suc x) m h = omega arith

pub rank_live : (x : ℕ) → rank_of x ≡ Live → x ≡ 0
rank_live zero h = refl
rank_live (suc x) h = absurd (cc)
