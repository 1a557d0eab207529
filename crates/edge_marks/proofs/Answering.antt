-- What the answers say of the bit that was found.
use Rattle.std.proofs.Common.{◌≡◌, ◌≢◌, ℕ, zero, suc, ◌<◌, refl, arith}
use Rattle.edge_marks.specs.declared.answer.Look.TheVariants.{Live, Killed}
use Rattle.edge_marks.specs.Answers.{look_of}

pub look_killed : (b : ℕ) → look_of b ≡ Killed → 0 < b
look_killed zero h = absurd (cc)
look_killed (suc b) h = omega arith

pub look_live : (b : ℕ) → look_of b ≡ Live → b ≡ 0
look_live zero h = refl
look_live (suc b) h = absurd (cc)

pub look_not_killed : (b : ℕ) → look_of b ≢ Killed → b ≡ 0
look_not_killed zero h = refl
look_not_killed (suc b) h = absurd (h refl)

pub killed_look : (b : ℕ) → 0 < b → look_of b ≡ Killed
killed_look zero h = absurd (omega arith)
killed_look (suc b) h = refl
