use Rattle.mwt_tool.proofs.Checked.{Solves-valid}
use Rattle.mwt_tool.proofs.Meaning.{Intends-valid}
use Rattle.mwt_tool.proofs.laws.round_trip_law.Goals as goal

pub returns : goal.returns
returns c = λ settings input report said words status solves asked means. Intends-valid words report status said asked (Solves-valid settings input report solves) means
