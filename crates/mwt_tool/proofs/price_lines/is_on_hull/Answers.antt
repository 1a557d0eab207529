use Rattle.std.proofs.lemmas.Bool.Decides.{same_from_decides}
use Rattle.lmt_network.proofs.Entries.{is_on_hull_decides}
use Rattle.mwt_tool.proofs.price_lines.is_on_hull.Goals as goal

pub returns : goal.returns
returns c = same_from_decides _ _ c.is_hull.ensures (is_on_hull_decides _ _ _)
