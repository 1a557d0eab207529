use Rattle.mwt_tool.proofs.KilledRows.{kill_text_grown}
use Rattle.mwt_tool.proofs.kills.kill_text.Goals as goal

pub returns-clause-text : goal.returns-clause-text
returns-clause-text c =
    kill_text_grown c.args.net.now c.args.ranks.now _ _ _ _ _ _ c.edges.result c.killed.result c.edges.ensures.value c.killed.ensures c.new-text.ensures.items
    c.in_ok-extend_from_slice.ensures.items c.in_ok-write_count.ensures c.in_ok-write_count-2.ensures c.in_ok-write_kills.ensures
    c.in_ok-extend_from_slice-2.ensures.items
