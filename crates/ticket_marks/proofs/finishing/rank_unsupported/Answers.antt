use Rattle.std.proofs.Common.{◌≡◌, ℕ, length, ap, ◌∙◌, arith}
use Rattle.lmt_network.proofs.Passes.{in_turn, turn_of}
use Rattle.ticket_marks.proofs.Ranking.{pass_begins, pass_goes_on, pass_ends}
use Rattle.ticket_marks.proofs.finishing.rank_unsupported.Goals as goal

pub loop-k-init : goal.loop-k-init
loop-k-init c = pass_begins c.args.net.now c.args.ranks.now c.args.last c.args.downwards c.requires.ranks

pub rank_one-now-requires-clause-e_in : goal.rank_one-now-requires-clause-e_in
rank_one-now-requires-clause-e_in c =
    let n = c.args.net.now in
    let down = c.args.downwards in
    let k = c.loop-k.k in
    let count = c.edges-k-end.ensures.value in
    let turn : c.in_turn.result ≡ in_turn (length n.edges) k down = c.in_turn.ensures ∙ ap (λ (count : ℕ). in_turn count k down) c.edges.ensures.value in
    let low = c.loop-k-test.true in
    let t = (turn_of (length n.edges) k down (omega arith)).0 in
    omega arith

pub rank_one-now-requires-clause-few : goal.rank_one-now-requires-clause-few
rank_one-now-requires-clause-few c = let few = c.edges.ensures.valid.few_edges in omega arith

pub loop-k-preserved : goal.loop-k-preserved
loop-k-preserved c =
    let n = c.args.net.now in
    let down = c.args.downwards in
    let k = c.loop-k.k in
    let turn : c.in_turn.result ≡ in_turn (length n.edges) k down = c.in_turn.ensures ∙ ap (λ (count : ℕ). in_turn count k down) c.edges.ensures.value in
    let one = c.rank_one-now.ensures in
    pass_goes_on n c.args.ranks.now c.loop-k.ranks c.rank_one-now.new.ranks c.args.last c.loop-k.now c.rank_one-now.result down k c.in_turn.result c.loop-k.invariant turn
    one.ranks one.stand one.grows one.fewer one.same one.judged

pub returns-clause-closed : goal.returns-clause-closed
returns-clause-closed c is =
    let count = c.edges-k-end.ensures.value in
    let end = c.loop-k-test.false in
    pass_ends c.args.net.now c.args.ranks.now c.loop-k.ranks c.args.last c.loop-k.now c.args.downwards c.loop-k.k c.loop-k.invariant (omega arith) is
