use Rattle.std.proofs.Common.{◌≡◌, Bool, List, length, take, drop, ◌++◌, ap, sym, ◌∙◌, subst, arith}
use Rattle.std.proofs.lemmas.List.{take_at}
use Rattle.lmt_network.specs.Flags.{live_numbers, live_edges}
use Rattle.lmt_network.specs.Live.{IsLive}
use Rattle.lmt_network.specs.Numbers.{AreLive}
use Rattle.lmt_network.proofs.NumberLaws.{live_if_closed}
use Rattle.lmt_network.proofs.Naming.{live_numbers_law}
use Rattle.lmt_network.proofs.Passes.{NoneLost}
use Rattle.lmt_network.proofs.settle.plain_settle.Goals as goal

pub settle-requires-clause-none_lost : goal.settle-requires-clause-none_lost
settle-requires-clause-none_lost c = subst (NoneLost c.args.net.now) (sym (c.deref_mut.ensures.value ∙ c.flags.view_is)) c.requires.none_lost

pub returns-clause-live : goal.returns-clause-live
returns-clause-live c =
    let now = c.settle.new.live in
    let same : take c.flags.inside.live.len (now ++ drop (length now) c.flags.inside.live.items) ≡ now = take_at now _ _ (omega arith) in
    subst (λ (fs : List Bool). AreLive c.args.net.now (live_numbers fs)) (sym same)
    (live_if_closed c.args.net.now (live_numbers now) c.settle.ensures.closed c.settle.ensures.none_lost)

pub returns-clause-live_edges : goal.returns-clause-live_edges
returns-clause-live_edges c = λ diamond candidates.
    let n = c.args.net.now in
    let now = c.settle.new.live in
    let same : take c.flags.inside.live.len (now ++ drop (length now) c.flags.inside.live.items) ≡ now = take_at now _ _ (omega arith) in
    subst (λ (fs : List Bool). IsLive n.points n.hull diamond (live_edges n fs)) (sym same)
    (live_numbers_law n diamond now c.settle.ensures.valid candidates (omega (arith, ap (length {A = Bool}) c.flags.view_is))
    (live_if_closed n (live_numbers now) c.settle.ensures.closed c.settle.ensures.none_lost))
