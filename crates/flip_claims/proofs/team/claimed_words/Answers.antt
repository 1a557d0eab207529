use Rattle.std.proofs.Common.{ℕ, ◌<◌, List, length, get_or, sym, ap, ◌∙◌, subst, arith}
use Rattle.flip_finish.specs.Mesh.{Parts}
use Rattle.flip_claims.specs.declared.view.Known.{Known}
use Rattle.flip_claims.specs.Handles.{SeatView}
use Rattle.flip_claims.specs.Rounds.{Gathers, HasClaimedStripe}
use Rattle.flip_claims.proofs.Gathering.{least_words}
use Rattle.flip_claims.proofs.Joining.{whole_back}
use Rattle.flip_claims.proofs.team.claimed_words.Goals as goal

pub returns : goal.returns
returns g c =
    let opened = c.in_ok-claims.ensures in
    let team = c.claim_all.new.team in
    let made = c.in_ok-team.ensures in
    let lent = ap length c.as_mut_slice.ensures.value in
    let count = c.claim_all.ensures.count in
    let capacity = c.in_ok-team.team.ok.0 in
    let wide = made.count in
    let many = lent ∙ wide in
    let gathers = subst (λ (l : List SeatView). Gathers c.recruits.new.seat.known l c.join_all.new.seat.known) (whole_back c.in_ok-team.team.len team _ (omega arith)) c.join_all.ensures.gathers in
    let first = ap (λ (d : Known). d.shares) opened.2 in
    let given = made.shares in
    let sum = gathers.shares in
    least_words c.args.mesh.now c.args.slots.now c.close.result c.args.workers c.recruits.new.seat.known c.join_all.new.seat.known team c.requires.some (omega arith)
    (made.claimed ∙ ap (λ (d : Known). d.claimed) opened.2) gathers
    (λ k v low. subst (λ (n : ℕ). HasClaimedStripe c.args.mesh.now c.args.slots.now n k (get_or team k v).known.claimed) many (c.claim_all.ensures.claimed k v low))
    (c.close.ensures.one_each ∙ ap (λ (m : Parts). length m.tris) opened.0)
    c.close.ensures.claimed
    (λ t low. c.close.ensures.whole (omega arith) t (subst (λ (m : Parts). t < length m.tris) (sym opened.0) low))
