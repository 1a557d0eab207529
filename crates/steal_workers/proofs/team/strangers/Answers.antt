use Rattle.std.proofs.Common.{◌≡◌, ◌-◌, [], ◌∷◌, length, length-append, refl, sym, ap, ◌∙◌, subst, arith}
use Rattle.edge_marks.specs.declared.view.Known.{Known}
use Rattle.edge_marks.proofs.Remembering.{remembers_on}
use Rattle.steal_workers.specs.Workers.{IsRecruit, AreTeam}
use Rattle.steal_workers.proofs.Teams.{team_more}
use Rattle.steal_workers.proofs.team.strangers.Goals as goal

pub loop-number-preserved : goal.loop-number-preserved
loop-number-preserved c = let i = c.loop-number.invariant in let i₀ = i.0 in let i₁ = i.1 in let team = c.loop-number.team.items in let w = c.in_ok-of.field-0 in let made = c.split-own.ensures in
    let items = c.in_ok-push.ensures.items in let wide = ap length items in let more = length-append team (w ∷ []) in
    let less : c.split-own.new.seat.known.splits ≡ c.loop-number.seat.known.splits - 1 = ap (λ (d : Known). d.splits) made.old in let enough = c.requires.splits in let test = c.loop-number-test.true in
    let recruit : IsRecruit c.args.marks.now (length team) w = subst (IsRecruit c.args.marks.now (length team)) (sym c.in_ok-of.ensures)
    record { number = sym i₀; belongs = made.new.0; blank = ap (λ (d : Known). d.steps) made.new.1; untried = ap (λ (d : Known). d.tried) made.new.1; unrun = refl; none_stolen = refl } in (
      omega arith,
      omega arith,
      (made.seat.0.0 ∙ i.2.0, made.seat.0.1 ∙ i.2.1),
      made.seat.1,
      remembers_on _ _ _ i.4 made.kept,
      subst (AreTeam c.args.marks.now) (sym items) (team_more c.args.marks.now team w i.5 recruit),
    )
