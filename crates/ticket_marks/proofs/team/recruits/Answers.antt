use Rattle.std.proofs.Common.{◌≡◌, ◌-◌, length, All, ap, sym, subst, arith}
use Rattle.std.proofs.lemmas.List.{length_push}
use Rattle.std.proofs.lemmas.List.Elements.{All-push}
use Rattle.ticket_marks.specs.declared.view.Known.{Known}
use Rattle.ticket_marks.specs.declared.team.Ranker.{Ranker}
use Rattle.ticket_marks.specs.Handles.{Belongs}
use Rattle.ticket_marks.proofs.team.recruits.Goals as goal

pub loop-number-preserved : goal.loop-number-preserved
loop-number-preserved c =
    let i = c.loop-number.invariant in
    let count = i.count in
    let splits = i.splits in
    let made = c.split-own.ensures in
    let less : c.split-own.new.seat.known.splits ≡ c.loop-number.seat.known.splits - 1 = ap (λ (d : Known). d.splits) made.old in
    let enough = c.requires.splits in
    let test = c.loop-number-test.true in
    let ranker : Ranker = record { number = c.loop-number.number; seat = c.split-own.result } in
    let items = c.in_ok-push.ensures.items in
    let wide = ap length items in
    let more = length_push c.loop-number.team.items ranker in
    record {
      count = omega arith;
      splits = omega arith;
      belongs = made.seat.1;
      each = subst (All (λ (r : Ranker). Belongs c.args.marks.now r.seat)) (sym items) (All-push (λ (r : Ranker). Belongs c.args.marks.now r.seat) c.loop-number.team.items ranker i.each made.new.0);
    }
