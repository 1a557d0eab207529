use Rattle.std.proofs.Common.{◌≡◌, length, sym, subst, List, arith}
use Rattle.flip_finish.specs.Places.{IsAt}
use Rattle.flip_claims.specs.declared.view.Known.{Known}
use Rattle.flip_claims.specs.Handles.{Belongs, SeatView}
use Rattle.flip_claims.proofs.Joining.{IsJoinedTo, join_end, join_more}
use Rattle.flip_claims.proofs.Members.{All-at, IsAt-last}
use Rattle.flip_claims.proofs.team.join_all.Goals as goal

pub loop-other-preserved : goal.loop-other-preserved
loop-other-preserved c =
    let all = c.args.team.items in
    let front = c.pop.new.self.items in
    let seat = c.in-Some.other in
    let h = c.loop-other.invariant.joined in
    let is = c.in-Some.ensures.items in
    let here = h.prefix (length front) seat (subst (λ (l : List SeatView). IsAt l (length front) seat) (sym is) (IsAt-last front seat)) in
    let one = (All-at (λ (s : SeatView). Belongs c.args.claims.now s × (s.known.shares ≡ 1)) all (length front) seat c.requires.team here).1 in
    record {
      belongs = c.join.ensures.seat.1;
      joined = subst (λ (d : Known). IsJoinedTo all c.args.seat.now.known d front) (sym c.join.ensures.both)
          (join_more all c.args.seat.now.known c.loop-other.seat.known c.loop-other.team.items front seat is one h);
    }

pub returns-clause-gathers : goal.returns-clause-gathers
returns-clause-gathers c =
    let none = c.in_default.ensures.cases.0 in
    let count = c.loop-other.team.ok.0 in
    join_end c.args.team.items c.args.seat.now.known c.loop-other.seat.known c.loop-other.team.items (omega arith) c.loop-other.invariant.joined
