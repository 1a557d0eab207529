use Rattle.std.proofs.Common.{ℕ, List, length, All, Contains, sym, ap, subst, arith}
use Rattle.lmt_network.specs.Flags.{live_numbers}
use Rattle.lmt_network.specs.Network.{NetworkParts}
use Rattle.lmt_network.specs.Numbers.{AreClosed}
use Rattle.edge_marks.specs.Handles.{Belongs}
use Rattle.steal_workers.specs.Workers.{WorkerView, HasEnded}
use Rattle.steal_workers.proofs.Teams.{whole_back}
use Rattle.steal_workers.proofs.settling.settle_all.Goals as goal

pub plain_settle-requires-clause-none_lost : goal.plain_settle-requires-clause-none_lost
plain_settle-requires-clause-none_lost g c = subst (λ (n : NetworkParts). (es : List ℕ) → AreClosed n es → All (Contains (live_numbers c.close-flags.result)) es) c.in_ok-marks.ensures.marks.0 c.close-flags.ensures.closed

pub returns-clause-ended : goal.returns-clause-ended
returns-clause-ended g c = let new = c.run_all.new.team in let count = c.run_all.ensures.count in let lent = ap length c.as_mut_slice.ensures.value in let wide = c.in_ok-team.team.ok.0 in let m = c.in_ok-marks.marks in (
  m,
  record {
    net_is = c.in_ok-marks.ensures.marks.0;
    seats_are = c.in_ok-marks.ensures.marks.1;
    each = subst (All (λ (w : WorkerView). HasEnded w × Belongs m w.seat)) (sym (whole_back c.in_ok-team.team.len new _ (omega arith)))
        (λ k d low. (c.run_all.ensures.ended k d low, c.run_all.ensures.belongs k d low));
  },
)
