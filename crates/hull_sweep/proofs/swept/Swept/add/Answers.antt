-- The sweep with one point more.
use Rattle.std.proofs.Common.{length}
use Rattle.exact_predicates.proofs.Numbers.{IsOrdered-points}
use Rattle.exact_predicates.specs.PointSet.{point_at}
use Rattle.hull_sweep.proofs.Sweeps.{IsSwept-step}
use Rattle.hull_sweep.proofs.swept.Swept.add.Goals as goal

pub returns : goal.returns
returns c =
    let ps = c.args.points.now.points in
    let ordered = IsOrdered-points ps c.requires.points in
    let swept = c.requires.swept in
    let low = rw c.deref.ensures.value at c.in_ok-low.ensures.joined in
    let high = rw c.deref-2.ensures.value at c.in_ok-high.ensures.joined in
    rw (c.in_ok-push.ensures.items, c.truncate.ensures.items, c.in_ok-push-2.ensures.items, c.truncate-2.ensures.items, high.grows, low.grows)
    (IsSwept-step {P = point_at ps} {n = length ps} {ts = c.args.self.now.tris.items} (record {
      swept = swept;
      low = record {
        ahead = record { ordered = ordered; q_in = c.requires.q_in; chain = swept.low };
        newest = swept.low_newest;
        join = low.join;
        hidden = rw c.deref.ensures.value at c.in_ok-low.ensures.hidden;
      };
      high = record {
        ahead = record { ordered = ordered; q_in = c.requires.q_in; chain = swept.high };
        newest = swept.high_newest;
        join = high.join;
        hidden = rw c.deref-2.ensures.value at c.in_ok-high.ensures.hidden;
      };
    }))
