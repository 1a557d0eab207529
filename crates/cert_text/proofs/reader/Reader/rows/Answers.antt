use Rattle.std.proofs.Common.{None, refl, arith}
use Rattle.std.proofs.lemmas.Result.{err_from_is_err_and}
use Rattle.cert_text.specs.Places.{place}
use Rattle.cert_text.proofs.Loops.{goes_on, ends, is_done, begins}
use Rattle.cert_text.proofs.reader.Reader.rows.Goals as goal

pub returns-in_err-row-clause-read : goal.returns-in_err-row-clause-read
returns-in_err-row-clause-read g c =
    let p = err_from_is_err_and c.from_residual.result c.from_residual.ensures.1 in
    rw (p.1, p.2) (ends (g.R.Row.says c.args.limits) g.R.Row.may_follow c.in_err-row.field-0.0 c.loop.rows.items c.loop.last c.args.count c.loop.counter (place c.loop.self) _
    c.loop-test.true c.in_err-row.ensures c.loop.invariant.so_far)

pub loop-init : goal.loop-init
loop-init g c = record {
  so_far = rw c.new-rows.ensures.items (begins (g.R.Row.says c.args.limits) g.R.Row.may_follow None c.args.count (place c.args.self.now));
  count = rw c.new-rows.ensures.items refl;
}

pub loop-preserved : goal.loop-preserved
loop-preserved g c = record {
  so_far = rw c.in_ok-push.ensures.items (goes_on (g.R.Row.says c.args.limits) g.R.Row.may_follow c.loop.rows.items c.loop.last c.args.count c.loop.counter (place c.loop.self) _ c.in_ok-row.row _
      c.loop-test.true c.in_ok-row.ensures c.loop.invariant.so_far);
  count = omega (arith, c.in_ok-push.ensures.len, c.loop.invariant.count);
}

pub returns-clause-read : goal.returns-clause-read
returns-clause-read g c = is_done (g.R.Row.says c.args.limits) g.R.Row.may_follow c.loop.rows.items c.loop.last c.args.count c.loop.counter (place c.loop.self) _ c.loop-test.false c.loop.invariant.so_far
