use Rattle.std.proofs.Common.{◌≡◌, length, refl, arith}
use Rattle.dual_checker.proofs.Ledgers.{number_in, shares_at, SharesUpto-more, AreShares-all}
use Rattle.dual_checker.proofs.ledger.all_shares.Goals as goal

pub weight-requires : goal.weight-requires
weight-requires c = number_in c.args.report.now c.args.net.now c.args.flags.now c.args.numbers.now c.loop-k.k c.requires (rw c.as_slice-line-items.ensures.is at c.loop-k-test.true)

pub is_hull-requires : goal.is_hull-requires
is_hull-requires c = number_in c.args.report.now c.args.net.now c.args.flags.now c.args.numbers.now c.loop-k.k c.requires (rw c.as_slice-line-items.ensures.is at c.loop-k-test.true)

pub index_mut-requires : goal.index_mut-requires
index_mut-requires c =
    let inside = number_in c.args.report.now c.args.net.now c.args.flags.now c.args.numbers.now c.loop-k.k c.requires (rw c.as_slice-line-items.ensures.is at c.loop-k-test.true) in
    let size : length c.loop-k.shares.items ≡ length c.args.net.now.edges = c.loop-k.invariant.one_each in
    omega (arith, inside, size, c.loop-k.shares.ok)

pub loop-k-preserved : goal.loop-k-preserved
loop-k-preserved c =
    let inside = rw c.as_slice-line-items.ensures.is at c.loop-k-test.true in
    SharesUpto-more c.args.report.now c.args.net.now c.args.numbers.now c.loop-k.shares.items c.loop-k.k _ c.line_shares.result c.loop-k.invariant refl
    (number_in c.args.report.now c.args.net.now c.args.flags.now c.args.numbers.now c.loop-k.k c.requires inside) c.line_shares.ensures.small
    (shares_at c.args.report.now c.args.net.now c.args.flags.now c.args.numbers.now c.loop-k.k c.weight.result c.is_hull.result c.line-item.result c.line_shares.result c.requires inside
    (rw c.as_slice-line-items.ensures.is at c.line-item.is) c.weight.ensures.value c.is_hull.ensures c.line_shares.ensures.is)

pub returns : goal.returns
returns c =
    AreShares-all c.args.report.now c.args.net.now c.args.flags.now c.args.numbers.now c.loop-k.shares.items c.loop-k.k c.requires
    (rw c.as_slice-line-items.ensures.is at c.loop-k-test.false) c.loop-k.invariant
