use Rattle.std.proofs.Common.{ap, sym, ◌∙◌, arith}
use Rattle.std.proofs.lemmas.Bool.{false≢true}
use Rattle.std.proofs.lemmas.Int.{ints}
use Rattle.price_ascent.specs.declared.entry.PriceEntry.{PriceEntry}
use Rattle.price_ascent.proofs.AnchorSums.{anchors_off, anchors_on}
use Rattle.price_ascent.proofs.Lowering.{inner_off}
use Rattle.price_ascent.proofs.Narrow.{limits}
use Rattle.price_ascent.proofs.RaisingHull.{hull_on}
use Rattle.price_ascent.proofs.prices.Prices.anchors.Goals as goal

pub returns-then-is_hull : goal.returns-then-is_hull
returns-then-is_hull c =
    let hull = c.is_hull.ensures.0 c.if-is_hull.true in
    let is = anchors_on c.args.net.now c.args.self.now c.args.e (hull_on c.args.net.now c.args.e hull) in
    let kept = ap (λ (p : PriceEntry). p.value) c.at-kept.ensures in
    let from = c.from.ensures in
    let y = (c.requires.entries.each c.args.e c.requires.e_in).anchor hull in
    let y0 = y.0 in
    let y1 = y.1 in
    record {
      value = omega (arith, ints, is, kept, from, y0, y1);
      low = omega (arith, ints, kept, from, y0, y1);
      high = omega (arith, ints, kept, from, y0, y1);
      of_ascent = λ b.
          let z = (limits c.args.net.now c.args.self.now c.args.e b c.requires.e_in).anchor hull in
          let z0 = z.0 in
          let z1 = z.1 in
          (omega (arith, ints, kept, from, z0, z1), omega (arith, ints, kept, from, z0, z1));
    }

pub returns-else-is_hull : goal.returns-else-is_hull
returns-else-is_hull c =
    let h = c.requires.entries.each c.args.e c.requires.e_in in
    let off = inner_off c.args.net.now c.args.e (λ hull. false≢true (sym c.if-is_hull.false ∙ c.is_hull.ensures.1 hull)) in
    let is = anchors_off c.args.net.now c.args.self.now c.args.e off in
    let left = ap (λ (p : PriceEntry). p.left) c.at-kept.ensures in
    let right = ap (λ (p : PriceEntry). p.right) c.at-kept.ensures in
    let l0 = h.left.0 in
    let l1 = h.left.1 in
    let r0 = h.right.0 in
    let r1 = h.right.1 in
    let from = c.from-else-is_hull.ensures in
    let from_right = c.from-else-is_hull-2.ensures in
    record {
      value = omega (arith, ints, is, left, right, l0, l1, r0, r1, from, from_right);
      low = omega (arith, ints, left, right, l0, l1, r0, r1, from, from_right);
      high = omega (arith, ints, left, right, l0, l1, r0, r1, from, from_right);
      of_ascent = λ b.
          let z = limits c.args.net.now c.args.self.now c.args.e b c.requires.e_in in
          let x1 = z.left.1 in
          let y1 = z.right.1 in
          (omega (arith, ints, left, right, l0, l1, r0, r1, from, from_right), omega (arith, ints, left, right, l0, x1, r0, y1, from, from_right));
    }
