use Rattle.std.proofs.Common.{◌≡◌, ◌+◌, ◌*◌, ◌/◌, ◌<◌, ◌≤◌, pos, ◌+ℤ◌, ◌-ℤ◌, to_z, w64, nat_lt, slice_index, sym, ◌∙◌, ap, arith}
use Rattle.std.proofs.lemmas.Bool.{both_ways, cond-false, cond-true, false≢true, le-ltb, lt-ltb}
use Rattle.std.proofs.lemmas.Int.{ints}
use Rattle.face_optimum.specs.declared.face_prices.Amounts.{Amounts}
use Rattle.face_optimum.specs.Cuts.{weight_of}
use Rattle.face_optimum.specs.Seats.{first_point, last_point}
use Rattle.face_optimum.specs.Sites.{faces_of}
use Rattle.face_optimum.proofs.Pricing.{off_not_hull}
use Rattle.face_optimum.proofs.site.Site.amounts.Goals as goal

pub base-from-requires-clause-off : goal.base-from-requires-clause-off
base-from-requires-clause-off c = (c.requires.site.off_are.each c.args.e).0 c.if-self-e.true

pub returns-then-to-from-clause-amounts : goal.returns-then-to-from-clause-amounts
returns-then-to-from-clause-amounts c =
    let s = c.args.self.now in
    let n = s.net.now in
    let e = c.args.e in
    let e_in = c.requires.e_in in
    let a = c.without_anchors.result in
    let w : c.weight-weight.result ≡ weight_of n e = c.weight-weight.ensures.value in
    let bound = c.weight-weight.ensures.bound in
    let small = c.requires.small_costs e 0 (let one = c.requires.one_each in omega arith) in
    let off = (c.requires.site.off_are.each e).0 c.if-self-e.true in
    let u = first_point (faces_of s) s.edge_seats.now e in
    let v = last_point (faces_of s) s.edge_seats.now e in
    let up : u < v = let l = c.if-to-from.true in let x = c.base-from.ensures.from in let y = c.base-from.ensures.to in omega (arith, l, x, y) in
    let given = ap (λ (x : Amounts). x.value) c.without_anchors.ensures in
    let value : a.value ≡ pos (weight_of n e) -ℤ pos (slice_index c.args.costs.now e) = omega (arith, ints, given, w, bound, small) in
    record {
      part = λ o. record {
        value = value ∙ sym (cond-true (nat_lt u v) _ _ (lt-ltb u v up));
        left = ap (λ (x : Amounts). x.left) c.without_anchors.ensures;
        right = ap (λ (x : Amounts). x.right) c.without_anchors.ensures;
      };
      on_hull = λ hull. absurd (off_not_hull s c.requires.site e off hull);
      inner = λ has away. absurd (off.1.1 has);
    }

pub returns-else-to-from-clause-amounts : goal.returns-else-to-from-clause-amounts
returns-else-to-from-clause-amounts c =
    let s = c.args.self.now in
    let n = s.net.now in
    let e = c.args.e in
    let e_in = c.requires.e_in in
    let a = c.without_anchors-else-to-from.result in
    let small = c.requires.small_costs e 0 (let one = c.requires.one_each in omega arith) in
    let off = (c.requires.site.off_are.each e).0 c.if-self-e.true in
    let u = first_point (faces_of s) s.edge_seats.now e in
    let v = last_point (faces_of s) s.edge_seats.now e in
    let down : v ≤ u = let l = c.if-to-from.false in let x = c.base-from.ensures.from in let y = c.base-from.ensures.to in omega (arith, l, x, y) in
    let given = ap (λ (x : Amounts). x.value) c.without_anchors-else-to-from.ensures in
    let value : a.value ≡ pos (slice_index c.args.costs.now e) = omega (arith, ints, given, small) in
    record {
      part = λ o. record {
        value = value ∙ sym (cond-false (nat_lt u v) _ _ (le-ltb u v down));
        left = ap (λ (x : Amounts). x.left) c.without_anchors-else-to-from.ensures;
        right = ap (λ (x : Amounts). x.right) c.without_anchors-else-to-from.ensures;
      };
      on_hull = λ hull. absurd (off_not_hull s c.requires.site e off hull);
      inner = λ has away. absurd (off.1.1 has);
    }

pub returns-then-is_hull-clause-amounts : goal.returns-then-is_hull-clause-amounts
returns-then-is_hull-clause-amounts c =
    let s = c.args.self.now in
    let n = s.net.now in
    let e = c.args.e in
    let e_in = c.requires.e_in in
    let a = c.without_anchors-then-is_hull.result in
    let w : c.weight-weight.result ≡ weight_of n e = c.weight-weight.ensures.value in
    let bound = c.weight-weight.ensures.bound in
    let low = c.requires.small_root_costs (2 * e) 0 (let two = c.requires.two_each in omega arith) in
    let high = c.requires.small_root_costs (2 * e + 1) 0 (let two = c.requires.two_each in omega arith) in
    let given = ap (λ (x : Amounts). x.value) c.without_anchors-then-is_hull.ensures in
    let value : a.value ≡ pos (weight_of n e) +ℤ pos (slice_index c.args.root_costs.now (2 * e) + slice_index c.args.root_costs.now (2 * e + 1)) = omega (arith, ints, given, w, bound, low, high) in
    record {
      part = λ off. absurd (both_ways _ c.if-self-e.false ((c.requires.site.off_are.each e).1 off));
      on_hull = λ hull. record {
        value = value;
        left = ap (λ (x : Amounts). x.left) c.without_anchors-then-is_hull.ensures;
        right = ap (λ (x : Amounts). x.right) c.without_anchors-then-is_hull.ensures;
      };
      inner = λ has away. absurd (away (c.is_hull.ensures.0 c.if-is_hull.true));
    }

pub returns-else-is_hull-clause-amounts : goal.returns-else-is_hull-clause-amounts
returns-else-is_hull-clause-amounts c =
    let s = c.args.self.now in
    let n = s.net.now in
    let e = c.args.e in
    let e_in = c.requires.e_in in
    let w : c.weight-weight.result ≡ weight_of n e = c.weight-weight.ensures.value in
    let bound = c.weight-weight.ensures.bound in
    let low = c.requires.small_root_costs (2 * e) 0 (let two = c.requires.two_each in omega arith) in
    let high = c.requires.small_root_costs (2 * e + 1) 0 (let two = c.requires.two_each in omega arith) in
    let half : to_z w64 (c.weight-weight.result / 2) ≡ pos (weight_of n e / 2) = omega (arith, ints, w, bound) in
    record {
      part = λ off. absurd (both_ways _ c.if-self-e.false ((c.requires.site.off_are.each e).1 off));
      on_hull = λ hull. absurd (false≢true (sym c.if-is_hull.false ∙ c.is_hull.ensures.1 hull));
      inner = λ has away. record {
        value = half;
        left = omega (arith, ints, w, bound, low, half);
        right = omega (arith, ints, w, bound, high, half);
      };
    }
