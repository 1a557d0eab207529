use Rattle.std.proofs.Common.{◌<◌, ◌≤◌, arith}
use Rattle.std.proofs.lemmas.Bool.Decides.{nat_tests}
use Rattle.exact_predicates.specs.Plane.{d2}
use Rattle.exact_predicates.proofs.Corners.{IsBare-corners}
use Rattle.lmt_network.proofs.MinimalPairs.{short_minimal, long_minimal, side_left, side_right}
use Rattle.lmt_network.proofs.network.Network.minimal_pair.Goals as goal

pub point-a-requires : goal.point-a-requires
point-a-requires c =
    let side = side_left c.args.self.now c.args.e c.args.l c.edge-edge.result c.tri.result c.edge-edge.ensures.value c.tri.ensures.value c.requires.on_left.1 in
    (IsBare-corners c.args.self.now.points c.tri.result _ _ c.apex.result (c.apex.ensures _ side) c.tri.ensures.empty.empty).w_in

pub point-b-requires : goal.point-b-requires
point-b-requires c =
    let side = side_right c.args.self.now c.args.e c.args.r c.edge-edge.result c.tri-2.result c.edge-edge.ensures.value c.tri-2.ensures.value c.requires.on_right.1 in
    (IsBare-corners c.args.self.now.points c.tri-2.result _ _ c.apex-2.result (c.apex-2.ensures _ side) c.tri-2.ensures.empty.empty).w_in

pub strictly_convex-requires-clause-a_left : goal.strictly_convex-requires-clause-a_left
strictly_convex-requires-clause-a_left c =
    let side = side_left c.args.self.now c.args.e c.args.l c.edge-edge.result c.tri.result c.edge-edge.ensures.value c.tri.ensures.value c.requires.on_left.1 in
    rw (c.point-u.ensures.value, c.point-v.ensures.value, c.point-a.ensures.value)
    (IsBare-corners c.args.self.now.points c.tri.result _ _ c.apex.result (c.apex.ensures _ side) c.tri.ensures.empty.empty).turns_left

pub strictly_convex-requires-clause-b_right : goal.strictly_convex-requires-clause-b_right
strictly_convex-requires-clause-b_right c =
    let side = side_right c.args.self.now c.args.e c.args.r c.edge-edge.result c.tri-2.result c.edge-edge.ensures.value c.tri-2.ensures.value c.requires.on_right.1 in
    rw (c.point-u.ensures.value, c.point-v.ensures.value, c.point-b.ensures.value)
    (IsBare-corners c.args.self.now.points c.tri-2.result _ _ c.apex-2.result (c.apex-2.ensures _ side) c.tri-2.ensures.empty.empty).turns_left

pub returns-then-d2 : goal.returns-then-d2
returns-then-d2 c =
    let left = side_left c.args.self.now c.args.e c.args.l c.edge-edge.result c.tri.result c.edge-edge.ensures.value c.tri.ensures.value c.requires.on_left.1 in
    let right = side_right c.args.self.now c.args.e c.args.r c.edge-edge.result c.tri-2.result c.edge-edge.ensures.value c.tri-2.ensures.value c.requires.on_right.1 in
    let low : d2 c.point-u.result.now c.point-v.result.now ≤ d2 c.point-a.result.now c.point-b.result.now = let short = c.if-d2.true in let one = c.d2.ensures.value in let other = c.d2-2.ensures.value in omega arith in (
      λ _. short_minimal c.args.self.now c.args.e c.args.l c.args.r c.edge-edge.result c.tri.result c.tri-2.result c.apex.result c.apex-2.result
          c.point-u.result.now c.point-v.result.now c.point-a.result.now c.point-b.result.now
          (record { edge_is = c.edge-edge.ensures.value; left_is = c.tri.ensures.value; right_is = c.tri-2.ensures.value; l_in = c.requires.on_left.0; r_in = c.requires.on_right.0; a_is = c.apex.ensures _ left; b_is = c.apex-2.ensures _ right })
          (record { p_is = c.point-u.ensures.value; q_is = c.point-v.ensures.value; x_is = c.point-a.ensures.value; y_is = c.point-b.ensures.value }) low,
      λ _. grind (arith, nat_tests),
    )

pub returns-else-d2 : goal.returns-else-d2
returns-else-d2 c =
    let left = side_left c.args.self.now c.args.e c.args.l c.edge-edge.result c.tri.result c.edge-edge.ensures.value c.tri.ensures.value c.requires.on_left.1 in
    let right = side_right c.args.self.now c.args.e c.args.r c.edge-edge.result c.tri-2.result c.edge-edge.ensures.value c.tri-2.ensures.value c.requires.on_right.1 in
    let long : d2 c.point-a.result.now c.point-b.result.now < d2 c.point-u.result.now c.point-v.result.now = let longer = c.if-d2.false in let one = c.d2.ensures.value in let other = c.d2-2.ensures.value in omega arith in
    long_minimal c.args.self.now c.args.e c.args.l c.args.r c.edge-edge.result c.tri.result c.tri-2.result c.apex.result c.apex-2.result
    c.point-u.result.now c.point-v.result.now c.point-a.result.now c.point-b.result.now c.strictly_convex.result
    (record { edge_is = c.edge-edge.ensures.value; left_is = c.tri.ensures.value; right_is = c.tri-2.ensures.value; l_in = c.requires.on_left.0; r_in = c.requires.on_right.0; a_is = c.apex.ensures _ left; b_is = c.apex-2.ensures _ right })
    (record { p_is = c.point-u.ensures.value; q_is = c.point-v.ensures.value; x_is = c.point-a.ensures.value; y_is = c.point-b.ensures.value })
    c.strictly_convex.ensures long
