-- One edge of the skeleton after the other is taken away.
use Rattle.std.proofs.Common.{◌≡◌, ◌<◌, length, sym, ◌∙◌, ap, subst, arith}
use Rattle.std.proofs.lemmas.List.{get_or_default}
use Rattle.exact_predicates.specs.declared.edge.Edge.{Edge}
use Rattle.lmt_network.specs.Numbers.{IsNumberOf}
use Rattle.skeleton_faces.specs.Marks.{nth_edge}
use Rattle.face_optimum.proofs.OffSkeleton.{has_number, off_end, off_more, off_start}
use Rattle.face_optimum.proofs.off.off_skeleton.Goals as goal

pub number-requires : goal.number-requires
number-requires c =
    let es = c.args.skeleton.now in
    let k = c.loop-edge.edge-index in
    let k_in : k < length es = omega (arith, c.loop-edge-test.true, ap length c.as_slice-edge-items.ensures.is) in
    let is : nth_edge es k ≡ c.edge-item.result = get_or_default es k _ c.edge-item.result k_in ∙ sym (rw c.as_slice-edge-items.ensures.is at c.edge-item.is) in
    has_number c.args.net.now c.args.flags.now es k c.edge-item.result c.in_ok-off.ensures.valid c.requires.one_each c.requires.live k_in is

pub loop-edge-init : goal.loop-edge-init
loop-edge-init c = rw c.in_ok-off.ensures.live (off_start c.args.net.now c.args.flags.now c.args.skeleton.now c.requires.one_each)

pub loop-edge-preserved : goal.loop-edge-preserved
loop-edge-preserved c =
    let es = c.args.skeleton.now in
    let k = c.loop-edge.edge-index in
    let k_in : k < length es = omega (arith, c.loop-edge-test.true, ap length c.as_slice-edge-items.ensures.is) in
    let is : nth_edge es k ≡ c.edge-item.result = get_or_default es k _ c.edge-item.result k_in ∙ sym (rw c.as_slice-edge-items.ensures.is at c.edge-item.is) in
    off_more c.args.net.now c.args.flags.now es k c.loop-edge.off.items c.number.result c.in_ok-off.ensures.valid.ascending c.loop-edge.invariant
    (subst (λ (x : Edge). IsNumberOf c.args.net.now x.a x.b c.number.result) (sym is) c.number.ensures)

pub returns-clause-off : goal.returns-clause-off
returns-clause-off c =
    let same = ap length c.as_slice-edge-items.ensures.is in
    off_end c.args.net.now c.args.flags.now c.args.skeleton.now c.loop-edge.edge-index c.loop-edge.off.items c.in_ok-off.ensures.valid c.requires.one_each
    (omega (arith, c.loop-edge-test.false, same)) (omega (arith, c.loop-edge.auto.edge-index-end, same)) c.loop-edge.invariant
