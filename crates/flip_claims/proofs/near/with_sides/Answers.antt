use Rattle.std.proofs.Common.{ℕ, ◌+◌, ◌↔◌, List, get_or, Contains, sym, subst, arith}
use Rattle.flip_finish.specs.Winners.{HasTriangle}
use Rattle.flip_claims.proofs.Members.{stands_at}
use Rattle.flip_claims.proofs.Nearing.{AreAroundTo, around_end, around_more}
use Rattle.flip_claims.proofs.near.with_sides.Goals as goal

pub loop-t-preserved : goal.loop-t-preserved
loop-t-preserved c =
    let m = c.args.mesh.now in
    let triangles = c.args.triangles.now in
    let k = c.loop-t.t-index in
    let t = get_or triangles k 0 in
    let sides = c.as_slice.result.now in
    subst (λ (x : List ℕ). AreAroundTo m c.args.slots.now triangles x (k + 1)) (sym c.in_ok-extend_from_slice.ensures.items)
    (around_more m c.args.slots.now triangles c.loop-t.near.items sides k t c.loop-t.invariant (stands_at triangles k c.loop-t-test.true)
    (subst (λ (x : List ℕ). (p : ℕ) → Contains x p ↔ HasTriangle m p t) (sym c.as_slice.ensures) c.sides-sides.ensures))

pub returns : goal.returns
returns c = around_end c.args.mesh.now c.args.slots.now c.args.triangles.now c.loop-t.near.items c.loop-t.t-index (let past = c.loop-t-test.false in omega arith) c.loop-t.invariant
