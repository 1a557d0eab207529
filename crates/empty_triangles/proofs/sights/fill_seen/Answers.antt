use Rattle.std.proofs.Common.{◌≡◌, ◌+◌, ◌-◌, refl, arith}
use Rattle.empty_triangles.proofs.Passes.{AreSeenFrom-push, AreSeenFrom-skip}
use Rattle.empty_triangles.proofs.sights.fill_seen.Goals as goal

pub loop-i-preserved-then-is_seen_after : goal.loop-i-preserved-then-is_seen_after
loop-i-preserved-then-is_seen_after c =
    let k = c.loop-i.i - 1 in
    let next : c.loop-i.i ≡ k + 1 = omega arith in
    let h = rw next at c.loop-i.invariant in
    rw c.in_ok-push.ensures.items (AreSeenFrom-push _ _ _ c.requires.heads c.args.j c.requires.j_in k c.loop-i.last _ (omega arith) (c.if-is_seen_after.ensures.0 refl) h)

pub loop-i-preserved : goal.loop-i-preserved
loop-i-preserved c =
    let k = c.loop-i.i - 1 in
    let next : c.loop-i.i ≡ k + 1 = omega arith in
    let h = rw next at c.loop-i.invariant in
    AreSeenFrom-skip _ _ _ c.requires.heads c.args.j c.requires.j_in k c.loop-i.last _ (omega arith) (λ l. let ahead = c.if-is_seen_after.ensures.1 l in cc) h
