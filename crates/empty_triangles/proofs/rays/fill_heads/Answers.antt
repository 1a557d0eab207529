use Rattle.std.proofs.Common.{refl, arith}
use Rattle.empty_triangles.proofs.Heads.{AreHeadsTo-push, AreHeadsTo-skip, AreHeads-reverse}
use Rattle.empty_triangles.proofs.rays.fill_heads.Goals as goal
use Rattle.empty_triangles.proofs.rays.fill_heads.Goals.{then-begins_ray+in_ok-push, else-begins_ray}

pub loop-k-preserved : goal.loop-k-preserved
loop-k-preserved c =
    elim c.if-begins_ray.branch [
      | then-begins_ray+in_ok-push w ↦
          rw (w.heads-is, w.in_ok-push.ensures.items)
          (AreHeadsTo-push _ _ _ c.requires.points c.requires.a_in c.requires.order c.loop-k.k _ c.loop-k-test.true (w.if-begins_ray.ensures.0 refl) c.loop-k.invariant)
      | else-begins_ray w ↦
          rw w.heads-is
          (AreHeadsTo-skip _ _ _ c.requires.points c.requires.a_in c.requires.order c.loop-k.k _ c.loop-k-test.true (λ h. let begins = w.if-begins_ray.ensures.1 h in cc) c.loop-k.invariant)
    ]

pub returns : goal.returns
returns c = rw c.reverse.ensures.items (AreHeads-reverse _ _ _ c.requires.points c.requires.a_in c.requires.order c.loop-k.k _ (omega arith) (omega arith) c.loop-k.invariant)
