use Rattle.std.proofs.Common.{ℕ, ◌+◌, ◌++◌, ◌∷◌, [], List, get_or, sym, ap, ◌∙◌, subst, arith}
use Rattle.flip_claims.proofs.Members.{stands_at}
use Rattle.flip_claims.proofs.Nearing.{AreTrianglesTo, triangles_more}
use Rattle.flip_claims.proofs.Triangles.{lacks_none}
use Rattle.flip_claims.proofs.near.triangles_of.Goals as goal

pub pair-requires : goal.pair-requires
pair-requires c = let (t, u, pair) = c.requires c.loop-slot.slot-index 0 c.loop-slot-test.true in pair.it_at.inside

pub unreachable-requires : goal.unreachable-requires
unreachable-requires c = let (t, u, pair) = c.requires c.loop-slot.slot-index 0 c.loop-slot-test.true in lacks_none c.args.mesh.now _ t u pair c.in_default.ensures.pair

pub loop-slot-preserved : goal.loop-slot-preserved
loop-slot-preserved c =
    let slots = c.args.slots.now in
    let k = c.loop-slot.slot-index in
    let l = c.in-Some.left in
    let r = c.in-Some.right in
    subst (λ (x : List ℕ). AreTrianglesTo c.args.mesh.now slots x (k + 1)) (sym (c.in_ok-push-2.ensures.items ∙ ap (λ (x : List ℕ). x ++ r ∷ []) c.in_ok-push.ensures.items))
    (triangles_more c.args.mesh.now slots c.loop-slot.triangles.items k (get_or slots k 0) l r c.loop-slot.invariant (stands_at slots k c.loop-slot-test.true) c.in-Some.ensures.pair c.in-Some.ensures.below.0 c.in-Some.ensures.below.1)

pub returns-clause-all : goal.returns-clause-all
returns-clause-all c p t (k, k_in, at_k) has = let past = c.loop-slot-test.false in c.loop-slot.invariant.all k p t (omega arith) (record { inside = k_in; is = at_k }) has
