use Rattle.std.proofs.Common.{◌≡◌, ◌<◌, false, length, get_or, arith, sym, ◌∙◌}
use Rattle.std.proofs.lemmas.List.{get_or_default}
use Rattle.exact_predicates.specs.declared.diamond.Diamond.TheVariants.{Off}
use Rattle.point_grid.proofs.Listings.{below_none, below_push, below_skip}
use Rattle.diamond_edges.specs.Rows.{IsNext}
use Rattle.diamond_edges.proofs.seen.ends_seen.Goals as goal
use Rattle.diamond_edges.proofs.seen.ends_seen.Goals.{then-index+in_ok-push, else-index}

pub loop-b-init : goal.loop-b-init
loop-b-init c = rw c.new-ends.ensures.items (below_none _ _ (λ x n. let l = n.0 in omega arith))

pub loop-b-preserved : goal.loop-b-preserved
loop-b-preserved c =
    let ps = c.args.points.now.points in
    let whole = c.in_ok-seen.ensures.whole in
    let b_in : c.loop-b.b < length ps = omega (arith, c.len-count.ensures.value) in
    let here : c.index.result.now ≡ get_or c.in_ok-seen.seen.items c.loop-b.b false = c.index.ensures ∙ get_or_default _ c.loop-b.b _ false (omega arith) in
    let up : c.args.a < c.loop-b.b = omega arith in
    let marked = c.in_ok-seen.ensures.marked c.loop-b.b up b_in in
    elim c.if-index.branch [
      | then-index+in_ok-push w ↦
          rw (w.ends-is, w.in_ok-push.ensures.items)
          (below_push (IsNext Off ps c.args.a) c.loop-b.b _ (up, b_in, marked.0 (sym here ∙ w.if-index.true)) c.loop-b.invariant)
      | else-index w ↦
          rw w.ends-is
          (below_skip (IsNext Off ps c.args.a) c.loop-b.b _ (λ n. let yes = marked.1 n.2 in let no = w.if-index.false in cc) c.loop-b.invariant)
    ]
