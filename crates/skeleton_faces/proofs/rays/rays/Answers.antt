-- The two rays of one edge more, and all of them sorted.
use Rattle.std.proofs.Common.{◌≡◌, ◌*◌, ◌<◌, ◌++◌, ◌∷◌, [], ℕ, ap, length, sym, ◌∙◌, subst, rules, of_calls, arith}
use Rattle.std.proofs.lemmas.List.{get_or_default}
use Rattle.std.proofs.lemmas.List.Sorted.{answers_always}
use Rattle.skeleton_faces.specs.Marks.{nth_edge}
use Rattle.skeleton_faces.proofs.Directions.{AreBuilt, AreRays-sorted, AreShown-built, built_more, is_before, is_before_order, shown-forward, shown-backward}
use Rattle.skeleton_faces.proofs.rays.rays.Goals as goal

pub loop-number-preserved : goal.loop-number-preserved
loop-number-preserved c =
    let ps = c.args.points.now in
    let es = c.args.edges.now in
    let n = c.loop-number.number in
    let e = c.index-edges-number.result in
    let is : nth_edge es n ≡ e = get_or_default es n _ e c.loop-number-test.true ∙ sym c.index-edges-number.is in
    let s = c.of.ensures in
    let t = c.of-in-loop-number.ensures in
    built_more ps es n c.loop-number.rays.items c.push-in-loop-number.new.self.items c.of.result c.of-in-loop-number.result c.loop-number.invariant
    (shown-forward ps es n e c.of.result c.loop-number-test.true is s.side s.from s.backward s.width s.height)
    s.side
    (shown-backward ps es n e c.of-in-loop-number.result c.loop-number-test.true is t.side t.from t.backward t.width t.height)
    t.side
    (c.in_ok-push-2.ensures.items ∙ ap (λ xs. xs ++ c.of-in-loop-number.result ∷ []) c.in_ok-push.ensures.items)

pub returns-clause-rays : goal.returns-clause-rays
returns-clause-rays c =
    let es = c.args.edges.now in
    let n_is : c.loop-number.number ≡ length es = omega (arith, c.loop-number-test.false, c.loop-number.auto.number-end) in
    let Built : ℕ → Type 0 = λ n. AreBuilt c.args.points.now es n c.loop-number.rays.items in
    AreRays-sorted c.args.points.now es (λ s. s < 2 * length es) c.loop-number.rays.items c.sort_unstable_by.new.self.items
    (AreShown-built c.args.points.now es (length es) c.loop-number.rays.items (subst Built n_is c.loop-number.invariant)) c.sort_unstable_by.ensures.permutation
    (c.sort_unstable_by.ensures.sorted is_before is_before_order (answers_always _ _ _ (λ f a r g k. search (rules, of_calls))))

pub returns-clause-count : goal.returns-clause-count
returns-clause-count c =
    let built = c.loop-number.invariant.count in
    omega (arith, c.loop-number-test.false, c.loop-number.auto.number-end, c.sort_unstable_by.new.self.ok.0, c.sort_unstable_by.ensures.len, c.loop-number.rays.ok.0)
