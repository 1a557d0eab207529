use Rattle.std.proofs.Common.{◌≡◌, ℕ, ◌+◌, ◌/◌, ◌≤◌, ◌++◌, map, length, sym, ap, ◌∙◌, subst, refl, arith}
use Rattle.lmt_network.specs.Network.{NetworkParts}
use Rattle.edge_marks.specs.declared.view.Known.{Known}
use Rattle.edge_marks.specs.Plays.{settled_view}
use Rattle.edge_marks.specs.Told.{Remembers, looked_all, entered}
use Rattle.edge_marks.proofs.Remembering.{remembers_on, remembers_looks, remembers_entry, remembers_pass}
use Rattle.edge_marks.proofs.Loads.{looked_on, low_kept, word_loaded, live_back}
use Rattle.edge_marks.proofs.Judges.{judged_more, all_judged, one_judged, judged_words, pass_is, quiet_now}
use Rattle.std.proofs.lemmas.List.Elements.{Contains-append_left}
use Rattle.edge_marks.proofs.handles.Marks.settle.Goals as goal

pub returns-then-begun-finished-clause-kept : goal.returns-then-begun-finished-clause-kept
returns-then-begun-finished-clause-kept c = let old = c.args.seat.now.known in let v = c.open_pass-begun.ensures.view in
    subst (Remembers old) (sym v.0) (remembers_entry c.args.self.now.net c.open_pass-begun.result.0 c.open_pass-begun.result.1 old v.1)

pub returns-then-is_lone-clause-kept : goal.returns-then-is_lone-clause-kept
returns-then-is_lone-clause-kept c = let old = c.args.seat.now.known in let mid = c.open_pass-begun.new.seat.known in let new = c.is_lone.new.seat.known in let v = c.open_pass-begun.ensures.view in let so = c.loop-e.invariant.2 in let t = c.is_lone.ensures.told in
    remembers_on old mid new (subst (Remembers old) (sym v.0) (remembers_entry c.args.self.now.net c.open_pass-begun.result.0 c.open_pass-begun.result.1 old v.1))
    (subst (Remembers mid) (sym (looked_on mid c.loop-e.seat.known new so.0 t.0 so.1 t.1)) (remembers_looks (so.0 ++ t.0) mid))

pub returns-then-begun-last-clause-kept : goal.returns-then-begun-last-clause-kept
returns-then-begun-last-clause-kept c = let v = c.open_pass-begun.ensures.view in let so = c.loop-e.invariant.2 in let l = c.end_pass-last.ensures.view in
    remembers_pass c.args.self.now.net c.open_pass-begun.result.0 c.open_pass-begun.result.1 c.end_pass-last.result so.0 _ _ _ _ v.0 v.1 so.1 l.0 l.1

pub returns-clause-kept : goal.returns-clause-kept
returns-clause-kept c = let v = c.open_pass-begun.ensures.view in let so = c.loop-e.invariant.2 in let l = c.end_pass-last.ensures.view in
    remembers_pass c.args.self.now.net c.open_pass-begun.result.0 c.open_pass-begun.result.1 c.end_pass-last.result so.0 _ _ _ _ v.0 v.1 so.1 l.0 l.1

pub returns-then-is_lone-clause-told : goal.returns-then-is_lone-clause-told
returns-then-is_lone-clause-told c = let n = c.args.self.now.net in let b = c.open_pass-begun.result.0 in let so = c.loop-e.invariant.2 in let t = c.is_lone.ensures.told in let r = t.3 c.if-is_lone.true in
    let same : b ≡ c.open_pass-begun.result.1 = c.if-begun-finished.false in
    let mid = c.open_pass-begun.ensures.view.0 ∙ ap (λ (z : ℕ). entered n b z c.args.seat.now.known) (sym same) in (
      b,
      so.0 ++ t.0,
      looked_on c.open_pass-begun.new.seat.known c.loop-e.seat.known c.is_lone.new.seat.known so.0 t.0 so.1 t.1 ∙ ap (looked_all (so.0 ++ t.0)) mid,
      (let a = ap (λ (m : NetworkParts). length m.edges) c.requires.1 in let e = c.edges-e-end.ensures.value in let l = c.loop-e-test.true in omega arith),
      r.0,
      live_back so.0 t.0 c.loop-e.e r.1,
      r.2,
      r.3,
      λ j h. judged_more n so.0 (so.0 ++ t.0) j (λ l has. Contains-append_left so.0 t.0 l has) (so.2 j h),
    )

pub returns-then-is_lone-clause-low : goal.returns-then-is_lone-clause-low
returns-then-is_lone-clause-low c = let so = c.loop-e.invariant.2 in let t = c.is_lone.ensures.told in let v = c.open_pass-begun.ensures.view in let v₁ = v.1 in let v₂ = v.2 in
    let first : c.open_pass-begun.new.seat.known.low ≡ c.open_pass-begun.result.0 = ap (λ (d : Known). d.low) v.0 in
    let a : c.loop-e.seat.known.low ≡ c.open_pass-begun.new.seat.known.low = ap (λ (d : Known). d.low) so.1 ∙ low_kept so.0 c.open_pass-begun.new.seat.known in
    let b : c.is_lone.new.seat.known.low ≡ c.loop-e.seat.known.low = ap (λ (d : Known). d.low) t.1 ∙ low_kept t.0 c.loop-e.seat.known in (omega arith, omega arith)

pub loop-e-preserved : goal.loop-e-preserved
loop-e-preserved c = let so = c.loop-e.invariant.2 in let t = c.is_lone.ensures.told in (
  (c.is_lone.ensures.seat.0.0 ∙ c.loop-e.invariant.0.0, c.is_lone.ensures.seat.0.1 ∙ c.loop-e.invariant.0.1),
  c.is_lone.ensures.seat.1,
  one_judged c.args.self.now.net c.open_pass-begun.new.seat.known c.loop-e.seat.known c.is_lone.new.seat.known c.loop-e.e so t.0 t.1 (t.2 c.if-is_lone.false),
)

pub end_pass-last-requires-clause-judged : goal.end_pass-last-requires-clause-judged
end_pass-last-requires-clause-judged c = let n = c.args.self.now.net in let b = c.open_pass-begun.result.0 in let f = c.open_pass-begun.result.1 in let so = c.loop-e.invariant.2 in let same : b ≡ f = c.if-begun-finished.false in
    let now = so.1 ∙ ap (looked_all so.0) c.open_pass-begun.ensures.view.0 in (
      b,
      map word_loaded so.0,
      ap (λ (d : Known). d.pass) now ∙ pass_is n b f c.args.seat.now.known so.0 same,
      λ e low. judged_words n so.0 e (all_judged n c.args.net.now so.0 _ _ c.requires.1 c.edges-e-end.ensures.value c.loop-e-test.false so.2 e low),
    )

pub returns-clause-told : goal.returns-clause-told
returns-clause-told c = let n = c.args.self.now.net in let b = c.open_pass-begun.result.0 in let f = c.open_pass-begun.result.1 in let x = c.end_pass-last.result in let so = c.loop-e.invariant.2 in let same : b ≡ f = c.if-begun-finished.false in
    let start : Known = entered n b b c.args.seat.now.known in
    let mid = so.1 ∙ ap (looked_all so.0) (c.open_pass-begun.ensures.view.0 ∙ ap (λ (z : ℕ). entered n b z c.args.seat.now.known) (sym same)) in
    let low : b ≤ x = (let l = c.end_pass-last.ensures.view.1 in let k : c.loop-e.seat.known.low ≡ b = ap (λ (d : Known). d.low) mid ∙ low_kept so.0 start in omega arith) in
    let is : x ≡ b = (let h = c.if-begun-last.false in omega arith) in
    let now = c.end_pass-last.ensures.view.0 ∙ ap (λ (z : ℕ × Known). settled_view (length n.edges / 64 + 16) z.0 z.1) (λ i. (is i, mid i)) in (
      b,
      so.0,
      now,
      ap (λ (d : Known). d.settled) now ∙ quiet_now (length n.edges / 64 + 16) b (looked_all so.0 start) (map word_loaded so.0) (pass_is n b b c.args.seat.now.known so.0 refl),
      all_judged n c.args.net.now so.0 _ _ c.requires.1 c.edges-e-end.ensures.value c.loop-e-test.false so.2,
    )

pub returns-then-begun-last-clause-told : goal.returns-then-begun-last-clause-told
returns-then-begun-last-clause-told c = let n = c.args.self.now.net in let b = c.open_pass-begun.result.0 in let f = c.open_pass-begun.result.1 in let x = c.end_pass-last.result in let so = c.loop-e.invariant.2 in let same : b ≡ f = c.if-begun-finished.false in
    let mid = so.1 ∙ ap (looked_all so.0) (c.open_pass-begun.ensures.view.0 ∙ ap (λ (z : ℕ). entered n b z c.args.seat.now.known) (sym same)) in (
      so.0,
      c.end_pass-last.ensures.view.0 ∙ ap (settled_view (length n.edges / 64 + 16) x) mid,
      c.if-begun-last.true,
      all_judged n c.args.net.now so.0 _ _ c.requires.1 c.edges-e-end.ensures.value c.loop-e-test.false so.2,
    )

pub returns-clause-low : goal.returns-clause-low
returns-clause-low c = let so = c.loop-e.invariant.2 in let v = c.open_pass-begun.ensures.view in let v₁ = v.1 in let l = c.end_pass-last.ensures.view in let l₁ = l.1 in let l₂ = l.2 in
    let first : c.open_pass-begun.new.seat.known.low ≡ c.open_pass-begun.result.0 = ap (λ (d : Known). d.low) v.0 in
    let a : c.loop-e.seat.known.low ≡ c.open_pass-begun.new.seat.known.low = ap (λ (d : Known). d.low) so.1 ∙ low_kept so.0 c.open_pass-begun.new.seat.known in
    let b : c.end_pass-last.new.seat.known.low ≡ c.end_pass-last.result = ap (λ (d : Known). d.low) l.0 in (omega arith, omega arith)
