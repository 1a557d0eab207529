use Rattle.std.proofs.Common.{◌≡◌, ◌+◌, ◌-◌, ◌/◌, ◌<◌, ℕ, slice_index, refl, arith, ap, sym, ◌∙◌}
use Rattle.std.proofs.lemmas.List.{get_or_default}
use Rattle.empty_triangles.proofs.Heads.{left_before, not_left_behind}
use Rattle.empty_triangles.proofs.fan.first_not_left.Goals as goal

pub loop-from-preserved-then-is_left : goal.loop-from-preserved-then-is_left
loop-from-preserved-then-is_left c =
    let h = c.loop-from.invariant in
    let middle : ℕ = c.loop-from.from + (c.loop-from.to - c.loop-from.from) / 2 in
    let m_in : middle < c.loop-from.to = omega arith in
    record {
      rises = omega arith;
      within = h.within;
      between = λ k k_in is.
          let l = left_before _ _ _ c.requires.heads c.args.b k middle k_in is (omega (arith, h.within)) (c.if-is_left.ensures.0 refl) in
          (omega arith, (h.between k k_in is).1);
    }

pub loop-from-preserved : goal.loop-from-preserved
loop-from-preserved c =
    let h = c.loop-from.invariant in
    let middle : ℕ = c.loop-from.from + (c.loop-from.to - c.loop-from.from) / 2 in
    let m_in : middle < c.loop-from.to = omega arith in
    record {
      rises = omega arith;
      within = omega (arith, h.within);
      between = λ k k_in is. (
        (h.between k k_in is).0,
        not_left_behind _ _ _ c.requires.heads c.args.b k middle k_in is (λ l. let left = c.if-is_left.ensures.1 l in cc),
      );
    }

pub returns : goal.returns
returns c = λ has.
    let (k, k_in, at_k) = has in
    let is = get_or_default _ k 0 _ k_in ∙ at_k in
    let near = c.loop-from.invariant.between k k_in is in
    let same : k ≡ c.loop-from.from = omega (arith, near.0, near.1) in
    (omega arith, ap (slice_index c.args.heads.now) (sym same) ∙ is)
