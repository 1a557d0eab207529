-- Rounds as cycles of starts.
use Rattle.std.proofs.Common.{◌≡◌, ℕ, zero, suc, ◌+◌, ◌*◌, ◌/◌, ◌%◌, ◌<◌, List, map, slice_index, sym, ap, ◌∙◌, arith}
use Rattle.std.specs.List.{range_with_len}
use Rattle.std.proofs.lemmas.List.FromFn.{get_or-map-range_with_len, length-map-range_with_len}
use Rattle.exact_predicates.specs.declared.edge.Edge.{Edge}
use Rattle.skeleton_faces.specs.Faces.{round_at}
use Rattle.skeleton_faces.specs.Sides.{side_start}
use Rattle.skeleton_faces.specs.Rounds.{step_on}

module _ (es : List Edge) (nexts : List ℕ) (first count : ℕ) (some : 0 < count) (back : step_on nexts first count ≡ first) where
  -- after a round all comes again
  step_again : (x : ℕ) → step_on nexts first (x + count) ≡ step_on nexts first x
  step_again zero = ap (step_on nexts first) (omega arith) ∙ back
  step_again (suc x) =
      let e : suc x + count ≡ suc (x + count) = omega arith in
      ap (step_on nexts first) e ∙ ap (slice_index nexts) (step_again x)

  step_rounds : (q r : ℕ) → step_on nexts first (r + q * count) ≡ step_on nexts first r
  step_rounds zero r = ap (step_on nexts first) (omega arith)
  step_rounds (suc q) r =
      let e : r + suc q * count ≡ (r + q * count) + count = suc_times q count in
      ap (step_on nexts first) e ∙ (step_again (r + q * count) ∙ step_rounds q r)
    where
      suc_times : (q n : ℕ) → r + suc q * n ≡ (r + q * n) + n
      suc_times q n = grind arith

  step_mod : (k : ℕ) → step_on nexts first (k % count) ≡ step_on nexts first k
  step_mod k = sym (step_rounds (k / count) (k % count)) ∙ ap (step_on nexts first) (omega arith)

  abbrev pub starts_round : List ℕ
  starts_round = map (λ k. side_start es (step_on nexts first k)) (range_with_len 0 count)

  pub round_is : (k : ℕ) → round_at starts_round k ≡ side_start es (step_on nexts first k)
  round_is k =
      let n = length-map-range_with_len (λ k. side_start es (step_on nexts first k)) 0 count in
      ap (λ m. slice_index starts_round (k % m)) n
      ∙ (get_or-map-range_with_len (λ k. side_start es (step_on nexts first k)) 0 count (k % count) (k % count) 0 (omega arith) (omega arith)
      ∙ ap (side_start es) (step_mod k))
