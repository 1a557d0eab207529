use Rattle.std.proofs.Common.{◌≡◌, ℕ, ◌<◌, ◌≤◌, List, length, slice_index, take, Ok, Err, arith, ap, sym, ◌∙◌, ⊎_elim}
use Rattle.std.proofs.lemmas.Bool.{cases_lt, false≢true}
use Rattle.std.proofs.lemmas.List.{length-take-le, get_or-take}
use Rattle.std.proofs.lemmas.List.Sorted.{searched}
use Rattle.length_enclosure.specs.Enclosure.{IsPeak}
use Rattle.length_enclosure.proofs.Peaks.{rises_far, found, not_found}
use Rattle.length_enclosure.proofs.rim.is_rising_pair.Goals as goal

-- what stands at a place before the peak, as the bisected part has it
in_part : (ring : List ℕ) (top k : ℕ) → k < top → slice_index (take top ring) k ≡ slice_index ring k
in_part ring top k k_in = get_or-take top ring k 0 k_in

ascending : (ring : List ℕ) (top : ℕ) → IsPeak ring top
    → (i j : ℕ) → i ≤ j → j < length (take top ring) → slice_index (take top ring) i ≤ slice_index (take top ring) j
ascending ring top p i j l m =
    let w = p.within in
    let n = length-take-le top ring (omega arith) in
    let a = in_part ring top i (omega arith) in
    let b = in_part ring top j (omega arith) in
    ⊎_elim
    (λ s. let up = rises_far ring top i j p s (omega arith) in omega arith)
    (λ s. let same : i ≡ j = omega arith in omega (arith, ap (slice_index (take top ring)) same))
    (cases_lt i j)

pub returns-in-Ok : goal.returns-in-Ok
returns-in-Ok c =
    let p = c.requires.peak in
    let (k_in, at_k) = searched (take c.args.top c.args.hull.now) c.args.u (Ok c.in-Ok.k) c.in-Ok.ensures.position (ascending c.args.hull.now c.args.top p) in
    let w = p.within in
    let l : c.in-Ok.k < c.args.top = omega (arith, length-take-le c.args.top c.args.hull.now (omega arith)) in
    found c.args.hull.now c.args.top c.args.u c.args.v c.in-Ok.k p c.requires.up l (sym (in_part c.args.hull.now c.args.top c.in-Ok.k l) ∙ at_k)

pub returns-in-Err : goal.returns-in-Err
returns-in-Err c =
    let p = c.requires.peak in
    let (at, below, above) = searched (take c.args.top c.args.hull.now) c.args.u (Err c.in-Err.field-0) c.in-Err.ensures.position (ascending c.args.hull.now c.args.top p) in
    let w = p.within in
    let n = length-take-le c.args.top c.args.hull.now (omega arith) in
    let none = not_found c.args.hull.now c.args.top c.args.u c.args.v p c.requires.up (λ k l e.
    let same = in_part c.args.hull.now c.args.top k l in
    ⊎_elim (λ b. omega (arith, below k b)) (λ a. omega (arith, above k a (omega arith))) (cases_lt k c.in-Err.field-0)) in
    ((λ no. absurd (false≢true no)), (λ pair. absurd (none pair)))
