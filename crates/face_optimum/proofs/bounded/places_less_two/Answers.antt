-- The places of one cycle more.
use Rattle.std.proofs.Common.{◌≡◌, ◌<◌, ◌≤◌, ◌-◌, ℕ, List, [], true, false, length, get_or, ap, ◌∙◌, ⊎_elim, arith}
use Rattle.std.proofs.lemmas.Bool.{cases_Bool}
use Rattle.face_optimum.specs.Decomposition.{is_outer}
use Rattle.face_optimum.proofs.BoundedFaces.{All-bounded_at, places_more}
use Rattle.face_optimum.proofs.bounded.places_less_two.Goals as goal

pub loop-i-preserved : goal.loop-i-preserved
loop-i-preserved c =
    let hull = c.args.hull.now in
    let faces = c.args.faces.now in
    let k = c.loop-i.i in
    let k_in : k < length faces = omega (arith, c.loop-i-test.true, c.len-i-end.ensures) in
    let here = c.places_less_two_of-sum.result in
    let cycle_is : c.cycle.result.now ≡ get_or faces k [] = c.cycle.ensures in
    let inside : is_outer hull (get_or faces k []) ≡ false → here ≡ length (get_or faces k []) - 2 = λ e. c.places_less_two_of-sum.ensures.bounded (ap (is_outer hull) cycle_is ∙ e) ∙ ap (λ (x : List ℕ). length x - 2) cycle_is in
    let outside : is_outer hull (get_or faces k []) ≡ true → here ≡ 0 = λ e. c.places_less_two_of-sum.ensures.outer (ap (is_outer hull) cycle_is ∙ e) in
    let bound : here ≤ 126 = ⊎_elim
    (λ (e : is_outer hull (get_or faces k []) ≡ true). omega (arith, outside e))
    (λ (e : is_outer hull (get_or faces k []) ≡ false). omega (arith, inside e, All-bounded_at hull (λ (x : List ℕ). length x ≤ 128) faces k c.requires.few k_in e))
    (cases_Bool (is_outer hull (get_or faces k []))) in
    (places_more hull faces k c.loop-i.sum here k_in inside outside c.loop-i.invariant.0, omega (arith, c.loop-i.invariant.1))
