-- The sides of edges by their keys.
use Rattle.std.proofs.Common.{◌≡◌, ◌≢◌, ℕ, ◌+◌, ◌*◌, ◌<◌, ◌≤◌, nat_lt, arith, ap, ◌∙◌, ⊎_elim}
use Rattle.std.proofs.lemmas.Bool.{cases_lt, cond-false, cond-true, le-ltb, lt-ltb}
use Rattle.lmt_network.specs.Network.{NetworkParts, edge_at}
use Rattle.lmt_network.specs.Numbers.{IsNumberOf}
use Rattle.face_optimum.specs.SeatTables.{side_key}

-- which edge a key is of
pub key_up : (e u v : ℕ) → u < v → side_key e u v ≡ 2 * e
key_up e u v up = ap (λ k. 2 * e + k) (cond-true (nat_lt u v) 0 1 (lt-ltb u v up)) ∙ omega arith

pub key_down : (e u v : ℕ) → v < u → side_key e u v ≡ 2 * e + 1
key_down e u v down = ap (λ k. 2 * e + k) (cond-false (nat_lt u v) 0 1 (le-ltb u v (omega arith)))

-- a side is known by its key
pub key_once : (n : NetworkParts) (u v e x y d : ℕ) → IsNumberOf n u v e → IsNumberOf n x y d → side_key e u v ≡ side_key d x y → (u ≡ x) × (v ≡ y)
key_once n u v e x y d e_is d_is same =
    ⊎_elim
    (λ (up : u < v). ⊎_elim
    (λ (up_d : x < y).
    let edge : e ≡ d = omega (arith, same, key_up e u v up, key_up d x y up_d) in
    let a = ap (λ k. (edge_at n k).a) edge in
    let b = ap (λ k. (edge_at n k).b) edge in
    (omega (arith, a, e_is.1.0, d_is.1.0), omega (arith, b, e_is.1.1, d_is.1.1)))
    (λ (down_d : y ≤ x). let z = apart d x y d_is in absurd (omega (arith, same, key_up e u v up, key_down d x y (omega arith))))
    (cases_lt x y))
    (λ (down : v ≤ u).
    let less : v < u = let z = apart e u v e_is in omega arith in
    ⊎_elim
    (λ (up_d : x < y). absurd (omega (arith, same, key_down e u v less, key_up d x y up_d)))
    (λ (down_d : y ≤ x).
    let less_d : y < x = let z = apart d x y d_is in omega arith in
    let edge : e ≡ d = omega (arith, same, key_down e u v less, key_down d x y less_d) in
    let a = ap (λ k. (edge_at n k).a) edge in
    let b = ap (λ k. (edge_at n k).b) edge in
    (omega (arith, b, e_is.1.1, d_is.1.1), omega (arith, a, e_is.1.0, d_is.1.0)))
    (cases_lt x y))
    (cases_lt u v)
  where
    apart : (e u v : ℕ) → IsNumberOf n u v e → u ≢ v
    apart e u v is z = let l = (edge_at n e).ascending in let a = is.1.0 in let b = is.1.1 in absurd (omega arith)
