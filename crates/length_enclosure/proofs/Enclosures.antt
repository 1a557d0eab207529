-- The length of a list of edges lies between `lo` and `hi`.
use Rattle.std.proofs.Common.{◌≡◌, ℕ, ◌+◌, ◌*◌, ◌^◌, ◌<◌, ◌≤◌, not, cond, List, [], ◌∷◌, sum_by, arith, ap, ⊎_elim, pos}
use Rattle.std.proofs.lemmas.Bool.{cases_Bool}
use Rattle.std.proofs.lemmas.Nat.{mul-le}
use Rattle.std.proofs.lemmas.Int.{ints}
use Rattle.std.proofs.lemmas.List.Sums.{sum_by-cons}
use Rattle.exact_predicates.specs.declared.point.Point.{Point}
use Rattle.exact_predicates.specs.Root.{root_down, root_up, is_square}
use Rattle.exact_predicates.specs.Length.{edge_d2, length_up, length_down, IsAtLeast, IsAtMost}
use Rattle.length_enclosure.specs.Enclosure.{weight, lo, hi}
use Rattle.exact_predicates.proofs.Roots.{pow-two, below-square, le-square, root_down_is, root_up_is, root_down_next, is_square_decides}

pub scale-le : (k a b : ℕ) → a ≤ b → k * a ≤ k * b
scale-le k a b h = mul-le k a k b (omega arith) h

pub scaled_up : (m d : ℕ) → m * root_down (10 ^ 12 * d) ≤ root_up ((10 ^ 6 * m) ^ 2 * d)
scaled_up m d =
    let w = root_down (10 ^ 12 * d) in
    let u = root_up ((10 ^ 6 * m) ^ 2 * d) in
    let wd = root_down_is (10 ^ 12 * d) in
    let uu = root_up_is ((10 ^ 6 * m) ^ 2 * d) in
    le-square (m * w) u (omega (arith, scale-le (m * m) (w * w) (10 ^ 12 * d) wd.fits, uu.covers, ap (λ x. x * d) (pow-two (10 ^ 6 * m))))

scale-lt : (k a b : ℕ) → 1 ≤ k → a < b → k * a < k * b
scale-lt k a b one h = omega (arith, mul-le k (a + 1) k b (omega arith) (omega arith))

inexact_down : (m d : ℕ) → 1 ≤ m → root_down ((10 ^ 6 * m) ^ 2 * d) ≤ m * (root_down (10 ^ 12 * d) + 1)
inexact_down m d one =
    let w = root_down (10 ^ 12 * d) in
    let r = root_down ((10 ^ 6 * m) ^ 2 * d) in
    let rd = root_down_is ((10 ^ 6 * m) ^ 2 * d) in
    let big : 1 ≤ m * m = mul-le 1 1 m m one one in
    let b : r < m * (w + 1) = below-square r (m * (w + 1)) (omega (arith, scale-lt (m * m) (10 ^ 12 * d) ((w + 1) * (w + 1)) big (root_down_next (10 ^ 12 * d)), rd.fits, ap (λ x. x * d) (pow-two (10 ^ 6 * m)))) in
    omega arith

exact_down : (m d s : ℕ) → s * s ≡ d → root_down ((10 ^ 6 * m) ^ 2 * d) ≤ m * root_down (10 ^ 12 * d)
exact_down m d s e =
    let w = root_down (10 ^ 12 * d) in
    let r = root_down ((10 ^ 6 * m) ^ 2 * d) in
    let rd = root_down_is ((10 ^ 6 * m) ^ 2 * d) in
    let whole : 10 ^ 6 * s ≤ w = (root_down_is (10 ^ 12 * d)).greatest (10 ^ 6 * s) (omega (arith, e)) in
    let b : r ≤ m * (10 ^ 6 * s) = le-square r (m * (10 ^ 6 * s)) (omega (arith, rd.fits, ap (λ x. x * d) (pow-two (10 ^ 6 * m)), ap (λ x. m * m * x) e)) in
    omega (arith, scale-le m (10 ^ 6 * s) w whole)

pub scaled_down : (m d : ℕ) → 1 ≤ m → root_down ((10 ^ 6 * m) ^ 2 * d) ≤ m * (root_down (10 ^ 12 * d) + cond (not (is_square d)) 1 0)
scaled_down m d one =
    ⊎_elim
    (λ yes. rw yes (let q = (is_square_decides d).0 yes in omega (arith, exact_down m d q.0 q.1)))
    (λ no. rw no (inexact_down m d one))
    (cases_Bool (is_square d))

sum_up : (ps : List Point) (m : ℕ) (es : List (ℕ × ℕ)) → m * sum_by (weight ps) es ≤ sum_by (length_up ps m) es
sum_up ps m [] = omega arith
sum_up ps m (e ∷ es) =
    rw (sum_by-cons (weight ps) e es, sum_by-cons (length_up ps m) e es) (omega (arith, sum_up ps m es, scaled_up m (edge_d2 ps e)))

pub IsAtLeast-lo : (ps : List Point) (es : List (ℕ × ℕ)) → IsAtLeast ps es (pos (lo ps es))
IsAtLeast-lo ps es = λ m h. omega (arith, ints, sum_up ps m es)

sum_down : (ps : List Point) (m : ℕ) → 1 ≤ m → (es : List (ℕ × ℕ)) → sum_by (length_down ps m) es ≤ m * (sum_by (weight ps) es + sum_by (λ e. cond (not (is_square (edge_d2 ps e))) 1 0) es)
sum_down ps m one [] = omega arith
sum_down ps m one (e ∷ es) =
    let c : ℕ × ℕ → ℕ = λ e. cond (not (is_square (edge_d2 ps e))) 1 0 in
    rw (sum_by-cons (weight ps) e es, sum_by-cons (length_down ps m) e es, sum_by-cons c e es)
    (omega (arith, sum_down ps m one es, scaled_down m (edge_d2 ps e) one))

pub IsAtMost-hi : (ps : List Point) (es : List (ℕ × ℕ)) → IsAtMost ps es (hi ps es)
IsAtMost-hi ps es = λ m one. sum_down ps m one es
