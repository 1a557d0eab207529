-- How often a side occurs among all sides, and among those that go up.
use Rattle.std.proofs.Common.{◌≡◌, ◌≢◌, ℕ, zero, suc, ◌+◌, ◌<◌, ◌≤◌, Bool, true, false, cond, ◌&&◌, nat_eq, List, [], ◌∷◌, ◌++◌, sum_by, filter, map, flat_map, Option, Some, None, arith, ap, sym, ◌∙◌, refl, ⊎_elim}
use Rattle.std.proofs.lemmas.Bool.{cases_Bool, cond-true, cond-false, lt-ltb, le-ltb}
use Rattle.std.proofs.lemmas.Bool.Decides.{Decides-eqb}
use Rattle.std.proofs.lemmas.List.Sums.{sum_by-append, sum_by-cons}
use Rattle.exact_predicates.specs.declared.tri.Tri.{Tri}
use Rattle.exact_predicates.specs.Triangulation.{HasCorners, hit, is_side, side_count, sides}
use Rattle.exact_predicates.proofs.Pairs.{hit_none, hit_same, hit_turned, is_side_decides, is_side_turned}
use Rattle.exact_predicates.proofs.Sides.{sum_by-filter, sum_by-sides}
use Rattle.exact_predicates.proofs.Corners.{corners_differ}
use Rattle.flip_finish.specs.Halves.{goes_up, numbered_sides, outer_sides, turned_side}
use Rattle.flip_finish.specs.Places.{IsAt}

-- 1 where a side is x to y and its triangle passes a test, else 0
abbrev pub weight : (Option ℕ → Bool) → ℕ → ℕ → (ℕ × ℕ) × Option ℕ → ℕ
weight test x y s = cond (is_side x y s.0 && test s.1) 1 0

-- the tests: any triangle or none, and the triangle t
abbrev pub any_face : Option ℕ → Bool
any_face o = true

abbrev pub is_face : ℕ → Option ℕ → Bool
is_face t None = false
is_face t (Some s) = nat_eq s t

-- two measures that agree everywhere have the same sums
pub sum_by-same : {X : Type 0} (f g : X → ℕ) → ((x : X) → f x ≡ g x) → (xs : List X) → sum_by f xs ≡ sum_by g xs
sum_by-same f g same [] = refl
sum_by-same f g same (x ∷ xs) = omega (arith, sum_by-cons f x xs, sum_by-cons g x xs, same x, sum_by-same f g same xs)

pub sum_by-map : {X Y : Type 0} (f : Y → ℕ) (g : X → Y) (xs : List X) → sum_by f (map g xs) ≡ sum_by (λ x. f (g x)) xs
sum_by-map f g [] = refl
sum_by-map f g (x ∷ xs) = omega (arith, sum_by-cons f (g x) (map g xs), sum_by-cons (λ y. f (g y)) x xs, sum_by-map f g xs)

cond_same : (b : Bool) (n : ℕ) → cond b n n ≡ n
cond_same true n = refl
cond_same false n = refl

-- a side that is not x to y weighs nothing
weight_none : (test : Option ℕ → Bool) (x y : ℕ) (s : (ℕ × ℕ) × Option ℕ) → is_side x y s.0 ≡ false → weight test x y s ≡ 0
weight_none test x y s e = ap (λ b. cond (b && test s.1) 1 0) e

-- x to y goes up where x is less, so that nothing is lost
pub weight_up : (test : Option ℕ → Bool) (x y : ℕ) → x < y → (all : List ((ℕ × ℕ) × Option ℕ))
    → sum_by (weight test x y) (filter goes_up all) ≡ sum_by (weight test x y) all
weight_up test x y l all =
    sum_by-filter (weight test x y) goes_up all ∙ sum_by-same _ (weight test x y) same all
  where
    same : (s : (ℕ × ℕ) × Option ℕ) → cond (goes_up s) (weight test x y s) 0 ≡ weight test x y s
    same s =
        ⊎_elim
        (λ e.
        let ends = (is_side_decides x y s.0.0 s.0.1).0 e in
        let e0 = ends.0 in
        let e1 = ends.1 in
        cond-true (goes_up s) (weight test x y s) 0 (lt-ltb s.0.0 s.0.1 (omega arith)))
        (λ e. ap (λ n. cond (goes_up s) n 0) (weight_none test x y s e) ∙ (cond_same (goes_up s) 0 ∙ sym (weight_none test x y s e)))
        (cases_Bool (is_side x y s.0))

-- and does not where it is not
pub weight_not_up : (test : Option ℕ → Bool) (x y : ℕ) → y ≤ x → (all : List ((ℕ × ℕ) × Option ℕ)) → sum_by (weight test x y) (filter goes_up all) ≡ 0
weight_not_up test x y l all =
    sum_by-filter (weight test x y) goes_up all ∙ (sum_by-same _ (λ s. 0) none all ∙ zeros all)
  where
    none : (s : (ℕ × ℕ) × Option ℕ) → cond (goes_up s) (weight test x y s) 0 ≡ 0
    none s =
        ⊎_elim
        (λ e.
        let ends = (is_side_decides x y s.0.0 s.0.1).0 e in
        let e0 = ends.0 in
        let e1 = ends.1 in
        cond-false (goes_up s) (weight test x y s) 0 (le-ltb s.0.0 s.0.1 (omega arith)))
        (λ e. ap (λ n. cond (goes_up s) n 0) (weight_none test x y s e) ∙ cond_same (goes_up s) 0)
        (cases_Bool (is_side x y s.0))

    zeros : (xs : List ((ℕ × ℕ) × Option ℕ)) → sum_by (λ s. 0) xs ≡ 0
    zeros [] = refl
    zeros (s ∷ xs) = omega (arith, sum_by-cons (λ (s : (ℕ × ℕ) × Option ℕ). 0) s xs, zeros xs)

-- turned round, x to y is y to x
pub weight_turned : (test : Option ℕ → Bool) (x y : ℕ) (all : List ((ℕ × ℕ) × Option ℕ))
    → sum_by (weight test x y) (map turned_side all) ≡ sum_by (weight test y x) all
weight_turned test x y all =
    sum_by-map (weight test x y) turned_side all
    ∙ sum_by-same _ (weight test y x) (λ s. ap (λ b. cond (b && test s.1) 1 0) (is_side_turned x y s.0.1 s.0.0)) all

-- a side of any triangle is counted
pub weight_any : (x y s t : ℕ) (o : Option ℕ) → weight any_face x y ((s, t), o) ≡ hit x y (s, t)
unfolding hit
weight_any x y s t o = at (is_side x y (s, t))
  where
    at : (b : Bool) → cond {A = ℕ} (b && true) 1 0 ≡ cond b 1 0
    at true = refl
    at false = refl

pub weight_numbered : (x y n : ℕ) (ts : List Tri) → sum_by (weight any_face x y) (numbered_sides n ts) ≡ side_count ts x y
weight_numbered x y n [] = refl
weight_numbered x y n (t ∷ ts) =
    let w = weight any_face x y in
    let h = hit x y in
    let ab : (ℕ × ℕ) × Option ℕ = ((t.a, t.b), Some n) in
    let bc : (ℕ × ℕ) × Option ℕ = ((t.b, t.c), Some n) in
    let ca : (ℕ × ℕ) × Option ℕ = ((t.c, t.a), Some n) in
    let rest = numbered_sides (suc n) ts in
    omega (
      arith,
      sum_by-cons w ab (bc ∷ ca ∷ rest),
      sum_by-cons w bc (ca ∷ rest),
      sum_by-cons w ca rest,
      weight_any x y t.a t.b (Some n),
      weight_any x y t.b t.c (Some n),
      weight_any x y t.c t.a (Some n),
      weight_numbered x y (suc n) ts,
      sum_by-cons h (t.a, t.b) ((t.b, t.c) ∷ (t.c, t.a) ∷ flat_map sides ts),
      sum_by-cons h (t.b, t.c) ((t.c, t.a) ∷ flat_map sides ts),
      sum_by-cons h (t.c, t.a) (flat_map sides ts),
    )

pub weight_outer : (x y : ℕ) (pairs : List (ℕ × ℕ)) → sum_by (weight any_face x y) (outer_sides pairs) ≡ sum_by (hit y x) pairs
weight_outer x y pairs =
    sum_by-map (weight any_face x y) (λ p. ((p.1, p.0), None)) pairs
    ∙ sum_by-same _ (hit y x) (λ p. weight_any x y p.1 p.0 None ∙ hit_turned x y p.1 p.0) pairs

-- a side of the triangle t itself
weight_own : (x y s t n m : ℕ) → n ≡ m → weight (is_face m) x y ((s, t), Some n) ≡ hit x y (s, t)
unfolding hit
weight_own x y s t n m e = ap (λ b. cond (is_side x y (s, t) && b) 1 0) ((Decides-eqb n m).1 e) ∙ at (is_side x y (s, t))
  where
    at : (b : Bool) → cond {A = ℕ} (b && true) 1 0 ≡ cond b 1 0
    at true = refl
    at false = refl

and_false : (b : Bool) → cond {A = ℕ} (b && false) 1 0 ≡ 0
and_false true = refl
and_false false = refl

weight_foreign : (x y m n : ℕ) (p : ℕ × ℕ) → n ≢ m → weight (is_face m) x y (p, Some n) ≡ 0
weight_foreign x y m n p ne =
    ⊎_elim
    (λ e. absurd (ne ((Decides-eqb n m).0 e)))
    (λ e. ap (λ b. cond (is_side x y p && b) 1 0) e ∙ and_false (is_side x y p))
    (cases_Bool (nat_eq n m))

-- sides of later triangles are not those of t
weight_later : (x y m n : ℕ) (ts : List Tri) → m < n → sum_by (weight (is_face m) x y) (numbered_sides n ts) ≡ 0
weight_later x y m n [] l = refl
weight_later x y m n (t ∷ ts) l =
    let w = weight (is_face m) x y in
    let ab : (ℕ × ℕ) × Option ℕ = ((t.a, t.b), Some n) in
    let bc : (ℕ × ℕ) × Option ℕ = ((t.b, t.c), Some n) in
    let ca : (ℕ × ℕ) × Option ℕ = ((t.c, t.a), Some n) in
    let rest = numbered_sides (suc n) ts in
    let ne : n ≢ m = λ e. absurd (omega arith) in
    omega (
      arith,
      sum_by-cons w ab (bc ∷ ca ∷ rest),
      sum_by-cons w bc (ca ∷ rest),
      sum_by-cons w ca rest,
      weight_foreign x y m n (t.a, t.b) ne,
      weight_foreign x y m n (t.b, t.c) ne,
      weight_foreign x y m n (t.c, t.a) ne,
      weight_later x y m (suc n) ts (omega arith),
    )

-- so that those of t alone are counted
weight_at : (x y m n k : ℕ) (ts : List Tri) (tri : Tri) → n + k ≡ m → IsAt ts k tri
    → sum_by (weight (is_face m) x y) (numbered_sides n ts) ≡ sum_by (hit x y) (sides tri)
weight_at x y m n k [] tri e h = absurd (omega (arith, h.inside))
weight_at x y m n zero (t ∷ ts) tri e h =
    let w = weight (is_face m) x y in
    let g = hit x y in
    let n_m : n ≡ m = omega arith in
    let ab : (ℕ × ℕ) × Option ℕ = ((t.a, t.b), Some n) in
    let bc : (ℕ × ℕ) × Option ℕ = ((t.b, t.c), Some n) in
    let ca : (ℕ × ℕ) × Option ℕ = ((t.c, t.a), Some n) in
    let rest = numbered_sides (suc n) ts in
    ap (λ (u : Tri). sum_by w (numbered_sides n (u ∷ ts))) h.is
    ∙ omega (
      arith,
      sum_by-cons w ((tri.a, tri.b), Some n) (((tri.b, tri.c), Some n) ∷ ((tri.c, tri.a), Some n) ∷ rest),
      sum_by-cons w ((tri.b, tri.c), Some n) (((tri.c, tri.a), Some n) ∷ rest),
      sum_by-cons w ((tri.c, tri.a), Some n) rest,
      weight_own x y tri.a tri.b n m n_m,
      weight_own x y tri.b tri.c n m n_m,
      weight_own x y tri.c tri.a n m n_m,
      weight_later x y m (suc n) ts (omega arith),
      sum_by-cons g (tri.a, tri.b) ((tri.b, tri.c) ∷ (tri.c, tri.a) ∷ []),
      sum_by-cons g (tri.b, tri.c) ((tri.c, tri.a) ∷ []),
      sum_by-cons g (tri.c, tri.a) [],
    )
weight_at x y m n (suc k) (t ∷ ts) tri e h =
    let w = weight (is_face m) x y in
    let ab : (ℕ × ℕ) × Option ℕ = ((t.a, t.b), Some n) in
    let bc : (ℕ × ℕ) × Option ℕ = ((t.b, t.c), Some n) in
    let ca : (ℕ × ℕ) × Option ℕ = ((t.c, t.a), Some n) in
    let rest = numbered_sides (suc n) ts in
    let ne : n ≢ m = λ f. absurd (omega arith) in
    omega (
      arith,
      sum_by-cons w ab (bc ∷ ca ∷ rest),
      sum_by-cons w bc (ca ∷ rest),
      sum_by-cons w ca rest,
      weight_foreign x y m n (t.a, t.b) ne,
      weight_foreign x y m n (t.b, t.c) ne,
      weight_foreign x y m n (t.c, t.a) ne,
      weight_at x y m (suc n) k ts tri (omega arith) (record { inside = omega (arith, h.inside); is = h.is }),
    )

-- a triangle has a side once
pub weight_side : (x y w t : ℕ) (ts : List Tri) (pairs : List (ℕ × ℕ)) (tri : Tri) → IsAt ts t tri → HasCorners tri x y w
    → sum_by (weight (is_face t) x y) (numbered_sides 0 ts ++ outer_sides pairs) ≡ 1
weight_side x y w t ts pairs tri h corners =
    let f = weight (is_face t) x y in
    let x_y : x ≢ y = corners_differ tri x y w corners in
    omega (
      arith,
      sum_by-append f (numbered_sides 0 ts) (outer_sides pairs),
      weight_at x y t 0 t ts tri (omega arith) h,
      sum_by-sides (hit x y) tri x y w corners,
      hit_same x y,
      hit_none x y y w (λ e. x_y (sym e.0)),
      hit_none x y w x (λ e. x_y e.1),
      outer_none pairs,
    )
  where
    outer_none : (ps : List (ℕ × ℕ)) → sum_by (weight (is_face t) x y) (outer_sides ps) ≡ 0
    outer_none [] = refl
    outer_none (p ∷ ps) =
        omega (arith, sum_by-cons (weight (is_face t) x y) ((p.1, p.0), None) (outer_sides ps), and_false (is_side x y (p.1, p.0)), outer_none ps)
