-- How the slack of a triangle changes with the share of one side.
use Rattle.std.proofs.Common.{◌≡◌, ◌⊎◌, ℕ, ◌<◌, ℤ, ◌+ℤ◌, ◌≤ℤ◌, arith, refl, ap, sym, ◌∙◌, subst, ⊎_elim, inl, inr}
use Rattle.std.proofs.lemmas.Bool.{cases_eq}
use Rattle.std.proofs.lemmas.Int.{ints}
use Rattle.exact_predicates.specs.declared.tri.Tri.{Tri}
use Rattle.lmt_network.specs.Numbers.{HasSide}

-- the shares of the three sides together
abbrev pub side_sum : (ℕ → ℕ → ℤ) → Tri → ℤ
side_sum f t = f t.a t.b +ℤ (f t.b t.c +ℤ f t.c t.a)

-- each side of the triangle is the side x to y, or has at least as much in g as in f
abbrev pub AreUpTo : (ℕ → ℕ → ℤ) → (ℕ → ℕ → ℤ) → ℕ → ℕ → Tri → Type 0
AreUpTo f g x y t = (u v : ℕ) → HasSide t u v → ((u ≡ x) × (v ≡ y)) ⊎ (f u v ≤ℤ g u v)

first : (t : Tri) → HasSide t t.a t.b
first t = (t.c, inl (refl, refl, refl))

second : (t : Tri) → HasSide t t.b t.c
second t = (t.a, inr (inl (refl, refl, refl)))

third : (t : Tri) → HasSide t t.c t.a
third t = (t.b, inr (inr (refl, refl, refl)))

-- the three shares beside that of one side, where none of the others is more than k
pub sum-beside : (f : ℕ → ℕ → ℤ) (t : Tri) (u v : ℕ) (k : ℤ) → ((x y : ℕ) → HasSide t x y → f x y ≤ℤ k) → HasSide t u v → side_sum f t ≤ℤ (f u v +ℤ (k +ℤ k))
sum-beside f t u v k high (w, corners) =
    let ab = high t.a t.b (first t) in
    let bc = high t.b t.c (second t) in
    let ca = high t.c t.a (third t) in
    ⊎_elim
    (λ c. let is : f u v ≡ f t.a t.b = ap (λ x. f x v) (sym c.0) ∙ ap (f t.a) (sym c.1) in omega (arith, ints, is, bc, ca))
    (λ o. ⊎_elim
    (λ c. let is : f u v ≡ f t.b t.c = ap (λ x. f x v) (sym c.0) ∙ ap (f t.b) (sym c.1) in omega (arith, ints, is, ab, ca))
    (λ c. let is : f u v ≡ f t.c t.a = ap (λ x. f x v) (sym c.0) ∙ ap (f t.c) (sym c.1) in omega (arith, ints, is, ab, bc))
    o)
    corners

-- and beside that of a side that goes up, where none that goes down is more than j
pub sum-beside_up : (f : ℕ → ℕ → ℤ) (t : Tri) (u v : ℕ) (j k : ℤ) → ((x y : ℕ) → HasSide t x y → f x y ≤ℤ k) → ((x y : ℕ) → HasSide t x y → y < x → f x y ≤ℤ j)
    → HasSide t u v → u < v → side_sum f t ≤ℤ (f u v +ℤ (k +ℤ j))
sum-beside_up f t u v j k high low (w, corners) l =
    let ab = high t.a t.b (first t) in
    let bc = high t.b t.c (second t) in
    let ca = low t.c t.a (third t) t.below_c in
    ⊎_elim
    (λ c. let is : f u v ≡ f t.a t.b = ap (λ x. f x v) (sym c.0) ∙ ap (f t.a) (sym c.1) in omega (arith, ints, is, bc, ca))
    (λ o. ⊎_elim
    (λ c. let is : f u v ≡ f t.b t.c = ap (λ x. f x v) (sym c.0) ∙ ap (f t.b) (sym c.1) in omega (arith, ints, is, ab, ca))
    (λ c. let below = t.below_c in let is_u = c.0 in let is_v = c.1 in absurd (omega (arith, l, below, is_u, is_v)))
    o)
    corners

-- a side that does not begin at x
other : (f g : ℕ → ℕ → ℤ) (x y : ℕ) (t : Tri) (u v : ℕ) → AreUpTo f g x y t → HasSide t u v → ¬ (u ≡ x) → f u v ≤ℤ g u v
other f g x y t u v each side away = ⊎_elim (λ p. absurd (away p.0)) (λ l. l) (each u v side)

-- the side itself
itself : (f g : ℕ → ℕ → ℤ) (x y : ℕ) (d : ℤ) (u v : ℕ) → (f x y +ℤ d) ≤ℤ g x y → u ≡ x → v ≡ y → (f u v +ℤ d) ≤ℤ g u v
itself f g x y d u v h is_x is_y =
    subst (λ (z : ℕ). (f z v +ℤ d) ≤ℤ g z v) (sym is_x) (subst (λ (z : ℕ). (f x z +ℤ d) ≤ℤ g x z) (sym is_y) h)

-- with the side x to y the slack has d more, or yet more
pub with_side : (f g : ℕ → ℕ → ℤ) (x y : ℕ) (d : ℤ) (t : Tri) → AreUpTo f g x y t → (f x y +ℤ d) ≤ℤ g x y → HasSide t x y → (side_sum f t +ℤ d) ≤ℤ side_sum g t
with_side f g x y d t each h (w, corners) =
    ⊎_elim
    (λ (c : (t.a ≡ x) × (t.b ≡ y) × (t.c ≡ w)).
    let a_is = c.0 in
    let low_b = t.below_b in
    let low_c = t.below_c in
    let ab = itself f g x y d t.a t.b h c.0 c.1 in
    let bc = other f g x y t t.b t.c each (second t) (λ e. absurd (omega (arith, e, a_is, low_b))) in
    let ca = other f g x y t t.c t.a each (third t) (λ e. absurd (omega (arith, e, a_is, low_c))) in
    omega (arith, ints, ab, bc, ca))
    (λ o. ⊎_elim
    (λ (c : (t.b ≡ x) × (t.c ≡ y) × (t.a ≡ w)).
    let b_is = c.0 in
    let low_b = t.below_b in
    let bc = itself f g x y d t.b t.c h c.0 c.1 in
    let ab = other f g x y t t.a t.b each (first t) (λ e. absurd (omega (arith, e, b_is, low_b))) in
    let ca = other f g x y t t.c t.a each (third t) (λ e. t.apart (b_is ∙ sym e)) in
    omega (arith, ints, ab, bc, ca))
    (λ (c : (t.c ≡ x) × (t.a ≡ y) × (t.b ≡ w)).
    let c_is = c.0 in
    let low_c = t.below_c in
    let ca = itself f g x y d t.c t.a h c.0 c.1 in
    let ab = other f g x y t t.a t.b each (first t) (λ e. absurd (omega (arith, e, c_is, low_c))) in
    let bc = other f g x y t t.b t.c each (second t) (λ e. t.apart (e ∙ sym c_is)) in
    omega (arith, ints, ab, bc, ca))
    o)
    corners

-- without it the slack has at least as much
pub without_side : (f g : ℕ → ℕ → ℤ) (x y : ℕ) (t : Tri) → AreUpTo f g x y t → ¬ HasSide t x y → side_sum f t ≤ℤ side_sum g t
without_side f g x y t each none =
    let ab = kept t.a t.b (first t) in
    let bc = kept t.b t.c (second t) in
    let ca = kept t.c t.a (third t) in
    omega (arith, ints, ab, bc, ca)
  where
    kept : (u v : ℕ) → HasSide t u v → f u v ≤ℤ g u v
    kept u v side =
        ⊎_elim
        (λ p. absurd (none (subst (λ (z : ℕ). HasSide t z y) p.0 (subst (λ (z : ℕ). HasSide t u z) p.1 side))))
        (λ l. l)
        (each u v side)

-- a triangle has a side or has it not
pub side_or_not : (t : Tri) (x y : ℕ) → HasSide t x y ⊎ (¬ HasSide t x y)
side_or_not t x y =
    ⊎_elim
    (λ p. inl (t.c, inl (p.0, p.1, refl)))
    (λ no_first. ⊎_elim
    (λ p. inl (t.a, inr (inl (p.0, p.1, refl))))
    (λ no_second. ⊎_elim
    (λ p. inl (t.b, inr (inr (p.0, p.1, refl))))
    (λ no_third. inr (λ (h : HasSide t x y). ⊎_elim (λ c. no_first (c.0, c.1)) (λ o. ⊎_elim (λ c. no_second (c.0, c.1)) (λ c. no_third (c.0, c.1)) o) h.1))
    (both t.c x t.a y))
    (both t.b x t.c y))
    (both t.a x t.b y)
  where
    both : (p q r s : ℕ) → ((p ≡ q) × (r ≡ s)) ⊎ (¬ ((p ≡ q) × (r ≡ s)))
    both p q r s =
        ⊎_elim
        (λ e. ⊎_elim (λ f. inl (e, f)) (λ ne. inr (λ (h : (p ≡ q) × (r ≡ s)). ne h.1)) (cases_eq r s))
        (λ ne. inr (λ (h : (p ≡ q) × (r ≡ s)). ne h.0))
        (cases_eq p q)
