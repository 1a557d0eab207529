use Rattle.std.proofs.Common.{◌≡◌, ◌^◌, ◌≤◌, ◌∙◌, ℤ, ap, ap₂, arith, of_z, to_z, unsigned_abs, w64}
use Rattle.std.specs.Int.{int_max, int_min}
use Rattle.std.proofs.lemmas.Int.{ints}
use Rattle.exact_predicates.proofs.Gaps.{kept}
use Rattle.svg_picture.specs.declared.frame.Frame.{Frame}
use Rattle.svg_picture.proofs.frame.Frame.with.Goals as goal

four : (f : Frame) (a b c d : ℤ) → f.left ≡ a → f.right ≡ b → f.low ≡ c → f.high ≡ d → f ≡ record { left = a; right = b; low = c; high = d }
four f a b c d p q r s =
    ap (λ (x : ℤ). record { left = x; right = f.right; low = f.low; high = f.high }) p
    ∙ ap (λ (x : ℤ). record { left = a; right = x; low = f.low; high = f.high }) q
    ∙ ap (λ (x : ℤ). record { left = a; right = b; low = x; high = f.high }) r
    ∙ ap (λ (x : ℤ). record { left = a; right = b; low = c; high = x }) s

-- what is chosen of two coordinates passes through 64 bits unchanged, as these do
chosen : (choice : ℤ → ℤ → ℤ) (r a b : ℤ) → unsigned_abs r ≤ 10 ^ 9 → unsigned_abs a ≤ 10 ^ 9 → unsigned_abs b ≤ 10 ^ 9
    → r ≡ choice (to_z w64 (of_z w64 a)) (to_z w64 (of_z w64 b)) → to_z w64 (of_z w64 r) ≡ choice a b
chosen choice r a b r_in a_in b_in e = kept r (omega (arith, r_in)) ∙ e ∙ ap₂ choice (kept a (omega (arith, a_in))) (kept b (omega (arith, b_in)))

pub returns-clause-is : goal.returns-clause-is
returns-clause-is c =
    let f = c.args.self.now in
    let p = c.args.p.now in
    let held = c.requires.frame in
    let in_range = c.requires.point in
    four _ _ _ _ _
    (chosen int_min _ f.left p.x c.lesser.ensures.in_range (omega (arith, ints)) (omega (arith, ints)) c.lesser.ensures.is)
    (chosen int_max _ f.right p.x c.greater.ensures.in_range (omega (arith, ints)) (omega (arith, ints)) c.greater.ensures.is)
    (chosen int_min _ f.low p.y c.lesser-2.ensures.in_range (omega (arith, ints)) (omega (arith, ints)) c.lesser-2.ensures.is)
    (chosen int_max _ f.high p.y c.greater-2.ensures.in_range (omega (arith, ints)) (omega (arith, ints)) c.greater-2.ensures.is)
