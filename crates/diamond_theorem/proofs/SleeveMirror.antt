-- Sleeves in the mirror: a flip of the image is one of the sleeve.
use Rattle.std.proofs.Common.{◌≡◌, ◌⊎◌, ℕ, List, [], ◌∷◌, ◌++◌, map, arith, ap, refl, sym, ◌∙◌, subst, ⊎_elim, inl, inr}
use Rattle.std.proofs.lemmas.Int.{ints}
use Rattle.exact_predicates.specs.declared.point.Point.{Point}
use Rattle.exact_predicates.specs.Plane.{AreApart, Crosses}
use Rattle.exact_predicates.proofs.Orientation.{orient_swapped}
use Rattle.diamond_theorem.specs.Sleeves.{AreTriangles, IsFlippable, first_or, step_after}
use Rattle.diamond_theorem.specs.Walks.{Corner, on_left, on_right, next_step}
use Rattle.diamond_theorem.proofs.Mirror.{mirror, orient_mirror}
use Rattle.diamond_theorem.proofs.SleeveFlips.{HasFlipFrom}

-- a step the other way round
abbrev pub turned : ℕ × ℕ → ℕ × ℕ
turned s = (s.1, s.0)

-- a corner on the other side
abbrev pub other_side : Corner → Corner
other_side (on_left z) = on_right z
other_side (on_right z) = on_left z

other_twice : (cs : List Corner) → map other_side (map other_side cs) ≡ cs
other_twice [] = refl
other_twice (on_left z ∷ cs) = ap (λ l. on_left z ∷ l) (other_twice cs)
other_twice (on_right z ∷ cs) = ap (λ l. on_right z ∷ l) (other_twice cs)

other_append : (xs : List Corner) (c : Corner) (ys : List Corner) → map other_side (xs ++ c ∷ ys) ≡ map other_side xs ++ other_side c ∷ map other_side ys
other_append [] c ys = refl
other_append (x ∷ xs) c ys = ap (λ l. other_side x ∷ l) (other_append xs c ys)

-- the image of a sleeve
pub AreTriangles-mirror : (at : ℕ → Point) (s : ℕ × ℕ) (cs : List Corner) (q : ℕ) → AreTriangles at s cs q → AreTriangles (λ n. mirror (at n)) (turned s) (map other_side cs) q
AreTriangles-mirror at s [] q h = rw (orient_mirror (at s.0) (at s.1) (at q)) h
AreTriangles-mirror at s (on_left z ∷ cs) q h = (rw (orient_mirror (at s.0) (at s.1) (at z)) h.0, AreTriangles-mirror at (z, s.1) cs q h.1)
AreTriangles-mirror at s (on_right z ∷ cs) q h = (rw (orient_mirror (at s.0) (at s.1) (at z)) h.0, AreTriangles-mirror at (s.0, z) cs q h.1)

apart_mirror : (p q r s : Point) → AreApart (mirror q) (mirror p) (mirror r) (mirror s) → AreApart p q r s
apart_mirror p q r s h =
    ⊎_elim
    (λ k. let k0 = k.0 in let k1 = k.1 in inl (omega (arith, ints, orient_mirror p q r), omega (arith, ints, orient_mirror p q s)))
    (λ k. let k0 = k.0 in let k1 = k.1 in inr (omega (arith, ints, orient_mirror p q r), omega (arith, ints, orient_mirror p q s)))
    h

apart_turned : (p q r s : Point) → AreApart p q s r → AreApart q p r s
apart_turned p q r s h =
    ⊎_elim
    (λ k. let k0 = k.0 in let k1 = k.1 in inl (omega (arith, ints, orient_swapped p q r), omega (arith, ints, orient_swapped p q s)))
    (λ k. let k0 = k.0 in let k1 = k.1 in inr (omega (arith, ints, orient_swapped p q r), omega (arith, ints, orient_swapped p q s)))
    h

Crosses-mirror : (p q r s : Point) → Crosses (mirror q) (mirror p) (mirror r) (mirror s) → Crosses p q r s
Crosses-mirror p q r s h =
    record {
      by_line = apart_mirror p q r s h.by_line;
      by_other = apart_turned s r p q (apart_mirror s r q p h.by_other);
    }

-- how steps go on in the image
next_mirror : (s : ℕ × ℕ) (c : Corner) → next_step (turned s) c ≡ turned (next_step s (other_side c))
next_mirror s (on_left z) = refl
next_mirror s (on_right z) = refl

after_mirror : (s : ℕ × ℕ) (cs : List Corner) → step_after (turned s) cs ≡ turned (step_after s (map other_side cs))
after_mirror s [] = refl
after_mirror s (on_left z ∷ cs) = after_mirror (s.0, z) cs
after_mirror s (on_right z ∷ cs) = after_mirror (z, s.1) cs

first_mirror : (cs : List Corner) (q : ℕ) → first_or cs q ≡ first_or (map other_side cs) q
first_mirror [] q = refl
first_mirror (on_left z ∷ cs) q = refl
first_mirror (on_right z ∷ cs) q = refl

-- a step that can be flipped in the image
flippable_mirror : (at : ℕ → Point) (s : ℕ × ℕ) (c : Corner) (w : ℕ) → IsFlippable (λ n. mirror (at n)) (turned s) c w → IsFlippable at s (other_side c) w
flippable_mirror at s (on_left z) w h = Crosses-mirror (at s.0) (at z) (at s.1) (at w) h
flippable_mirror at s (on_right z) w h = Crosses-mirror (at z) (at s.1) (at s.0) (at w) h

end_mirror : (s : ℕ × ℕ) (c : Corner) (z : ℕ) → (z ≡ (next_step (turned s) c).0) ⊎ (z ≡ (next_step (turned s) c).1)
    → (z ≡ (next_step s (other_side c)).0) ⊎ (z ≡ (next_step s (other_side c)).1)
end_mirror s (on_left y) z h = ⊎_elim (λ e. inr e) (λ e. inl e) h
end_mirror s (on_right y) z h = ⊎_elim (λ e. inr e) (λ e. inl e) h

pub HasFlipFrom-mirror : (at : ℕ → Point) (s : ℕ × ℕ) (cs : List Corner) (q z : ℕ)
    → HasFlipFrom (λ n. mirror (at n)) (turned s) (map other_side cs) q z → HasFlipFrom at s cs q z
HasFlipFrom-mirror at s cs q z f =
    let before = map other_side f.before in
    let moved : IsFlippable (λ n. mirror (at n)) (turned (step_after s before)) f.corner (first_or (map other_side f.after) q)
    = subst (λ w. IsFlippable (λ n. mirror (at n)) (turned (step_after s before)) f.corner w) (first_mirror f.after q)
    (subst (λ t. IsFlippable (λ n. mirror (at n)) t f.corner (first_or f.after q)) (after_mirror s f.before) f.flippable) in
    let at_end : (z ≡ (next_step (turned (step_after s before)) f.corner).0) ⊎ (z ≡ (next_step (turned (step_after s before)) f.corner).1)
    = subst (λ t. (z ≡ (next_step t f.corner).0) ⊎ (z ≡ (next_step t f.corner).1)) (after_mirror s f.before) f.at_z in
    record {
      before = before;
      corner = other_side f.corner;
      after = map other_side f.after;
      split = sym (other_twice cs) ∙ (ap (λ l. map other_side l) f.split ∙ other_append f.before f.corner f.after);
      flippable = flippable_mirror at (step_after s before) f.corner (first_or (map other_side f.after) q) moved;
      at_z = end_mirror (step_after s before) f.corner z at_end;
    }
