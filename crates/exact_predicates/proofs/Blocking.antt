-- An edge is a candidate with the diamond test on where no point blocks one of its sides.
use Rattle.std.proofs.Common.{◌≡◌, ◌⊎◌, ℕ, ◌+◌, ◌<◌, ℤ, pos, ◌+ℤ◌, ◌-ℤ◌, ◌*ℤ◌, ◌≤ℤ◌, ◌<ℤ◌, List, [], ◌∷◌, length, arith, inl, inr, ⊎_elim, ap, ◌∙◌}
use Rattle.std.proofs.lemmas.Int.{ints, by_lt_z}
use Rattle.std.proofs.Math.IntN.{zero-*ℤ}
use Rattle.exact_predicates.specs.declared.diamond.Diamond.TheVariants.{On}
use Rattle.exact_predicates.specs.declared.edge.Edge.{Edge}
use Rattle.exact_predicates.specs.declared.point.Point.{Point}
use Rattle.exact_predicates.specs.Blocking.{Blocks, IsFree}
use Rattle.exact_predicates.specs.Candidates.{IsCandidate, IsDiamondEmpty}
use Rattle.exact_predicates.specs.Hull.{IsHull, IsHullPair}
use Rattle.exact_predicates.specs.Plane.{orient, dot, IsBetween, IsInLeftDiamond}
use Rattle.exact_predicates.specs.PointSet.{point_at}
use Rattle.exact_predicates.proofs.Between.{IsBetween-turned}
use Rattle.exact_predicates.proofs.HalfPlane.{cross}
use Rattle.exact_predicates.proofs.IntSigns.{square-nonneg, mul-nonneg, mul-pos}
use Rattle.exact_predicates.proofs.Orientation.{coordinates, orient_swapped}
use Rattle.exact_predicates.proofs.Ring.{Term, var, plus, less, times, ring}

-- the term of `dot` of three points, whose coordinates are the variables from i, j and k on
abbrev inner : ℕ → ℕ → ℕ → Term
inner i j k =
    plus (times (less (var j) (var i)) (less (var k) (var i))) (times (less (var (j + 1)) (var (i + 1))) (less (var (k + 1)) (var (i + 1))))

square : (p r : Point) → pos 0 ≤ℤ dot p r r
unfolding dot
square p r = omega (arith, ints, square-nonneg (r.x -ℤ p.x), square-nonneg (r.y -ℤ p.y))

-- what the ends see of r, and what r sees of the ends
dot_at_p : (p q r : Point) → dot r p q +ℤ dot p q r ≡ dot p r r
unfolding dot
dot_at_p p q r = ring (coordinates (p ∷ q ∷ r ∷ [])) (plus (inner 4 0 2) (inner 0 2 4)) (inner 0 4 4) (omega arith)

dot_at_q : (p q r : Point) → dot r p q +ℤ dot q p r ≡ dot q r r
unfolding dot
dot_at_q p q r = ring (coordinates (p ∷ q ∷ r ∷ [])) (plus (inner 4 0 2) (inner 2 0 4)) (inner 2 4 4) (omega arith)

pub dot_parts : (p q r : Point) → dot p q r +ℤ dot q p r ≡ dot p q q
unfolding dot
dot_parts p q r = ring (coordinates (p ∷ q ∷ r ∷ [])) (plus (inner 0 2 4) (inner 2 0 4)) (inner 0 2 2) (omega arith)

-- Lagrange's identity
squares : (ax ay bx by : ℤ) → ((ax *ℤ ax) +ℤ (ay *ℤ ay)) *ℤ ((bx *ℤ bx) +ℤ (by *ℤ by)) ≡ (((ax *ℤ bx) +ℤ (ay *ℤ by)) *ℤ ((ax *ℤ bx) +ℤ (ay *ℤ by))) +ℤ (cross ax ay bx by *ℤ cross ax ay bx by)
squares ax ay bx by =
    ring (ax ∷ ay ∷ bx ∷ by ∷ [])
    (times (plus (times (var 0) (var 0)) (times (var 1) (var 1))) (plus (times (var 2) (var 2)) (times (var 3) (var 3))))
    (plus
    (times (plus (times (var 0) (var 2)) (times (var 1) (var 3))) (plus (times (var 0) (var 2)) (times (var 1) (var 3))))
    (times (less (times (var 0) (var 3)) (times (var 1) (var 2))) (less (times (var 0) (var 3)) (times (var 1) (var 2)))))
    (omega arith)

lagrange : (p q r : Point) → dot p q q *ℤ dot p r r ≡ (dot p q r *ℤ dot p q r) +ℤ (orient p q r *ℤ orient p q r)
unfolding orient dot
lagrange p q r = squares _ _ _ _

products_apart : (a b c : ℤ) → a *ℤ b ≡ (((a -ℤ c) *ℤ b) +ℤ (c *ℤ (b -ℤ c))) +ℤ (c *ℤ c)
products_apart a b c =
    ring (a ∷ b ∷ c ∷ []) (times (var 0) (var 1)) (plus (plus (times (less (var 0) (var 2)) (var 1)) (times (var 2) (less (var 1) (var 2)))) (times (var 2) (var 2))) (omega arith)

-- what blocks lies in the left diamond or between the ends
pub Blocks-cases : (p q r : Point) → Blocks p q r → IsInLeftDiamond p q r ⊎ IsBetween p q r
Blocks-cases p q r b =
    by_lt_z (pos 0) (orient p q r)
    (λ l. inl (record { left = l; angle_at_p = b.angle_at_p; angle_at_q = b.angle_at_q }))
    (λ h. let left = b.left in let at_p = b.angle_at_p in let at_q = b.angle_at_q in
    let on : orient p q r ≡ pos 0 = omega (arith, ints) in
    inr (record { on_line = on; opposite = opposite on (omega (arith, ints)) (omega (arith, ints)) }))
  where
    opposite : orient p q r ≡ pos 0 → pos 0 <ℤ dot p q r → pos 0 <ℤ dot q p r → dot r p q <ℤ pos 0
    opposite on at_p at_q =
        by_lt_z (dot r p q) (pos 0)
        (λ l. l)
        (λ h. let whole = dot_parts p q r in
        let far = dot_at_p p q r in
        let m = mul-pos (dot p q q -ℤ dot p q r) (dot p r r) (omega (arith, ints)) (omega (arith, ints)) in
        let n = mul-nonneg (dot p q r) (dot p r r -ℤ dot p q r) (omega (arith, ints)) (omega (arith, ints)) in
        let none : orient p q r *ℤ orient p q r ≡ pos 0 = ap (λ z. z *ℤ orient p q r) on ∙ zero-*ℤ (orient p q r) in
        absurd (omega (arith, ints, lagrange p q r, products_apart (dot p q q) (dot p r r) (dot p q r))))

pub Blocks-diamond : (p q r : Point) → IsInLeftDiamond p q r → Blocks p q r
Blocks-diamond p q r d =
    let l = d.left in record { left = omega (arith, ints); angle_at_p = d.angle_at_p; angle_at_q = d.angle_at_q }

pub Blocks-between : (p q r : Point) → IsBetween p q r → Blocks p q r
Blocks-between p q r b =
    let on = b.on_line in
    let l = b.opposite in
    record {
      left = omega (arith, ints);
      angle_at_p = omega (arith, ints, dot_at_p p q r, square p r);
      angle_at_q = omega (arith, ints, dot_at_q p q r, square q r);
    }

module _ (ps : List Point) (hull : List ℕ) (h : IsHull ps hull) where
  -- no point blocks a side of a candidate
  pub free-candidate : (e : Edge) → IsCandidate ps hull On e → IsFree ps e.a e.b ⊎ IsFree ps e.b e.a
  free-candidate e c = ⊎_elim (⊎_elim hull_right hull_left) (⊎_elim (λ none. inl (left none)) (λ none. inr (right none))) c.passes
    where
      left : IsDiamondEmpty ps e.a e.b → IsFree ps e.a e.b
      left none = λ r r_in b. ⊎_elim (none r r_in) (c.clear r r_in) (Blocks-cases _ _ _ b)

      right : IsDiamondEmpty ps e.b e.a → IsFree ps e.b e.a
      right none = λ r r_in b. ⊎_elim (none r r_in) (λ k. c.clear r r_in (IsBetween-turned _ _ _ k)) (Blocks-cases _ _ _ b)

      -- the right diamond of a pair of the hull is empty
      behind : (u v r : ℕ) → IsHullPair hull u v → r < length ps → ¬ IsInLeftDiamond (point_at ps v) (point_at ps u) (point_at ps r)
      behind u v r pair r_in d =
          let l = d.left in
          let k = h.none_right u v r pair r_in in
          omega (arith, ints, orient_swapped (point_at ps u) (point_at ps v) (point_at ps r))

      hull_right : IsHullPair hull e.a e.b → IsFree ps e.a e.b ⊎ IsFree ps e.b e.a
      hull_right pair = inr (right (λ r r_in. behind e.a e.b r pair r_in))

      hull_left : IsHullPair hull e.b e.a → IsFree ps e.a e.b ⊎ IsFree ps e.b e.a
      hull_left pair = inl (left (λ r r_in. behind e.b e.a r pair r_in))

-- where no point blocks one of its sides, an edge is a candidate
pub candidate-free : (ps : List Point) (hull : List ℕ) (e : Edge) → e.b < length ps → IsFree ps e.a e.b ⊎ IsFree ps e.b e.a → IsCandidate ps hull On e
candidate-free ps hull e b_in free =
    ⊎_elim
    (λ f. record {
      b_in = b_in;
      clear = λ r r_in k. f r r_in (Blocks-between _ _ _ k);
      passes = inr (inl (λ r r_in d. f r r_in (Blocks-diamond _ _ _ d)));
    })
    (λ f. record {
      b_in = b_in;
      clear = λ r r_in k. f r r_in (Blocks-between _ _ _ (IsBetween-turned _ _ _ k));
      passes = inr (inr (λ r r_in d. f r r_in (Blocks-diamond _ _ _ d)));
    })
    free
