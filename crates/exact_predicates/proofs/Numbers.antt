-- The order of points is that of their numbers.
use Rattle.std.proofs.Common.{◌≢◌, ℕ, ◌<◌, ◌≤◌, pos, ◌<ℤ◌, min, max, List, length, sym, subst, ⊎_elim, arith}
use Rattle.std.proofs.lemmas.Bool.{cases_order, cases_lt}
use Rattle.exact_predicates.specs.declared.point.Point.{Point}
use Rattle.exact_predicates.specs.Plane.{orient, Precedes, IsBetween, IsInClosedTriangle}
use Rattle.exact_predicates.specs.PointSet.{IsPointSet, point_at}
use Rattle.exact_predicates.proofs.Order.{Precedes-not}
use Rattle.exact_predicates.proofs.Between.{IsBetween-order, IsBetween-turned}
use Rattle.exact_predicates.proofs.Triangles.{earlier_outside, later_outside}

-- the points with numbers below n come in the order of their numbers
pub record IsOrdered (P : ℕ → Point) (n : ℕ) : Type 0 where
  pub rising : (i j : ℕ) → i < j → j < n → Precedes (P i) (P j)

-- the points of each problem do
pub IsOrdered-points : (ps : List Point) → IsPointSet ps → IsOrdered (point_at ps) (length ps)
IsOrdered-points ps v = record { rising = λ i j l m. v.ascending i j _ l m }

-- a point that comes before another has the lesser number
pub number_order : {P : ℕ → Point} {n : ℕ} → IsOrdered P n → (i j : ℕ) → i < n → Precedes (P i) (P j) → i < j
number_order {P = P} o i j i_in h =
    ⊎_elim
    (λ e. absurd (Precedes-not (P i) (P j) h (subst (λ x. Precedes (P x) (P i)) e (subst (λ x. Precedes (P i) (P x)) (sym e) h))))
    (λ c. ⊎_elim (λ l. l) (λ l. absurd (Precedes-not (P i) (P j) h (o.rising j i l i_in))) c)
    (cases_order i j)

-- a point between two others has a number between theirs
pub IsBetween-numbers : (ps : List Point) (p q r : ℕ) → IsPointSet ps → p < length ps → q < length ps → r < length ps → p ≢ q
    → IsBetween (point_at ps p) (point_at ps q) (point_at ps r) → (min p q < r) × (r < max p q)
IsBetween-numbers ps p q r v p_in q_in r_in apart b =
    ⊎_elim
    (λ e. absurd (apart e))
    (λ c. ⊎_elim
    (λ l. let k = inside p q l q_in b in (omega (arith, k.0), omega (arith, k.1)))
    (λ l. let k = inside q p l p_in (IsBetween-turned _ _ _ b) in (omega (arith, k.0), omega (arith, k.1)))
    c)
    (cases_order p q)
  where
    inside : (i j : ℕ) → i < j → j < length ps → IsBetween (point_at ps i) (point_at ps j) (point_at ps r) → (i < r) × (r < j)
    inside i j l j_in h =
        let o = IsOrdered-points ps v in
        let k = IsBetween-order _ _ _ (o.rising i j l j_in) h in
        (number_order o i r (omega arith) k.0, number_order o r j r_in k.1)

-- a point of a closed triangle has a number from the least to the greatest of the corners
pub triangle_numbers : (ps : List Point) (a b c r : ℕ) → IsPointSet ps → a < length ps → b < length ps → c < length ps → r < length ps
    → pos 0 <ℤ orient (point_at ps a) (point_at ps b) (point_at ps c) → IsInClosedTriangle (point_at ps a) (point_at ps b) (point_at ps c) (point_at ps r)
    → (min a (min b c) ≤ r) × (r ≤ max a (max b c))
triangle_numbers ps a b c r v a_in b_in c_in r_in area i =
    let o = IsOrdered-points ps v in (
      ⊎_elim (λ l. absurd (earlier_outside _ _ _ _ (o.rising r a (omega arith) a_in) (o.rising r b (omega arith) b_in) (o.rising r c (omega arith) c_in) area i)) (λ l. l) (cases_lt r (min a (min b c))),
      ⊎_elim (λ l. absurd (later_outside _ _ _ _ (o.rising a r (omega arith) r_in) (o.rising b r (omega arith) r_in) (o.rising c r (omega arith) r_in) area i)) (λ l. l) (cases_lt (max a (max b c)) r),
    )
