-- The first points on rays, gathered in the order of directions.
use Rattle.std.proofs.Common.{◌≡◌, ℕ, ◌+◌, ◌-◌, ◌<◌, ◌≤◌, pos, ◌<ℤ◌, List, [], ◌∷◌, ◌++◌, length, slice_index, reverse, All, AllPairs, ⊎_elim, refl, arith, sym, ap, ◌∙◌, subst, length-append}
use Rattle.std.proofs.lemmas.Bool.{cases_lt}
use Rattle.std.proofs.lemmas.Int.{ints}
use Rattle.std.proofs.lemmas.List.{get_or_default, get_or_push, get_or_append_left, get_or-reverse, length-reverse}
use Rattle.std.proofs.lemmas.List.Elements.{All-push, All-weaker}
use Rattle.std.proofs.lemmas.List.Quantifiers.{all_pairs_push}
use Rattle.exact_predicates.specs.declared.point.Point.{Point}
use Rattle.exact_predicates.specs.Plane.{orient}
use Rattle.exact_predicates.specs.PointSet.{IsPointSet, point_at}
use Rattle.exact_predicates.proofs.HalfPlane.{turn_strict_last}
use Rattle.exact_predicates.proofs.Line.{orient-on_line}
use Rattle.exact_predicates.proofs.Numbers.{IsOrdered-points}
use Rattle.exact_predicates.proofs.Orientation.{orient_swapped_last, orient_last_twice, orient_return}
use Rattle.point_grid.specs.Directions.{AreByDirection}
use Rattle.point_grid.proofs.Rays.{follows}
use Rattle.empty_triangles.specs.Rays.{IsOnRay, AreHeads, AreTurning}

-- the heads among the first k places of an order, from right to left
pub record AreHeadsTo (ps : List Point) (a : ℕ) (order : List ℕ) (k : ℕ) (heads : List ℕ) : Type 0 where
  pub placed : All (λ b. (m : ℕ) × (m < k) × (slice_index order m ≡ b)) heads
  pub turning : AllPairs (λ b c. pos 0 <ℤ orient (point_at ps a) (point_at ps b) (point_at ps c)) heads
  pub covered : (m : ℕ) → m < k → IsOnRay ps a heads (slice_index order m)

module _ (ps : List Point) (a : ℕ) (order : List ℕ) (v : IsPointSet ps) (a_in : a < length ps) (d : AreByDirection ps a order) where
  abbrev P : ℕ → Point
  P k = point_at ps (slice_index order k)

  pub AreHeadsTo-none : AreHeadsTo ps a order 0 []
  AreHeadsTo-none = record { placed = λ k c l. absurd (omega arith); turning = λ i j c l m. absurd (omega arith); covered = λ m l. absurd (omega arith) }

  -- a point that is turned away from the one before is turned away from all
  away : (k m : ℕ) → k < length order → m < k → (0 < k → pos 0 <ℤ orient (point_at ps a) (P (k - 1)) (P k)) → pos 0 <ℤ orient (point_at ps a) (P m) (P k)
  away k m k_in l turned =
      let o = IsOrdered-points ps v in
      let nm = d.each m 0 (omega arith) in
      let nl = d.each (k - 1) 0 (omega arith) in
      let nk = d.each k 0 k_in in
      ⊎_elim
      (λ s. turn_strict_last (point_at ps a) (P m) (P (k - 1)) (P k) (o.rising a _ nm.0 nm.1) (o.rising a _ nl.0 nl.1) (o.rising a _ nk.0 nk.1)
      (⊎_elim (λ t. omega (arith, ints)) (λ t. let t0 = t.0 in omega (arith, ints)) (follows ps a order v a_in d m (k - 1) s (omega arith))) (turned (omega arith)))
      (λ s. let same : k - 1 ≡ m = omega arith in subst (λ (x : ℕ). pos 0 <ℤ orient (point_at ps a) (P x) (P k)) same (turned (omega arith)))
      (cases_lt m (k - 1))

  still : (heads : List ℕ) (c r : ℕ) → IsOnRay ps a heads r → IsOnRay ps a (heads ++ c ∷ []) r
  still heads c r h =
      let l = h.place_in in
      let same : slice_index heads h.place ≡ slice_index (heads ++ c ∷ []) h.place = sym (get_or_append_left heads (c ∷ []) 0 h.place l) in
      record {
        place = h.place;
        place_in = omega (arith, length-append heads (c ∷ []));
        on = subst (λ (x : ℕ). orient (point_at ps a) (point_at ps x) (point_at ps r) ≡ pos 0) same h.on;
        near = subst (λ (x : ℕ). x ≤ r) same h.near;
      }

  pub AreHeadsTo-push : (k : ℕ) (heads : List ℕ) → k < length order → (0 < k → pos 0 <ℤ orient (point_at ps a) (P (k - 1)) (P k)) → AreHeadsTo ps a order k heads → AreHeadsTo ps a order (k + 1) (heads ++ slice_index order k ∷ [])
  AreHeadsTo-push k heads k_in turned h =
      let c = slice_index order k in
      let last : c ≡ slice_index (heads ++ c ∷ []) (length heads) = sym (get_or_push heads c 0 (length heads) refl) in
      record {
        placed = All-push (IsPlaced (k + 1)) heads c (All-weaker (IsPlaced k) (IsPlaced (k + 1)) (λ b p. let l = p.1 in (p.0, omega arith, p.2)) heads h.placed) (k, omega arith, refl);
        turning = all_pairs_push (λ b e. pos 0 <ℤ orient (point_at ps a) (point_at ps b) (point_at ps e)) heads c h.turning
            (λ s x l. let p = h.placed s x l in subst (λ (b : ℕ). pos 0 <ℤ orient (point_at ps a) (point_at ps b) (P k)) p.2 (away k p.0 k_in p.1 turned));
        covered = λ m l.
            ⊎_elim
            (λ s. still heads c (slice_index order m) (h.covered m s))
            (λ s. let same : k ≡ m = omega arith in subst (λ (x : ℕ). IsOnRay ps a (heads ++ c ∷ []) (slice_index order x)) same
            (record {
              place = length heads;
              place_in = omega (arith, length-append heads (c ∷ []));
              on = subst (λ (x : ℕ). orient (point_at ps a) (point_at ps x) (P k) ≡ pos 0) last (orient_last_twice (point_at ps a) (P k));
              near = omega (arith, last);
            }))
            (cases_lt m k);
      }
    where
      IsPlaced : ℕ → ℕ → Type 0
      IsPlaced j b = (m : ℕ) × (m < j) × (slice_index order m ≡ b)

  pub AreHeadsTo-skip : (k : ℕ) (heads : List ℕ) → k < length order → (¬ (0 < k → pos 0 <ℤ orient (point_at ps a) (P (k - 1)) (P k))) → AreHeadsTo ps a order k heads → AreHeadsTo ps a order (k + 1) heads
  AreHeadsTo-skip k heads k_in none h = record {
    placed = All-weaker (λ b. (m : ℕ) × (m < k) × (slice_index order m ≡ b)) (λ b. (m : ℕ) × (m < k + 1) × (slice_index order m ≡ b)) (λ b p. let l = p.1 in (p.0, omega arith, p.2)) heads h.placed;
    turning = h.turning;
    covered = λ m l. ⊎_elim (λ s. h.covered m s) (λ s. let same : k ≡ m = omega arith in subst (λ (x : ℕ). IsOnRay ps a heads (slice_index order x)) same same_ray) (cases_lt m k);
  }
    where
      some : 0 < k
      some = ⊎_elim (λ l. l) (λ l. absurd (none (λ m. absurd (omega arith)))) (cases_lt 0 k)

      same_ray : IsOnRay ps a heads (slice_index order k)
      same_ray =
          let o = IsOrdered-points ps v in
          let nl = d.each (k - 1) 0 (omega (arith, some)) in
          let r = h.covered (k - 1) (omega (arith, some)) in
          let A = point_at ps a in
          ⊎_elim
          (λ t. absurd (none (λ m. t)))
          (λ t. let near = r.near in record {
            place = r.place;
            place_in = r.place_in;
            on = orient-on_line A (P (k - 1)) A (point_at ps (slice_index heads r.place)) (P k) (o.rising a _ nl.0 nl.1) (orient_return A (P (k - 1)))
                (let on = r.on in omega (arith, ints, orient_swapped_last A (P (k - 1)) (point_at ps (slice_index heads r.place)))) t.0;
            near = omega (arith, t.1);
          })
          (follows ps a order v a_in d (k - 1) k (omega (arith, some)) k_in)

  -- turned round
  pub AreHeads-reverse : (k : ℕ) (heads : List ℕ) → length order ≤ k → k ≤ length order → AreHeadsTo ps a order k heads → AreHeads ps a order (reverse heads)
  AreHeads-reverse k heads past within h = record {
    each = λ i x l.
        let i_in : i < length heads = omega (arith, length-reverse heads) in
        let p = h.placed (length heads - 1 - i) x (omega arith) in
        rw (get_or-reverse heads i x i_in) (p.0, omega (arith, p.1), get_or_default order p.0 _ 0 (omega (arith, p.1)) ∙ p.2);
    turning = λ i j x l j_in.
        let j_heads : j < length heads = omega (arith, length-reverse heads) in
        rw (get_or-reverse heads i x (omega arith), get_or-reverse heads j x j_heads) (h.turning (length heads - 1 - j) (length heads - 1 - i) x (omega arith) (omega arith));
    covered = λ m x m_in.
        let r = h.covered m (omega arith) in
        let l = r.place_in in
        let back : slice_index heads r.place ≡ slice_index (reverse heads) (length heads - 1 - r.place) =
        sym (get_or-reverse heads (length heads - 1 - r.place) 0 (omega arith) ∙ ap (slice_index heads) (omega arith)) in
        subst (IsOnRay ps a (reverse heads)) (get_or_default order m 0 x m_in)
        (record {
          place = length heads - 1 - r.place;
          place_in = omega (arith, length-reverse heads);
          on = subst (λ (y : ℕ). orient (point_at ps a) (point_at ps y) (P m) ≡ pos 0) back r.on;
          near = subst (λ (y : ℕ). y ≤ slice_index order m) back r.near;
        });
  }

-- they lie after a
pub turning_heads : (ps : List Point) (a : ℕ) (order heads : List ℕ) → AreByDirection ps a order → AreHeads ps a order heads → AreTurning ps a heads
turning_heads ps a order heads d h = record {
  each = λ k x l. let (m, m_in, at_m) = h.each k x l in subst (λ (b : ℕ). (a < b) × (b < length ps)) at_m (d.each m _ m_in);
  turning = h.turning;
}

-- what lies to the left of the line to a head comes before it
pub left_before : (ps : List Point) (a : ℕ) (heads : List ℕ) → AreTurning ps a heads → (b k m : ℕ) → k < length heads → slice_index heads k ≡ b → m < length heads
    → pos 0 <ℤ orient (point_at ps a) (point_at ps b) (point_at ps (slice_index heads m)) → m < k
left_before ps a heads t b k m k_in is m_in left =
    ⊎_elim
    (λ l. l)
    (λ l. absurd (let turn = subst (λ (x : ℕ). pos 0 <ℤ orient (point_at ps a) (point_at ps x) (point_at ps (slice_index heads m))) (sym is) left in
    ⊎_elim
    (λ s. let back = t.turning k m 0 s m_in in omega (arith, ints, orient_swapped_last (point_at ps a) (point_at ps (slice_index heads k)) (point_at ps (slice_index heads m))))
    (λ s. let same : m ≡ k = omega arith in
    let on = subst (λ (x : ℕ). pos 0 <ℤ orient (point_at ps a) (point_at ps (slice_index heads k)) (point_at ps (slice_index heads x))) same turn in omega (arith, ints, orient_last_twice (point_at ps a) (point_at ps (slice_index heads k))))
    (cases_lt k m)))
    (cases_lt m k)

-- and what does not, does not
pub not_left_behind : (ps : List Point) (a : ℕ) (heads : List ℕ) → AreTurning ps a heads → (b k m : ℕ) → k < length heads → slice_index heads k ≡ b
    → (¬ (pos 0 <ℤ orient (point_at ps a) (point_at ps b) (point_at ps (slice_index heads m)))) → k ≤ m
not_left_behind ps a heads t b k m k_in is none =
    ⊎_elim
    (λ l. absurd (none (subst (λ (x : ℕ). pos 0 <ℤ orient (point_at ps a) (point_at ps x) (point_at ps (slice_index heads m))) is (t.turning m k 0 l k_in))))
    (λ l. l)
    (cases_lt m k)
