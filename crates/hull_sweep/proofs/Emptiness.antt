-- The triangles of a step are empty: those that it adds, and those that were there before it.
use Rattle.std.proofs.Common.{◌≡◌, ℕ, ◌+◌, ◌<◌, List, All, pos, ◌≤ℤ◌, ◌<ℤ◌, arith, subst, ⊎_elim, ◌⊎◌, inl, inr}
use Rattle.std.proofs.lemmas.Int.{ints}
use Rattle.std.proofs.lemmas.Bool.{cases_lt, cases_order}
use Rattle.std.proofs.lemmas.List.Elements.{All-weaker}
use Rattle.exact_predicates.specs.declared.point.Point.{Point}
use Rattle.exact_predicates.specs.declared.tri.Tri.{Tri}
use Rattle.exact_predicates.specs.Plane.{orient, IsInClosedTriangle}
use Rattle.exact_predicates.specs.Triangulation.{IsCorner}
use Rattle.exact_predicates.proofs.Numbers.{IsOrdered}
use Rattle.exact_predicates.proofs.Orientation.{orient_turned, orient_swapped}
use Rattle.exact_predicates.proofs.Triangles.{later_outside}
use Rattle.hull_sweep.specs.declared.chain.Chain.{Chain}
use Rattle.hull_sweep.specs.declared.chain.Chain.TheVariants.{Lower, Upper}
use Rattle.hull_sweep.specs.Chain.{turn}
use Rattle.hull_sweep.specs.Join.{HasTriangle, IsEmptyBelow}
use Rattle.hull_sweep.proofs.Chains.{IsAhead, pair_order, before_next}
use Rattle.hull_sweep.proofs.Views.{not_before_pair, not_after_pair}

-- a triangle stays empty when a later point comes
stays_empty : (P : ℕ → Point) (n q : ℕ) (t : Tri) → IsOrdered P n → q < n → IsEmptyBelow P q t → IsEmptyBelow P (q + 1) t
stays_empty P n q t o q_in h =
    record {
      a_in = omega (arith, h.a_in);
      b_in = omega (arith, h.b_in);
      c_in = omega (arith, h.c_in);
      turns_left = h.turns_left;
      bare = λ r r_in i. ⊎_elim
          (λ l. h.bare r l i)
          (λ l. let e : r ≡ q = omega arith in
          absurd (later_outside (P t.a) (P t.b) (P t.c) (P q)
          (o.rising t.a q h.a_in q_in)
          (o.rising t.b q h.b_in q_in)
          (o.rising t.c q h.c_in q_in)
          h.turns_left
          (subst (λ x. IsInClosedTriangle (P t.a) (P t.b) (P t.c) (P x)) e i)))
          (cases_lt r q);
    }

-- and so do all that were there
pub all_stay_empty : (P : ℕ → Point) (n q : ℕ) (ts : List Tri) → IsOrdered P n → q < n → All (IsEmptyBelow P q) ts → All (IsEmptyBelow P (q + 1)) ts
all_stay_empty P n q ts o q_in h = All-weaker (IsEmptyBelow P q) (IsEmptyBelow P (q + 1)) (λ t. stays_empty P n q t o q_in) ts h

-- What the triangle of q with the pair from y up to x is, on either side: its corners, and that it has on its left what lies
-- outside the pair and inside the two new ones.
pub record IsTriangleOn (s : Chain) (P : ℕ → Point) (y x q : ℕ) (t : Tri) : Type 0 where
  pub corner : (r : ℕ) → (r ≡ y) ⊎ ((r ≡ x) ⊎ (r ≡ q)) → IsCorner t r
  pub known : (m : ℕ) → y < m → x < m → q < m → (t.a < m) × (t.b < m) × (t.c < m)
  pub turns_left : turn s (P y) (P x) (P q) <ℤ pos 0 → pos 0 <ℤ orient (P t.a) (P t.b) (P t.c)
  pub outside : (r : Point) → IsInClosedTriangle (P t.a) (P t.b) (P t.c) r → turn s (P y) (P x) r ≤ℤ pos 0
  pub low : (r : Point) → IsInClosedTriangle (P t.a) (P t.b) (P t.c) r → pos 0 ≤ℤ turn s (P y) (P q) r
  pub high : (r : Point) → IsInClosedTriangle (P t.a) (P t.b) (P t.c) r → pos 0 ≤ℤ turn s (P q) (P x) r

-- and that it is so
pub triangle_on : (s : Chain) (P : ℕ → Point) (y x q : ℕ) (t : Tri) → HasTriangle s y x q t → IsTriangleOn s P y x q t
triangle_on Lower P y x q t (a, b, c) =
    record {
      corner = λ r. rw (a, b, c) (λ h. ⊎_elim (λ e. inl e) (λ k. ⊎_elim (λ e. inr (inr e)) (λ e. inr (inl e)) k) h);
      known = λ m y_in x_in q_in. rw (a, b, c) (y_in, q_in, x_in);
      turns_left = rw (a, b, c) (λ h. omega (arith, ints, orient_swapped (P y) (P x) (P q), orient_turned (P x) (P y) (P q), orient_turned (P y) (P q) (P x)));
      outside = λ r. rw (a, b, c) (λ i. let ca = i.left_of_ca in omega (arith, ints, orient_swapped (P y) (P x) r));
      low = λ r. rw (a, b, c) (λ i. i.left_of_ab);
      high = λ r. rw (a, b, c) (λ i. i.left_of_bc);
    }
triangle_on Upper P y x q t (a, b, c) =
    record {
      corner = λ r. rw (a, b, c) (λ h. h);
      known = λ m y_in x_in q_in. rw (a, b, c) (y_in, x_in, q_in);
      turns_left = rw (a, b, c) (λ h. omega (arith, ints, orient_swapped (P y) (P x) (P q)));
      outside = λ r. rw (a, b, c) (λ i. let ab = i.left_of_ab in omega (arith, ints, orient_swapped (P y) (P x) r));
      low = λ r. rw (a, b, c) (λ i. i.left_of_ca);
      high = λ r. rw (a, b, c) (λ i. i.left_of_bc);
    }

module _ {s : Chain} {P : ℕ → Point} {n q count : ℕ} {f : ℕ → ℕ} (a : IsAhead s P n q count f) where
  -- a point below q in the triangle of q with a visible pair is an end of the pair
  in_triangle : (k r : ℕ) → k + 1 < count → r < q → turn s (P (f k)) (P (f (k + 1))) (P q) <ℤ pos 0
      → turn s (P (f k)) (P (f (k + 1))) (P r) ≤ℤ pos 0 → pos 0 ≤ℤ turn s (P (f k)) (P q) (P r) → pos 0 ≤ℤ turn s (P q) (P (f (k + 1))) (P r)
      → (r ≡ f k) ⊎ (r ≡ f (k + 1))
  in_triangle k r k_in r_in seen outside low high =
      let y_x = pair_order a k k_in in
      let y_q = before_next a k (omega arith) in
      let x_q = before_next a (k + 1) k_in in
      let y_in = a.chain.known k (omega arith) in
      let inside = a.chain.inside k r k_in r_in in
      let on : turn s (P (f k)) (P (f (k + 1))) (P r) ≡ pos 0 = omega (arith, ints) in
      ⊎_elim
      (λ e. inl e)
      (λ d. ⊎_elim
      (λ below. absurd (not_before_pair s (P (f k)) (P (f (k + 1))) (P q) (P r) y_x y_q (a.ordered.rising r (f k) below (omega (arith, a.q_in))) seen on low))
      (λ above. ⊎_elim
      (λ e. inr e)
      (λ g. ⊎_elim
      (λ between. let strict = a.chain.strict k r k_in above between in absurd (omega (arith, ints)))
      (λ after. absurd (not_after_pair s (P (f k)) (P (f (k + 1))) (P q) (P r) y_x x_q (a.ordered.rising (f (k + 1)) r after (omega (arith, a.q_in))) seen on high))
      g)
      (cases_order r (f (k + 1))))
      d)
      (cases_order r (f k))

  -- the triangle of q with a visible pair is empty
  pub new_empty : (k : ℕ) (t : Tri) → k + 1 < count → turn s (P (f k)) (P (f (k + 1))) (P q) <ℤ pos 0 → HasTriangle s (f k) (f (k + 1)) q t → IsEmptyBelow P (q + 1) t
  new_empty k t k_in seen h =
      let on = triangle_on s P (f k) (f (k + 1)) q t h in
      let known = on.known (q + 1) (omega (arith, a.chain.known k (omega arith))) (omega (arith, a.chain.known (k + 1) k_in)) (omega arith) in
      record {
        a_in = known.0;
        b_in = known.1;
        c_in = known.2;
        turns_left = on.turns_left seen;
        bare = λ r r_in i. on.corner r (⊎_elim
            (λ l. ⊎_elim (λ e. inl e) (λ e. inr (inl e)) (in_triangle k r k_in l seen (on.outside (P r) i) (on.low (P r) i) (on.high (P r) i)))
            (λ l. inr (inr (omega arith)))
            (cases_lt r q));
      }
