-- The fan of a point's later points: which of them make an empty triangle with the point and a given one of them.
use Rattle.std.proofs.Common.{◌≡◌, ◌≢◌, ◌⊎◌, ℕ, ◌<◌, ◌≤◌, pos, ◌<ℤ◌, List, length, slice_index, Contains, arith, sym, ap, ◌∙◌, subst, inl, inr, ⊎_elim}
use Rattle.std.proofs.lemmas.Bool.{cases_lt, cases_order}
use Rattle.std.proofs.lemmas.Int.{ints, by_lt_z}
use Rattle.std.proofs.lemmas.List.{get_or_default}
use Rattle.exact_predicates.specs.declared.point.Point.{Point}
use Rattle.exact_predicates.specs.Plane.{orient, Precedes, IsInClosedTriangle}
use Rattle.exact_predicates.specs.PointSet.{IsPointSet, point_at}
use Rattle.exact_predicates.proofs.Between.{IsBetween-from_order}
use Rattle.exact_predicates.proofs.HalfPlane.{left_turn_strict}
use Rattle.exact_predicates.proofs.Line.{orient-same_line_left, orient-same_line_right}
use Rattle.exact_predicates.proofs.Numbers.{IsOrdered, IsOrdered-points, IsBetween-numbers}
use Rattle.exact_predicates.proofs.Orientation.{orient_turned, orient_swapped_last, orient_last_twice, orient_return}
use Rattle.point_grid.specs.Directions.{Sees}
use Rattle.empty_triangles.specs.Enumeration.{IsBare}
use Rattle.empty_triangles.specs.Rays.{IsOnRay, AreTurning, IsSeen}

module _ (ps : List Point) (v : IsPointSet ps) (a : ℕ) (a_in : a < length ps) where
  -- the first corner of an empty triangle sees the second
  sees_from_bare : (b c : ℕ) → a < b → b < length ps → IsBare ps a b c → Sees ps a b
  sees_from_bare b c up b_in h r r_in between =
      let A = point_at ps a in
      let B = point_at ps b in
      let C = point_at ps c in
      let R = point_at ps r in
      let o = IsOrdered-points ps v in
      let n = IsBetween-numbers ps a b r v a_in b_in r_in (omega arith) between in
      let on = between.on_line in
      let left = h.turns_left in
      let ab = o.rising a b up b_in in
      let ar = o.rising a r (omega (arith, n.0)) r_in in
      let rb = o.rising r b (omega (arith, n.1)) b_in in
      let rbc = orient-same_line_left A B R B C ab rb on (orient_last_twice A B) left in
      let arc = orient-same_line_left A B A R C ab ar (orient_return A B) on left in
      ⊎_elim (λ e. omega (arith, n.0)) (λ w. ⊎_elim (λ e. omega (arith, n.1)) (λ e. let flat = subst (λ (x : ℕ). orient A B (point_at ps x) ≡ pos 0) e on in omega (arith, ints)) w)
      (h.bare r r_in (record {
        left_of_ab = omega (arith, ints);
        left_of_bc = omega (arith, ints, orient_turned R B C);
        left_of_ca = omega (arith, ints, orient_turned R C A, orient_turned A R C);
      }))

module _ (ps : List Point) (v : IsPointSet ps) (a : ℕ) (a_in : a < length ps) (heads : List ℕ) (t : AreTurning ps a heads) where
  abbrev A : Point
  A = point_at ps a

  abbrev number : ℕ → ℕ
  number k = slice_index heads k

  abbrev P : ℕ → Point
  P k = point_at ps (slice_index heads k)

  turns : (i j : ℕ) → i < j → j < length heads → pos 0 <ℤ orient A (P j) (P i)
  turns i j l j_in = t.turning i j 0 l j_in

  -- they are distinct
  pub heads_apart : (i j : ℕ) → i < j → j < length heads → number i ≢ number j
  heads_apart i j l j_in same = let h = subst (λ (x : ℕ). pos 0 <ℤ orient A (P j) (point_at ps x)) same (turns i j l j_in) in omega (arith, ints, orient_last_twice A (P j))

  -- the second corner of an empty triangle comes first on its ray
  pub second_first : (b c : ℕ) → a < b → b < length ps → IsBare ps a b c → IsOnRay ps a heads b → Contains heads b
  second_first b c up b_in h r =
      let o = IsOrdered-points ps v in
      let n = t.each r.place 0 r.place_in in
      let near = r.near in
      ⊎_elim
      (λ l. absurd (sees_from_bare ps v a a_in b c up b_in h (number r.place) n.1
      (IsBetween-from_order A (point_at ps b) (P r.place) (o.rising a _ n.0 n.1) (o.rising _ b l b_in) (let on = r.on in omega (arith, ints, orient_swapped_last A (P r.place) (point_at ps b))))))
      (λ l. (r.place, r.place_in, get_or_default heads r.place b 0 r.place_in ∙ omega arith))
      (cases_lt (number r.place) b)

  -- and so does the third
  pub third_first : (b c : ℕ) → a < b → b < length ps → IsBare ps a b c → IsOnRay ps a heads c → Contains heads c
  third_first b c up b_in h r =
      let o = IsOrdered-points ps v in
      let n = t.each r.place 0 r.place_in in
      let near = r.near in
      let c_in = h.c_in in
      let B = point_at ps b in
      let C = point_at ps c in
      let H = P r.place in
      let on = r.on in
      let left = h.turns_left in
      ⊎_elim
      (λ l. let to_c : orient A C H ≡ pos 0 = omega (arith, ints, orient_swapped_last A H C) in
      let right : orient A C B <ℤ pos 0 = omega (arith, ints, orient_swapped_last A B C) in
      let ac = o.rising a c h.after c_in in
      let ah = o.rising a _ n.0 n.1 in
      let hc = o.rising _ c l c_in in
      let ahb = orient-same_line_right A C A H B ac ah (orient_return A C) to_c right in
      let hcb = orient-same_line_right A C H C B ac hc to_c (orient_last_twice A C) right in
      absurd (⊎_elim
      (λ e. omega (arith, n.0))
      (⊎_elim
      (λ e. let on_b = subst (λ (x : ℕ). orient A (point_at ps x) B <ℤ pos 0) e ahb in omega (arith, ints, orient_last_twice A B))
      (λ e. omega arith))
      (h.bare (number r.place) n.1 (record {
        left_of_ab = omega (arith, ints, orient_swapped_last A B H);
        left_of_bc = omega (arith, ints, orient_turned H B C, orient_swapped_last H B C);
        left_of_ca = omega (arith, ints, orient_turned C A H);
      }))))
      (λ l. (r.place, r.place_in, get_or_default heads r.place c 0 r.place_in ∙ omega arith))
      (cases_lt (number r.place) c)

  -- what a corner sees past all between makes an empty triangle, where all points in it are on rays of heads
  module _ (i j : ℕ) (j_in : j < length heads) (s : IsSeen ps heads i j) where
    -- a point on the ray of a head, and not nearer, in the triangle or on its rim is one of the corners
    corner : (p r : ℕ) → p < length heads → r < length ps → orient A (P p) (point_at ps r) ≡ pos 0 → number p ≤ r → IsInClosedTriangle A (P j) (P i) (point_at ps r) → (r ≡ number j) ⊎ (r ≡ number i)
    corner p r p_in r_in on near inside =
        ⊎_elim (λ l. farther l) (λ l. let e : number p ≡ r = omega arith in nearest e) (cases_lt (number p) r)
      where
        i_j : i < j
        i_j = s.before

        left : pos 0 <ℤ orient A (P j) (P i)
        left = turns i j i_j j_in

        R : Point
        R = point_at ps r

        B : Point
        B = P j

        C : Point
        C = P i

        -- where the point lies, by the place of the head
        by_place : (p < i → pos 0 <ℤ orient A C R) → (p ≡ i → (r ≡ number i) ⊎ (pos 0 <ℤ orient B R C)) → (i < p → p < j → pos 0 <ℤ orient B R C)
            → (p ≡ j → (r ≡ number j) ⊎ (pos 0 <ℤ orient B R C)) → (j < p → pos 0 <ℤ orient A R B) → (r ≡ number j) ⊎ (r ≡ number i)
        by_place before at_i between at_j after =
            let bc = inside.left_of_bc in
            let swap = orient_swapped_last B C R in
            ⊎_elim
            (λ e. ⊎_elim (λ is. inr is) (λ h. absurd (omega (arith, ints))) (at_i e))
            (⊎_elim
            (λ l. let h = before l in let ca = inside.left_of_ca in absurd (omega (arith, ints, orient_turned C A R, orient_swapped_last A C R)))
            (λ l. ⊎_elim
            (λ e. ⊎_elim (λ is. inl is) (λ h. absurd (omega (arith, ints))) (at_j e))
            (⊎_elim
            (λ m. let h = between l m in absurd (omega (arith, ints)))
            (λ m. let h = after m in let ab = inside.left_of_ab in absurd (omega (arith, ints, orient_swapped_last A B R))))
            (cases_order p j)))
            (cases_order p i)

        nearest : number p ≡ r → (r ≡ number j) ⊎ (r ≡ number i)
        nearest e =
            by_place
            (λ l. subst (λ (x : ℕ). pos 0 <ℤ orient A C (point_at ps x)) e (turns p i l (omega (arith, i_j))))
            (λ f. inl (sym e ∙ ap (slice_index heads) f))
            (λ l m. subst (λ (x : ℕ). pos 0 <ℤ orient B (point_at ps x) C) e (s.past p l m))
            (λ f. inl (sym e ∙ ap (slice_index heads) f))
            (λ l. subst (λ (x : ℕ). pos 0 <ℤ orient A (point_at ps x) B) e (turns j p l p_in))

        farther : number p < r → (r ≡ number j) ⊎ (r ≡ number i)
        farther l =
            by_place
            (λ m. let h = turns p i m (omega (arith, i_j)) in
            let k = orient-same_line_right A H A R C ah ar (orient_return A H) on (omega (arith, ints, orient_swapped_last A H C)) in
            omega (arith, ints, orient_swapped_last A C R))
            (λ e. inr (let k = orient-same_line_right A H H R B ah hr (orient_last_twice A H) on (subst (λ (x : ℕ). orient A (P x) B <ℤ pos 0) (sym e) (omega (arith, ints, left, orient_swapped_last A B C))) in
            let at_c = subst (λ (x : ℕ). orient (P x) R B <ℤ pos 0) e k in
            omega (arith, ints, orient_turned B C R, orient_swapped_last B C R)))
            (λ m n. let h = turns p j n j_in in
            let right : orient A H B <ℤ pos 0 = omega (arith, ints, orient_swapped_last A B H) in
            let arb = orient-same_line_right A H A R B ah ar (orient_return A H) on right in
            let hrb = orient-same_line_right A H H R B ah hr (orient_last_twice A H) on right in
            left_turn_strict A B R H C (omega (arith, ints, orient_swapped_last A B R)) h left (omega (arith, ints, orient_turned B H R, orient_swapped_last B H R)) (s.past p m n))
            (λ e. inr (let on_b = subst (λ (x : ℕ). orient A (P x) R ≡ pos 0) e on in
            orient-same_line_left A B B R C (o.rising a _ nj.0 nj.1) (subst (λ (x : ℕ). Precedes (P x) R) e hr) (orient_last_twice A B) on_b left))
            (λ m. orient-same_line_left A H A R B ah ar (orient_return A H) on (turns j p m p_in))
          where
            o : IsOrdered (point_at ps) (length ps)
            o = IsOrdered-points ps v

            H : Point
            H = P p

            nj : (a < number j) × (number j < length ps)
            nj = t.each j 0 j_in

            n : (a < number p) × (number p < length ps)
            n = t.each p 0 p_in

            ah : Precedes A H
            ah = o.rising a _ n.0 n.1

            hr : Precedes H R
            hr = o.rising _ r l r_in

            ar : Precedes A R
            ar = o.rising a r (omega (arith, n.0)) r_in

    pub bare_seen : ((r : ℕ) → r < length ps → IsInClosedTriangle A (P j) (P i) (point_at ps r) → (r ≡ a) ⊎ IsOnRay ps a heads r) → IsBare ps a (number j) (number i)
    bare_seen has =
        let i_j = s.before in
        let n = t.each i 0 (omega arith) in
        record {
          after = n.0;
          c_in = n.1;
          turns_left = turns i j i_j j_in;
          bare = λ r r_in inside. ⊎_elim (λ e. inl e) (λ h. inr (corner h.place r h.place_in r_in h.on h.near inside)) (has r r_in inside);
        }

  -- and no others do
  pub seen_bare : (i j : ℕ) → i < j → j < length heads → IsBare ps a (number j) (number i) → IsSeen ps heads i j
  seen_bare i j l j_in h = record {
    before = l;
    past = λ k up k_j. by_lt_z (pos 0) (orient (P j) (P k) (P i)) (λ m. m) (λ m.
        let n = t.each k 0 (omega arith) in
        let kj = turns k j k_j j_in in
        let ik = turns i k up (omega arith) in
        absurd (⊎_elim
        (λ e. omega (arith, n.0))
        (⊎_elim
        (λ e. heads_apart k j k_j j_in e)
        (λ e. heads_apart i k up (omega arith) (sym e)))
        (h.bare (number k) n.1 (record {
          left_of_ab = omega (arith, ints);
          left_of_bc = omega (arith, ints, orient_swapped_last (P j) (P k) (P i));
          left_of_ca = omega (arith, ints, orient_turned (P i) A (P k));
        }))));
  }
