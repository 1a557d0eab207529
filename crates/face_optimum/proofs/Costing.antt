-- The costs of parts, edge by edge in the order of their spans.
use Rattle.std.proofs.Common.{◌≡◌, ◌≢◌, ◌⊎◌, ℕ, ◌+◌, ◌-◌, ◌*◌, ◌<◌, ◌≤◌, Bool, List, Option, length, set, slice_index, Contains, arith, ap, sym, ◌∙◌, subst, ⊎_elim, inl, inr, get_or-set_other, get_or-set_same}
use Rattle.std.proofs.lemmas.Bool.{cases_eq, cases_lt}
use Rattle.std.proofs.lemmas.List.{get_or_default, length-set}
use Rattle.exact_predicates.specs.declared.edge.Edge.{Edge}
use Rattle.exact_predicates.specs.Triangulation.{HasCorners}
use Rattle.exact_predicates.proofs.Equalities.{Contains-HasEdge, Joins-only}
use Rattle.lmt_network.specs.Flags.{live_edges}
use Rattle.lmt_network.specs.Network.{NetworkParts, edge_at, tri_at}
use Rattle.lmt_network.specs.Numbers.{IsNumberOf}
use Rattle.face_optimum.specs.declared.cut.Cut.{Cut}
use Rattle.face_optimum.specs.declared.seat.EdgeSeat.{EdgeSeat}
use Rattle.face_optimum.specs.declared.seat.TriSeat.{TriSeat}
use Rattle.face_optimum.specs.Places.{AreJoinedPlaces, IsEdgeAt, IsOffSkeleton, IsTriAt, face_at}
use Rattle.face_optimum.specs.Seats.{HaveEdgeSeats, IsLiveTri, IsOff, edge_seat, first_point, last_point, span, tri_seat}
use Rattle.face_optimum.specs.Cuts.{AreCosts, AreCostedUpto, IsBestCut, IsCosted, IsJoint, IsNoWorse, IsOrder, IsSmallCost, above_weights, weight_of}
use Rattle.face_optimum.proofs.Seated.{AreSeating, same_seat, side_in_skeleton, sits_between}

module _ (n : NetworkParts) (flags : List Bool) (skeleton : List Edge) (faces : List (List ℕ)) (edge_seats : List (Option EdgeSeat)) (tri_seats : List TriSeat)
    (s : AreSeating n.points (live_edges n flags) skeleton faces) (at : HaveEdgeSeats n flags skeleton faces edge_seats) where
  pub joint : (f i l x : ℕ) → f < length faces → i < l → l < length (face_at faces f) → ¬ ((i ≡ 0) × (l + 1 ≡ length (face_at faces f)))
      → AreJoinedPlaces n.points (live_edges n flags) skeleton (face_at faces f) i l
      → IsNumberOf n (slice_index (face_at faces f) i) (slice_index (face_at faces f) l) x → IsJoint n flags skeleton faces edge_seats f i l x
  joint f i l x f_in below l_in inner joined is =
      ⊎_elim
      (λ side. record {
        face_in = f_in;
        below = below;
        last_in = l_in;
        number = is;
        place = inl (
          ⊎_elim (λ next. next) (λ whole. absurd (inner whole)) side,
          Contains-HasEdge skeleton (edge_at n x) _ _ is.1 (side_in_skeleton n.points (live_edges n flags) skeleton faces s f i l f_in below l_in side),
        );
      })
      (λ (e, off, sits).
      let same : e ≡ edge_at n x = Joins-only e (edge_at n x) _ _ sits.ends is.1 in
      let off_x : IsOff n flags skeleton x = (is.0, subst (λ (y : Edge). IsOffSkeleton (live_edges n flags) skeleton y) same off) in
      let here = subst (λ (y : Edge). IsEdgeAt n.points (face_at faces f) i l y) same sits in
      let seat = same_seat n.points (live_edges n flags) skeleton faces s (edge_at n x) off_x.1 _ _ _ f i l (at.face_in x off_x) f_in (at.sits x off_x) here in
      record { face_in = f_in; below = below; last_in = l_in; number = is; place = inr (off_x, seat.0, seat.1, seat.2) })
      joined

  -- The two sides of a live triangle that sits at some places, besides the one from the last of them to the first.
  pub record AreJoints (f i l t r x y : ℕ) : Type 0 where
    pub middle : ℕ
    pub middle_is : slice_index (face_at faces f) middle ≡ r
    pub sits : IsTriAt n.points (live_edges n flags) skeleton (face_at faces f) i middle l (tri_at n t)
    pub first : IsJoint n flags skeleton faces edge_seats f i middle x
    pub second : IsJoint n flags skeleton faces edge_seats f middle l y

  pub joints_at : (f i l t r x y : ℕ) → f < length faces
      → (j : ℕ) × (slice_index (face_at faces f) j ≡ r) × IsTriAt n.points (live_edges n flags) skeleton (face_at faces f) i j l (tri_at n t)
      → IsNumberOf n (slice_index (face_at faces f) i) r x → IsNumberOf n r (slice_index (face_at faces f) l) y → AreJoints f i l t r x y
  joints_at f i l t r x y f_in (j, j_is, sits) x_is y_is =
      let v = slice_index (face_at faces f) in
      let l_in = sits.last_in in
      let ab = sits.first_below in
      let bc = sits.middle_below in
      record {
        middle = j;
        middle_is = j_is;
        sits = sits;
        first = joint f i j x f_in ab (omega arith) (λ e. let e1 = e.1 in absurd (omega arith)) sits.first_side (subst (λ (p : ℕ). IsNumberOf n (v i) p x) (sym j_is) x_is);
        second = joint f j l y f_in bc l_in (λ e. let e0 = e.0 in absurd (omega arith)) sits.second_side (subst (λ (p : ℕ). IsNumberOf n p (v l) y) (sym j_is) y_is);
      }

  pub joints : (e t r x y : ℕ) → IsOff n flags skeleton e → IsLiveTri n flags t → HasCorners (tri_at n t) (first_point faces edge_seats e) r (last_point faces edge_seats e)
      → IsNumberOf n (first_point faces edge_seats e) r x → IsNumberOf n r (last_point faces edge_seats e) y
      → AreJoints (edge_seat edge_seats e).face (edge_seat edge_seats e).first (edge_seat edge_seats e).last t r x y
  joints e t r x y off is_live corners x_is y_is =
      let seat = edge_seat edge_seats e in
      let f_in = at.face_in e off in
      joints_at seat.face seat.first seat.last t r x y f_in
      (sits_between n.points (live_edges n flags) skeleton faces s (edge_at n e) off.1 seat.face seat.first seat.last r (tri_at n t) f_in (at.sits e off) is_live.1 corners) x_is y_is

  -- an edge outside the skeleton is none of the joints of an edge that spans no more
  other_joint : (d f i l x : ℕ) → IsOff n flags skeleton d → IsJoint n flags skeleton faces edge_seats f i l x → l - i < span edge_seats d → x ≢ d
  other_joint d f i l x off j less same =
      ⊎_elim
      (λ (has : (l ≡ i + 1) × Contains skeleton (edge_at n x)). off.1.1 (subst (λ (k : ℕ). Contains skeleton (edge_at n k)) same has.1))
      (λ (k : IsOff n flags skeleton x × ((edge_seat edge_seats x).face ≡ f) × ((edge_seat edge_seats x).first ≡ i) × ((edge_seat edge_seats x).last ≡ l)).
      let first = k.2 in
      let last = k.3 in
      let moved = ap (span edge_seats) same in
      absurd (omega (arith, first, last, moved, less)))
      j.place

  -- so the best cuts on other edges stay as one edge gets its cost
  best_kept : (costs : List ℕ) (d v e : ℕ) (c : Cut) → IsOff n flags skeleton d → IsOff n flags skeleton e → span edge_seats e ≤ span edge_seats d
      → IsBestCut n flags tri_seats costs (last_point faces edge_seats e) (first_point faces edge_seats e) c
      → IsBestCut n flags tri_seats (set costs d v) (last_point faces edge_seats e) (first_point faces edge_seats e) c
  best_kept costs d v e c off_d off_e upto b =
      let own = kept c.tri b.apex b.first b.second b.live b.corners b.first_is b.second_is in
      record {
        live = b.live;
        apex = b.apex;
        corners = b.corners;
        first = b.first;
        second = b.second;
        first_is = b.first_is;
        second_is = b.second_is;
        sum = b.sum ∙ sym own;
        middle = b.middle;
        least = λ t r x y is_live corners x_is y_is.
            subst (λ (sum : ℕ). IsNoWorse c sum (tri_seat tri_seats t).middle) (sym (kept t r x y is_live corners x_is y_is)) (b.least t r x y is_live corners x_is y_is);
      }
    where
      kept : (t r x y : ℕ) → IsLiveTri n flags t → HasCorners (tri_at n t) (first_point faces edge_seats e) r (last_point faces edge_seats e)
          → IsNumberOf n (first_point faces edge_seats e) r x → IsNumberOf n r (last_point faces edge_seats e) y
          → slice_index (set costs d v) x + slice_index (set costs d v) y ≡ slice_index costs x + slice_index costs y
      kept t r x y is_live corners x_is y_is =
          let j = joints e t r x y off_e is_live corners x_is y_is in
          let ab = j.sits.first_below in
          let bc = j.sits.middle_below in
          let x_kept : slice_index (set costs d v) x ≡ slice_index costs x = get_or-set_other costs d x v 0 (other_joint d _ _ _ x off_d j.first (omega arith)) in
          let y_kept : slice_index (set costs d v) y ≡ slice_index costs y = get_or-set_other costs d y v 0 (other_joint d _ _ _ y off_d j.second (omega arith)) in
          omega (arith, x_kept, y_kept)

  -- what a joint costs
  pub joint_small : (costs : List ℕ) (f i l x : ℕ) → ((e : ℕ) → (slice_index costs e ≡ 0) ⊎ (IsOff n flags skeleton e × IsSmallCost (span edge_seats e) (slice_index costs e)))
      → IsJoint n flags skeleton faces edge_seats f i l x → IsSmallCost (l - i) (slice_index costs x)
  joint_small costs f i l x small j =
      let below = j.below in
      let least : 1 * above_weights ≤ (l - i) * above_weights = omega arith in
      ⊎_elim
      (λ (zero : slice_index costs x ≡ 0). omega (arith, zero, least))
      (λ (some : IsOff n flags skeleton x × IsSmallCost (span edge_seats x) (slice_index costs x)). ⊎_elim
      (λ (has : (l ≡ i + 1) × Contains skeleton (edge_at n x)). absurd (some.0.1.1 has.1))
      (λ (k : IsOff n flags skeleton x × ((edge_seat edge_seats x).face ≡ f) × ((edge_seat edge_seats x).first ≡ i) × ((edge_seat edge_seats x).last ≡ l)).
      let first = k.2 in
      let last = k.3 in
      let is : span edge_seats x ≡ l - i = omega (arith, first, last) in
      subst (λ (m : ℕ). IsSmallCost m (slice_index costs x)) is some.1)
      j.place)
      (small x)

  module _ (order : List ℕ) (k : ℕ) (costs choices : List ℕ) (c : Cut) (o : IsOrder n flags skeleton edge_seats order) (k_in : k < length order)
      (h : AreCostedUpto n flags skeleton faces edge_seats tri_seats order k costs choices) (light : weight_of n (slice_index order k) < above_weights)
      (b : IsBestCut n flags tri_seats costs (last_point faces edge_seats (slice_index order k)) (first_point faces edge_seats (slice_index order k)) c) where
    abbrev next : ℕ
    next = slice_index order k

    abbrev cost : ℕ
    cost = weight_of n (slice_index order k) + c.sum

    next_off : IsOff n flags skeleton next
    next_off = o.each k 0 k_in

    next_in : next < length costs
    next_in = let off = next_off in let e_in = off.0 in let one = h.one_each in omega arith

    next_cost : slice_index (set costs next cost) next ≡ cost
    next_cost = get_or-set_same costs next cost 0 next_in

    next_costed : IsCosted n flags faces edge_seats tri_seats (set costs next cost) (set choices next c.tri) next
    next_costed =
        let one = h.one_each in
        let two = h.choice_each in
        let c_in = next_in in
        record {
          cut = c;
          best = best_kept costs next cost next c next_off next_off (omega arith) b;
          cost = next_cost;
          choice = get_or-set_same choices next c.tri 0 (omega arith);
        }

    done_before : (m : ℕ) → m < k → slice_index order m ≢ next → IsCosted n flags faces edge_seats tri_seats (set costs next cost) (set choices next c.tri) (slice_index order m)
    done_before m l other =
        let e = slice_index order m in
        let old = h.done m l in
        let off : IsOff n flags skeleton e = o.each m 0 (omega arith) in
        record {
          cut = old.cut;
          best = best_kept costs next cost e old.cut next_off off (o.rise m k (omega arith) k_in) old.best;
          cost = get_or-set_other costs next e cost 0 other ∙ old.cost;
          choice = get_or-set_other choices next e c.tri 0 other ∙ old.choice;
        }

    next_small : IsSmallCost (span edge_seats next) (slice_index (set costs next cost) next)
    next_small =
        let j = joints next c.tri b.apex b.first b.second next_off b.live b.corners b.first_is b.second_is in
        let seat = edge_seat edge_seats next in
        let one = joint_small costs seat.face seat.first j.middle b.first h.small j.first in
        let two = joint_small costs seat.face j.middle seat.last b.second h.small j.second in
        let ab = j.sits.first_below in
        let bc = j.sits.middle_below in
        omega (arith, one, two, ab, bc, b.sum, light, next_cost)

    pub costed_more : AreCostedUpto n flags skeleton faces edge_seats tri_seats order (k + 1) (set costs next cost) (set choices next c.tri)
    costed_more =
        record {
          one_each = length-set costs next cost ∙ h.one_each;
          choice_each = length-set choices next c.tri ∙ h.choice_each;
          done = λ m l. ⊎_elim
              (λ (same : slice_index order m ≡ next). subst (λ (x : ℕ). IsCosted n flags faces edge_seats tri_seats (set costs next cost) (set choices next c.tri) x) (sym same) next_costed)
              (λ (other : slice_index order m ≢ next). ⊎_elim
              (λ (less : m < k). done_before m less other)
              (λ (more : k ≤ m). let e : m ≡ k = omega arith in absurd (other (ap (slice_index order) e)))
              (cases_lt m k))
              (cases_eq (slice_index order m) next);
          small = λ e. ⊎_elim
              (λ (same : e ≡ next). inr (subst (λ (x : ℕ). IsOff n flags skeleton x × IsSmallCost (span edge_seats x) (slice_index (set costs next cost) x)) (sym same) (next_off, next_small)))
              (λ (other : e ≢ next).
              let is : slice_index (set costs next cost) e ≡ slice_index costs e = get_or-set_other costs next e cost 0 other in
              subst (λ (x : ℕ). (x ≡ 0) ⊎ (IsOff n flags skeleton e × IsSmallCost (span edge_seats e) x)) (sym is) (h.small e))
              (cases_eq e next);
        }

  -- and all of them
  pub costed_all : (order : List ℕ) (k : ℕ) (costs choices : List ℕ) → IsOrder n flags skeleton edge_seats order → length order ≤ k
      → AreCostedUpto n flags skeleton faces edge_seats tri_seats order k costs choices → AreCosts n flags skeleton faces edge_seats tri_seats costs choices
  costed_all order k costs choices o all h =
      record {
        one_each = h.one_each;
        choice_each = h.choice_each;
        others = λ e on. ⊎_elim (λ zero. zero) (λ some. absurd (on some.0)) (h.small e);
        costed = λ e off.
            let (m, m_in, at_m) = o.all e off in
            let is : slice_index order m ≡ e = get_or_default order m 0 e m_in ∙ at_m in
            subst (λ (x : ℕ). IsCosted n flags faces edge_seats tri_seats costs choices x) is (h.done m (omega arith));
        small = h.small;
      }
