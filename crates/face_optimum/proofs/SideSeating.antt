-- Places of sides, pass after pass.
use Rattle.std.proofs.Common.{◌≡◌, ◌≢◌, ◌⊎◌, ℕ, ◌+◌, ◌*◌, ◌<◌, List, Option, None, Some, length, set, AllPairs, replicate, ap, sym, ◌∙◌, subst, ⊎_elim, arith}
use Rattle.std.proofs.lemmas.Bool.{cases_eq, cases_lt}
use Rattle.std.proofs.lemmas.List.{get_or-set_other, get_or-set_same, get_or_past, length-set, length-replicate, get_or-replicate}
use Rattle.exact_predicates.specs.Candidates.{EdgePrecedes}
use Rattle.lmt_network.specs.Network.{NetworkParts, edge_at}
use Rattle.lmt_network.specs.Numbers.{IsNumberOf}
use Rattle.skeleton_faces.specs.Sides.{side_start, side_end}
use Rattle.skeleton_faces.proofs.SideNumbers.{backward_end, backward_start, forward_end, forward_start, side_only}
use Rattle.face_optimum.specs.declared.seat.SideSeat.{SideSeat}
use Rattle.face_optimum.specs.SeatTables.{AreSideSeats, AreSidesSeated, HaveSidesOnce, IsSideSeat, side_at}

-- no places so far
pub side_seats_none : (n : NetworkParts) (faces : List (List ℕ)) (count : ℕ) → count ≡ 2 * length n.edges → AreSideSeats n faces (replicate count None)
side_seats_none n faces count is =
    record {
      one_each = length-replicate count None ∙ is;
      sound = λ k s h. absurd (none_is_some s (sym (nothing k) ∙ h));
    }
  where
    nothing : (k : ℕ) → side_at (replicate count None) k ≡ None
    nothing k = ⊎_elim (λ l. get_or-replicate count k None None l) (λ l. get_or_past (replicate count None) k None (omega (arith, length-replicate {A = Option SideSeat} count None))) (cases_lt k count)

    none_is_some : (s : SideSeat) → None ≡ Some s → ⊥
    none_is_some s h = cc

module _ (n : NetworkParts) (faces : List (List ℕ)) where
  pub sides_none : (P : SideSeat → Type 0) (seats : List (Option SideSeat)) → AreSideSeats n faces seats
      → ((k : ℕ) (s : SideSeat) → P s → k < 2 * length n.edges → IsSideSeat faces (side_start n.edges k) (side_end n.edges k) s → ⊥) → AreSidesSeated n faces P seats seats
  sides_none P seats are none = record { seats = are; kept = λ k s h. h; all = λ k s p k_in at. absurd (none k s p k_in at) }

  pub sides_then : (P Q R : SideSeat → Type 0) (a b c : List (Option SideSeat)) → AreSidesSeated n faces P a b → AreSidesSeated n faces Q b c
      → ((u v : ℕ) (s : SideSeat) → R s → IsSideSeat faces u v s → P s ⊎ Q s) → AreSidesSeated n faces R a c
  sides_then P Q R a b c p q cases =
      record {
        seats = q.seats;
        kept = λ k s h. q.kept k s (p.kept k s h);
        all = λ k s r k_in at. ⊎_elim (λ x. q.kept k s (p.all k s x k_in at)) (λ y. q.all k s y k_in at) (cases (side_start n.edges k) (side_end n.edges k) s r at);
      }

  pub sides_fewer : (P R : SideSeat → Type 0) (a b : List (Option SideSeat)) → AreSidesSeated n faces P a b
      → ((u v : ℕ) (s : SideSeat) → R s → IsSideSeat faces u v s → P s) → AreSidesSeated n faces R a b
  sides_fewer P R a b p fewer = record { seats = p.seats; kept = p.kept; all = λ k s r k_in at. p.all k s (fewer (side_start n.edges k) (side_end n.edges k) s r at) k_in at }

  -- the place of the side j is kept
  pub sides_hit : (seats : List (Option SideSeat)) (j : ℕ) (seat : SideSeat) → AllPairs EdgePrecedes n.edges → HaveSidesOnce faces → AreSideSeats n faces seats
      → j < 2 * length n.edges → IsSideSeat faces (side_start n.edges j) (side_end n.edges j) seat → AreSidesSeated n faces (λ s. s ≡ seat) seats (set seats j (Some seat))
  sides_hit seats j seat ascending once are j_in at =
      record {
        seats = record { one_each = length-set seats j (Some seat) ∙ are.one_each; sound = sound };
        kept = λ k s h. ⊎_elim
            (λ (is : k ≡ j). here k is ∙ ap Some (once (side_start n.edges j) (side_end n.edges j) seat s at (are.sound j s (ap (side_at seats) (sym is) ∙ h))))
            (λ (other : k ≢ j). get_or-set_other seats j k (Some seat) None other ∙ h)
            (cases_eq k j);
        all = λ k s is k_in at_s.
            let both = subst (IsSideSeat faces (side_start n.edges k) (side_end n.edges k)) is at_s in
            let k_is : k ≡ j = side_only n.edges k j ascending k_in j_in (sym both.from ∙ at.from) (sym both.to ∙ at.to) in
            here k k_is ∙ ap Some (sym is);
      }
    where
      here : (k : ℕ) → k ≡ j → side_at (set seats j (Some seat)) k ≡ Some seat
      here k is = ap (side_at (set seats j (Some seat))) is ∙ get_or-set_same seats j (Some seat) None (omega (arith, are.one_each))

      some_only : (s t : SideSeat) → Some s ≡ Some t → s ≡ t
      some_only s t h = cc

      sound : (k : ℕ) (s : SideSeat) → side_at (set seats j (Some seat)) k ≡ Some s → IsSideSeat faces (side_start n.edges k) (side_end n.edges k) s
      sound k s h = ⊎_elim
          (λ (is : k ≡ j).
          let s_is : seat ≡ s = some_only seat s (sym (here k is) ∙ h) in
          subst (λ (i : ℕ). IsSideSeat faces (side_start n.edges i) (side_end n.edges i) s) (sym is) (subst (IsSideSeat faces (side_start n.edges j) (side_end n.edges j)) s_is at))
          (λ (other : k ≢ j). are.sound k s (sym (get_or-set_other seats j k (Some seat) None other) ∙ h))
          (cases_eq k j)

-- the number of a side, by that of its edge
pub side_up : (n : NetworkParts) (u v e : ℕ) → IsNumberOf n u v e → (edge_at n e).a ≡ u → (side_start n.edges (2 * e) ≡ u) × (side_end n.edges (2 * e) ≡ v)
side_up n u v e number same =
    let up = (edge_at n e).ascending in
    let end : (edge_at n e).b ≡ v = omega (arith, number.1) in
    (forward_start n.edges e ∙ same, forward_end n.edges e ∙ end)

pub side_down : (n : NetworkParts) (u v e : ℕ) → IsNumberOf n u v e → (edge_at n e).a ≢ u → (side_start n.edges (2 * e + 1) ≡ u) × (side_end n.edges (2 * e + 1) ≡ v)
side_down n u v e number other =
    let start : (edge_at n e).b ≡ u = omega (arith, number.1) in
    let end : (edge_at n e).a ≡ v = omega (arith, number.1) in
    (backward_start n.edges e ∙ start, backward_end n.edges e ∙ end)
