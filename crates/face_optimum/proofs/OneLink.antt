-- Links along the sides of triangles: each side has one at most, by the places of sides and the seats of edges.
use Rattle.std.proofs.Common.{◌≡◌, ◌≢◌, ◌⊎◌, ℕ, ◌+◌, ◌*◌, ◌%◌, ◌<◌, ◌≤◌, min, max, List, Bool, true, false, Option, None, Some, length, get_or, slice_index, AllPairs, ap, sym, ◌∙◌, subst, refl, ⊎_elim, inl, inr, arith}
use Rattle.std.proofs.lemmas.Bool.{cases_eq, cases_lt, false≢true}
use Rattle.std.proofs.lemmas.Nat.{mod_below}
use Rattle.exact_predicates.specs.declared.edge.Edge.{Edge}
use Rattle.exact_predicates.specs.Candidates.{EdgePrecedes, Joins}
use Rattle.exact_predicates.proofs.Equalities.{Joins-comm, Joins-only}
use Rattle.lmt_network.specs.Network.{NetworkParts, edge_at}
use Rattle.lmt_network.specs.Numbers.{IsNumberOf}
use Rattle.lmt_network.proofs.Naming.{edge_at-once}
use Rattle.skeleton_faces.specs.Sides.{side_start, side_end}
use Rattle.face_optimum.specs.declared.seat.EdgeSeat.{EdgeSeat}
use Rattle.face_optimum.specs.declared.seat.Link.{Link}
use Rattle.face_optimum.specs.declared.seat.SideSeat.{SideSeat}
use Rattle.face_optimum.specs.Places.{face_at, IsEdgeAt}
use Rattle.face_optimum.specs.SeatTables.{AreAllSides, AreEdgeSeats, AreSidesOn, IsLink, IsOffNumber, IsSeatOf, IsSideSeat, seat_at, side_at}

pub Link-equal : (x y : Link) → x.face ≡ y.face → x.from ≡ y.from → x.to ≡ y.to → x ≡ y
Link-equal x y e f g =
    ap (λ z. record { face = z; from = x.from; to = x.to }) e
    ∙ (ap (λ z. record { face = y.face; from = z; to = x.to }) f ∙ ap (λ z. record { face = y.face; from = y.from; to = z }) g)

-- the ends of one edge, said twice
ends_cases : (e : Edge) (p q u v : ℕ) → Joins e p q → Joins e u v → ((p ≡ u) × (q ≡ v)) ⊎ ((p ≡ v) × (q ≡ u))
ends_cases e p q u v j k =
    let low : min p q ≡ min u v = sym j.0 ∙ k.0 in
    let high : max p q ≡ max u v = sym j.1 ∙ k.1 in
    ⊎_elim (λ (s : p ≡ u). inl (s, omega arith)) (λ (s : p ≢ u). inr (omega arith, omega arith)) (cases_eq p u)

module _ (n : NetworkParts) (faces : List (List ℕ)) (off : List Bool) (ascending : AllPairs EdgePrecedes n.edges) (on : AreSidesOn n faces off) (u v e : ℕ) (number : IsNumberOf n u v e) where
  -- the seat that a link along an edge has
  abbrev seat_of : Link → EdgeSeat
  seat_of x = record { face = x.face; first = min x.from x.to; last = max x.from x.to }

  -- a link goes round its face, or along the edge e
  record IsEither (x : Link) : Type 0 where
    pick : (IsSideSeat faces u v (record { face = x.face; place = x.from }) × ((x.from + 1) % length (face_at faces x.face) ≡ x.to))
        ⊎ (IsOffNumber n off e × IsSeatOf n.points faces (edge_at n e) (seat_of x))

  either : (x : Link) → IsLink n faces off u v x → IsEither x
  either x h =
      record {
        pick = ⊎_elim
            (λ (step : (x.from + 1) % length (face_at faces x.face) ≡ x.to). inl (record { face_in = h.face_in; place_in = h.from_in; from = h.from; to = ap (slice_index (face_at faces x.face)) step ∙ h.to }, step))
            (λ (f, is_off, at).
            let c = face_at faces x.face in
            let joins : Joins (edge_at n f) u v = turned (edge_at n f) c at in
            let f_is : f ≡ e = edge_at-once n f e ascending is_off.0 number.0 (Joins-only (edge_at n f) (edge_at n e) u v joins number.1) in
            inr (subst (IsOffNumber n off) f_is is_off, subst (λ (k : ℕ). IsSeatOf n.points faces (edge_at n k) (seat_of x)) f_is (h.face_in, at)))
            h.along;
      }
    where
      turned : (f : Edge) (c : List ℕ) → IsEdgeAt n.points (face_at faces x.face) (min x.from x.to) (max x.from x.to) f → Joins f u v
      turned f c at = ⊎_elim
          (λ l.
          let low : min x.from x.to ≡ x.from = omega arith in
          let high : max x.from x.to ≡ x.to = omega arith in
          subst (λ (p : ℕ). Joins f p v) (ap (slice_index (face_at faces x.face)) low ∙ h.from)
          (subst (λ (q : ℕ). Joins f (slice_index (face_at faces x.face) (min x.from x.to)) q) (ap (slice_index (face_at faces x.face)) high ∙ h.to) at.ends))
          (λ l.
          let low : min x.from x.to ≡ x.to = omega arith in
          let high : max x.from x.to ≡ x.from = omega arith in
          Joins-comm f v u
          (subst (λ (p : ℕ). Joins f p u) (ap (slice_index (face_at faces x.face)) low ∙ h.to)
          (subst (λ (q : ℕ). Joins f (slice_index (face_at faces x.face) (min x.from x.to)) q) (ap (slice_index (face_at faces x.face)) high ∙ h.from) at.ends)))
          (cases_lt x.from x.to)

  -- The edge is outside the skeleton: the one link leads between its places.
  module _ (edges : List (Option EdgeSeat)) (are : AreEdgeSeats n faces off edges) (is_off : get_or off e false ≡ true) (apart : u ≢ v) (seat : EdgeSeat) (has : seat_at edges e ≡ Some seat) (x : Link)
      (first : slice_index (face_at faces seat.face) seat.first ≡ u → x ≡ record { face = seat.face; from = seat.first; to = seat.last })
      (last : slice_index (face_at faces seat.face) seat.first ≢ u → x ≡ record { face = seat.face; from = seat.last; to = seat.first }) where
    at : IsSeatOf n.points faces (edge_at n e) seat
    at = are.seats_are.sound e seat has

    sorted : (i l : ℕ) → min i l ≡ seat.first → max i l ≡ seat.last → IsEdgeAt n.points (face_at faces seat.face) (min i l) (max i l) (edge_at n e)
    sorted i l low high =
        subst (λ (a : ℕ). IsEdgeAt n.points (face_at faces seat.face) a (max i l) (edge_at n e)) (sym low)
        (subst (λ (b : ℕ). IsEdgeAt n.points (face_at faces seat.face) seat.first b (edge_at n e)) (sym high) at.1)

    pub edge_link : IsLink n faces off u v x
    edge_link =
        ⊎_elim
        (λ (s : slice_index (face_at faces seat.face) seat.first ≡ u).
        let other = ⊎_elim (λ (k : (slice_index (face_at faces seat.face) seat.first ≡ u) × (slice_index (face_at faces seat.face) seat.last ≡ v)). k.1) (λ k. absurd (apart (sym s ∙ k.0))) two in
        let l = at.1.below in
        subst (IsLink n faces off u v) (sym (first s))
        (record { face_in = at.0; from_in = omega (arith, l, at.1.last_in); to_in = at.1.last_in; from = s; to = other; along = inr (e, (number.0, is_off), sorted seat.first seat.last (omega arith) (omega arith)) }))
        (λ (s : slice_index (face_at faces seat.face) seat.first ≢ u).
        let both = ⊎_elim (λ (k : (slice_index (face_at faces seat.face) seat.first ≡ u) × (slice_index (face_at faces seat.face) seat.last ≡ v)). absurd (s k.0)) (λ k. k) two in
        let l = at.1.below in
        subst (IsLink n faces off u v) (sym (last s))
        (record { face_in = at.0; from_in = at.1.last_in; to_in = omega (arith, l, at.1.last_in); from = both.1; to = both.0; along = inr (e, (number.0, is_off), sorted seat.last seat.first (omega arith) (omega arith)) }))
        (cases_eq (slice_index (face_at faces seat.face) seat.first) u)
      where
        two : ((slice_index (face_at faces seat.face) seat.first ≡ u) × (slice_index (face_at faces seat.face) seat.last ≡ v)) ⊎ ((slice_index (face_at faces seat.face) seat.first ≡ v) × (slice_index (face_at faces seat.face) seat.last ≡ u))
        two = ends_cases (edge_at n e) (slice_index (face_at faces seat.face) seat.first) (slice_index (face_at faces seat.face) seat.last) u v at.1.ends number.1

    some_only : (s t : EdgeSeat) → Some s ≡ Some t → s ≡ t
    some_only s t h = cc

    pub edge_link_only : (y : Link) → IsLink n faces off u v y → y ≡ x
    edge_link_only y h =
        ⊎_elim
        (λ side. absurd (false≢true (sym (on u v e (record { face = y.face; place = y.from }) side.0 number) ∙ is_off)))
        (λ edge.
        let same : seat_of y ≡ seat = some_only (seat_of y) seat (sym (are.all e (seat_of y) edge.0 edge.1) ∙ has) in
        let face_is : y.face ≡ seat.face = ap (λ (s : EdgeSeat). s.face) same in
        let low : min y.from y.to ≡ seat.first = ap (λ (s : EdgeSeat). s.first) same in
        let high : max y.from y.to ≡ seat.last = ap (λ (s : EdgeSeat). s.last) same in
        let point : (i : ℕ) → seat.first ≡ i → slice_index (face_at faces seat.face) seat.first ≡ slice_index (face_at faces y.face) i = λ i e1. ap (λ (f : ℕ). slice_index (face_at faces f) seat.first) (sym face_is) ∙ ap (slice_index (face_at faces y.face)) e1 in
        let l = at.1.below in
        ⊎_elim
        (λ (up : y.from < y.to).
        let from_is : seat.first ≡ y.from = omega arith in
        let to_is : y.to ≡ seat.last = omega arith in
        Link-equal y (record { face = seat.face; from = seat.first; to = seat.last }) face_is (sym from_is) to_is ∙ sym (first (point y.from from_is ∙ h.from)))
        (λ (down : y.to ≤ y.from).
        let to_is : seat.first ≡ y.to = omega arith in
        let from_is : y.from ≡ seat.last = omega arith in
        Link-equal y (record { face = seat.face; from = seat.last; to = seat.first }) face_is from_is (sym to_is) ∙ sym (last (λ s. apart (sym s ∙ (point y.to to_is ∙ h.to)))))
        (cases_lt y.from y.to))
        (either y h).pick

  -- It is not: the one link leads to the next place.
  module _ (sides : List (Option SideSeat)) (are : AreAllSides n faces sides) (is_on : get_or off e false ≡ false) (k : ℕ) (k_in : k < 2 * length n.edges) (start : side_start n.edges k ≡ u) (end : side_end n.edges k ≡ v) where
    turned_side : (s : SideSeat) → IsSideSeat faces u v s → IsSideSeat faces (side_start n.edges k) (side_end n.edges k) s
    turned_side s at = subst (λ (a : ℕ). IsSideSeat faces a (side_end n.edges k) s) (sym start) (subst (λ (b : ℕ). IsSideSeat faces u b s) (sym end) at)

    pub side_link : (s : SideSeat) → side_at sides k ≡ Some s → IsLink n faces off u v (record { face = s.face; from = s.place; to = (s.place + 1) % length (face_at faces s.face) })
    side_link s has =
        let at = are.seats_are.sound k s has in
        record {
          face_in = at.face_in;
          from_in = at.place_in;
          to_in = mod_below (s.place + 1) (length (face_at faces s.face)) (omega (arith, at.place_in));
          from = at.from ∙ start;
          to = at.to ∙ end;
          along = inl refl;
        }

    round_only : (y : Link) → IsLink n faces off u v y
        → (side_at sides k ≡ Some (record { face = y.face; place = y.from })) × ((y.from + 1) % length (face_at faces y.face) ≡ y.to)
    round_only y h =
        ⊎_elim
        (λ side. let s : SideSeat = record { face = y.face; place = y.from } in (are.all k s k_in (turned_side s side.0), side.1))
        (λ edge. absurd (false≢true (sym is_on ∙ edge.0.1)))
        (either y h).pick

    pub side_link_only : (s : SideSeat) → side_at sides k ≡ Some s → (y : Link) → IsLink n faces off u v y → y ≡ record { face = s.face; from = s.place; to = (s.place + 1) % length (face_at faces s.face) }
    side_link_only s has y h =
        let r = round_only y h in
        let same : record { face = y.face; place = y.from } ≡ s = some_side (record { face = y.face; place = y.from }) s (sym r.0 ∙ has) in
        Link-equal y (record { face = s.face; from = s.place; to = (s.place + 1) % length (face_at faces s.face) }) (ap (λ (t : SideSeat). t.face) same) (ap (λ (t : SideSeat). t.place) same)
        (sym r.1 ∙ ap (λ (t : SideSeat). (t.place + 1) % length (face_at faces t.face)) same)
      where
        some_side : (s t : SideSeat) → Some s ≡ Some t → s ≡ t
        some_side s t h = cc

    pub side_link_none : side_at sides k ≡ None → (y : Link) → ¬ IsLink n faces off u v y
    side_link_none none y h =
        absurd (no (record { face = y.face; place = y.from }) (sym none ∙ (round_only y h).0))
      where
        no : (s : SideSeat) → None ≡ Some s → ⊥
        no s h = cc
