-- Seats of edges, pass after pass.
use Rattle.std.proofs.Common.{◌≡◌, ◌≢◌, ◌⊎◌, ℕ, ◌<◌, List, Bool, true, false, Option, None, Some, length, get_or, set, slice_index, AllPairs, replicate, ap, sym, ◌∙◌, subst, refl, ⊎_elim, inr, arith}
use Rattle.std.specs.Option.{IsSome}
use Rattle.std.proofs.lemmas.Bool.{cases_eq, cases_lt, false≢true}
use Rattle.std.proofs.lemmas.List.{get_or-set_other, get_or-set_same, get_or_past, length-set, length-replicate, get_or-replicate}
use Rattle.std.proofs.lemmas.List.Elements.{Contains-get_or}
use Rattle.exact_predicates.specs.declared.point.Point.{Point}
use Rattle.exact_predicates.specs.Candidates.{EdgePrecedes, HasEdge, Joins}
use Rattle.exact_predicates.proofs.Equalities.{HasEdge-Contains, Joins-only}
use Rattle.lmt_network.specs.Network.{NetworkParts, edge_at}
use Rattle.lmt_network.specs.Numbers.{IsNumberOf}
use Rattle.lmt_network.proofs.Naming.{edge_at-once}
use Rattle.face_optimum.specs.declared.seat.EdgeSeat.{EdgeSeat}
use Rattle.face_optimum.specs.Places.{face_at, IsInAngle}
use Rattle.face_optimum.specs.SeatTables.{AreEdgeSeats, AreSeated, AreSeats, HasTwoSeats, IsOffNumber, IsSeatOf, seat_at}

pub EdgeSeat-equal : (s t : EdgeSeat) → s.face ≡ t.face → s.first ≡ t.first → s.last ≡ t.last → s ≡ t
EdgeSeat-equal s t e f g =
    ap (λ x. record { face = x; first = s.first; last = s.last }) e
    ∙ (ap (λ x. record { face = t.face; first = x; last = s.last }) f ∙ ap (λ x. record { face = t.face; first = t.first; last = x }) g)

-- no seats so far
pub seats_none : (n : NetworkParts) (faces : List (List ℕ)) (count : ℕ) → count ≡ length n.edges → AreSeats n faces (replicate count None)
seats_none n faces count is =
    record {
      one_each = length-replicate count None ∙ is;
      sound = λ e s h. absurd (none_is_some s (sym (nothing e) ∙ h));
    }
  where
    nothing : (e : ℕ) → seat_at (replicate count None) e ≡ None
    nothing e = ⊎_elim (λ l. get_or-replicate count e None None l) (λ l. get_or_past (replicate count None) e None (omega (arith, length-replicate {A = Option EdgeSeat} count None))) (cases_lt e count)

    none_is_some : (s : EdgeSeat) → None ≡ Some s → ⊥
    none_is_some s h = cc

module _ (n : NetworkParts) (faces : List (List ℕ)) (off : List Bool) where
  -- a pass over seats of which none is one of an edge
  pub seated_none : (P : EdgeSeat → Type 0) (seats : List (Option EdgeSeat)) → AreSeats n faces seats
      → ((e : ℕ) (s : EdgeSeat) → P s → IsOffNumber n off e → IsSeatOf n.points faces (edge_at n e) s → ⊥) → AreSeated n faces off P seats seats
  seated_none P seats are none = record { seats = are; kept = λ e s h. h; all = λ e s p is_off at. absurd (none e s p is_off at) }

  -- one pass and another
  pub seated_then : (P Q R : EdgeSeat → Type 0) (a b c : List (Option EdgeSeat)) → AreSeated n faces off P a b → AreSeated n faces off Q b c
      → ((e : ℕ) (s : EdgeSeat) → R s → IsSeatOf n.points faces (edge_at n e) s → P s ⊎ Q s) → AreSeated n faces off R a c
  seated_then P Q R a b c p q cases =
      record {
        seats = q.seats;
        kept = λ e s h. q.kept e s (p.kept e s h);
        all = λ e s r is_off at. ⊎_elim (λ x. q.kept e s (p.all e s x is_off at)) (λ y. q.all e s y is_off at) (cases e s r at);
      }

  -- fewer seats
  pub seated_fewer : (P R : EdgeSeat → Type 0) (a b : List (Option EdgeSeat)) → AreSeated n faces off P a b
      → ((e : ℕ) (s : EdgeSeat) → R s → IsSeatOf n.points faces (edge_at n e) s → P s) → AreSeated n faces off R a b
  seated_fewer P R a b p fewer = record { seats = p.seats; kept = p.kept; all = λ e s r is_off at. p.all e s (fewer e s r at) is_off at }

  -- edges at one seat are one
  pub one_edge : (e f : ℕ) (s : EdgeSeat) → AllPairs EdgePrecedes n.edges → e < length n.edges → f < length n.edges
      → Joins (edge_at n e) (slice_index (face_at faces s.face) s.first) (slice_index (face_at faces s.face) s.last)
      → IsSeatOf n.points faces (edge_at n f) s → f ≡ e
  one_edge e f s ascending e_in f_in joins at =
      edge_at-once n f e ascending f_in e_in (Joins-only (edge_at n f) (edge_at n e) (slice_index (face_at faces s.face) s.first) (slice_index (face_at faces s.face) s.last) at.1.ends joins)

  -- the edge e is seated
  pub seated_hit : (seats : List (Option EdgeSeat)) (e : ℕ) (seat : EdgeSeat) → AllPairs EdgePrecedes n.edges → AreSeats n faces seats → e < length n.edges
      → IsSeatOf n.points faces (edge_at n e) seat → ((known : EdgeSeat) → seat_at seats e ≡ Some known → known ≡ seat)
      → AreSeated n faces off (λ s. s ≡ seat) seats (set seats e (Some seat))
  seated_hit seats e seat ascending are e_in at same =
      record {
        seats = record { one_each = length-set seats e (Some seat) ∙ are.one_each; sound = sound };
        kept = λ f s h. ⊎_elim
            (λ (is : f ≡ e). here f is ∙ ap Some (sym (same s (ap (seat_at seats) (sym is) ∙ h))))
            (λ (other : f ≢ e). get_or-set_other seats e f (Some seat) None other ∙ h)
            (cases_eq f e);
        all = λ f s is is_off at_s.
            let f_is = one_edge e f seat ascending e_in is_off.0 at.1.ends (subst (IsSeatOf n.points faces (edge_at n f)) is at_s) in
            here f f_is ∙ ap Some (sym is);
      }
    where
      now : List (Option EdgeSeat)
      now = set seats e (Some seat)

      here : (f : ℕ) → f ≡ e → seat_at (set seats e (Some seat)) f ≡ Some seat
      here f is = ap (seat_at (set seats e (Some seat))) is ∙ get_or-set_same seats e (Some seat) None (omega (arith, are.one_each))

      some_only : (s t : EdgeSeat) → Some s ≡ Some t → s ≡ t
      some_only s t h = cc

      sound : (f : ℕ) (s : EdgeSeat) → seat_at (set seats e (Some seat)) f ≡ Some s → IsSeatOf n.points faces (edge_at n f) s
      sound f s h = ⊎_elim
          (λ (is : f ≡ e).
          let s_is : seat ≡ s = some_only seat s (sym (here f is) ∙ h) in
          subst (λ (k : ℕ). IsSeatOf n.points faces (edge_at n k) s) (sym is) (subst (IsSeatOf n.points faces (edge_at n e)) s_is at))
          (λ (other : f ≢ e). are.sound f s (sym (get_or-set_other seats e f (Some seat) None other) ∙ h))
          (cases_eq f e)

  -- A pair of places of a face, with what is seen there.
  module _ (ps : List Point) (same : n.points ≡ ps) (ring : List ℕ) (seat : EdgeSeat) (ring_is : ring ≡ face_at faces seat.face) where
    abbrev pub SeeEachOther : Type 0
    SeeEachOther = IsInAngle ps ring seat.first (slice_index ring seat.last) × IsInAngle ps ring seat.last (slice_index ring seat.first)

    angles : (e : ℕ) → IsSeatOf n.points faces (edge_at n e) seat → SeeEachOther
    angles e at =
        let See : List Point → List ℕ → Type 0 = λ qs r. IsInAngle qs r seat.first (slice_index r seat.last) × IsInAngle qs r seat.last (slice_index r seat.first) in
        subst (λ (qs : List Point). See qs ring) same (subst (See n.points) (sym ring_is) (at.1.first_angle, at.1.last_angle))

    ends_at : (e : ℕ) → IsSeatOf n.points faces (edge_at n e) seat → Joins (edge_at n e) (slice_index ring seat.first) (slice_index ring seat.last)
    ends_at e at = subst (λ (r : List ℕ). Joins (edge_at n e) (slice_index r seat.first) (slice_index r seat.last)) (sym ring_is) at.1.ends

    -- none sits there
    pub seated_unseen : (seats : List (Option EdgeSeat)) → AreSeats n faces seats → ¬ SeeEachOther → AreSeated n faces off (λ s. s ≡ seat) seats seats
    seated_unseen seats are unseen =
        seated_none (λ s. s ≡ seat) seats are (λ e s is is_off at. unseen (angles e (subst (IsSeatOf n.points faces (edge_at n e)) is at)))

    pub seated_apart : (seats : List (Option EdgeSeat)) → AreSeats n faces seats → ¬ HasEdge n.edges (slice_index ring seat.first) (slice_index ring seat.last) → AreSeated n faces off (λ s. s ≡ seat) seats seats
    seated_apart seats are away =
        seated_none (λ s. s ≡ seat) seats are (λ e s is is_off at.
        away (HasEdge-Contains n.edges (edge_at n e) (slice_index ring seat.first) (slice_index ring seat.last) (ends_at e (subst (IsSeatOf n.points faces (edge_at n e)) is at)) (Contains-get_or n.edges e _ is_off.0)))

    module _ (e : ℕ) (ascending : AllPairs EdgePrecedes n.edges) (number : IsNumberOf n (slice_index ring seat.first) (slice_index ring seat.last) e) where
      the_ends : Joins (edge_at n e) (slice_index (face_at faces seat.face) seat.first) (slice_index (face_at faces seat.face) seat.last)
      the_ends = subst (λ (r : List ℕ). Joins (edge_at n e) (slice_index r seat.first) (slice_index r seat.last)) ring_is number.1

      pub seated_on : (seats : List (Option EdgeSeat)) → AreSeats n faces seats → get_or off e false ≡ false → AreSeated n faces off (λ s. s ≡ seat) seats seats
      seated_on seats are is_on =
          seated_none (λ s. s ≡ seat) seats are (λ f s is is_off at.
          let f_is = one_edge e f seat ascending number.0 is_off.0 the_ends (subst (IsSeatOf n.points faces (edge_at n f)) is at) in
          false≢true (sym is_on ∙ (ap (λ (k : ℕ). get_or off k false) (sym f_is) ∙ is_off.1)))

      -- the edge sits there
      pub sits_there : seat.face < length faces → seat.first < seat.last → seat.last < length (face_at faces seat.face) → SeeEachOther → IsSeatOf n.points faces (edge_at n e) seat
      sits_there face_in below last_in see =
          let See : List Point → List ℕ → Type 0 = λ qs r. IsInAngle qs r seat.first (slice_index r seat.last) × IsInAngle qs r seat.last (slice_index r seat.first) in
          let both = subst (See n.points) ring_is (subst (λ (qs : List Point). See qs ring) (sym same) see) in
          (face_in, record { below = below; last_in = last_in; ends = the_ends; first_angle = both.0; last_angle = both.1 })

  -- it has another seat
  pub two_seats : (seats : List (Option EdgeSeat)) (e : ℕ) (seat known : EdgeSeat) → AreSeats n faces seats → IsOffNumber n off e
      → IsSeatOf n.points faces (edge_at n e) seat → seat_at seats e ≡ Some known → known ≢ seat → HasTwoSeats n faces off
  two_seats seats e seat known are is_off at has apart =
      record { edge = e; one = known; other = seat; is_off = is_off; one_is = are.sound e known has; other_is = at; apart = apart }

  -- all have seats
  pub edge_seats_all : (before seats : List (Option EdgeSeat)) → AreSeated n faces off (λ s. s.face < length faces) before seats → length off ≡ length n.edges
      → ((e : ℕ) → e < length off → get_or off e false ≡ true → IsSome (seat_at seats e)) → AreEdgeSeats n faces off seats
  edge_seats_all before seats seated one_each every =
      record {
        seats_are = seated.seats;
        some = λ e is_off. value (seat_at seats e) (every e (omega (arith, one_each, is_off.0)) is_off.1);
        all = λ e s is_off at. seated.all e s at.0 is_off at;
      }
    where
      value : (found : Option EdgeSeat) → IsSome found → (s : EdgeSeat) × (found ≡ Some s)
      value (Some s) h = (s, refl)
      value None h = absurd (false≢true h)

  -- one has none
  pub seat_lacks : (before seats : List (Option EdgeSeat)) (e : ℕ) → AreSeated n faces off (λ s. s.face < length faces) before seats → IsOffNumber n off e → seat_at seats e ≡ None
      → HasTwoSeats n faces off ⊎ ((e : ℕ) × IsOffNumber n off e × ((s : EdgeSeat) → ¬ IsSeatOf n.points faces (edge_at n e) s))
  seat_lacks before seats e seated is_off none = inr (e, is_off, λ s at. no_seat s (sym none ∙ seated.all e s at.0 is_off at))
    where
      no_seat : (s : EdgeSeat) → None ≡ Some s → ⊥
      no_seat s h = cc
