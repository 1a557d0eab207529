-- From the tables to the definition, and back.
use Rattle.std.proofs.Common.{◌≡◌, ℕ, ◌-◌, ◌<◌, List, Bool, Option, Some, length, ap, sym, ◌∙◌, subst, ⊎_elim}
use Rattle.std.proofs.lemmas.List.{get_or_default}
use Rattle.exact_predicates.specs.declared.edge.Edge.{Edge}
use Rattle.exact_predicates.specs.declared.tri.Tri.{Tri}
use Rattle.exact_predicates.specs.Candidates.{IsEmptyOver}
use Rattle.lmt_network.specs.Flags.{live_edges}
use Rattle.lmt_network.specs.Network.{IsNetwork, NetworkParts, edge_at, tri_at}
use Rattle.lmt_network.proofs.Naming.{flags_named, tri_number}
use Rattle.face_optimum.specs.declared.seat.EdgeSeat.{EdgeSeat}
use Rattle.face_optimum.specs.declared.seat.TriSeat.{TriSeat}
use Rattle.face_optimum.specs.Decomposition.{AreFilled, HasTriBetween}
use Rattle.face_optimum.specs.Places.{face_at, IsEdgeAt, IsEdgeAtOnePair, IsOffSkeleton, IsTriAt, IsTriAtOneTriple}
use Rattle.face_optimum.specs.Seats.{AreOff, IsLiveTri, tri_seat}
use Rattle.face_optimum.specs.SeatTables.{AreEdgeSeats, AreTriSeats, HasPairTri, HasSeatBetween, HasTriNowhere, HasTwoSeats, LacksOneSeat}
use Rattle.face_optimum.proofs.EdgeSeating.{EdgeSeat-equal}
use Rattle.face_optimum.proofs.TriPlaces.{linked_at, off_edge, off_number, tri_linked}

some_seat : (s t : EdgeSeat) → Some s ≡ Some t → s ≡ t
some_seat s t h = cc

module _ (n : NetworkParts) (flags : List Bool) (net : IsNetwork n) (one_each : length flags ≡ length n.edges) where
  pub tri_known : (t : Tri) → IsEmptyOver n.points (live_edges n flags) t → (k : ℕ) × (k < length n.tris) × (tri_at n k ≡ t)
  tri_known t over =
      let (k, k_in, at_k) = tri_number n (live_edges n flags) t net (flags_named n flags net.ascending one_each).known over in
      (k, k_in, get_or_default n.tris k _ t k_in ∙ at_k)

  module _ (skeleton : List Edge) (faces : List (List ℕ)) (off : List Bool) (are : AreOff n flags skeleton off) where
    abbrev Crossing : Edge → Type 0
    Crossing e = IsOffSkeleton (live_edges n flags) skeleton e

    -- the edges
    pub edges_once : (seats : List (Option EdgeSeat)) → AreEdgeSeats n faces off seats → (e : Edge) → Crossing e → IsEdgeAtOnePair n.points faces e
    edges_once seats e_are e crossing =
        let (k, k_off, is) = off_number n flags skeleton faces off net one_each are e crossing in
        let (s, has) = e_are.some k k_off in
        let at = e_are.seats_are.sound k s has in
        let same : (f i l : ℕ) → f < length faces → IsEdgeAt n.points (face_at faces f) i l e → record { face = f; first = i; last = l } ≡ s = λ f i l f_in h.
        let t : EdgeSeat = record { face = f; first = i; last = l } in
        some_seat t s (sym (e_are.all k t k_off (f_in, subst (IsEdgeAt n.points (face_at faces f) i l) (sym is) h)) ∙ has) in
        record {
          face = s.face;
          first = s.first;
          last = s.last;
          face_in = at.0;
          sits = subst (IsEdgeAt n.points (face_at faces s.face) s.first s.last) is at.1;
          only = λ f i l f_in h. let e1 = same f i l f_in h in (ap (λ (t : EdgeSeat). t.face) e1, ap (λ (t : EdgeSeat). t.first) e1, ap (λ (t : EdgeSeat). t.last) e1);
        }

    pub not_two : HasTwoSeats n faces off → ¬ ((e : Edge) → Crossing e → IsEdgeAtOnePair n.points faces e)
    not_two two every =
        let once = every (edge_at n two.edge) (off_edge n flags skeleton faces off net one_each are two.edge two.is_off) in
        let a = once.only two.one.face two.one.first two.one.last two.one_is.0 two.one_is.1 in
        let b = once.only two.other.face two.other.first two.other.last two.other_is.0 two.other_is.1 in
        two.apart (EdgeSeat-equal two.one two.other (a.0 ∙ sym b.0) (a.1 ∙ sym b.1) (a.2 ∙ sym b.2))

    pub not_lacking : LacksOneSeat n faces off → ¬ ((e : Edge) → Crossing e → IsEdgeAtOnePair n.points faces e)
    not_lacking root_costs every =
        ⊎_elim
        (λ two. not_two two every)
        (λ (k, k_off, nowhere).
        let once = every (edge_at n k) (off_edge n flags skeleton faces off net one_each are k k_off) in
        nowhere (record { face = once.face; first = once.first; last = once.last }) (once.face_in, once.sits))
        root_costs

    -- the triangles
    module _ (tris : List TriSeat) (t_are : AreTriSeats n flags faces off (length n.tris) tris) where
      pub triangles_once : (t : Tri) → IsEmptyOver n.points (live_edges n flags) t → IsTriAtOneTriple n.points (live_edges n flags) skeleton faces t
      triangles_once t over =
          let (k, k_in, is) = tri_known t over in
          let live : IsLiveTri n flags k = (k_in, subst (IsEmptyOver n.points (live_edges n flags)) (sym is) over) in
          let s = tri_seat tris k in
          let at = linked_at n flags skeleton faces off net one_each are (tri_at n k) s (t_are.each k k_in live) in
          let same : (f i j l : ℕ) → f < length faces → IsTriAt n.points (live_edges n flags) skeleton (face_at faces f) i j l t → record { face = f; first = i; middle = j; last = l } ≡ s = λ f i j l f_in h.
          t_are.only k (record { face = f; first = i; middle = j; last = l }) k_in live
          (tri_linked n flags skeleton faces off net one_each are f f_in i j l (tri_at n k) (subst (IsTriAt n.points (live_edges n flags) skeleton (face_at faces f) i j l) (sym is) h)) in
          record {
            face = s.face;
            first = s.first;
            middle = s.middle;
            last = s.last;
            face_in = at.0;
            sits = subst (IsTriAt n.points (live_edges n flags) skeleton (face_at faces s.face) s.first s.middle s.last) is at.1;
            only = λ f i j l f_in h. let e1 = same f i j l f_in h in (ap (λ (x : TriSeat). x.face) e1, ap (λ (x : TriSeat). x.first) e1, ap (λ (x : TriSeat). x.middle) e1, ap (λ (x : TriSeat). x.last) e1);
          }

      -- a triangle between two places, by the table and by the definition
      pub between : (s : EdgeSeat) → HasSeatBetween n flags tris s → HasTriBetween n.points (live_edges n flags) skeleton (face_at faces s.face) s.first s.last
      between s (k, k_in, (live, (face_is, first_is, last_is))) =
          let at = linked_at n flags skeleton faces off net one_each are (tri_at n k) (tri_seat tris k) (t_are.each k k_in live) in
          let j = (tri_seat tris k).middle in (
            tri_at n k,
            j,
            live.1,
            subst (λ (f : ℕ). IsTriAt n.points (live_edges n flags) skeleton (face_at faces f) s.first j s.last (tri_at n k)) face_is
                (subst (λ (i : ℕ). IsTriAt n.points (live_edges n flags) skeleton (face_at faces (tri_seat tris k).face) i j s.last (tri_at n k)) first_is
                (subst (λ (l : ℕ). IsTriAt n.points (live_edges n flags) skeleton (face_at faces (tri_seat tris k).face) (tri_seat tris k).first j l (tri_at n k)) last_is at.1)),
          )

      pub seat_between : (s : EdgeSeat) → s.face < length faces → HasTriBetween n.points (live_edges n flags) skeleton (face_at faces s.face) s.first s.last → HasSeatBetween n flags tris s
      seat_between s f_in (t, j, over, at) =
          let (k, k_in, is) = tri_known t over in
          let live : IsLiveTri n flags k = (k_in, subst (IsEmptyOver n.points (live_edges n flags)) (sym is) over) in
          let same = t_are.only k (record { face = s.face; first = s.first; middle = j; last = s.last }) k_in live
          (tri_linked n flags skeleton faces off net one_each are s.face f_in s.first j s.last (tri_at n k) (subst (IsTriAt n.points (live_edges n flags) skeleton (face_at faces s.face) s.first j s.last) (sym is) at)) in
          (k, k_in, (live, (sym (ap (λ (x : TriSeat). x.face) same), sym (ap (λ (x : TriSeat). x.first) same), sym (ap (λ (x : TriSeat). x.last) same))))

      -- the pairs at which edges sit
      pub pairs_all : (seats : List (Option EdgeSeat)) → AreEdgeSeats n faces off seats
          → ((e : ℕ) → e < length n.edges → HasPairTri n flags off seats tris e)
          → (e : Edge) (f i l : ℕ) → Crossing e → f < length faces → IsEdgeAt n.points (face_at faces f) i l e → HasTriBetween n.points (live_edges n flags) skeleton (face_at faces f) i l
      pairs_all seats e_are every e f i l crossing f_in at =
          let (k, k_off, is) = off_number n flags skeleton faces off net one_each are e crossing in
          let s : EdgeSeat = record { face = f; first = i; last = l } in
          between s (every k k_off.0 s k_off (e_are.all k s k_off (f_in, subst (IsEdgeAt n.points (face_at faces f) i l) (sym is) at)))

      pub pairs_back : (seats : List (Option EdgeSeat)) → AreEdgeSeats n faces off seats
          → ((e : Edge) (f i l : ℕ) → Crossing e → f < length faces → IsEdgeAt n.points (face_at faces f) i l e → HasTriBetween n.points (live_edges n flags) skeleton (face_at faces f) i l)
          → (e : ℕ) → e < length n.edges → HasPairTri n flags off seats tris e
      pairs_back seats e_are every e e_in s e_off has =
          let at = e_are.seats_are.sound e s has in
          seat_between s at.0 (every (edge_at n e) s.face s.first s.last (off_edge n flags skeleton faces off net one_each are e e_off) at.0 at.1)

    -- all together
    pub filled : (seats : List (Option EdgeSeat)) (tris : List TriSeat) → AreEdgeSeats n faces off seats → AreTriSeats n flags faces off (length n.tris) tris
        → ((e : ℕ) → e < length n.edges → HasPairTri n flags off seats tris e)
        → ((f : ℕ) → f < length faces → HasSeatBetween n flags tris (record { face = f; first = 0; last = length (face_at faces f) - 1 }))
        → AreFilled n.points (live_edges n flags) skeleton faces
    filled seats tris e_are t_are pairs roots =
        record {
          edges = edges_once seats e_are;
          triangles = triangles_once tris t_are;
          pairs = pairs_all tris t_are seats e_are pairs;
          roots = λ f f_in. between tris t_are (record { face = f; first = 0; last = length (face_at faces f) - 1 }) (roots f f_in);
        }

    pub filled_roots : (tris : List TriSeat) → AreTriSeats n flags faces off (length n.tris) tris → AreFilled n.points (live_edges n flags) skeleton faces
        → (f : ℕ) → f < length faces → HasSeatBetween n flags tris (record { face = f; first = 0; last = length (face_at faces f) - 1 })
    filled_roots tris t_are whole f f_in = seat_between tris t_are (record { face = f; first = 0; last = length (face_at faces f) - 1 }) f_in (whole.roots f f_in)

    pub not_tri : HasTriNowhere n flags faces off → ¬ ((t : Tri) → IsEmptyOver n.points (live_edges n flags) t → IsTriAtOneTriple n.points (live_edges n flags) skeleton faces t)
    not_tri (k, k_in, live, nowhere) every =
        let once = every (tri_at n k) (live.1) in
        nowhere (record { face = once.face; first = once.first; middle = once.middle; last = once.last })
        (tri_linked n flags skeleton faces off net one_each are once.face once.face_in once.first once.middle once.last (tri_at n k) once.sits)
