-- On what a live triangle stands, and the numbers of edges of the skeleton.
use Rattle.std.proofs.Common.{◌≡◌, ℕ, ◌+◌, ◌-◌, ◌<◌, List, [], length, slice_index, replicate, All, Contains, arith, sym, ◌∙◌, subst, ⊎_elim, inl}
use Rattle.std.proofs.lemmas.Bool.{cases_lt}
use Rattle.std.proofs.lemmas.List.Elements.{All-contains}
use Rattle.std.proofs.lemmas.List.{get_or-replicate, get_or_past, get_or_default, length-replicate}
use Rattle.exact_predicates.specs.declared.edge.Edge.{Edge}
use Rattle.exact_predicates.specs.declared.tri.Tri.{Tri}
use Rattle.exact_predicates.specs.Candidates.{HasEdge, IsEmptyOver, Joins}
use Rattle.exact_predicates.proofs.Corners.{turned_corners}
use Rattle.exact_predicates.proofs.Equalities.{Contains-HasEdge, Joins-comm, Joins-ends}
use Rattle.lmt_network.specs.Flags.{live_edges}
use Rattle.lmt_network.specs.Network.{edge_at, tri_at}
use Rattle.lmt_network.specs.Numbers.{HasSide, IsHullNumber, IsNumberOf}
use Rattle.lmt_network.proofs.Naming.{flags_named, tri_number}
use Rattle.lmt_network.proofs.Picked.{picked_from}
use Rattle.face_optimum.specs.declared.site.Site.{Site}
use Rattle.face_optimum.specs.Chosen.{place_point}
use Rattle.face_optimum.specs.Cuts.{AreCostedUpto}
use Rattle.face_optimum.specs.Decomposition.{HasTriBetween, IsSized}
use Rattle.face_optimum.specs.Places.{face_at}
use Rattle.face_optimum.specs.Seats.{HasLiveTriOn, IsOff, edge_seat, first_point, last_point}
use Rattle.face_optimum.specs.Sites.{IsSite, faces_of, most_places}
use Rattle.face_optimum.proofs.Choosing.{seating_of}
use Rattle.face_optimum.proofs.Seated.{last_side, round_edge}

-- where a live triangle sits between two places it has the side from the greater to the lesser
live_between : (s : Site) (h : IsSite s) (face : List ℕ) (i l : ℕ) → HasTriBetween s.net.now.points (live_edges s.net.now s.flags.now) s.skeleton.now face i l
    → HasLiveTriOn s.net.now s.flags.now (slice_index face l) (slice_index face i)
live_between s h face i l (t, j, over, sits) =
    let names = flags_named s.net.now s.flags.now h.network.ascending h.one_each in
    let (k, k_in, at_k) = tri_number s.net.now (live_edges s.net.now s.flags.now) t h.network names.known over in
    let is : tri_at s.net.now k ≡ t = get_or_default s.net.now.tris k _ t k_in ∙ at_k in (
      k,
      (k_in, subst (λ (x : Tri). IsEmptyOver s.net.now.points (live_edges s.net.now s.flags.now) x) (sym is) over),
      subst (λ (x : Tri). HasSide x (slice_index face l) (slice_index face i)) (sym is) (slice_index face j, turned_corners t _ _ _ (turned_corners t _ _ _ sits.corners)),
    )

-- so one stands on each edge outside the skeleton, and on the last side of each face
pub part_there : (s : Site) (h : IsSite s) (e : ℕ) → IsOff s.net.now s.flags.now s.skeleton.now e
    → HasLiveTriOn s.net.now s.flags.now (last_point (faces_of s) s.edge_seats.now e) (first_point (faces_of s) s.edge_seats.now e)
part_there s h e off =
    let seat = edge_seat s.edge_seats.now e in
    live_between s h (face_at (faces_of s) seat.face) seat.first seat.last
    (h.filled.pairs (edge_at s.net.now e) seat.face seat.first seat.last off.1 (h.edges_are.face_in e off) (h.edges_are.sits e off))

pub root_there : (s : Site) (h : IsSite s) (f last : ℕ) → f < length (faces_of s) → last + 1 ≡ length (face_at (faces_of s) f)
    → HasLiveTriOn s.net.now s.flags.now (place_point s f last) (place_point s f 0)
root_there s h f last f_in last_is =
    let is : length (face_at (faces_of s) f) - 1 ≡ last = omega arith in
    live_between s h (face_at (faces_of s) f) 0 last
    (subst (λ (k : ℕ). HasTriBetween s.net.now.points (live_edges s.net.now s.flags.now) s.skeleton.now (face_at (faces_of s) f) 0 k) is (h.filled.roots f f_in))

-- no costs yet
pub none_costed : (s : Site) (order costs choices : List ℕ) → length costs ≡ length s.net.now.edges → length choices ≡ length s.net.now.edges → ((e : ℕ) → slice_index costs e ≡ 0)
    → AreCostedUpto s.net.now s.flags.now s.skeleton.now (faces_of s) s.edge_seats.now s.tri_seats.now order 0 costs choices
none_costed s order costs choices one two zero =
    record { one_each = one; choice_each = two; done = λ m l. absurd (omega arith); small = λ e. inl (zero e) }

-- an edge of the skeleton has a number
pub skeleton_number : (s : Site) (h : IsSite s) (u v : ℕ) → HasEdge s.skeleton.now u v → (e : ℕ) × (IsNumberOf s.net.now u v e × Contains s.skeleton.now (edge_at s.net.now e))
skeleton_number s h u v (k, x, k_in, at_k, joins) =
    let has : Contains s.skeleton.now x = (k, k_in, at_k) in
    let r = picked_from s.flags.now s.net.now.edges x (All-contains (Contains (live_edges s.net.now s.flags.now)) s.skeleton.now x h.live_skeleton has) in
    let is : edge_at s.net.now r.0 ≡ x = get_or_default s.net.now.edges r.0 _ x r.1 ∙ r.3 in
    (r.0, ((r.1, subst (λ (y : Edge). Joins y u v) (sym is) joins), subst (λ (y : Edge). Contains s.skeleton.now y) (sym is) has))

-- so it is one of the network
pub skeleton_known : (s : Site) (h : IsSite s) (u v : ℕ) → HasEdge s.skeleton.now u v → HasEdge s.net.now.edges u v
skeleton_known s h u v has =
    let (e, (is, in_skeleton)) = skeleton_number s h u v has in
    (e, edge_at s.net.now e, is.0, get_or_default s.net.now.edges e _ _ is.0, is.1)

-- the last side of a face is one of the skeleton
pub last_in_skeleton : (s : Site) (h : IsSite s) (f last : ℕ) → f < length (faces_of s) → last + 1 ≡ length (face_at (faces_of s) f) → HasEdge s.skeleton.now (place_point s f last) (place_point s f 0)
last_in_skeleton s h f last f_in last_is =
    round_edge s.net.now.points (live_edges s.net.now s.flags.now) s.skeleton.now (faces_of s) (seating_of s h) f (place_point s f last) (place_point s f 0) f_in
    (last_side s.net.now.points (live_edges s.net.now s.flags.now) s.skeleton.now (faces_of s) (seating_of s h) f last f_in last_is)

pub last_there : (s : Site) (h : IsSite s) (f : ℕ) (face : List ℕ) → f < length (faces_of s) → face ≡ face_at (faces_of s) f → HasEdge s.skeleton.now (slice_index face (length face - 1)) (slice_index face 0)
last_there s h f face f_in is =
    let three = (subst (λ (fs : List (List ℕ)). All (IsSized most_places) fs) (sym h.rings_are) h.cut.sizes f [] f_in).0 in
    subst (λ (c : List ℕ). HasEdge s.skeleton.now (slice_index c (length c - 1)) (slice_index c 0)) (sym is) (last_in_skeleton s h f (length (face_at (faces_of s) f) - 1) f_in (omega arith))

-- a list of zeros
pub zero_at : (n e : ℕ) → slice_index (replicate n 0) e ≡ 0
zero_at n e =
    ⊎_elim
    (λ l. get_or-replicate n e 0 0 l)
    (λ past. let many : length (replicate {A = ℕ} n 0) ≡ n = length-replicate n 0 in get_or_past (replicate {A = ℕ} n 0) e 0 (omega (arith, many, past)))
    (cases_lt e n)

-- an edge outside the skeleton is no edge of the hull
pub off_not_hull : (s : Site) (h : IsSite s) (e : ℕ) → IsOff s.net.now s.flags.now s.skeleton.now e → ¬ IsHullNumber s.net.now e
off_not_hull s h e off hull =
    let x = edge_at s.net.now e in
    ⊎_elim
    (λ pair. off.1.1 (Contains-HasEdge s.skeleton.now x x.a x.b (Joins-ends x) (h.on_hull x.a x.b pair)))
    (λ pair. off.1.1 (Contains-HasEdge s.skeleton.now x x.b x.a (Joins-comm x x.a x.b (Joins-ends x)) (h.on_hull x.b x.a pair)))
    hull
