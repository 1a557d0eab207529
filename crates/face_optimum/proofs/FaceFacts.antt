-- What faces have, for the bounded ones and for the one that is left out.
use Rattle.std.proofs.Common.{◌≡◌, ◌≢◌, ℕ, ◌<◌, List, [], length, get_or, slice_index, slice_index_or, All, AllPairs, Bool, false, filter, ap, sym, ◌∙◌, subst, refl, ⊎_elim, arith}
use Rattle.std.proofs.lemmas.Bool.{cases_Bool, cases_lt}
use Rattle.std.proofs.lemmas.List.{get_or_default}
use Rattle.std.proofs.lemmas.List.Elements.{All-filter}
use Rattle.std.proofs.lemmas.List.Kept.{AllPairs-filter}
use Rattle.exact_predicates.specs.declared.edge.Edge.{Edge}
use Rattle.exact_predicates.specs.declared.point.Point.{Point}
use Rattle.exact_predicates.specs.Candidates.{HasEdge}
use Rattle.exact_predicates.specs.Hull.{ring_pairs}
use Rattle.exact_predicates.proofs.Equalities.{Contains-HasEdge}
use Rattle.exact_predicates.proofs.Rings.{length-ring, pair_at}
use Rattle.lmt_network.specs.Network.{NetworkParts, edge_at}
use Rattle.skeleton_faces.specs.Faces.{AreFaces, HasRoundSide, IsFace}
use Rattle.face_optimum.specs.declared.seat.SideSeat.{SideSeat}
use Rattle.face_optimum.specs.Places.{face_at, next_point}
use Rattle.face_optimum.specs.Seats.{AreOff}
use Rattle.face_optimum.specs.SeatTables.{AreSidesIn, AreSidesOn, HavePointsIn, HaveSidesOnce, IsSideSeat}
use Rattle.face_optimum.proofs.RingPlaces.{next_is, round_here}

-- the side at a place of a face joins the ends of an edge
side_joined : (ps : List Point) (es : List Edge) (c : List ℕ) (k : ℕ) → IsFace ps es c → k < length c → HasEdge es (slice_index c k) (next_point c k)
side_joined ps es c k face k_in = subst (λ (u : ℕ). HasEdge es u (next_point c k)) (round_here c k k_in) (face.follows k k_in).side

-- two places of a face have no side in common
place_only : (ps : List Point) (es : List Edge) (c : List ℕ) (k m : ℕ) → IsFace ps es c → k < length c → m < length c
    → slice_index c k ≡ slice_index c m → next_point c k ≡ next_point c m → k ≡ m
place_only ps es c k m face k_in m_in starts ends =
    ⊎_elim
    (λ l. absurd (face.once k m l m_in (round_here c k k_in ∙ (starts ∙ sym (round_here c m m_in)), ends)))
    (λ l. ⊎_elim
    (λ g. absurd (face.once m k g k_in (round_here c m m_in ∙ (sym starts ∙ sym (round_here c k k_in)), sym ends)))
    (λ g. omega arith)
    (cases_lt m k))
    (cases_lt k m)

-- the sides of a face are distinct pairs
pub pairs_distinct : (ps : List Point) (es : List Edge) (c : List ℕ) → IsFace ps es c → AllPairs (λ s t. s ≢ t) (ring_pairs c)
pairs_distinct ps es c face i j d l j_in same =
    let j_place : j < length c = omega (arith, length-ring c) in
    let i_place : i < length c = omega arith in
    let at_i = pair_at c (slice_index c i) (next_point c i) i d i_place refl (next_is c i i_place) in
    let at_j = pair_at c (slice_index c j) (next_point c j) j d j_place refl (next_is c j j_place) in
    let one = sym at_i ∙ (same ∙ at_j) in
    let e = place_only ps es c i j face i_place j_place (ap (λ (p : ℕ × ℕ). p.0) one) (ap (λ (p : ℕ × ℕ). p.1) one) in
    omega (arith, e)

-- both ends of an edge are points
ends_below : (es : List Edge) (u v n : ℕ) → All (λ e. e.b < n) es → HasEdge es u v → (u < n) × (v < n)
ends_below es u v n ends (j, x, j_in, at_j, joins) =
    let below : x.b < n = subst (λ (e : Edge). e.b < n) at_j (ends j x j_in) in
    (omega (arith, joins.1), omega (arith, joins.1))

-- a place of a face by the rounds of faces
round_side : (faces : List (List ℕ)) (u v : ℕ) (s : SideSeat) → IsSideSeat faces u v s → HasRoundSide (face_at faces s.face) u v
round_side faces u v s at = (s.place, at.place_in, round_here (face_at faces s.face) s.place at.place_in ∙ at.from, at.to)

pub SideSeat-equal : (s t : SideSeat) → s.face ≡ t.face → s.place ≡ t.place → s ≡ t
SideSeat-equal s t e f = ap (λ x. record { face = x; place = s.place }) e ∙ ap (λ x. record { face = t.face; place = x }) f

module _ (ps : List Point) (es : List Edge) (cycles : List (List ℕ)) (faces : AreFaces ps es cycles) (p : List ℕ → Bool) where
  abbrev kept : List (List ℕ)
  kept = filter p cycles

  kept_face : (f : ℕ) (d : List ℕ) → f < length kept → IsFace ps es (get_or kept f d)
  kept_face f d f_in = All-filter p (IsFace ps es) cycles faces.each f d f_in

  pub kept_points : All (λ e. e.b < length ps) es → HavePointsIn ps kept
  kept_points ends f d f_in k e k_in =
      let c = get_or kept f d in
      let below = (ends_below es (slice_index c k) (next_point c k) (length ps) ends (side_joined ps es c k (kept_face f d f_in) k_in)).0 in
      let same : get_or c k e ≡ slice_index c k = get_or_default c k e 0 k_in in
      omega arith

  pub kept_some : All (λ c. 0 < length c) kept
  kept_some f d f_in = (kept_face f d f_in).some

  kept_apart : (u v : ℕ) (s t : SideSeat) → s.face < t.face → IsSideSeat kept u v s → IsSideSeat kept u v t → ⊥
  kept_apart u v s t l at_s at_t =
      AllPairs-filter (λ (c d : List ℕ). (u v : ℕ) → HasRoundSide c u v → ¬ HasRoundSide d u v) p cycles faces.apart s.face t.face [] l at_t.face_in u v (round_side kept u v s at_s) (round_side kept u v t at_t)

  pub kept_once : HaveSidesOnce kept
  kept_once u v s t at_s at_t =
      ⊎_elim
      (λ l. absurd (kept_apart u v s t l at_s at_t))
      (λ l. ⊎_elim
      (λ g. absurd (kept_apart u v t s g at_t at_s))
      (λ g.
      let e : s.face ≡ t.face = omega arith in
      let c = face_at kept s.face in
      let same : face_at kept t.face ≡ c = ap (face_at kept) (sym e) in
      let m_in : t.place < length c = subst (λ (x : List ℕ). t.place < length x) same at_t.place_in in
      let from : slice_index c t.place ≡ u = subst (λ (x : List ℕ). slice_index x t.place ≡ u) same at_t.from in
      let to : next_point c t.place ≡ v = subst (λ (x : List ℕ). next_point x t.place ≡ v) same at_t.to in
      SideSeat-equal s t e (place_only ps es c s.place t.place (kept_face s.face [] at_s.face_in) at_s.place_in m_in (at_s.from ∙ sym from) (at_s.to ∙ sym to)))
      (cases_lt t.face s.face))
      (cases_lt s.face t.face)

  -- a side of a face is an edge
  pub kept_in : AreSidesIn es kept
  kept_in u v s at =
      let c = face_at kept s.face in
      subst (λ (x : ℕ). HasEdge es x v) at.from (subst (λ (y : ℕ). HasEdge es (slice_index c s.place) y) at.to (side_joined ps es c s.place (kept_face s.face [] at.face_in) at.place_in))

-- and none outside the skeleton
pub sides_on : (n : NetworkParts) (flags off : List Bool) (es : List Edge) (faces : List (List ℕ)) → AreSidesIn es faces → AreOff n flags es off → AreSidesOn n faces off
sides_on n flags off es faces inside are u v e s at number =
    ⊎_elim
    (λ is_off. absurd (((are.each e).0 is_off).1.1 (Contains-HasEdge es (edge_at n e) u v number.1 (inside u v s at))))
    (λ on. on)
    (cases_Bool (slice_index_or off e false))
