-- Where live triangles with a given side sit.
use Rattle.std.proofs.Common.{◌≡◌, ◌≢◌, ◌⊎◌, ℕ, ◌+◌, ◌<◌, not, List, [], length, slice_index, All, AllPairs, arith, ap, sym, ◌∙◌, subst, ⊎_elim}
use Rattle.std.proofs.lemmas.Bool.{cases_order}
use Rattle.std.proofs.lemmas.List.Elements.{All-filter}
use Rattle.std.proofs.lemmas.List.Kept.{AllPairs-filter}
use Rattle.exact_predicates.specs.declared.edge.Edge.{Edge}
use Rattle.exact_predicates.specs.declared.point.Point.{Point}
use Rattle.exact_predicates.specs.declared.tri.Tri.{Tri}
use Rattle.exact_predicates.specs.Candidates.{HasEdge, IsEmptyOver, Joins}
use Rattle.exact_predicates.specs.Triangulation.{HasCorners}
use Rattle.exact_predicates.proofs.Equalities.{Contains-HasEdge, HasEdge-comm, Joins-comm, Joins-only}
use Rattle.skeleton_faces.specs.Faces.{AreFaces, HasRoundSide, IsFace, round_at}
use Rattle.face_optimum.specs.Decomposition.{AreFilled, bounded_faces, is_outer}
use Rattle.face_optimum.specs.Places.{AreJoinedPlaces, IsEdgeAt, IsEdgeAtOnePair, IsFaceSide, IsOffSkeleton, IsTriAt, IsTriAtOneTriple, face_at}
use Rattle.face_optimum.proofs.CornerOrder.{corners_turned}
use Rattle.face_optimum.proofs.Rounds.{round_end, round_within}

-- What the bounded faces keep where the skeleton decomposes.
pub record AreSeating (ps : List Point) (live skeleton : List Edge) (faces : List (List ℕ)) : Type 0 where
  pub each : All (IsFace ps skeleton) faces
  pub apart : AllPairs (λ c d. (u v : ℕ) → HasRoundSide c u v → ¬ HasRoundSide d u v) faces
  pub edges : (e : Edge) → IsOffSkeleton live skeleton e → IsEdgeAtOnePair ps faces e
  pub triangles : (t : Tri) → IsEmptyOver ps live t → IsTriAtOneTriple ps live skeleton faces t

module _ (ps : List Point) (live skeleton : List Edge) (faces : List (List ℕ)) (s : AreSeating ps live skeleton faces) where
  face_is : (f : ℕ) → f < length faces → IsFace ps skeleton (face_at faces f)
  face_is f f_in = s.each f [] f_in

  -- a side of a face from one place to the next, and the last one
  pub next_side : (f i : ℕ) → f < length faces → i + 1 < length (face_at faces f) → HasRoundSide (face_at faces f) (slice_index (face_at faces f) i) (slice_index (face_at faces f) (i + 1))
  next_side f i f_in i_in = (i, omega arith, round_within (face_at faces f) i (omega arith), round_within (face_at faces f) (i + 1) i_in)

  pub last_side : (f l : ℕ) → f < length faces → l + 1 ≡ length (face_at faces f) → HasRoundSide (face_at faces f) (slice_index (face_at faces f) l) (slice_index (face_at faces f) 0)
  last_side f l f_in l_is = (l, omega arith, round_within (face_at faces f) l (omega arith), round_end (face_at faces f) (l + 1) l_is)

  pub round_edge : (f u v : ℕ) → f < length faces → HasRoundSide (face_at faces f) u v → HasEdge skeleton u v
  round_edge f u v f_in (k, k_in, from, to) =
      subst (λ (x : ℕ). HasEdge skeleton x v) from (subst (λ (y : ℕ). HasEdge skeleton (round_at (face_at faces f) k) y) to ((face_is f f_in).follows k k_in).side)

  -- a side of a face is an edge of the skeleton
  pub side_in_skeleton : (f i l : ℕ) → f < length faces → i < l → l < length (face_at faces f) → IsFaceSide (face_at faces f) i l
      → HasEdge skeleton (slice_index (face_at faces f) i) (slice_index (face_at faces f) l)
  side_in_skeleton f i l f_in below l_in side =
      let v = slice_index (face_at faces f) in
      ⊎_elim
      (λ (e : l ≡ i + 1). subst (λ (k : ℕ). HasEdge skeleton (v i) (v k)) (sym e) (round_edge f (v i) (v (i + 1)) f_in (next_side f i f_in (omega arith))))
      (λ (e : (i ≡ 0) × (l + 1 ≡ length (face_at faces f))).
      subst (λ (k : ℕ). HasEdge skeleton (v k) (v l)) (sym e.0) (HasEdge-comm skeleton (v l) (v 0) (round_edge f (v l) (v 0) f_in (last_side f l f_in e.1))))
      side

  -- one side stands in one face
  pub same_face : (f g u v : ℕ) → f < length faces → g < length faces → HasRoundSide (face_at faces f) u v → HasRoundSide (face_at faces g) u v → f ≡ g
  same_face f g u v f_in g_in here there =
      ⊎_elim
      (λ (e : f ≡ g). e)
      (λ d. ⊎_elim
      (λ (l : f < g). absurd (s.apart f g [] l g_in u v here there))
      (λ (l : g < f). absurd (s.apart g f [] l f_in u v there here))
      d)
      (cases_order f g)

  -- and there at one place
  pub same_place : (f j k : ℕ) → f < length faces → j < length (face_at faces f) → k < length (face_at faces f)
      → round_at (face_at faces f) j ≡ round_at (face_at faces f) k → round_at (face_at faces f) (j + 1) ≡ round_at (face_at faces f) (k + 1) → j ≡ k
  same_place f j k f_in j_in k_in from to =
      ⊎_elim
      (λ (e : j ≡ k). e)
      (λ d. ⊎_elim
      (λ (l : j < k). absurd ((face_is f f_in).once j k l k_in (from, to)))
      (λ (l : k < j). absurd ((face_is f f_in).once k j l j_in (sym from, sym to)))
      d)
      (cases_order j k)

  -- the ends of an edge that sits differ
  apart_ends : (face : List ℕ) (i l : ℕ) (e : Edge) → IsEdgeAt ps face i l e → slice_index face i ≢ slice_index face l
  apart_ends face i l e at same = let up = e.ascending in let j = at.ends in absurd (omega (arith, j.0, j.1))

  module _ (e : Edge) (off : IsOffSkeleton live skeleton e) where
    -- an edge outside the skeleton joins no side of a face
    no_side : (f i l : ℕ) → f < length faces → i < l → l < length (face_at faces f) → Joins e (slice_index (face_at faces f) i) (slice_index (face_at faces f) l) → ¬ IsFaceSide (face_at faces f) i l
    no_side f i l f_in below l_in joins side = off.1 (Contains-HasEdge skeleton e _ _ joins (side_in_skeleton f i l f_in below l_in side))

    -- where two places are joined by it, it sits at them
    sits_there : (f i l : ℕ) → f < length faces → i < l → l < length (face_at faces f) → Joins e (slice_index (face_at faces f) i) (slice_index (face_at faces f) l)
        → AreJoinedPlaces ps live skeleton (face_at faces f) i l → IsEdgeAt ps (face_at faces f) i l e
    sits_there f i l f_in below l_in joins joined =
        ⊎_elim
        (λ side. absurd (no_side f i l f_in below l_in joins side))
        (λ (other, other_off, at). subst (λ (x : Edge). IsEdgeAt ps (face_at faces f) i l x) (Joins-only other e _ _ at.ends joins) at)
        joined

    -- it sits at one pair of places
    pub same_seat : (f i l g j m : ℕ) → f < length faces → g < length faces → IsEdgeAt ps (face_at faces f) i l e → IsEdgeAt ps (face_at faces g) j m e → (f ≡ g) × (i ≡ j) × (l ≡ m)
    same_seat f i l g j m f_in g_in at_f at_g =
        let one = s.edges e off in
        let a = one.only f i l f_in at_f in
        let b = one.only g j m g_in at_g in
        (a.0 ∙ sym b.0, a.1 ∙ sym b.1, a.2 ∙ sym b.2)

    -- a live triangle with the side from its greater place to its lesser sits between these
    pub sits_between : (f i l r : ℕ) (t : Tri) → f < length faces → IsEdgeAt ps (face_at faces f) i l e → IsEmptyOver ps live t
        → HasCorners t (slice_index (face_at faces f) i) r (slice_index (face_at faces f) l)
        → (j : ℕ) × (slice_index (face_at faces f) j ≡ r) × IsTriAt ps live skeleton (face_at faces f) i j l t
    sits_between f i l r t f_in at over corners =
        let one = s.triangles t over in
        let g = one.face in
        let w = slice_index (face_at faces g) in
        let sits = one.sits in
        let joins = at.ends in
        let ab = sits.first_below in
        let bc = sits.middle_below in
        ⊎_elim
        (λ c.
        let joins_g : Joins e (w one.first) (w one.last) = subst (λ (x : ℕ). Joins e x (w one.last)) (sym c.0) (subst (λ (y : ℕ). Joins e (slice_index (face_at faces f) i) y) (sym c.2) joins) in
        let same = same_seat g one.first one.last f i l one.face_in f_in (sits_there g one.first one.last one.face_in (omega arith) sits.last_in joins_g sits.third_side) at in
        let here : IsTriAt ps live skeleton (face_at faces f) i one.middle l t =
        subst (λ (k : ℕ). IsTriAt ps live skeleton (face_at faces f) i one.middle k t) same.2
        (subst (λ (k : ℕ). IsTriAt ps live skeleton (face_at faces f) k one.middle one.last t) same.1
        (subst (λ (k : ℕ). IsTriAt ps live skeleton (face_at faces k) one.first one.middle one.last t) same.0 sits)) in
        (one.middle, ap (λ k. slice_index (face_at faces k) one.middle) (sym same.0) ∙ c.1, here))
        (λ m. absurd (⊎_elim
        (λ c.
        let joins_g : Joins e (w one.first) (w one.middle) = Joins-comm e (w one.middle) (w one.first)
        (subst (λ (x : ℕ). Joins e x (w one.first)) (sym c.0) (subst (λ (y : ℕ). Joins e (slice_index (face_at faces f) i) y) (sym c.2) joins)) in
        wrong g one.first one.middle f i l one.face_in f_in (sits_there g one.first one.middle one.face_in ab (omega arith) joins_g sits.first_side) at c.0)
        (λ c.
        let joins_g : Joins e (w one.middle) (w one.last) = Joins-comm e (w one.last) (w one.middle)
        (subst (λ (x : ℕ). Joins e x (w one.middle)) (sym c.0) (subst (λ (y : ℕ). Joins e (slice_index (face_at faces f) i) y) (sym c.2) joins)) in
        wrong g one.middle one.last f i l one.face_in f_in (sits_there g one.middle one.last one.face_in bc sits.last_in joins_g sits.second_side) at c.0)
        m))
        (corners_turned t (w one.first) (w one.middle) (w one.last) (slice_index (face_at faces f) i) r (slice_index (face_at faces f) l) sits.corners corners)
      where
        -- it does not sit at the two places the other way round
        wrong : (g j m f i l : ℕ) → g < length faces → f < length faces → IsEdgeAt ps (face_at faces g) j m e → IsEdgeAt ps (face_at faces f) i l e
            → slice_index (face_at faces g) m ≡ slice_index (face_at faces f) i → ⊥
        wrong g j m f i l g_in f_in at_g at_f turned =
            let same = same_seat g j m f i l g_in f_in at_g at_f in
            let last : slice_index (face_at faces g) m ≡ slice_index (face_at faces f) l = ap (λ k. slice_index (face_at faces k) m) same.0 ∙ ap (slice_index (face_at faces f)) same.2 in
            apart_ends (face_at faces f) i l e at_f (sym turned ∙ last)

  -- no edge outside the skeleton sits where an edge of the skeleton has its ends
  not_off : (face : List ℕ) (i l : ℕ) → HasEdge skeleton (slice_index face i) (slice_index face l) → (e : Edge) → IsOffSkeleton live skeleton e → ¬ IsEdgeAt ps face i l e
  not_off face i l has e off at = off.1 (Contains-HasEdge skeleton e _ _ at.ends has)

  -- a live triangle with the last side of a face sits between the first place and the last
  pub sits_on_last : (f l r : ℕ) (t : Tri) → f < length faces → l + 1 ≡ length (face_at faces f) → IsEmptyOver ps live t
      → HasCorners t (slice_index (face_at faces f) 0) r (slice_index (face_at faces f) l)
      → (j : ℕ) × (slice_index (face_at faces f) j ≡ r) × IsTriAt ps live skeleton (face_at faces f) 0 j l t
  sits_on_last f l r t f_in l_is over corners =
      let one = s.triangles t over in
      let g = one.face in
      let v = slice_index (face_at faces f) in
      let w = slice_index (face_at faces g) in
      let sits = one.sits in
      let ab = sits.first_below in
      let bc = sits.middle_below in
      let last_in = sits.last_in in
      let own = last_side f l f_in l_is in
      let has : HasEdge skeleton (v l) (v 0) = round_edge f (v l) (v 0) f_in own in
      ⊎_elim
      (λ c. ⊎_elim
      (λ side. ⊎_elim
      (λ (e : one.last ≡ one.first + 1). absurd (omega arith))
      (λ (e : (one.first ≡ 0) × (one.last + 1 ≡ length (face_at faces g))).
      let first0 : w 0 ≡ v 0 = ap w (sym e.0) ∙ c.0 in
      let there = moved g (w one.last) (w 0) (v l) (v 0) c.2 first0 (last_side g one.last one.face_in e.1) in
      let same = same_face g f (v l) (v 0) one.face_in f_in there own in
      let same_last : one.last ≡ l = let both = ap (λ k. length (face_at faces k)) same in let e1 = e.1 in omega (arith, both) in
      let here : IsTriAt ps live skeleton (face_at faces f) 0 one.middle l t =
      subst (λ (k : ℕ). IsTriAt ps live skeleton (face_at faces f) 0 one.middle k t) same_last
      (subst (λ (k : ℕ). IsTriAt ps live skeleton (face_at faces f) k one.middle one.last t) e.0
      (subst (λ (k : ℕ). IsTriAt ps live skeleton (face_at faces k) one.first one.middle one.last t) same sits)) in
      (one.middle, ap (λ k. slice_index (face_at faces k) one.middle) (sym same) ∙ c.1, here))
      side)
      (λ (e, off, at). absurd (not_off (face_at faces g) one.first one.last
      (HasEdge-comm skeleton (w one.last) (w one.first) (edge_moved (v l) (v 0) (w one.last) (w one.first) (sym c.2) (sym c.0) has)) e off at))
      sits.third_side)
      (λ m. absurd (⊎_elim
      (λ c. wrong g one.first one.middle f l one.face_in f_in ab (omega arith) (λ e. let e1 = e.1 in absurd (omega arith)) l_is c.2 c.0 sits.first_side)
      (λ c. wrong g one.middle one.last f l one.face_in f_in bc sits.last_in (λ e. let e0 = e.0 in absurd (omega arith)) l_is c.2 c.0 sits.second_side)
      m))
      (corners_turned t (w one.first) (w one.middle) (w one.last) (v 0) r (v l) sits.corners corners)
    where
      edge_moved : (a b x y : ℕ) → a ≡ x → b ≡ y → HasEdge skeleton a b → HasEdge skeleton x y
      edge_moved a b x y e d h = subst (λ (z : ℕ). HasEdge skeleton z y) e (subst (λ (z : ℕ). HasEdge skeleton a z) d h)

      moved : (g a b x y : ℕ) → a ≡ x → b ≡ y → HasRoundSide (face_at faces g) a b → HasRoundSide (face_at faces g) x y
      moved g a b x y e d h = (h.0, h.1, h.2 ∙ e, h.3 ∙ d)

      -- places j below m of a face that are joined, but not by its last side, have not the ends of that side
      wrong : (g j m f l : ℕ) → g < length faces → f < length faces → j < m → m < length (face_at faces g) → ¬ ((j ≡ 0) × (m + 1 ≡ length (face_at faces g))) → l + 1 ≡ length (face_at faces f)
          → slice_index (face_at faces g) j ≡ slice_index (face_at faces f) l → slice_index (face_at faces g) m ≡ slice_index (face_at faces f) 0
          → AreJoinedPlaces ps live skeleton (face_at faces g) j m → ⊥
      wrong g j m f l g_in f_in below m_in not_last l_is at_j at_m joined =
          let v = slice_index (face_at faces f) in
          let w = slice_index (face_at faces g) in
          let own = last_side f l f_in l_is in
          ⊎_elim
          (λ side. ⊎_elim
          (λ (e : m ≡ j + 1).
          let at_next : w (j + 1) ≡ v 0 = ap w (sym e) ∙ at_m in
          let there = moved g (w j) (w (j + 1)) (v l) (v 0) at_j at_next (next_side g j g_in (omega arith)) in
          let same = same_face g f (v l) (v 0) g_in f_in there own in
          let long = ap (λ k. length (face_at faces k)) same in
          let j_round = round_within (face_at faces g) j (omega arith) in
          let next_round = round_within (face_at faces g) (j + 1) (omega arith) in
          let l_round = round_within (face_at faces f) l (omega arith) in
          let end_round = round_end (face_at faces f) (l + 1) l_is in
          let place = same_place g j l g_in (omega arith) (omega (arith, long, l_is))
          (j_round ∙ (at_j ∙ (sym l_round ∙ ap (λ k. round_at (face_at faces k) l) (sym same))))
          (next_round ∙ (at_next ∙ (sym end_round ∙ ap (λ k. round_at (face_at faces k) (l + 1)) (sym same)))) in
          absurd (omega (arith, place, long, l_is, m_in, e)))
          (λ e. absurd (not_last e))
          side)
          (λ (e, off, at). absurd (not_off (face_at faces g) j m (edge_moved (v l) (v 0) (w j) (w m) (sym at_j) (sym at_m) (round_edge f (v l) (v 0) f_in own)) e off at))
          joined

-- the bounded faces are so
pub seating : (ps : List Point) (hull : List ℕ) (live skeleton : List Edge) (cycles faces : List (List ℕ)) → AreFaces ps skeleton cycles → faces ≡ bounded_faces hull cycles
    → AreFilled ps live skeleton faces → AreSeating ps live skeleton faces
seating ps hull live skeleton cycles faces are is filled =
    record {
      each = subst (λ (fs : List (List ℕ)). All (IsFace ps skeleton) fs) (sym is) (All-filter (λ c. not (is_outer hull c)) (IsFace ps skeleton) cycles are.each);
      apart = subst (λ (fs : List (List ℕ)). AllPairs (λ c d. (u v : ℕ) → HasRoundSide c u v → ¬ HasRoundSide d u v) fs) (sym is)
          (AllPairs-filter (λ c d. (u v : ℕ) → HasRoundSide c u v → ¬ HasRoundSide d u v) (λ c. not (is_outer hull c)) cycles are.apart);
      edges = filled.edges;
      triangles = filled.triangles;
    }
