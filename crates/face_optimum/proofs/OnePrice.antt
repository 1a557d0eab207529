-- By the rule on faces each live edge has one price, and each of its sides one anchor.
use Rattle.std.proofs.Common.{◌≡◌, ℕ, ◌+◌, ◌<◌, ◌≤◌, min, max, true, false, List, [], length, get_or, slice_index, All, AllPairs, Contains, sum_by, ℤ, pos, ◌-ℤ◌, arith, refl, ap, sym, ◌∙◌, subst, ⊎_elim, inl, inr}
use Rattle.std.proofs.lemmas.Bool.{both_ways, cases_Bool, cases_lt}
use Rattle.std.proofs.lemmas.Int.{ints}
use Rattle.std.proofs.lemmas.List.{ext_get_or, get_or-map, get_or_default, length-map}
use Rattle.std.proofs.lemmas.List.Elements.{Contains-get_or}
use Rattle.exact_predicates.specs.declared.edge.Edge.{Edge}
use Rattle.exact_predicates.specs.declared.point.Point.{Point}
use Rattle.exact_predicates.specs.Candidates.{EdgePrecedes, HasEdge, Joins}
use Rattle.exact_predicates.specs.Hull.{IsHull, IsHullPair, ring_pairs}
use Rattle.exact_predicates.specs.Triangulation.{hit}
use Rattle.exact_predicates.proofs.Elements.{sum_by-some}
use Rattle.exact_predicates.proofs.Equalities.{Contains-HasEdge, Edge-equal, HasEdge-Contains, HasEdge-comm, Joins-comm, Joins-ends}
use Rattle.lmt_network.specs.Live.{IsHullEdge}
use Rattle.lmt_network.specs.Prices.{Priced, find_priced, is_on_hull, priced, priced_edges, share, unpriced}
use Rattle.lmt_network.specs.Skeleton.{AreSkeleton}
use Rattle.lmt_network.proofs.Entries.{contains_map, find_priced-entry, find_priced-own, is_on_hull-comm, is_on_hull_decides, map_contains, priced-comm}
use Rattle.lmt_network.proofs.Filters.{count_to}
use Rattle.lmt_network.proofs.Slacks.{share-down, share-on, share-up}
use Rattle.skeleton_faces.specs.Faces.{AreFaces, HasRoundSide}
use Rattle.face_optimum.specs.Decomposition.{Decomposes, IsSized, bounded_faces}
use Rattle.face_optimum.specs.FaceRule.{AreFaceCosts, AreFacePrices, last_of, point_of}
use Rattle.face_optimum.specs.Places.{IsEdgeAt, IsOffSkeleton, face_at}
use Rattle.price_ascent.proofs.OnceEach.{one_direction}
use Rattle.face_optimum.proofs.Covers.{inner_side}
use Rattle.face_optimum.proofs.EdgeLists.{edge_or_not}
use Rattle.face_optimum.proofs.OneCost.{same_cost}
use Rattle.face_optimum.proofs.RimEdges.{hull_in_skeleton}
use Rattle.face_optimum.proofs.Rounds.{round_end, round_within, side_of_pair}

-- what a list says of an edge is known by its parts
Priced-equal : (p q : Priced) → p.edge ≡ q.edge → p.value ≡ q.value → p.left ≡ q.left → p.right ≡ q.right → p ≡ q
Priced-equal p q a b c d =
    ap (λ (e : Edge). record { edge = e; value = p.value; left = p.left; right = p.right }) a
    ∙ (ap (λ (z : ℤ). record { edge = q.edge; value = z; left = p.left; right = p.right }) b
    ∙ (ap (λ (z : ℤ). record { edge = q.edge; value = q.value; left = z; right = p.right }) c
    ∙ ap (λ (z : ℤ). record { edge = q.edge; value = q.value; left = q.left; right = z }) d))

-- the ends of an edge in their order
priced_ends : (prices : List Priced) (e : Edge) → priced prices e.a e.b ≡ find_priced prices e.a e.b
priced_ends prices e =
    let up = e.ascending in
    let low : min e.a e.b ≡ e.a = omega arith in
    let high : max e.a e.b ≡ e.b = omega arith in
    ap (λ a. find_priced prices a (max e.a e.b)) low ∙ ap (λ b. find_priced prices e.a b) high

-- the entry of a priced edge is one of this edge
entry_edge : (prices : List Priced) (e : Edge) → Contains (priced_edges prices) e → (priced prices e.a e.b).edge ≡ e
entry_edge prices e has =
    let (p, p_in, is) = map_contains (λ (p : Priced). p.edge) prices e has in
    let found = find_priced-entry prices p p_in in
    let here : find_priced prices p.edge.a p.edge.b ≡ find_priced prices e.a e.b = ap (λ (x : Edge). find_priced prices x.a x.b) is in
    ap (λ (p : Priced). p.edge) (priced_ends prices e ∙ sym here)
    ∙ (Edge-equal (find_priced prices p.edge.a p.edge.b).edge p.edge found.a_is found.b_is ∙ is)

-- lists with the same edges are the same where they say the same of each
same_lists : (p q : List Priced) → AllPairs EdgePrecedes (priced_edges p) → priced_edges p ≡ priced_edges q
    → ((e : Edge) → Contains (priced_edges p) e → priced p e.a e.b ≡ priced q e.a e.b) → p ≡ q
same_lists p q up edges same =
    let one : length (priced_edges p) ≡ length p = length-map p (λ (x : Priced). x.edge) in
    let two : length (priced_edges q) ≡ length q = length-map q (λ (x : Priced). x.edge) in
    let many : length p ≡ length q = let long = ap (λ (es : List Edge). length es) edges in omega (arith, one, two, long) in
    ext_get_or unpriced p q many (λ k k_in. at k k_in (omega (arith, many)))
  where
    at : (k : ℕ) → k < length p → k < length q → get_or p k unpriced ≡ get_or q k unpriced
    at k k_p k_q =
        let x = get_or p k unpriced in
        let y = get_or q k unpriced in
        let x_in : Contains p x = Contains-get_or p k unpriced k_p in
        let y_in : Contains q y = Contains-get_or q k unpriced k_q in
        let x_edge : get_or (priced_edges p) k unpriced.edge ≡ x.edge = get_or-map (λ (z : Priced). z.edge) p k unpriced unpriced.edge k_p in
        let y_edge : get_or (priced_edges q) k unpriced.edge ≡ y.edge = get_or-map (λ (z : Priced). z.edge) q k unpriced unpriced.edge k_q in
        let edge : x.edge ≡ y.edge = sym x_edge ∙ (ap (λ (es : List Edge). get_or es k unpriced.edge) edges ∙ y_edge) in
        let own : find_priced p x.edge.a x.edge.b ≡ x = find_priced-own p x up x_in in
        let other : find_priced q y.edge.a y.edge.b ≡ y = find_priced-own q y (subst (λ (es : List Edge). AllPairs EdgePrecedes es) edges up) y_in in
        sym own ∙ (sym (priced_ends p x.edge) ∙ (same x.edge (contains_map (λ (z : Priced). z.edge) p x x_in)
        ∙ (priced_ends q x.edge ∙ (ap (λ (e : Edge). find_priced q e.a e.b) edge ∙ other))))

module _ (ps : List Point) (hull : List ℕ) (live skeleton : List Edge) (cycles faces : List (List ℕ)) (most : ℕ)
    (h : IsHull ps hull) (up : AllPairs EdgePrecedes live) (are : AreSkeleton ps live skeleton) (faces_are : AreFaces ps skeleton cycles)
    (is : faces ≡ bounded_faces hull cycles) (d : Decomposes ps hull live skeleton cycles most) where
  on_hull : (u v : ℕ) → IsHullPair hull u v → HasEdge skeleton u v
  on_hull u v pair = hull_in_skeleton ps hull skeleton cycles u v faces_are d.cut.outer pair

  sized : (f : ℕ) → f < length faces → 3 ≤ length (face_at faces f)
  sized f f_in = (subst (λ (fs : List (List ℕ)). All (IsSized most) fs) (sym is) d.cut.sizes f [] f_in).0

  -- a side of the skeleton that is not outside stands in a bounded face
  in_face : (u v : ℕ) → HasEdge skeleton u v → ¬ IsHullPair hull v u → (f : ℕ) × (f < length faces) × HasRoundSide (face_at faces f) u v
  in_face u v has none =
      let one = inner_side ps hull skeleton cycles faces most h faces_are is d.cut on_hull u v has none in
      let (f, c, f_in, at_f, more) = sum_by-some (λ c. sum_by (hit u v) (ring_pairs c)) faces (omega arith) in
      let side : HasRoundSide c u v = side_of_pair c u v (count_to (ring_pairs c) u v more) in
      let here : c ≡ face_at faces f = sym at_f ∙ get_or_default faces f c [] f_in in
      (f, f_in, subst (λ (x : List ℕ). HasRoundSide x u v) here side)

  module _ (c b : ℕ → ℕ → ℕ → ℕ) (hc : (f : ℕ) → f < length faces → AreFaceCosts ps live skeleton (face_at faces f) (c f))
      (hb : (f : ℕ) → f < length faces → AreFaceCosts ps live skeleton (face_at faces f) (b f))
      (p q : List Priced) (hp : AreFacePrices ps hull live skeleton faces c p) (hq : AreFacePrices ps hull live skeleton faces b q) where
    root_cost : (f : ℕ) → f < length faces → c f 0 (last_of faces f) ≡ b f 0 (last_of faces f)
    root_cost f f_in =
        let three = sized f f_in in
        same_cost ps live skeleton (face_at faces f) (c f) (b f) (hc f f_in) (hb f f_in) 0 (last_of faces f) (omega arith) (omega arith) (inl (inr (refl, omega arith)))

    -- both give the same to each side of a face
    side_share : (f u v : ℕ) → f < length faces → HasRoundSide (face_at faces f) u v → share ps hull p u v ≡ share ps hull q u v
    side_share f u v f_in (k, k_in, from, to) =
        let face = face_at faces f in
        let from_is : slice_index face k ≡ u = sym (round_within face k k_in) ∙ from in
        ⊎_elim
        (λ (less : k + 1 < length face).
        let to_is : slice_index face (k + 1) ≡ v = sym (round_within face (k + 1) less) ∙ to in
        let low : k < last_of faces f = omega arith in
        moved u v _ _ from_is to_is (hp.other_sides f k f_in low ∙ sym (hq.other_sides f k f_in low)))
        (λ (more : length face ≤ k + 1).
        let last : k ≡ last_of faces f = omega arith in
        let to_is : slice_index face 0 ≡ v = sym (round_end face (k + 1) (omega arith)) ∙ to in
        let end_is : slice_index face (last_of faces f) ≡ u = ap (slice_index face) (sym last) ∙ from_is in
        moved u v _ _ end_is to_is (hp.last_sides f f_in ∙ (ap (λ n. pos 0 -ℤ pos n) (root_cost f f_in) ∙ sym (hq.last_sides f f_in))))
        (cases_lt (k + 1) (length face))
      where
        moved : (u v x y : ℕ) → x ≡ u → y ≡ v → share ps hull p x y ≡ share ps hull q x y → share ps hull p u v ≡ share ps hull q u v
        moved u v x y e f same =
            subst (λ (a : ℕ). share ps hull p a v ≡ share ps hull q a v) e (subst (λ (a : ℕ). share ps hull p x a ≡ share ps hull q x a) f same)

    abbrev SameAt : Edge → Type 0
    SameAt e = priced p e.a e.b ≡ priced q e.a e.b

    edge_same : (e : Edge) → Contains live e → (priced p e.a e.b).edge ≡ (priced q e.a e.b).edge
    edge_same e has =
        entry_edge p e (subst (λ (es : List Edge). Contains es e) (sym hp.of_live) has)
        ∙ sym (entry_edge q e (subst (λ (es : List Edge). Contains es e) (sym hq.of_live) has))

    -- an edge of the hull
    hull_value : (u v : ℕ) → IsHullPair hull u v → (priced p u v).value ≡ (priced q u v).value
    hull_value u v pair =
        let on = (is_on_hull_decides hull u v).1 (inl pair) in
        let (f, f_in, side) = in_face u v (on_hull u v pair) (one_direction ps hull u v h pair) in
        let same = side_share f u v f_in side in
        omega (arith, ints, share-on ps hull p u v on, share-on ps hull q u v on, same)

    hull_same : (e : Edge) → Contains live e → IsHullEdge hull e → SameAt e
    hull_same e has pair =
        let left = hp.without_anchors e has (inr pair) in
        let right = hq.without_anchors e has (inr pair) in
        let value : (priced p e.a e.b).value ≡ (priced q e.a e.b).value =
        ⊎_elim
        (λ forth. hull_value e.a e.b forth)
        (λ back. ap (λ (x : Priced). x.value) (priced-comm p e.b e.a) ∙ (hull_value e.b e.a back ∙ ap (λ (x : Priced). x.value) (sym (priced-comm q e.b e.a))))
        pair in
        Priced-equal (priced p e.a e.b) (priced q e.a e.b) (edge_same e has) value (left.0 ∙ sym right.0) (left.1 ∙ sym right.1)

    -- another edge of the skeleton
    inner_same : (e : Edge) → Contains live e → Contains skeleton e → ¬ IsHullEdge hull e → SameAt e
    inner_same e has in_skeleton inner =
        let joined : HasEdge skeleton e.a e.b = HasEdge-Contains skeleton e e.a e.b (Joins-ends e) in_skeleton in
        let off = not_on e inner in
        let off_back : is_on_hull hull e.b e.a ≡ false = is_on_hull-comm hull e.a e.b ∙ off in
        let (f, f_in, side) = in_face e.a e.b joined (λ pair. inner (inr pair)) in
        let (g, g_in, back) = in_face e.b e.a (HasEdge-comm skeleton e.a e.b joined) (λ pair. inner (inl pair)) in
        let value : (priced p e.a e.b).value ≡ (priced q e.a e.b).value = hp.halves e in_skeleton inner ∙ sym (hq.halves e in_skeleton inner) in
        let rise = e.ascending in
        let left : (priced p e.a e.b).left ≡ (priced q e.a e.b).left =
        omega (arith, ints, share-up ps hull p e.a e.b off rise, share-up ps hull q e.a e.b off rise, side_share f e.a e.b f_in side, value) in
        let right_back : (priced p e.b e.a).right ≡ (priced q e.b e.a).right =
        let value_back : (priced p e.b e.a).value ≡ (priced q e.b e.a).value = ap (λ (x : Priced). x.value) (priced-comm p e.a e.b) ∙ (value ∙ ap (λ (x : Priced). x.value) (sym (priced-comm q e.a e.b))) in
        omega (arith, ints, share-down ps hull p e.b e.a off_back rise, share-down ps hull q e.b e.a off_back rise, side_share g e.b e.a g_in back, value_back) in
        let right : (priced p e.a e.b).right ≡ (priced q e.a e.b).right =
        ap (λ (x : Priced). x.right) (priced-comm p e.b e.a) ∙ (right_back ∙ ap (λ (x : Priced). x.right) (sym (priced-comm q e.b e.a))) in
        Priced-equal (priced p e.a e.b) (priced q e.a e.b) (edge_same e has) value left right
      where
        not_on : (e : Edge) → ¬ IsHullEdge hull e → is_on_hull hull e.a e.b ≡ false
        not_on e inner = ⊎_elim (λ on. absurd (inner ((is_on_hull_decides hull e.a e.b).0 on))) (λ off. off) (cases_Bool (is_on_hull hull e.a e.b))

    -- an edge outside the skeleton
    part_same : (e : Edge) → IsOffSkeleton live skeleton e → SameAt e
    part_same e off =
        let left = hp.without_anchors e off.0 (inl off.1) in
        let right = hq.without_anchors e off.0 (inl off.1) in
        let one = d.filled.edges e off in
        let f_in : one.face < length faces = subst (λ (fs : List (List ℕ)). one.face < length fs) (sym is) one.face_in in
        let at : IsEdgeAt ps (face_at faces one.face) one.first one.last e = subst (λ (fs : List (List ℕ)). IsEdgeAt ps (face_at fs one.face) one.first one.last e) (sym is) one.sits in
        let below = at.below in
        let cost : c one.face one.first one.last ≡ b one.face one.first one.last =
        same_cost ps live skeleton (face_at faces one.face) (c one.face) (b one.face) (hc one.face f_in) (hb one.face f_in) one.first one.last below at.last_in (inr (e, off, at)) in
        let u = point_of faces one.face one.first in
        let v = point_of faces one.face one.last in
        let same : share ps hull p u v ≡ share ps hull q u v = hp.parts e one.face one.first one.last off f_in at ∙ (ap pos cost ∙ sym (hq.parts e one.face one.first one.last off f_in at)) in
        Priced-equal (priced p e.a e.b) (priced q e.a e.b) (edge_same e off.0) (part_value e off u v at.ends left right same) (left.0 ∙ sym right.0) (left.1 ∙ sym right.1)
      where
        off_hull : (e : Edge) (u v : ℕ) → IsOffSkeleton live skeleton e → Joins e u v → is_on_hull hull u v ≡ false
        off_hull e u v off joins =
            ⊎_elim
            (λ on. absurd (⊎_elim
            (λ pair. off.1 (Contains-HasEdge skeleton e u v joins (on_hull u v pair)))
            (λ pair. off.1 (Contains-HasEdge skeleton e v u (Joins-comm e u v joins) (on_hull v u pair)))
            ((is_on_hull_decides hull u v).0 on)))
            (λ no. no)
            (cases_Bool (is_on_hull hull u v))

        -- the price, by which way its side from the first place to the last goes
        part_value : (e : Edge) → IsOffSkeleton live skeleton e → (u v : ℕ) → Joins e u v
            → ((priced p e.a e.b).left ≡ pos 0) × ((priced p e.a e.b).right ≡ pos 0) → ((priced q e.a e.b).left ≡ pos 0) × ((priced q e.a e.b).right ≡ pos 0)
            → share ps hull p u v ≡ share ps hull q u v → (priced p e.a e.b).value ≡ (priced q e.a e.b).value
        part_value e off u v joins left right same =
            let none = off_hull e u v off joins in
            let rise = e.ascending in
            let low = joins.0 in
            let high = joins.1 in
            ⊎_elim
            (λ (forth : u < v).
            let a_is : u ≡ e.a = omega arith in
            let b_is : v ≡ e.b = omega arith in
            let lp = left.0 in
            let lq = right.0 in
            let here : share ps hull p e.a e.b ≡ share ps hull q e.a e.b = moved u v e.a e.b a_is b_is same in
            let off_here : is_on_hull hull e.a e.b ≡ false = subst (λ (x : ℕ). is_on_hull hull x e.b ≡ false) a_is (subst (λ (y : ℕ). is_on_hull hull u y ≡ false) b_is none) in
            omega (arith, ints, share-up ps hull p e.a e.b off_here rise, share-up ps hull q e.a e.b off_here rise, here, lp, lq))
            (λ (back : v ≤ u).
            let a_is : v ≡ e.a = omega arith in
            let b_is : u ≡ e.b = omega arith in
            let rp = ap (λ (x : Priced). x.right) (priced-comm p e.a e.b) ∙ left.1 in
            let rq = ap (λ (x : Priced). x.right) (priced-comm q e.a e.b) ∙ right.1 in
            let vp = ap (λ (x : Priced). x.value) (priced-comm p e.a e.b) in
            let vq = ap (λ (x : Priced). x.value) (priced-comm q e.a e.b) in
            let here : share ps hull p e.b e.a ≡ share ps hull q e.b e.a = moved u v e.b e.a b_is a_is same in
            let off_here : is_on_hull hull e.b e.a ≡ false = subst (λ (x : ℕ). is_on_hull hull x e.a ≡ false) b_is (subst (λ (y : ℕ). is_on_hull hull u y ≡ false) a_is none) in
            omega (arith, ints, share-down ps hull p e.b e.a off_here rise, share-down ps hull q e.b e.a off_here rise, here, rp, rq, vp, vq))
            (cases_lt u v)
          where
            moved : (u v x y : ℕ) → u ≡ x → v ≡ y → share ps hull p u v ≡ share ps hull q u v → share ps hull p x y ≡ share ps hull q x y
            moved u v x y e f same =
                subst (λ (a : ℕ). share ps hull p a y ≡ share ps hull q a y) e (subst (λ (a : ℕ). share ps hull p u a ≡ share ps hull q u a) f same)

    entry_same : (e : Edge) → Contains live e → SameAt e
    entry_same e has =
        ⊎_elim
        (λ in_skeleton. ⊎_elim
        (λ (on : is_on_hull hull e.a e.b ≡ true). hull_same e has ((is_on_hull_decides hull e.a e.b).0 on))
        (λ (off : is_on_hull hull e.a e.b ≡ false). inner_same e has in_skeleton (λ pair. both_ways _ off ((is_on_hull_decides hull e.a e.b).1 pair)))
        (cases_Bool (is_on_hull hull e.a e.b)))
        (λ out. part_same e (has, out))
        (edge_or_not skeleton e)

    pub same_prices : p ≡ q
    same_prices =
        same_lists p q (subst (λ (es : List Edge). AllPairs EdgePrecedes es) (sym hp.of_live) up) (hp.of_live ∙ sym hq.of_live)
        (λ e has. entry_same e (subst (λ (es : List Edge). Contains es e) hp.of_live has))
