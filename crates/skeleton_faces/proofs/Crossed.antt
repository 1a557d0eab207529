-- An edge that is crossed is covered, or a bare edge crosses it.
use Rattle.std.proofs.Common.{◌≡◌, ◌⊎◌, ℕ, ◌*◌, ◌<◌, ◌≤◌, List, length, pos, ◌≤ℤ◌, ◌<ℤ◌, All, Contains, ap, sym, ◌∙◌, subst, inl, inr, ⊎_elim, arith}
use Rattle.std.proofs.Math.Nat.{le_of_mul-le-mul_right, mul-le-mul_right}
use Rattle.std.proofs.lemmas.Bool.{cases_lt}
use Rattle.std.proofs.lemmas.Int.{ints, by_lt_z}
use Rattle.std.proofs.lemmas.List.{get_or_default}
use Rattle.std.proofs.lemmas.List.Elements.{Contains-get_or}
use Rattle.exact_predicates.specs.declared.edge.Edge.{Edge}
use Rattle.exact_predicates.specs.declared.point.Point.{Point}
use Rattle.exact_predicates.specs.declared.tri.Tri.{Tri}
use Rattle.exact_predicates.specs.Candidates.{HasEdge, IsEmptyOver, Joins}
use Rattle.exact_predicates.specs.Hull.{IsHull}
use Rattle.exact_predicates.specs.Plane.{orient, AreApart, Crosses, IsBetween}
use Rattle.exact_predicates.specs.PointSet.{point_at}
use Rattle.exact_predicates.specs.Triangulation.{HasCorners}
use Rattle.exact_predicates.proofs.Corners.{IsBare-corners, to_corners, turned_corners}
use Rattle.exact_predicates.proofs.Equalities.{HasEdge-comm, Joins-comm, Joins-ends}
use Rattle.exact_predicates.proofs.Orientation.{orient_last_twice, orient_return, orient_swapped_last}
use Rattle.lmt_network.specs.Live.{IsHullEdge}
use Rattle.lmt_network.specs.Skeleton.{AreCrossing}
use Rattle.lmt_network.proofs.Angles.{in_angle}
use Rattle.lmt_network.proofs.Fans.{least_below}
use Rattle.lmt_network.proofs.Skeletons.{AreApart-turned, crossing_joined, pair_uncrossed}
use Rattle.skeleton_faces.specs.Fans.{IsBareEdge, IsCovered, IsFaced}
use Rattle.skeleton_faces.specs.Marks.{nth_edge}
use Rattle.skeleton_faces.proofs.Stepping.{IsMet, IsNearer, far, far_swapped, met_cases, step}

-- the sides of a triangle over edges are edges
sides_over : (ps : List Point) (es : List Edge) (t : Tri) (u v w : ℕ) → HasCorners t u v w → IsEmptyOver ps es t → HasEdge es u v × HasEdge es v w × HasEdge es w u
sides_over ps es t u v w corners over =
    to_corners (λ a b c. HasEdge es a b × HasEdge es b c × HasEdge es c a) (λ a b c (ab, bc, ca). (bc, ca, ab)) t u v w corners (over.ab, over.bc, over.ca)

-- whether two edges cross
apart_or_not : (p q r s : Point) → AreApart p q r s ⊎ (¬ AreApart p q r s)
apart_or_not p q r s =
    by_lt_z (orient p q r) (pos 0)
    (λ r_right. by_lt_z (pos 0) (orient p q s)
    (λ s_left. inl (inl (r_right, s_left)))
    (λ s_not. inr (λ h. ⊎_elim (λ k. let k1 = k.1 in omega (arith, ints)) (λ k. let k0 = k.0 in omega (arith, ints)) h)))
    (λ r_not. by_lt_z (pos 0) (orient p q r)
    (λ r_left. by_lt_z (orient p q s) (pos 0)
    (λ s_right. inl (inr (r_left, s_right)))
    (λ s_not. inr (λ h. ⊎_elim (λ k. let k0 = k.0 in omega (arith, ints)) (λ k. let k1 = k.1 in omega (arith, ints)) h)))
    (λ on. inr (λ h. ⊎_elim (λ k. let k0 = k.0 in omega (arith, ints)) (λ k. let k0 = k.0 in omega (arith, ints)) h)))

crossing_or_not : (ps : List Point) (e f : Edge) → AreCrossing ps e f ⊎ (¬ AreCrossing ps e f)
crossing_or_not ps e f =
    ⊎_elim
    (λ line. ⊎_elim (λ other. inl (record { by_line = line; by_other = other })) (λ none. inr (λ h. none h.by_other))
    (apart_or_not (point_at ps f.a) (point_at ps f.b) (point_at ps e.a) (point_at ps e.b)))
    (λ none. inr (λ h. none h.by_line))
    (apart_or_not (point_at ps e.a) (point_at ps e.b) (point_at ps f.a) (point_at ps f.b))

-- how far a point is from the line of an edge, by the edge's ends
far_joined : (ps : List Point) (p : Point) (g : Edge) (x y : ℕ) → Joins g x y → far p (point_at ps g.a) (point_at ps g.b) ≡ far p (point_at ps x) (point_at ps y)
far_joined ps p g x y joins =
    let j0 = joins.0 in
    let j1 = joins.1 in
    ⊎_elim
    (λ (l : x < y). let a_is : g.a ≡ x = omega arith in let b_is : g.b ≡ y = omega arith in moved x y a_is b_is)
    (λ (m : y ≤ x). let a_is : g.a ≡ y = omega arith in let b_is : g.b ≡ x = omega arith in moved y x a_is b_is ∙ far_swapped (point_at ps x) (point_at ps y) p)
    (cases_lt x y)
  where
    moved : (s t : ℕ) → g.a ≡ s → g.b ≡ t → far p (point_at ps g.a) (point_at ps g.b) ≡ far p (point_at ps s) (point_at ps t)
    moved s t a_is b_is = ap (λ (x : ℕ). far p (point_at ps x) (point_at ps g.b)) a_is ∙ ap (λ (x : ℕ). far p (point_at ps s) (point_at ps x)) b_is

-- of three shares, each of two parts
shares_chain : (a b c d x y : ℕ) → 0 < d → a * d ≤ c * b → c * y ≤ x * d → a * y ≤ x * b
shares_chain a b c d x y some h k =
    le_of_mul-le-mul_right
    (let one = mul-le-mul_right y h in
    let two = mul-le-mul_right b k in
    let first : (a * y) * d ≡ (a * d) * y = omega arith in
    let second : (c * b) * y ≡ (c * y) * b = omega arith in
    let third : (x * d) * b ≡ (x * b) * d = omega arith in
    omega arith)
    some

module _ (ps : List Point) (hull : List ℕ) (es : List Edge) (e : Edge) (hull_is : IsHull ps hull) (ends_in : All (λ f. f.b < length ps) es) (e_in : e.b < length ps)
    (clear : (r : ℕ) → r < length ps → ¬ IsBetween (point_at ps e.a) (point_at ps e.b) (point_at ps r)) where
  p : Point
  p = point_at ps e.a

  q : Point
  q = point_at ps e.b

  -- how far the edge of a number is from the lesser end of e, and how far from the greater
  near : ℕ → ℕ
  near k = far (point_at ps e.a) (point_at ps (nth_edge es k).a) (point_at ps (nth_edge es k).b)

  beyond : ℕ → ℕ
  beyond k = far (point_at ps e.b) (point_at ps (nth_edge es k).a) (point_at ps (nth_edge es k).b)

  -- the edge of this number crosses e
  abbrev Meets : ℕ → Type 0
  Meets k = (k < length es) × AreCrossing ps e (nth_edge es k)

  -- and not farther from its lesser end than another one
  abbrev NotFarther : ℕ → ℕ → Type 0
  NotFarther j k = near j * beyond k ≤ near k * beyond j

  beyond_some : (k : ℕ) → Meets k → 0 < beyond k
  unfolding beyond
  beyond_some k m = ⊎_elim (λ h. let h1 = h.1 in omega (arith, ints)) (λ h. let h1 = h.1 in omega (arith, ints)) m.1.by_other

  farther_total : (j k : ℕ) → NotFarther j k ⊎ NotFarther k j
  farther_total j k = ⊎_elim (λ l. inl (omega arith)) (λ l. inr l) (cases_lt (near j * beyond k) (near k * beyond j))

  farther_chain : (i j k : ℕ) → Meets i → Meets j → Meets k → NotFarther i j → NotFarther j k → NotFarther i k
  farther_chain i j k mi mj mk h l = shares_chain (near i) (beyond i) (near j) (beyond j) (near k) (beyond k) (beyond_some j mj) h l

  meets_or_not : (k : ℕ) → Meets k ⊎ (¬ Meets k)
  meets_or_not k =
      ⊎_elim
      (λ l. ⊎_elim (λ c. inl (l, c)) (λ none. inr (λ m. none m.1)) (crossing_or_not ps e (nth_edge es k)))
      (λ past. inr (λ m. let l = m.0 in omega arith))
      (cases_lt k (length es))

  -- an edge of the list by its ends, which e crosses nearer than an edge of which it was the nearest
  no_nearer : (m x y : ℕ) (r s : ℕ) → ((k : ℕ) → k < length es → Meets k → NotFarther m k) → Joins (nth_edge es m) r s → HasEdge es x y → Crosses p q (point_at ps x) (point_at ps y)
      → IsNearer p q (point_at ps x) (point_at ps y) (point_at ps r) (point_at ps s) → ⊥
  unfolding p q near beyond
  no_nearer m x y r s least f_joins (k, g, k_in, at_k, joins) crosses nearer =
      let is : g ≡ nth_edge es k = sym (get_or_default es k _ g k_in ∙ at_k) in
      let joins_k : Joins (nth_edge es k) x y = subst (λ (h : Edge). Joins h x y) is joins in
      let not_farther = least k k_in (k_in, crossing_joined ps e (nth_edge es k) x y joins_k crosses) in
      let e1 = far_joined ps (point_at ps e.a) (nth_edge es k) x y joins_k in
      let e2 = far_joined ps (point_at ps e.b) (nth_edge es k) x y joins_k in
      let e3 = far_joined ps (point_at ps e.a) (nth_edge es m) r s f_joins in
      let e4 = far_joined ps (point_at ps e.b) (nth_edge es m) r s f_joins in
      let there = rw (e1, e2, e3, e4) at not_farther in
      omega arith

  -- the nearest edge has no triangle on the side of e's lesser end, or e is covered
  nearest_faced : ¬ IsCovered ps es e → (m r s : ℕ) → ((k : ℕ) → k < length es → Meets k → NotFarther m k) → Joins (nth_edge es m) r s
      → IsMet p q (point_at ps r) (point_at ps s) → ¬ IsFaced ps es r s
  unfolding p q
  nearest_faced uncovered m r s least f_joins met (t, (c, corners), over) =
      let bare = IsBare-corners ps t r s c corners over.empty in
      let (rs, sc, cr) = sides_over ps es t r s c corners over in
      let left = met.left in
      let outside : ¬ ((pos 0 ≤ℤ orient (point_at ps s) (point_at ps c) (point_at ps e.a)) × (pos 0 ≤ℤ orient (point_at ps c) (point_at ps r) (point_at ps e.a))) = λ (on_sc, on_cr).
      ⊎_elim
      (λ (at_r : e.a ≡ r). let z = orient_return (point_at ps r) (point_at ps s) in
      let l = subst (λ (x : ℕ). pos 0 <ℤ orient (point_at ps r) (point_at ps s) (point_at ps x)) at_r left in omega (arith, ints))
      (λ other. ⊎_elim
      (λ (at_s : e.a ≡ s). let z = orient_last_twice (point_at ps r) (point_at ps s) in
      let l = subst (λ (x : ℕ). pos 0 <ℤ orient (point_at ps r) (point_at ps s) (point_at ps x)) at_s left in omega (arith, ints))
      (λ (at_c : e.a ≡ c). uncovered (record {
        tri = t;
        y = r;
        z = s;
        over = over;
        corners = subst (λ (x : ℕ). HasCorners t x r s) (sym at_c) (turned_corners t s c r (turned_corners t r s c corners));
        after = let first = met.first in omega (arith, ints, orient_swapped_last (point_at ps e.a) (point_at ps e.b) (point_at ps r));
        before = met.last;
      }))
      other)
      (bare.bare e.a (let up = e.ascending in omega arith) (record { left_of_ab = omega (arith, ints); left_of_bc = on_sc; left_of_ca = on_cr })) in
      ⊎_elim
      (λ between. clear c bare.w_in between)
      (λ next. ⊎_elim
      (λ (crosses, nearer). no_nearer m r c r s least f_joins (HasEdge-comm es c r cr) crosses nearer)
      (λ (crosses, nearer). no_nearer m c s r s least f_joins (HasEdge-comm es s c sc) crosses nearer)
      next)
      (step (point_at ps e.a) (point_at ps e.b) (point_at ps r) (point_at ps s) (point_at ps c) met bare.turns_left outside)

  -- an edge that is not covered, and that no bare edge crosses, is not crossed
  pub uncrossed : ¬ IsCovered ps es e → ((f : Edge) → Contains es f → IsBareEdge ps hull es f → ¬ AreCrossing ps e f) → (k : ℕ) → k < length es → ¬ AreCrossing ps e (nth_edge es k)
  unfolding p q
  uncrossed uncovered none_bare k k_in crossing =
      ⊎_elim
      (λ none. none k k_in (k_in, crossing))
      (λ (m, m_in, meets, least).
      let f = nth_edge es m in
      let f_there : Contains es (nth_edge es m) = Contains-get_or es m _ m_in in
      let f_in : (nth_edge es m).b < length ps = ends_in m _ m_in in
      let rise = f.ascending in
      let up = e.ascending in
      let inner : ¬ IsHullEdge hull f = λ h. ⊎_elim
      (λ pair. pair_uncrossed ps hull f.a f.b e.a e.b hull_is pair (omega arith) e_in meets.1.by_other)
      (λ pair. pair_uncrossed ps hull f.b f.a e.a e.b hull_is pair (omega arith) e_in (AreApart-turned _ _ _ _ meets.1.by_other))
      h in
      ⊎_elim
      (λ met. none_bare f f_there (record { inner = inner; bare = inl (nearest_faced uncovered m f.a f.b least (Joins-ends f) met) }) meets.1)
      (λ met. none_bare f f_there (record { inner = inner; bare = inr (nearest_faced uncovered m f.b f.a least (Joins-comm f f.a f.b (Joins-ends f)) met) }) meets.1)
      (met_cases (point_at ps e.a) (point_at ps e.b) (point_at ps f.a) (point_at ps f.b) meets.1))
      (least_below Meets NotFarther farther_total farther_chain meets_or_not (length es))

-- an edge that is covered is crossed
pub covered_crossed : (ps : List Point) (es : List Edge) (e : Edge) → e.b < length ps → ((r : ℕ) → r < length ps → ¬ IsBetween (point_at ps e.a) (point_at ps e.b) (point_at ps r))
    → IsCovered ps es e → (f : Edge) × Contains es f × AreCrossing ps e f
covered_crossed ps es e e_in clear h =
    let bare = IsBare-corners ps h.tri e.a h.y h.z h.corners h.over.empty in
    let (xy, (k, g, k_in, at_k, joins), zx) = sides_over ps es h.tri e.a h.y h.z h.corners h.over in
    let up = e.ascending in
    let after = h.after in
    let before = h.before in
    ⊎_elim
    (λ (at_y : e.b ≡ h.y). let z = orient_last_twice (point_at ps e.a) (point_at ps h.y) in
    let l = subst (λ (x : ℕ). pos 0 <ℤ orient (point_at ps e.a) (point_at ps h.y) (point_at ps x)) at_y after in absurd (omega (arith, ints)))
    (λ other. ⊎_elim
    (λ (at_z : e.b ≡ h.z). let z = orient_last_twice (point_at ps e.a) (point_at ps h.z) in
    let l = subst (λ (x : ℕ). pos 0 <ℤ orient (point_at ps e.a) (point_at ps x) (point_at ps h.z)) at_z before in absurd (omega (arith, ints)))
    (λ crosses. (g, (k, k_in, at_k), crossing_joined ps e g h.y h.z joins crosses))
    other)
    (in_angle ps e.a h.y h.z e.b bare e_in (omega arith) clear (omega (arith, ints)) (omega (arith, ints)))
