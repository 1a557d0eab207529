-- The rays of the live edges in their order are fanned out round their starts.
use Rattle.std.proofs.Common.{◌≡◌, ◌⊎◌, ℕ, ◌+◌, ◌*◌, ◌/◌, ◌<◌, ◌≤◌, Bool, true, false, List, [], ◌∷◌, ◌++◌, length, map, get_or, pos, ◌<ℤ◌, refl, sym, ap, ◌∙◌, subst, inl, inr, ⊎_elim, arith}
use Rattle.std.proofs.lemmas.Bool.{cases_lt, false≢true}
use Rattle.std.proofs.lemmas.List.{get_or-map, length-map}
use Rattle.std.proofs.lemmas.List.Elements.{All-map, All-weaker}
use Rattle.exact_predicates.specs.declared.edge.Edge.{Edge}
use Rattle.exact_predicates.specs.declared.point.Point.{Point}
use Rattle.exact_predicates.specs.Plane.{orient}
use Rattle.exact_predicates.specs.PointSet.{IsPointSet, point_at}
use Rattle.lmt_network.proofs.Picked.{flag_in}
use Rattle.skeleton_faces.specs.declared.ray.Ray.{Ray}
use Rattle.skeleton_faces.specs.Faces.{AreClear}
use Rattle.skeleton_faces.specs.Marks.{nth_edge}
use Rattle.skeleton_faces.specs.Rays.{AreRays, AreShown, IsRay, IsSideUp}
use Rattle.skeleton_faces.specs.Sides.{is_backward}
use Rattle.skeleton_faces.specs.Turning.{AreFannedOut, ComesAfter}
use Rattle.skeleton_faces.proofs.Directions.{AreShown-more, some_ray}
use Rattle.skeleton_faces.proofs.SideNumbers.{forward_is, forward_start, forward_end}
use Rattle.skeleton_faces.proofs.Turning.{AreTurning-map}

-- the edge f comes after the edge e
abbrev pub IsAfter : List Point → List Edge → ℕ → ℕ → Type 0
IsAfter ps es e f =
    ((nth_edge es e).a < (nth_edge es f).a)
    ⊎ (((nth_edge es e).a ≡ (nth_edge es f).a) × (pos 0 <ℤ orient (point_at ps (nth_edge es e).a) (point_at ps (nth_edge es e).b) (point_at ps (nth_edge es f).b)))

-- as its side does
after_up : (ps : List Point) (es : List Edge) (e f : ℕ) → ComesAfter ps es (2 * e) (2 * f) → IsAfter ps es e f
after_up ps es e f h =
    ⊎_elim
    (λ l. inl (omega (arith, forward_start es e, forward_start es f)))
    (λ (same, turn). inr (
      sym (forward_start es e) ∙ (same ∙ forward_start es f),
      ⊎_elim
          (λ (k : (is_backward (2 * e) ≡ false) × (is_backward (2 * f) ≡ true)). absurd (false≢true (sym (forward_is f) ∙ k.1)))
          (λ k. rw (forward_start es e, forward_end es e, forward_end es f) at k.1)
          turn,
    ))
    h

pub AreFannedOut-map : (ps : List Point) (es : List Edge) (flags : List Bool) (rays : List Ray) (order : List ℕ) → IsPointSet ps → AreClear ps es → length flags ≡ length es → AreRays ps es (IsSideUp flags) rays
    → order ≡ map (λ r. r.side / 2) rays → AreFannedOut ps es flags order
AreFannedOut-map ps es flags rays order is clear one_each h order_is =
    subst (AreFannedOut ps es flags) (sym order_is)
    (record {
      each = All-map (λ e. (e < length es) × (get_or flags e false ≡ true)) edge_of rays
          (All-weaker (λ (r : Ray). IsSideUp flags r.side) (λ (r : Ray). (edge_of r < length es) × (get_or flags (edge_of r) false ≡ true))
          (λ r (e, side, up).
          let e_is : e ≡ r.side / 2 = omega arith in
          let l = flag_in flags e up in
          (omega arith, subst (λ (x : ℕ). get_or flags x false ≡ true) e_is up))
          rays h.shown.only);
      all = λ e up.
          let (k, r, k_in, at_k, r_is) = h.shown.all (2 * e) (e, refl, up) in
          (k, omega (arith, length-map rays edge_of), get_or-map edge_of rays k r e k_in ∙ (ap edge_of at_k ∙ omega arith));
      sorted = λ i j d l j_in. after i j d l (omega (arith, length-map rays edge_of));
    })
  where
    edge_of : Ray → ℕ
    edge_of r = r.side / 2

    turning : (i j : ℕ) → i < j → j < length rays → ComesAfter ps es (get_or (map (λ (r : Ray). r.side) rays) i 0) (get_or (map (λ (r : Ray). r.side) rays) j 0)
    turning i j l j_in = (AreTurning-map ps es (IsSideUp flags) rays (map (λ (r : Ray). r.side) rays) is clear h refl).sorted i j 0 l (omega (arith, length-map rays (λ (r : Ray). r.side)))

    after : (i j d : ℕ) → i < j → j < length rays → IsAfter ps es (get_or (map (λ (r : Ray). r.side / 2) rays) i d) (get_or (map (λ (r : Ray). r.side / 2) rays) j d)
    after i j d l j_in =
        let r = get_or rays i some_ray in
        let t = get_or rays j some_ray in
        let (e, e_is, e_up) = h.shown.only i some_ray (omega arith) in
        let (f, f_is, f_up) = h.shown.only j some_ray j_in in
        let r_side = get_or-map (λ (x : Ray). x.side) rays i some_ray 0 (omega arith) in
        let t_side = get_or-map (λ (x : Ray). x.side) rays j some_ray 0 j_in in
        let r_at : get_or (map (λ (x : Ray). x.side / 2) rays) i d ≡ e = get_or-map (λ (x : Ray). x.side / 2) rays i some_ray d (omega arith) ∙ omega arith in
        let t_at : get_or (map (λ (x : Ray). x.side / 2) rays) j d ≡ f = get_or-map (λ (x : Ray). x.side / 2) rays j some_ray d j_in ∙ omega arith in
        let turn = subst (λ (x : ℕ). ComesAfter ps es x (get_or (map (λ (y : Ray). y.side) rays) j 0)) (r_side ∙ e_is) (turning i j l j_in) in
        let both = subst (ComesAfter ps es (2 * e)) (t_side ∙ f_is) turn in
        subst (λ (x : ℕ). IsAfter ps es x (get_or (map (λ (y : Ray). y.side / 2) rays) j d)) (sym r_at) (subst (IsAfter ps es e) (sym t_at) (after_up ps es e f both))

-- the side is that of one of the first n edges
abbrev pub IsSideUpTo : List Bool → ℕ → ℕ → Type 0
IsSideUpTo flags n s = (e : ℕ) × (s ≡ 2 * e) × (e < n) × (get_or flags e false ≡ true)

module _ (ps : List Point) (es : List Edge) (flags : List Bool) (n : ℕ) (rays : List Ray) (h : AreShown ps es (IsSideUpTo flags n) rays) where
  -- one edge more, of which the flag is set
  pub shown_up : (after : List Ray) (r : Ray) → IsRay ps es r → r.side ≡ 2 * n → get_or flags n false ≡ true → after ≡ rays ++ r ∷ [] → AreShown ps es (IsSideUpTo flags (n + 1)) after
  shown_up after r is side up after_is =
      AreShown-more ps es (IsSideUpTo flags n) (IsSideUpTo flags (n + 1)) rays after r h is
      (λ (e, e_is, e_in, e_up). omega arith)
      (n, side, omega arith, up)
      (λ s (e, e_is, e_in, e_up). (e, e_is, omega arith, e_up))
      (λ s (e, e_is, e_in, e_up). ⊎_elim (λ (l : e < n). inl (e, e_is, l, e_up)) (λ (m : n ≤ e). inr (omega arith)) (cases_lt e n))
      after_is

  -- and one of which it is not
  pub shown_down : (after : List Ray) → get_or flags n false ≡ false → after ≡ rays → AreShown ps es (IsSideUpTo flags (n + 1)) after
  shown_down after down after_is =
      subst (AreShown ps es (IsSideUpTo flags (n + 1))) (sym after_is)
      (record {
        each = h.each;
        only = All-weaker (λ (r : Ray). IsSideUpTo flags n r.side) (λ (r : Ray). IsSideUpTo flags (n + 1) r.side) (λ r (e, e_is, e_in, e_up). (e, e_is, omega arith, e_up)) rays h.only;
        all = λ s (e, e_is, e_in, e_up).
            ⊎_elim
            (λ (l : e < n). h.all s (e, e_is, l, e_up))
            (λ (m : n ≤ e). let same : e ≡ n = omega arith in absurd (false≢true (sym down ∙ subst (λ (x : ℕ). get_or flags x false ≡ true) same e_up)))
            (cases_lt e n);
        distinct = h.distinct;
      })

-- in the end it is that of any
pub shown_all : (ps : List Point) (es : List Edge) (flags : List Bool) (rays : List Ray) → AreShown ps es (IsSideUpTo flags (length flags)) rays → AreShown ps es (IsSideUp flags) rays
shown_all ps es flags rays h =
    record {
      each = h.each;
      only = All-weaker (λ (r : Ray). IsSideUpTo flags (length flags) r.side) (λ (r : Ray). IsSideUp flags r.side) (λ r (e, e_is, e_in, e_up). (e, e_is, e_up)) rays h.only;
      all = λ s (e, e_is, e_up). h.all s (e, e_is, flag_in flags e e_up, e_up);
      distinct = h.distinct;
    }
