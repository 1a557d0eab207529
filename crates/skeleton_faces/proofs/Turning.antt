-- From rays to the turns between points.
use Rattle.std.proofs.Common.{◌≡◌, ◌≢◌, ◌⊎◌, ℕ, ◌+◌, ◌*◌, ◌/◌, ◌<◌, ◌≤◌, Bool, true, false, Ordering, ℤ, pos, ◌-ℤ◌, ◌*ℤ◌, ◌≤ℤ◌, ◌<ℤ◌, List, length, map, get_or, Contains, refl, sym, ap, ◌∙◌, subst, inl, inr, ⊎_elim, arith}
use Rattle.std.specs.Ordering.{bool_cmp, int_cmp, is_lt, nat_cmp, ordering_then}
use Rattle.std.proofs.lemmas.Bool.{cases_lt, false≢true}
use Rattle.std.proofs.lemmas.Cmp.{by_ranked, int_ranked, ranked}
use Rattle.std.proofs.lemmas.Int.{ints, by_lt_z}
use Rattle.std.proofs.lemmas.List.{get_or-map, length-map}
use Rattle.std.proofs.lemmas.List.Elements.{All-map}
use Rattle.exact_predicates.specs.declared.edge.Edge.{Edge}
use Rattle.exact_predicates.specs.declared.point.Point.{Point}
use Rattle.exact_predicates.specs.Plane.{orient}
use Rattle.exact_predicates.specs.PointSet.{IsPointSet, point_at}
use Rattle.exact_predicates.proofs.Between.{IsBetween-from_order}
use Rattle.exact_predicates.proofs.HalfPlane.{cross_swap, orient_back}
use Rattle.exact_predicates.proofs.Numbers.{IsOrdered-points}
use Rattle.exact_predicates.proofs.Orientation.{orient_swapped, orient_swapped_last, orient_turned}
use Rattle.skeleton_faces.specs.declared.ray.Ray.{Ray}
use Rattle.skeleton_faces.specs.Faces.{AreClear}
use Rattle.skeleton_faces.specs.Marks.{nth_edge}
use Rattle.skeleton_faces.specs.Rays.{AreRays, IsRay, ray_cmp}
use Rattle.skeleton_faces.specs.Sides.{is_backward, side_start, side_end}
use Rattle.skeleton_faces.specs.Turning.{AreTurning, ComesAfter}
use Rattle.skeleton_faces.proofs.Directions.{some_ray, turned}
use Rattle.skeleton_faces.proofs.SideNumbers.{IsSideOf, side_cases, forward_is, backward_is, half_forward, half_backward, forward_start, forward_end, backward_start, backward_end, side_only}
use Rattle.skeleton_faces.proofs.SideNumbers.IsSideOf.{goes_forward, goes_backward}

-- how o sees p by the ray r
abbrev Sees : Point → Point → Ray → Type 0
Sees o p r =
    ((r.backward ≡ false) × (r.width ≡ p.x -ℤ o.x) × (r.height ≡ p.y -ℤ o.y)) ⊎ ((r.backward ≡ true) × (r.width ≡ o.x -ℤ p.x) × (r.height ≡ o.y -ℤ p.y))

ray_sees : (ps : List Point) (es : List Edge) (r : Ray) → IsRay ps es r → Sees (point_at ps (side_start es r.side)) (point_at ps (side_end es r.side)) r
ray_sees ps es r h = at r.side (side_cases r.side) h.backward h.width h.height
  where
    at : (s : ℕ) → IsSideOf s → r.backward ≡ is_backward s → r.width ≡ (point_at ps (nth_edge es (s / 2)).b).x -ℤ (point_at ps (nth_edge es (s / 2)).a).x → r.height ≡ (point_at ps (nth_edge es (s / 2)).b).y -ℤ (point_at ps (nth_edge es (s / 2)).a).y
        → Sees (point_at ps (side_start es s)) (point_at ps (side_end es s)) r
    at s (goes_forward e) back width height = rw (forward_start es e, forward_end es e) (inl (back ∙ forward_is e, rw (half_forward e) at width, rw (half_forward e) at height))
    at s (goes_backward e) back width height = rw (backward_start es e, backward_end es e) (inr (back ∙ backward_is e, rw (half_backward e) at width, rw (half_backward e) at height))

-- the turn between two rays that go the same way is that between their ends
same_turn : (o p q : Point) (r t : Ray) → Sees o p r → Sees o q t → r.backward ≡ t.backward → turned r t ≡ orient o p q
unfolding orient
same_turn o p q r t h k same =
    ⊎_elim
    (λ (hf : (r.backward ≡ false) × (r.width ≡ p.x -ℤ o.x) × (r.height ≡ p.y -ℤ o.y)). ⊎_elim
    (λ (kf : (t.backward ≡ false) × (t.width ≡ q.x -ℤ o.x) × (t.height ≡ q.y -ℤ o.y)). rw (hf.1, hf.2, kf.1, kf.2) refl)
    (λ (kb : (t.backward ≡ true) × (t.width ≡ o.x -ℤ q.x) × (t.height ≡ o.y -ℤ q.y)). absurd (false≢true (sym hf.0 ∙ (same ∙ kb.0))))
    k)
    (λ (hb : (r.backward ≡ true) × (r.width ≡ o.x -ℤ p.x) × (r.height ≡ o.y -ℤ p.y)). ⊎_elim
    (λ (kf : (t.backward ≡ false) × (t.width ≡ q.x -ℤ o.x) × (t.height ≡ q.y -ℤ o.y)). absurd (false≢true (sym kf.0 ∙ (sym same ∙ hb.0))))
    (λ (kb : (t.backward ≡ true) × (t.width ≡ o.x -ℤ q.x) × (t.height ≡ o.y -ℤ q.y)). rw (hb.1, hb.2, kb.1, kb.2) (sym (orient_back o p q)))
    k)
    h

abbrev turn_cmp : Ray → Ray → Ordering
turn_cmp t s = int_cmp (t.height *ℤ s.width) (t.width *ℤ s.height)

-- what does not compare less than s
order_cases : (s t : Ray) → is_lt (ray_cmp t s) ≡ false
    → (s.from < t.from) ⊎ ((s.from ≡ t.from) × (((s.backward ≡ false) × (t.backward ≡ true)) ⊎ ((s.backward ≡ t.backward) × (pos 0 ≤ℤ turned s t))))
order_cases s t h =
    by_ranked _ _ _ (nat_cmp t.from s.from) (ranked t.from s.from _ refl)
    (λ is l. absurd (let no = sym (at is) ∙ h in cc))
    (λ is e. inr (sym e, ⊎_elim (λ a. inl a) (λ b. inr (b.0, not_right b.1)) (ways t.backward s.backward (sym (at is) ∙ h))))
    (λ is l. inl l)
  where
    at : {o : Ordering} → nat_cmp t.from s.from ≡ o → is_lt (ray_cmp t s) ≡ is_lt (ordering_then (ordering_then o (bool_cmp t.backward s.backward)) (turn_cmp t s))
    at e = ap (λ o. is_lt (ordering_then (ordering_then o (bool_cmp t.backward s.backward)) (turn_cmp t s))) e

    ways : (tb sb : Bool) → is_lt (ordering_then (bool_cmp tb sb) (turn_cmp t s)) ≡ false → ((sb ≡ false) × (tb ≡ true)) ⊎ ((sb ≡ tb) × (is_lt (turn_cmp t s) ≡ false))
    ways false false e = inr (refl, e)
    ways false true e = absurd (false≢true (sym e))
    ways true false e = inl (refl, refl)
    ways true true e = inr (refl, e)

    not_right : is_lt (turn_cmp t s) ≡ false → pos 0 ≤ℤ turned s t
    not_right e =
        let swap = cross_swap s.width s.height t.width t.height in
        by_ranked _ _ _ (int_cmp (t.height *ℤ s.width) (t.width *ℤ s.height)) (int_ranked (t.height *ℤ s.width) (t.width *ℤ s.height) _ refl)
        (λ is l. absurd (let no = sym (ap is_lt is) ∙ e in cc))
        (λ is l. omega (arith, ints))
        (λ is l. omega (arith, ints))

-- no point whose number is between those of an edge's ends is on its line
clear_line : (ps : List Point) (es : List Edge) (k r : ℕ) → IsPointSet ps → AreClear ps es → k < length es → (nth_edge es k).a < r → r < (nth_edge es k).b
    → orient (point_at ps (nth_edge es k).a) (point_at ps (nth_edge es k).b) (point_at ps r) ≢ pos 0
clear_line ps es k r is clear k_in after before on =
    let e = nth_edge es k in
    let o = IsOrdered-points ps is in
    let b_in : e.b < length ps = clear.ends_in k _ k_in in
    clear.clear k _ k_in r (omega arith) (IsBetween-from_order _ _ _ (o.rising e.a r after (omega arith)) (o.rising r e.b before b_in) on)

-- two sides that go the same way from one start are no continuation of each other
not_in_line : (ps : List Point) (es : List Edge) (s t : ℕ) → IsPointSet ps → AreClear ps es → s < 2 * length es → t < 2 * length es → s ≢ t → side_start es s ≡ side_start es t → is_backward s ≡ is_backward t
    → orient (point_at ps (side_start es s)) (point_at ps (side_end es s)) (point_at ps (side_end es t)) ≢ pos 0
not_in_line ps es s t is clear s_in t_in apart start same on = at s t (side_cases s) (side_cases t) s_in t_in apart start same on
  where
    Line : ℕ → ℕ → ℕ → Type 0
    Line u v w = orient (point_at ps u) (point_at ps v) (point_at ps w) ≡ pos 0

    at : (s t : ℕ) → IsSideOf s → IsSideOf t → s < 2 * length es → t < 2 * length es → s ≢ t → side_start es s ≡ side_start es t → is_backward s ≡ is_backward t
        → orient (point_at ps (side_start es s)) (point_at ps (side_end es s)) (point_at ps (side_end es t)) ≡ pos 0 → ⊥
    at s t (goes_forward e) (goes_forward f) s_in t_in apart start same on =
        let one : (nth_edge es e).a ≡ (nth_edge es f).a = sym (forward_start es e) ∙ (start ∙ forward_start es f) in
        let differ : (nth_edge es e).b ≢ (nth_edge es f).b = λ b_is. apart (side_only es (2 * e) (2 * f) clear.ascending s_in t_in start (forward_end es e ∙ (b_is ∙ sym (forward_end es f)))) in
        let line : Line (nth_edge es e).a (nth_edge es e).b (nth_edge es f).b = rw (forward_start es e, forward_end es e, forward_end es f) at on in
        let rise = (nth_edge es e).ascending in
        let rise_f = (nth_edge es f).ascending in
        ⊎_elim
        (λ (l : (nth_edge es e).b < (nth_edge es f).b).
        clear_line ps es f (nth_edge es e).b is clear (omega arith) (omega arith) l
        (subst (λ (x : ℕ). Line x (nth_edge es f).b (nth_edge es e).b) one (omega (arith, ints, orient_swapped_last (point_at ps (nth_edge es e).a) (point_at ps (nth_edge es e).b) (point_at ps (nth_edge es f).b)))))
        (λ (m : (nth_edge es f).b ≤ (nth_edge es e).b).
        clear_line ps es e (nth_edge es f).b is clear (omega arith) (omega arith) (omega arith) line)
        (cases_lt (nth_edge es e).b (nth_edge es f).b)
    at s t (goes_backward e) (goes_backward f) s_in t_in apart start same on =
        let one : (nth_edge es e).b ≡ (nth_edge es f).b = sym (backward_start es e) ∙ (start ∙ backward_start es f) in
        let differ : (nth_edge es e).a ≢ (nth_edge es f).a = λ a_is. apart (side_only es (2 * e + 1) (2 * f + 1) clear.ascending s_in t_in start (backward_end es e ∙ (a_is ∙ sym (backward_end es f)))) in
        let line : Line (nth_edge es e).b (nth_edge es e).a (nth_edge es f).a = rw (backward_start es e, backward_end es e, backward_end es f) at on in
        let rise = (nth_edge es e).ascending in
        let rise_f = (nth_edge es f).ascending in
        ⊎_elim
        (λ (l : (nth_edge es e).a < (nth_edge es f).a).
        clear_line ps es e (nth_edge es f).a is clear (omega arith) l (omega arith)
        (omega (arith, ints, orient_swapped (point_at ps (nth_edge es e).b) (point_at ps (nth_edge es e).a) (point_at ps (nth_edge es f).a))))
        (λ (m : (nth_edge es f).a ≤ (nth_edge es e).a).
        clear_line ps es f (nth_edge es e).a is clear (omega arith) (omega arith) (omega arith)
        (subst (λ (x : ℕ). Line (nth_edge es f).a x (nth_edge es e).a) one
        (orient_turned (point_at ps (nth_edge es e).a) (point_at ps (nth_edge es f).a) (point_at ps (nth_edge es e).b) ∙ (orient_turned (point_at ps (nth_edge es e).b) (point_at ps (nth_edge es e).a) (point_at ps (nth_edge es f).a) ∙ line))))
        (cases_lt (nth_edge es e).a (nth_edge es f).a)
    at s t (goes_forward e) (goes_backward f) s_in t_in apart start same on = false≢true (sym (forward_is e) ∙ (same ∙ backward_is f))
    at s t (goes_backward e) (goes_forward f) s_in t_in apart start same on = false≢true (sym (forward_is f) ∙ (sym same ∙ backward_is e))

-- the sides of rays in their order
pub AreTurning-map : (ps : List Point) (es : List Edge) (P : ℕ → Type 0) (rays : List Ray) (order : List ℕ) → IsPointSet ps → AreClear ps es → AreRays ps es P rays → order ≡ map (λ r. r.side) rays → AreTurning ps es P order
AreTurning-map ps es P rays order is clear h order_is =
    subst (AreTurning ps es P) (sym order_is)
    (record {
      each = All-map P (λ (r : Ray). r.side) rays h.shown.only;
      all = found;
      sorted = λ i j d l j_in. after i j d l (omega (arith, length-map rays (λ (r : Ray). r.side)));
    })
  where
    found : (s : ℕ) → P s → Contains (map (λ (r : Ray). r.side) rays) s
    found s p =
        let (k, r, k_in, at_k, r_is) = h.shown.all s p in
        (k, omega (arith, length-map rays (λ (x : Ray). x.side)), get_or-map (λ (x : Ray). x.side) rays k r s k_in ∙ (ap (λ (x : Ray). x.side) at_k ∙ r_is))

    follows : (r t : Ray) → IsRay ps es r → IsRay ps es t → r.side ≢ t.side → is_lt (ray_cmp t r) ≡ false → ComesAfter ps es r.side t.side
    follows r t hr ht apart order =
        let from = hr.from in
        let from_t = ht.from in
        ⊎_elim
        (λ (l : r.from < t.from). inl (omega arith))
        (λ (k : (r.from ≡ t.from) × (((r.backward ≡ false) × (t.backward ≡ true)) ⊎ ((r.backward ≡ t.backward) × (pos 0 ≤ℤ turned r t)))).
        let one : side_start es r.side ≡ side_start es t.side = sym from ∙ (k.0 ∙ from_t) in
        inr (
          one,
          ⊎_elim
              (λ (w : (r.backward ≡ false) × (t.backward ≡ true)). inl (sym hr.backward ∙ w.0, sym ht.backward ∙ w.1))
              (λ (w : (r.backward ≡ t.backward) × (pos 0 ≤ℤ turned r t)).
              let same = sym hr.backward ∙ (w.0 ∙ ht.backward) in
              let sees_t = subst (λ (x : ℕ). Sees (point_at ps x) (point_at ps (side_end es t.side)) t) (sym one) (ray_sees ps es t ht) in
              let turn = same_turn _ _ _ r t (ray_sees ps es r hr) sees_t w.0 in
              let none = not_in_line ps es r.side t.side is clear hr.side_in ht.side_in apart one same in
              inr (same, strict (turned r t) _ turn w.1 none))
              k.1,
        ))
        (order_cases r t order)
      where
        strict : (a b : ℤ) → a ≡ b → pos 0 ≤ℤ a → b ≢ pos 0 → pos 0 <ℤ b
        strict a b e l ne = by_lt_z (pos 0) b (λ k. k) (λ k. absurd (ne (omega (arith, ints))))

    after : (i j d : ℕ) → i < j → j < length rays → ComesAfter ps es (get_or (map (λ (r : Ray). r.side) rays) i d) (get_or (map (λ (r : Ray). r.side) rays) j d)
    after i j d l j_in =
        rw (get_or-map (λ (x : Ray). x.side) rays i some_ray d (omega arith), get_or-map (λ (x : Ray). x.side) rays j some_ray d j_in)
        (follows (get_or rays i some_ray) (get_or rays j some_ray) (h.shown.each i some_ray (omega arith)) (h.shown.each j some_ray j_in) (h.shown.distinct i j some_ray l j_in) (h.sorted i j some_ray l j_in))
