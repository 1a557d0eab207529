-- The side before another one, going round their start, is the next one for the other side of that edge.
use Rattle.std.proofs.Common.{◌≡◌, ◌≢◌, ◌⊎◌, ℕ, ◌+◌, ◌*◌, ◌<◌, ◌≤◌, true, false, pos, ◌<ℤ◌, List, length, slice_index, AllPairs, sym, ap, ◌∙◌, subst, inl, ⊎_elim, arith}
use Rattle.std.proofs.lemmas.Bool.{false≢true, cases_lt}
use Rattle.std.proofs.lemmas.Int.{ints}
use Rattle.std.proofs.lemmas.List.{get_or_default}
use Rattle.exact_predicates.specs.declared.edge.Edge.{Edge}
use Rattle.exact_predicates.specs.declared.point.Point.{Point}
use Rattle.exact_predicates.specs.Candidates.{HasEdge}
use Rattle.exact_predicates.specs.Plane.{orient, Precedes}
use Rattle.exact_predicates.specs.PointSet.{IsPointSet, point_at}
use Rattle.exact_predicates.proofs.Equalities.{HasEdge-comm}
use Rattle.exact_predicates.proofs.Numbers.{IsOrdered-points}
use Rattle.exact_predicates.proofs.Orientation.{orient_swapped_last}
use Rattle.skeleton_faces.specs.Faces.{AreClear, IsNextSide}
use Rattle.skeleton_faces.specs.Marks.{nth_edge}
use Rattle.skeleton_faces.specs.Sides.{is_backward, side_start, side_end, twin}
use Rattle.skeleton_faces.specs.Turning.{AreLinked, AreNexts, AreTurning, ComesAfter, IsBefore, StartsRise, TurnsTo}
use Rattle.skeleton_faces.proofs.Clockwise.{AreLeftward, leftward_next, leftward_clockwise, two_after, two_before}
use Rattle.skeleton_faces.proofs.OneNext.{next_only}
use Rattle.skeleton_faces.proofs.SideNumbers.{IsSideOf, side_cases, forward_is, backward_is, forward_start, forward_end, backward_start, backward_end, side_only, side_edge, side_of, start_twin, end_twin, twin-in, twin-twin}
use Rattle.skeleton_faces.proofs.SideNumbers.IsSideOf.{goes_forward, goes_backward}

module _ (ps : List Point) (es : List Edge) (is : IsPointSet ps) (clear : AreClear ps es) where
  -- the end of a side forward comes after its start, and of one backward before it
  side_ahead : (s : ℕ) → s < 2 * length es → is_backward s ≡ false → Precedes (point_at ps (side_start es s)) (point_at ps (side_end es s))
  side_ahead s s_in ahead = at s (side_cases s) s_in ahead
    where
      at : (s : ℕ) → IsSideOf s → s < 2 * length es → is_backward s ≡ false → Precedes (point_at ps (side_start es s)) (point_at ps (side_end es s))
      at s (goes_forward e) l h = rw (forward_start es e, forward_end es e) ((IsOrdered-points ps is).rising _ _ (nth_edge es e).ascending (clear.ends_in e _ (omega arith)))
      at s (goes_backward e) l h = absurd (false≢true (sym h ∙ backward_is e))

  side_behind : (s : ℕ) → s < 2 * length es → is_backward s ≡ true → Precedes (point_at ps (side_end es s)) (point_at ps (side_start es s))
  side_behind s s_in behind = at s (side_cases s) s_in behind
    where
      at : (s : ℕ) → IsSideOf s → s < 2 * length es → is_backward s ≡ true → Precedes (point_at ps (side_end es s)) (point_at ps (side_start es s))
      at s (goes_backward e) l h = rw (backward_start es e, backward_end es e) ((IsOrdered-points ps is).rising _ _ (nth_edge es e).ascending (clear.ends_in e _ (omega arith)))
      at s (goes_forward e) l h = absurd (false≢true (sym (forward_is e) ∙ h))

  -- three sides in turn
  turns_leftward : (s t u : ℕ) → s < 2 * length es → t < 2 * length es → u < 2 * length es → side_start es t ≡ side_start es s → side_start es u ≡ side_start es s → TurnsTo ps es s t → TurnsTo ps es t u
      → AreLeftward (point_at ps (side_start es s)) (point_at ps (side_end es s)) (point_at ps (side_end es t)) (point_at ps (side_end es u))
  turns_leftward s t u s_in t_in u_in st su h k =
      ⊎_elim
      (λ (a : (is_backward s ≡ false) × (is_backward t ≡ true)). ⊎_elim
      (λ (b : (is_backward t ≡ false) × (is_backward u ≡ true)). absurd (false≢true (sym b.0 ∙ a.1)))
      (λ (b : (is_backward t ≡ is_backward u) × (pos 0 <ℤ orient (point_at ps (side_start es t)) (point_at ps (side_end es t)) (point_at ps (side_end es u)))).
      two_before _ _ _ _ (side_ahead s s_in a.0) (behind t t_in st a.1) (behind u u_in su (sym b.0 ∙ a.1)) (from_t b.1))
      k)
      (λ (a : (is_backward s ≡ is_backward t) × (pos 0 <ℤ orient (point_at ps (side_start es s)) (point_at ps (side_end es s)) (point_at ps (side_end es t)))). ⊎_elim
      (λ (b : (is_backward t ≡ false) × (is_backward u ≡ true)).
      two_after _ _ _ _ (side_ahead s s_in (a.0 ∙ b.0)) (ahead t t_in st b.0) (behind u u_in su b.1) a.1)
      (λ (b : (is_backward t ≡ is_backward u) × (pos 0 <ℤ orient (point_at ps (side_start es t)) (point_at ps (side_end es t)) (point_at ps (side_end es u)))).
      inl (a.1, from_t b.1))
      k)
      h
    where
      ahead : (x : ℕ) → x < 2 * length es → side_start es x ≡ side_start es s → is_backward x ≡ false → Precedes (point_at ps (side_start es s)) (point_at ps (side_end es x))
      ahead x x_in same h = subst (λ (v : ℕ). Precedes (point_at ps v) (point_at ps (side_end es x))) same (side_ahead x x_in h)

      behind : (x : ℕ) → x < 2 * length es → side_start es x ≡ side_start es s → is_backward x ≡ true → Precedes (point_at ps (side_end es x)) (point_at ps (side_start es s))
      behind x x_in same h = subst (λ (v : ℕ). Precedes (point_at ps (side_end es x)) (point_at ps v)) same (side_behind x x_in h)

      from_t : pos 0 <ℤ orient (point_at ps (side_start es t)) (point_at ps (side_end es t)) (point_at ps (side_end es u)) → pos 0 <ℤ orient (point_at ps (side_start es s)) (point_at ps (side_end es t)) (point_at ps (side_end es u))
      from_t h = subst (λ (v : ℕ). pos 0 <ℤ orient (point_at ps v) (point_at ps (side_end es t)) (point_at ps (side_end es u))) st h

  module _ (order : List ℕ) (o : AreTurning ps es (λ s. s < 2 * length es) order) where
    side : ℕ → ℕ
    side k = slice_index order k

    side_in : (k : ℕ) → k < length order → slice_index order k < 2 * length es
    side_in k k_in = o.each k 0 k_in

    -- two sides of one start in their order
    in_turn : (i j : ℕ) → i < j → j < length order → side_start es (slice_index order i) ≡ side_start es (slice_index order j) → TurnsTo ps es (slice_index order i) (slice_index order j)
    in_turn i j l j_in same =
        let after : ComesAfter ps es (slice_index order i) (slice_index order j) = o.sorted i j 0 l j_in in
        ⊎_elim (λ (m : side_start es (slice_index order i) < side_start es (slice_index order j)). absurd (omega arith)) (λ k. k.1) after

    not_itself : (s : ℕ) → ¬ TurnsTo ps es s s
    not_itself s h =
        let p = point_at ps (side_start es s) in
        let q = point_at ps (side_end es s) in
        ⊎_elim (λ k. false≢true (sym k.0 ∙ k.1)) (λ k. let k1 = k.1 in omega (arith, ints, orient_swapped_last p q q)) h

    -- no side stands at two places
    place_only : (i j : ℕ) → i < length order → j < length order → slice_index order i ≡ slice_index order j → i ≡ j
    place_only i j i_in j_in e =
        ⊎_elim
        (λ (l : i < j). absurd (not_itself (slice_index order i) (subst (TurnsTo ps es (slice_index order i)) (sym e) (in_turn i j l j_in (ap (side_start es) e)))))
        (λ (m : j ≤ i). ⊎_elim
        (λ (l : j < i). absurd (not_itself (slice_index order j) (subst (TurnsTo ps es (slice_index order j)) e (in_turn j i l i_in (ap (side_start es) (sym e))))))
        (λ (k : i ≤ j). omega arith)
        (cases_lt j i))
        (cases_lt i j)

    leftward_at : (i j k : ℕ) → i < j → j < k → k < length order → side_start es (slice_index order j) ≡ side_start es (slice_index order i) → side_start es (slice_index order k) ≡ side_start es (slice_index order i)
        → AreLeftward (point_at ps (side_start es (slice_index order i))) (point_at ps (side_end es (slice_index order i))) (point_at ps (side_end es (slice_index order j))) (point_at ps (side_end es (slice_index order k)))
    leftward_at i j k l m k_in ij ik =
        turns_leftward _ _ _ (side_in i (omega arith)) (side_in j (omega arith)) (side_in k k_in) ij ik (in_turn i j l (omega arith) (sym ij)) (in_turn j k m k_in (ij ∙ sym ik))

    pub IsNextSide-before : (q p : ℕ) → q < length order → IsBefore es order q p → IsNextSide ps es (side_end es (slice_index order q)) (side_start es (slice_index order q)) (side_end es (slice_index order p))
    IsNextSide-before q p q_in b =
        record {
          side = HasEdge-comm es v u (side_edge es sq (side_in q q_in));
          next = subst (λ (w : ℕ). HasEdge es w x) b.one_start (side_edge es sp (side_in p b.p_in));
          alone = λ same y edge.
              let at_one = place_only p q b.p_in q_in (side_only es sp sq clear.ascending (side_in p b.p_in) (side_in q q_in) b.one_start same) in
              ⊎_elim
              (λ (e : p + 1 ≡ q). absurd (omega arith))
              (λ ends. let (k, k_in, start, end) = placed y edge in
              let k_is : q ≡ k = omega (arith, between k k_in start ends.0 ends.1) in
              sym end ∙ ap (λ z. side_end es (slice_index order z)) (sym k_is))
              b.place;
          first = λ y edge not_u not_x.
              let (k, k_in, start, end) = placed y edge in
              let not_q : k ≢ q = λ e. not_u (sym end ∙ ap (λ z. side_end es (slice_index order z)) e) in
              let not_p : k ≢ p = λ e. not_x (sym end ∙ ap (λ z. side_end es (slice_index order z)) e) in
              leftward_clockwise _ _ _ _ (subst (λ (z : ℕ). AreLeftward (point_at ps v) (point_at ps x) (point_at ps u) (point_at ps z)) end (around k k_in start not_q not_p b.place));
        }
      where
        sq : ℕ
        sq = slice_index order q

        sp : ℕ
        sp = slice_index order p

        u : ℕ
        u = side_end es sq

        v : ℕ
        v = side_start es sq

        x : ℕ
        x = side_end es sp

        placed : (y : ℕ) → HasEdge es v y → (k : ℕ) × (k < length order) × (side_start es (slice_index order k) ≡ v) × (side_end es (slice_index order k) ≡ y)
        placed y edge =
            let (s, s_in, start, end) = side_of es v y edge in
            let (k, k_in, at_k) = o.all s s_in in
            let is = get_or_default order k 0 s k_in ∙ at_k in
            (k, k_in, ap (side_start es) is ∙ start, ap (side_end es) is ∙ end)

        between : (k : ℕ) → k < length order → side_start es (slice_index order k) ≡ v → ((k : ℕ) → k < q → side_start es (slice_index order k) ≢ v) → ((k : ℕ) → p < k → k < length order → side_start es (slice_index order k) ≢ v) → (q ≤ k) × (k ≤ p)
        between k k_in start before after =
            (⊎_elim (λ (l : k < q). absurd (before k l start)) (λ m. m) (cases_lt k q), ⊎_elim (λ (l : p < k). absurd (after k l k_in start)) (λ m. m) (cases_lt p k))

        around : (k : ℕ) → k < length order → side_start es (slice_index order k) ≡ v → k ≢ q → k ≢ p
            → (p + 1 ≡ q) ⊎ (((k : ℕ) → k < q → side_start es (slice_index order k) ≢ v) × ((k : ℕ) → p < k → k < length order → side_start es (slice_index order k) ≢ v))
            → AreLeftward (point_at ps v) (point_at ps x) (point_at ps u) (point_at ps (side_end es (slice_index order k)))
        around k k_in start not_q not_p h =
            let Round : ℕ → Type 0 = λ w. AreLeftward (point_at ps w) (point_at ps x) (point_at ps u) (point_at ps (side_end es (slice_index order k))) in
            let RoundK : ℕ → Type 0 = λ w. AreLeftward (point_at ps w) (point_at ps (side_end es (slice_index order k))) (point_at ps x) (point_at ps u) in
            ⊎_elim
            (λ (e : p + 1 ≡ q). ⊎_elim
            (λ (l : k < p). leftward_next _ _ _ _ (subst RoundK start (leftward_at k p q l (omega arith) q_in (b.one_start ∙ sym start) (sym start))))
            (λ (m : p ≤ k). subst Round b.one_start (leftward_at p q k (omega arith) (omega arith) k_in (sym b.one_start) (start ∙ sym b.one_start)))
            (cases_lt k p))
            (λ ends.
            let (low, high) = between k k_in start ends.0 ends.1 in
            leftward_next _ _ _ _ (leftward_next _ _ _ _ (leftward_at q k p (omega arith) (omega arith) b.p_in start b.one_start)))
            h

-- the links of the order of sides lead from each side to the next one
pub AreNexts-linked : (ps : List Point) (es : List Edge) (order nexts : List ℕ) → IsPointSet ps → AreClear ps es → AreTurning ps es (λ s. s < 2 * length es) order → length order ≡ 2 * length es → AreLinked es order nexts → AreNexts ps es nexts
AreNexts-linked ps es order nexts is clear o count h =
    record {
      one_each = h.one_each ∙ count;
      next_in = λ s s_in. let (q, p, q_in, b, s_is, next_is) = link s s_in in subst (λ (x : ℕ). x < 2 * length es) (sym next_is) (o.each p 0 b.p_in);
      on = λ s s_in.
          let (q, p, q_in, b, s_is, next_is) = link s s_in in
          ap (side_start es) next_is ∙ (b.one_start ∙ (sym (end_twin es (slice_index order q)) ∙ ap (side_end es) (sym s_is)));
      next = λ s s_in.
          let (q, p, q_in, b, s_is, next_is) = link s s_in in
          let next = IsNextSide-before ps es is clear order o q p q_in b in
          let start_is : side_end es (slice_index order q) ≡ side_start es s = sym (start_twin es (slice_index order q)) ∙ ap (side_start es) (sym s_is) in
          let end_is : side_start es (slice_index order q) ≡ side_end es s = sym (end_twin es (slice_index order q)) ∙ ap (side_end es) (sym s_is) in
          subst (λ (x : ℕ). IsNextSide ps es (side_start es s) (side_end es s) (side_end es x)) (sym next_is)
          (subst (λ (v : ℕ). IsNextSide ps es (side_start es s) v (side_end es (slice_index order p))) end_is
          (subst (λ (u : ℕ). IsNextSide ps es u (side_start es (slice_index order q)) (side_end es (slice_index order p))) start_is next));
    }
  where
    link : (s : ℕ) → s < 2 * length es → (q : ℕ) × (p : ℕ) × (q < length order) × IsBefore es order q p × (s ≡ twin (slice_index order q)) × (slice_index nexts s ≡ slice_index order p)
    link s s_in =
        let (q, q_in, at_q) = o.all (twin s) (twin-in s (length es) s_in) in
        let q_is : slice_index order q ≡ twin s = get_or_default order q 0 (twin s) q_in ∙ at_q in
        let s_is : s ≡ twin (slice_index order q) = sym (twin-twin s) ∙ ap twin (sym q_is) in
        let (p, b, is) = h.linked q q_in in
        (q, p, q_in, b, s_is, ap (slice_index nexts) s_is ∙ is)

-- what the order of sides owes its links
pub StartsRise-turning : (ps : List Point) (es : List Edge) (order : List ℕ) → AreTurning ps es (λ s. s < 2 * length es) order → StartsRise es order
StartsRise-turning ps es order o i j l j_in =
    let after : ComesAfter ps es (slice_index order i) (slice_index order j) = o.sorted i j 0 l j_in in
    ⊎_elim (λ (m : side_start es (slice_index order i) < side_start es (slice_index order j)). omega arith) (λ k. let k0 = k.0 in omega arith) after

pub distinct_turning : (ps : List Point) (es : List Edge) (order : List ℕ) → IsPointSet ps → AreClear ps es → AreTurning ps es (λ s. s < 2 * length es) order → AllPairs (λ s t. s ≢ t) order
distinct_turning ps es order is clear o i j d l j_in e =
    let i_is = get_or_default order i d 0 (omega arith) in
    let j_is = get_or_default order j d 0 j_in in
    let same = place_only ps es is clear order o i j (omega arith) j_in (sym i_is ∙ (e ∙ j_is)) in
    omega arith

-- the sides that follow are different ones
pub nexts_only : (ps : List Point) (es : List Edge) (nexts : List ℕ) → AreClear ps es → AreNexts ps es nexts → (s t : ℕ) → s < 2 * length es → t < 2 * length es → slice_index nexts s ≡ slice_index nexts t → s ≡ t
nexts_only ps es nexts clear n s t s_in t_in e =
    let ends : side_end es s ≡ side_end es t = sym (n.on s s_in) ∙ (ap (side_start es) e ∙ n.on t t_in) in
    let hs = n.next s s_in in
    let ht = n.next t t_in in
    let ht_there = subst (λ (x : ℕ). IsNextSide ps es (side_start es t) (side_end es t) (side_end es x)) (sym e) ht in
    let ht_here = subst (λ (v : ℕ). IsNextSide ps es (side_start es t) v (side_end es (slice_index nexts s))) (sym ends) ht_there in
    side_only es s t clear.ascending s_in t_in (next_only ps es _ _ _ _ hs ht_here) ends
