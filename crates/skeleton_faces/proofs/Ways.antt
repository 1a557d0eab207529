-- Ways from side to side, and rounds.
use Rattle.std.proofs.Common.{◌≡◌, ℕ, zero, suc, ◌+◌, ◌<◌, ◌≤◌, Bool, true, false, List, [], ◌∷◌, ◌++◌, length, map, set, get_or, get_or-set_other, get_or-set_same, sym, ap, ◌∙◌, subst, inl, inr, ⊎_elim, arith, below_more, append_assoc}
use Rattle.std.specs.List.{range_with_len}
use Rattle.std.proofs.lemmas.Bool.{cases_Bool, cases_eq, cases_lt, false≢true}
use Rattle.std.proofs.lemmas.List.{append-nil, length-set}
use Rattle.std.proofs.lemmas.List.FromFn.{map-range_with_len_more}
use Rattle.exact_predicates.specs.declared.edge.Edge.{Edge}
use Rattle.skeleton_faces.specs.Sides.{side_start}
use Rattle.skeleton_faces.specs.Rounds.{AreClosed, AreFollowing, IsRound, IsWay, step_on}

-- how many flags are down
pub left_over : List Bool → ℕ
left_over [] = 0
left_over (true ∷ bs) = left_over bs
left_over (false ∷ bs) = suc (left_over bs)

pub left_over_falls : (flags : List Bool) (i : ℕ) → i < length flags → get_or flags i false ≡ false → left_over (set flags i true) < left_over flags
unfolding left_over
left_over_falls [] i l h = absurd (omega arith)
left_over_falls (true ∷ bs) zero l h = absurd (false≢true (sym h))
left_over_falls (false ∷ bs) zero l h = omega arith
left_over_falls (true ∷ bs) (suc i) l h = left_over_falls bs i (omega arith) h
left_over_falls (false ∷ bs) (suc i) l h = let k = left_over_falls bs i (omega arith) h in omega arith

module _ (es : List Edge) (nexts : List ℕ) (f : AreFollowing es nexts) (first : ℕ) (first_in : first < length nexts) where
  pub step_in : (k : ℕ) → step_on nexts first k < length nexts
  step_in zero = first_in
  step_in (suc k) = f.inside (step_on nexts first k) (step_in k)

  module _ (before : List Bool) (old : List ℕ) where
    pub way-start : length before ≡ length nexts → IsWay es nexts first before old 0 before old
    way-start one_each = record {
      one_each = one_each;
      fresh = λ k l. absurd (omega arith);
      apart = λ i j l m. absurd (omega arith);
      appended = sym (append-nil old);
      only = λ t up. inl up;
      kept = λ t up. up;
      marked = λ k l. absurd (omega arith);
    }

    -- one side more
    pub way-more : (m : ℕ) (done : List Bool) (starts after : List ℕ) (side : ℕ) → IsWay es nexts first before old m done starts → side ≡ step_on nexts first m → get_or done side false ≡ false
        → after ≡ starts ++ side_start es side ∷ [] → IsWay es nexts first before old (m + 1) (set done side true) after
    way-more m done starts after side w side_is down after_is =
        record {
          one_each = length-set done side true ∙ w.one_each;
          fresh = below_more _ m w.fresh (⊎_elim (λ up. absurd (false≢true (sym down_here ∙ w.kept here up))) (λ d. d) (cases_Bool (get_or before here false)));
          apart = λ i j l j_in.
              ⊎_elim
              (λ (b : j < m). w.apart i j l b)
              (λ (n : m ≤ j). let e : j ≡ m = omega arith in λ same. false≢true (sym down_here ∙ subst (λ (x : ℕ). get_or done x false ≡ true) (same ∙ ap (step_on nexts first) e) (w.marked i (omega arith))))
              (cases_lt j m);
          appended = after_is ∙ (ap (λ xs. xs ++ side_start es side ∷ []) w.appended
              ∙ (append_assoc old (map (λ k. side_start es (step_on nexts first k)) (range_with_len 0 m)) (side_start es side ∷ []) ∙ ap (λ xs. old ++ xs) (ap (λ s. map (λ k. side_start es (step_on nexts first k)) (range_with_len 0 m) ++ side_start es s ∷ []) side_is
              ∙ sym (map-range_with_len_more (λ k. side_start es (step_on nexts first k)) 0 m m (omega arith)))));
          only = λ t up.
              ⊎_elim
              (λ (e : t ≡ side). inr (m, omega arith, sym side_is ∙ sym e))
              (λ ne. ⊎_elim (λ b. inl b) (λ k. inr (k.0, omega (arith, k.1), k.2)) (w.only t (sym (get_or-set_other done side t true false ne) ∙ up)))
              (cases_eq t side);
          kept = λ t up. stays t (w.kept t up);
          marked = below_more _ m (λ k l. stays (step_on nexts first k) (w.marked k l))
              (subst (λ (x : ℕ). get_or (set done side true) x false ≡ true) side_is (get_or-set_same done side true false (subst (λ (x : ℕ). x < length done) (sym side_is) (subst (λ (n : ℕ). step_on nexts first m < n) (sym w.one_each) (step_in m)))));
        }
      where
        here : ℕ
        here = step_on nexts first m

        down_here : get_or done (step_on nexts first m) false ≡ false
        down_here = subst (λ (x : ℕ). get_or done x false ≡ false) side_is down

        stays : (t : ℕ) → get_or done t false ≡ true → get_or (set done side true) t false ≡ true
        stays t up =
            get_or-set_other done side t true false (λ e. false≢true (sym down ∙ subst (λ (x : ℕ). get_or done x false ≡ true) e up)) ∙ up

    -- where it comes to a side that is done, this is the first one
    pub way-back : (m : ℕ) (done : List Bool) (starts : List ℕ) (side : ℕ) → AreClosed nexts before → get_or before first false ≡ false → IsWay es nexts first before old m done starts → side ≡ step_on nexts first m → get_or done side false ≡ true
        → IsRound es nexts first before old done starts
    way-back zero done starts side closed fresh w side_is up =
        absurd (⊎_elim (λ b. false≢true (sym fresh ∙ subst (λ (x : ℕ). get_or before x false ≡ true) side_is b)) (λ k. let l = k.1 in omega arith) (w.only side up))
    way-back (suc m) done starts side closed fresh w side_is up =
        record {
          count = suc m;
          some = omega arith;
          back = sym side_is ∙ ⊎_elim (λ b. absurd (was_before b)) (λ k. at_first k.0 k.1 k.2) (w.only side up);
          way = w;
        }
      where
        was_before : get_or before side false ≡ true → ⊥
        was_before b =
            let here = subst (λ (x : ℕ). get_or before x false ≡ true) side_is b in
            let (s, s_in, s_up, s_next) = closed (step_on nexts first (suc m)) (step_in (suc m)) here in
            let same = f.only s (step_on nexts first m) s_in (step_in m) s_next in
            false≢true (sym (w.fresh m (omega arith)) ∙ subst (λ (x : ℕ). get_or before x false ≡ true) same s_up)

        at_first : (k : ℕ) → k < suc m → step_on nexts first k ≡ side → side ≡ first
        at_first zero l e = sym e
        at_first (suc k) l e =
            let same = f.only (step_on nexts first k) (step_on nexts first m) (step_in k) (step_in m) (e ∙ side_is) in
            absurd (w.apart k m (omega arith) (omega arith) same)
