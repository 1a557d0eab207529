-- One face more.
use Rattle.std.proofs.Common.{◌≡◌, ◌≢◌, ℕ, zero, suc, ◌+◌, ◌-◌, ◌*◌, ◌^◌, ◌<◌, ◌≤◌, Bool, true, false, List, [], ◌∷◌, ◌++◌, length, replicate, get_or, slice_index, AllPairs, refl, sym, ap, ◌∙◌, subst, inl, ⊎_elim, arith, add-one}
use Rattle.std.proofs.lemmas.Bool.{cases_Bool, cases_lt, false≢true}
use Rattle.std.proofs.lemmas.List.{get_or_append_left, get_or_push, length-append, length-replicate}
use Rattle.std.proofs.lemmas.List.Elements.{All-push, All-weaker}
use Rattle.std.proofs.lemmas.List.Quantifiers.{all_pairs_push}
use Rattle.std.proofs.lemmas.List.FromFn.{length-map-range_with_len}
use Rattle.exact_predicates.specs.declared.edge.Edge.{Edge}
use Rattle.exact_predicates.specs.Candidates.{EdgePrecedes}
use Rattle.exact_predicates.proofs.Elements.{Any-append_left, Any-append_right}
use Rattle.skeleton_faces.specs.declared.rounds.Rounds.{Rounds}
use Rattle.skeleton_faces.specs.Faces.{HasRoundSide, SidePrecedes, round_at}
use Rattle.skeleton_faces.specs.Marks.{nth_edge}
use Rattle.skeleton_faces.specs.Sides.{side_start, side_end}
use Rattle.skeleton_faces.specs.Tables.{AreBounds, pieces}
use Rattle.skeleton_faces.specs.Rounds.{AreClosed, AreFollowing, AreTraced, IsCycleFrom, IsRound, IsStart, step_on}
use Rattle.skeleton_faces.proofs.Cuts.{pieces-append}
use Rattle.skeleton_faces.proofs.Cycles.{round_is, starts_round}
use Rattle.skeleton_faces.proofs.SideNumbers.{IsSideOf, side_cases, forward_start, forward_end, backward_start, backward_end}
use Rattle.skeleton_faces.proofs.SideNumbers.IsSideOf.{goes_forward, goes_backward}
use Rattle.skeleton_faces.proofs.Ways.{step_in}

-- later edges begin no earlier
later_start : (es : List Edge) (i m : ℕ) → AllPairs EdgePrecedes es → i ≤ m → m < length es → (nth_edge es i).a ≤ (nth_edge es m).a
later_start es i m up l m_in =
    ⊎_elim
    (λ b. let r : EdgePrecedes (nth_edge es i) (nth_edge es m) = up i m _ b m_in in ⊎_elim (λ k. omega arith) (λ k. let k0 = k.0 in omega arith) r)
    (λ n. let e : i ≡ m = omega arith in subst (λ (x : ℕ). (nth_edge es i).a ≤ (nth_edge es x).a) e (omega arith))
    (cases_lt i m)

module _ (es : List Edge) (nexts : List ℕ) (f : AreFollowing es nexts) (done : List Bool) (closed : AreClosed nexts done) where
  -- with a side the one after it is not done
  undone_next : (t : ℕ) → t < length nexts → get_or done t false ≡ false → get_or done (slice_index nexts t) false ≡ false
  undone_next t t_in down =
      ⊎_elim
      (λ up. let (s, s_in, s_up, same) = closed (slice_index nexts t) (f.inside t t_in) up in
      absurd (false≢true (sym down ∙ subst (λ (x : ℕ). get_or done x false ≡ true) (f.only s t s_in t_in same) s_up)))
      (λ d. d)
      (cases_Bool (get_or done (slice_index nexts t) false))

  -- from a side that is not done one comes to one that goes forward and begins no later
  pub forward_below : (t : ℕ) → t < length nexts → get_or done t false ≡ false → (e : ℕ) × (e < length es) × (get_or done (2 * e) false ≡ false) × ((nth_edge es e).a ≤ side_start es t)
  forward_below t t_in down = by_start (suc (side_start es t)) t t_in down (omega arith)
    where
      at : (n t : ℕ) → ((t : ℕ) → t < length nexts → get_or done t false ≡ false → side_start es t < n → (e : ℕ) × (e < length es) × (get_or done (2 * e) false ≡ false) × ((nth_edge es e).a ≤ side_start es t))
          → IsSideOf t → t < length nexts → get_or done t false ≡ false → side_start es t < suc n → (e : ℕ) × (e < length es) × (get_or done (2 * e) false ≡ false) × ((nth_edge es e).a ≤ side_start es t)
      at n t earlier (goes_forward e) t_in down l = (e, omega (arith, f.one_each), down, omega (arith, forward_start es e))
      at n t earlier (goes_backward e) t_in down l =
          let rise = (nth_edge es e).ascending in
          let s = slice_index nexts (2 * e + 1) in
          let start = f.on (2 * e + 1) t_in ∙ backward_end es e in
          let (k, k_in, k_down, k_low) = earlier s (f.inside (2 * e + 1) t_in) (undone_next (2 * e + 1) t_in down) (omega (arith, backward_start es e)) in
          (k, k_in, k_down, omega (arith, backward_start es e))

      by_start : (n t : ℕ) → t < length nexts → get_or done t false ≡ false → side_start es t < n → (e : ℕ) × (e < length es) × (get_or done (2 * e) false ≡ false) × ((nth_edge es e).a ≤ side_start es t)
      by_start zero t t_in down l = absurd (omega arith)
      by_start (suc n) t t_in down l = at n t (by_start n) (side_cases t) t_in down l

module _ (es : List Edge) (nexts : List ℕ) (n : ℕ) (up : AllPairs EdgePrecedes es) (n_in : n < length es) (f : AreFollowing es nexts) (r after : Rounds) (t : AreTraced es nexts n r)
    (round : IsRound es nexts (2 * n) r.done.items r.starts.items after.done.items after.starts.items) where
  open round use {count, some, back, way}

  first_in : 2 * n < length nexts
  first_in = omega (arith, f.one_each)

  round-zero : round_at (starts_round es nexts (2 * n) count some back) 0 ≡ (nth_edge es n).a
  round-zero = round_is es nexts (2 * n) count some back 0 ∙ forward_start es n

  round-one : round_at (starts_round es nexts (2 * n) count some back) 1 ≡ (nth_edge es n).b
  round-one = round_is es nexts (2 * n) count some back 1 ∙ (f.on (2 * n) first_in ∙ forward_end es n)

  round-side : (k : ℕ) → (round_at (starts_round es nexts (2 * n) count some back) k ≡ side_start es (step_on nexts (2 * n) k)) × (round_at (starts_round es nexts (2 * n) count some back) (k + 1) ≡ side_end es (step_on nexts (2 * n) k))
  round-side k = (round_is es nexts (2 * n) count some back k, rw add-one (round_is es nexts (2 * n) count some back (suc k) ∙ f.on (step_on nexts (2 * n) k) (step_in es nexts f (2 * n) first_in k)))

  -- the edges before n are done
  not_before : (e : ℕ) → get_or r.done.items (2 * e) false ≡ false → n ≤ e
  not_before e down = ⊎_elim (λ l. absurd (false≢true (sym down ∙ t.forward e l))) (λ m. m) (cases_lt e n)

  least : (k : ℕ) → 0 < k → k < count → SidePrecedes (round_at (starts_round es nexts (2 * n) count some back) 0) (round_at (starts_round es nexts (2 * n) count some back) 1) (round_at (starts_round es nexts (2 * n) count some back) k) (round_at (starts_round es nexts (2 * n) count some back) (k + 1))
  least k l k_in =
      rw (round-zero, round-one, (round-side k).0, (round-side k).1)
      (at (step_on nexts (2 * n) k) (side_cases (step_on nexts (2 * n) k)) (step_in es nexts f (2 * n) first_in k) (way.fresh k k_in) (way.apart 0 k l k_in))
    where
      at : (s : ℕ) → IsSideOf s → s < length nexts → get_or r.done.items s false ≡ false → 2 * n ≢ s → SidePrecedes (nth_edge es n).a (nth_edge es n).b (side_start es s) (side_end es s)
      at s (goes_forward e) s_in down apart =
          let not_e : n ≢ e = λ same. apart (ap (λ x. 2 * x) same) in
          let later = not_before e down in
          let order : EdgePrecedes (nth_edge es n) (nth_edge es e) = up n e _ (omega arith) (omega (arith, f.one_each)) in
          rw (forward_start es e, forward_end es e) order
      at s (goes_backward e) s_in down apart =
          let rise = (nth_edge es e).ascending in
          let next_down = undone_next es nexts f r.done.items t.closed (2 * e + 1) s_in down in
          let (k, k_in, k_down, k_low) = forward_below es nexts f r.done.items t.closed (slice_index nexts (2 * e + 1)) (f.inside (2 * e + 1) s_in) next_down in
          let low = later_start es n k up (not_before k k_down) k_in in
          let start = f.on (2 * e + 1) s_in ∙ backward_end es e in
          inl (omega (arith, backward_start es e))

  pub cycle_from : IsCycleFrom es nexts (n + 1) (starts_round es nexts (2 * n) count some back)
  cycle_from = record {
    edge = n;
    count = count;
    edge_in = omega arith;
    some = some;
    back = back;
    is = refl;
    first = (round-zero, round-one);
    least = least;
  }

  pub closed_after : AreClosed nexts after.done.items
  closed_after s s_in s_up =
      ⊎_elim
      (λ b. let (p, p_in, p_up, next) = t.closed s s_in b in (p, p_in, way.kept p p_up, next))
      (λ k. of_step k.0 k.1 k.2)
      (way.only s s_up)
    where
      of_step : (k : ℕ) → k < count → step_on nexts (2 * n) k ≡ s → (p : ℕ) × (p < length nexts) × (get_or after.done.items p false ≡ true) × (slice_index nexts p ≡ s)
      of_step (suc k) l e = (step_on nexts (2 * n) k, step_in es nexts f (2 * n) first_in k, way.marked k (omega arith), e)
      of_step zero l e =
          let last : suc (count - 1) ≡ count = omega (arith, some) in
          (step_on nexts (2 * n) (count - 1), step_in es nexts f (2 * n) first_in (count - 1), way.marked (count - 1) (omega (arith, some)), ap (step_on nexts (2 * n)) last ∙ (back ∙ e))

  pub has_side : (k : ℕ) → k < count → HasRoundSide (starts_round es nexts (2 * n) count some back) (side_start es (step_on nexts (2 * n) k)) (side_end es (step_on nexts (2 * n) k))
  has_side k k_in = (k, omega (arith, length-map-range_with_len (λ k. side_start es (step_on nexts (2 * n) k)) 0 count), (round-side k).0, (round-side k).1)

  pub AreTraced-more : length es < 2 ^ 32 → after.bounds.items ≡ r.bounds.items ++ length after.starts.items ∷ [] → AreTraced es nexts (n + 1) after
  AreTraced-more few bounds_are =
      record {
        one_each = way.one_each;
        closed = closed_after;
        forward = λ e l. ⊎_elim (λ b. way.kept (2 * e) (t.forward e b)) (λ m. let is : n ≡ e = omega arith in subst (λ (x : ℕ). get_or after.done.items (2 * x) false ≡ true) is (way.marked 0 some)) (cases_lt e n);
        bounds = bounds_after;
        last = rw bounds_are (ap (λ k. get_or (r.bounds.items ++ length after.starts.items ∷ []) k 0) (omega (arith, length-append r.bounds.items (length after.starts.items ∷ []))) ∙ get_or_push r.bounds.items (length after.starts.items) 0 (length r.bounds.items) refl);
        few = omega (arith, t.few, ap length bounds_are, length-append r.bounds.items (length after.starts.items ∷ []));
        each = rw pieces_are (All-push (IsCycleFrom es nexts (n + 1)) (pieces r.starts.items r.bounds.items) (starts_round es nexts (2 * n) count some back) (All-weaker (IsCycleFrom es nexts n) (IsCycleFrom es nexts (n + 1)) further (pieces r.starts.items r.bounds.items) t.each) cycle_from);
        ascending = rw pieces_are (all_pairs_push (λ (c d : List ℕ). SidePrecedes (round_at c 0) (round_at c 1) (round_at d 0) (round_at d 1)) (pieces r.starts.items r.bounds.items) (starts_round es nexts (2 * n) count some back) t.ascending (λ k d k_in. before_new (get_or (pieces r.starts.items r.bounds.items) k d) (t.each k d k_in)));
        covered = λ s s_in s_up. rw pieces_are
            (⊎_elim
            (λ b. Any-append_left _ (pieces r.starts.items r.bounds.items) ((starts_round es nexts (2 * n) count some back) ∷ []) (t.covered s s_in b))
            (λ k. Any-append_right _ (pieces r.starts.items r.bounds.items) ((starts_round es nexts (2 * n) count some back) ∷ []) (0, (starts_round es nexts (2 * n) count some back), omega arith, refl, subst (λ (x : ℕ). HasRoundSide (starts_round es nexts (2 * n) count some back) (side_start es x) (side_end es x)) k.2 (has_side k.0 k.1)))
            (way.only s s_up));
      }
    where
      further : (c : List ℕ) → IsCycleFrom es nexts n c → IsCycleFrom es nexts (n + 1) c
      further c h = let l = h.edge_in in record { edge = h.edge; count = h.count; edge_in = omega arith; some = h.some; back = h.back; is = h.is; first = h.first; least = h.least }

      before_new : (c : List ℕ) → IsCycleFrom es nexts n c → SidePrecedes (round_at c 0) (round_at c 1) (round_at (starts_round es nexts (2 * n) count some back) 0) (round_at (starts_round es nexts (2 * n) count some back) 1)
      before_new c h =
          let order : EdgePrecedes (nth_edge es h.edge) (nth_edge es n) = up h.edge n _ h.edge_in n_in in
          rw (h.first.0, h.first.1, round-zero, round-one) order

      pieces_are : pieces after.starts.items after.bounds.items ≡ pieces r.starts.items r.bounds.items ++ starts_round es nexts (2 * n) count some back ∷ []
      pieces_are = rw (bounds_are, way.appended) (pieces-append r.starts.items (starts_round es nexts (2 * n) count some back) r.bounds.items t.bounds t.last)

      longer : length r.starts.items ≤ length after.starts.items
      longer = omega (arith, ap length way.appended, length-append r.starts.items (starts_round es nexts (2 * n) count some back))

      bounds_after : AreBounds after.starts.items after.bounds.items
      bounds_after = rw bounds_are (record {
        some = omega (arith, length-append r.bounds.items (length after.starts.items ∷ []));
        rise = λ k l. ⊎_elim
            (λ (b : k + 1 < length r.bounds.items).
            let h = t.bounds.rise k b in
            omega (arith, get_or_append_left r.bounds.items (length after.starts.items ∷ []) 0 k (omega arith), get_or_append_left r.bounds.items (length after.starts.items ∷ []) 0 (k + 1) b))
            (λ (m : length r.bounds.items ≤ k + 1).
            let e : length r.bounds.items ≡ k + 1 = omega (arith, length-append r.bounds.items (length after.starts.items ∷ [])) in
            let h = t.bounds.within k (omega arith) in
            omega (arith, longer, get_or_append_left r.bounds.items (length after.starts.items ∷ []) 0 k (omega arith), get_or_push r.bounds.items (length after.starts.items) 0 (k + 1) e))
            (cases_lt (k + 1) (length r.bounds.items));
        within = λ k l. ⊎_elim
            (λ (b : k < length r.bounds.items).
            let h = t.bounds.within k b in
            omega (arith, longer, get_or_append_left r.bounds.items (length after.starts.items ∷ []) 0 k b))
            (λ (m : length r.bounds.items ≤ k).
            let e : length r.bounds.items ≡ k = omega (arith, length-append r.bounds.items (length after.starts.items ∷ [])) in
            omega (arith, get_or_push r.bounds.items (length after.starts.items) 0 k e))
            (cases_lt k (length r.bounds.items));
        few = omega (arith, t.few, length-append r.bounds.items (length after.starts.items ∷ []));
      })

-- no face so far
pub AreTraced-start : (es : List Edge) (nexts : List ℕ) (sides : ℕ) (rounds : Rounds) → length nexts ≡ sides → IsStart sides rounds → AreTraced es nexts 0 rounds
AreTraced-start es nexts sides rounds count h =
    record {
      one_each = ap length h.done ∙ (length-replicate sides false ∙ sym count);
      closed = λ t t_in up. absurd (down t up);
      forward = λ e l. absurd (omega arith);
      bounds = rw (h.starts, h.bounds) (record { some = omega arith; rise = λ k l. absurd (omega arith); within = λ k l. at k l; few = omega arith });
      last = rw (h.starts, h.bounds) refl;
      few = rw h.bounds (omega arith);
      each = rw (h.starts, h.bounds) (λ k d l. absurd (omega arith));
      ascending = rw (h.starts, h.bounds) (λ i j d l j_in. absurd (omega arith));
      covered = λ t t_in up. absurd (down t up);
    }
  where
    down : (t : ℕ) → get_or rounds.done.items t false ≡ true → ⊥
    down t up = false≢true (sym (none sides t) ∙ subst (λ (bs : List Bool). get_or bs t false ≡ true) h.done up)
      where
        none : (n t : ℕ) → get_or (replicate n false) t false ≡ false
        none zero t = refl
        none (suc n) zero = refl
        none (suc n) (suc t) = none n t

    at : (k : ℕ) → k < 1 → slice_index (0 ∷ []) k ≤ 0
    at zero l = omega arith
    at (suc k) l = absurd (omega arith)

-- after all edges no side is left
pub all_done : (es : List Edge) (nexts : List ℕ) (rounds : Rounds) → AreFollowing es nexts → AreTraced es nexts (length es) rounds → (s : ℕ) → s < length nexts → get_or rounds.done.items s false ≡ true
all_done es nexts rounds f t s s_in =
    ⊎_elim (λ up. up)
    (λ down. let (e, e_in, e_down, low) = forward_below es nexts f rounds.done.items t.closed s s_in down in absurd (false≢true (sym e_down ∙ t.forward e e_in)))
    (cases_Bool (get_or rounds.done.items s false))
