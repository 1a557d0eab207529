-- What a place sees next: it is ahead of the last one that it sees, and seen from there.
use Rattle.std.proofs.Common.{◌≡◌, ℕ, zero, suc, ◌+◌, ◌<◌, ◌≤◌, pos, ◌≤ℤ◌, ◌<ℤ◌, Some, None, Vec, Global, List, [], ◌∷◌, ◌++◌, length, slice_index, get_or, All, AllPairs, Contains, ⊎_elim, arith, sym, ap, ◌∙◌, subst, length-append}
use Rattle.std.proofs.lemmas.Bool.{cases_lt, cases_order}
use Rattle.std.proofs.lemmas.Int.{ints, by_lt_z}
use Rattle.std.proofs.lemmas.List.{get_or_default, get_or_append_left, get_or_push}
use Rattle.std.proofs.lemmas.List.Elements.{All-push, Contains-push, Contains-append_left}
use Rattle.std.proofs.lemmas.List.Quantifiers.{all_pairs_push}
use Rattle.exact_predicates.specs.declared.point.Point.{Point}
use Rattle.exact_predicates.specs.Plane.{orient}
use Rattle.exact_predicates.specs.PointSet.{point_at}
use Rattle.exact_predicates.proofs.HalfPlane.{left_turn_strict}
use Rattle.exact_predicates.proofs.Orientation.{orient_swapped_last}
use Rattle.empty_triangles.specs.Rays.{AreTurning, IsAhead, IsSeen, AreSeen, AreLists, IsNext}
use Rattle.empty_triangles.proofs.HalfTurns.{ahead_rises, ahead_back, ahead_through}

-- what holds of each number from `from` to before k, where it holds of all greater ones
downward : (Q : ℕ → Type 0) (from k : ℕ) → ((m : ℕ) → from ≤ m → m < k → ((x : ℕ) → m < x → x < k → Q x) → Q m) → (n m : ℕ) → from ≤ m → m < k → k ≤ m + n → Q m
downward Q from k step zero m l below near = absurd (omega arith)
downward Q from k step (suc n) m l below near = step m l below (λ x up x_in. downward Q from k step n x (omega arith) x_in (omega arith))

-- the places that j sees, as far as those behind k, which it sees too
pub record AreSeenTo (ps : List Point) (heads : List ℕ) (j k : ℕ) (found : List ℕ) : Type 0 where
  pub here : IsSeen ps heads k j
  pub each : All (λ i. IsSeen ps heads i j) found
  pub all : (i : ℕ) → k < i → IsSeen ps heads i j → Contains found i
  pub after : All (λ i. k < i) found
  pub falling : AllPairs (λ x y. y < x) found

module _ (ps : List Point) (a : ℕ) (heads : List ℕ) (t : AreTurning ps a heads) where
  abbrev P : ℕ → Point
  P k = point_at ps (slice_index heads k)

  turns : (i j : ℕ) → i < j → j < length heads → pos 0 <ℤ orient (point_at ps a) (P j) (P i)
  turns i j l j_in = t.turning i j 0 l j_in

  -- of the places that k sees, those ahead of k, seen from j, come last
  pub ahead_last : (j k x y : ℕ) → j < length heads → k < j → IsSeen ps heads x k → IsSeen ps heads y k → y < x → IsAhead ps heads j k x → IsAhead ps heads j k y
  ahead_last j k x y j_in k_j hx hy l ahead =
      let x_k = hx.before in
      let y_k = hy.before in
      ahead_rises (point_at ps a) (P j) (P k) (P x) (P y) (turns k j k_j j_in) (turns x k x_k (omega arith)) (turns y k y_k (omega arith)) ahead (hy.past x l x_k)

  -- what k sees and is ahead of it, is seen
  seen_through : (j k i : ℕ) → j < length heads → IsSeen ps heads k j → IsSeen ps heads i k → IsAhead ps heads j k i → IsSeen ps heads i j
  seen_through j k i j_in hk hi ahead =
      let k_j = hk.before in
      let i_k = hi.before in
      record {
        before = omega arith;
        past = λ m up m_in.
            ⊎_elim
            (λ e. subst (λ (x : ℕ). IsAhead ps heads j x i) (sym e) ahead)
            (λ c. ⊎_elim
            (λ below. ahead_through (point_at ps a) (P i) (P j) (P k) (P m) (turns i j (omega arith) j_in) (turns i k i_k (omega arith)) (turns i m up (omega arith)) ahead (hi.past m up below))
            (λ above. let next = hk.past m above m_in in
            left_turn_strict (point_at ps a) (P j) (P m) (P k) (P i) (turns m j m_in j_in) (turns k j k_j j_in) (turns i j (omega arith) j_in) (omega (arith, ints, next)) ahead)
            c)
            (cases_order m k);
      }

  -- the next one that is ahead is seen by k
  seen_back : (j k m : ℕ) → j < length heads → k < j → m < k → IsAhead ps heads j k m → ((x : ℕ) → m < x → x < k → ¬ IsAhead ps heads j k x) → IsSeen ps heads m k
  seen_back j k m j_in k_j m_k ahead none = record {
    before = m_k;
    past = λ x up x_in.
        let behind = by_lt_z (pos 0) (orient (P j) (P k) (P x)) (λ l. absurd (none x up x_in l)) (λ l. l) in
        ahead_back (point_at ps a) (P j) (P k) (P x) (P m) (turns k j k_j j_in) (turns x k x_in (omega arith)) (turns m k m_k (omega arith)) behind ahead;
  }

  -- none is ahead where none is that k sees
  none_ahead : (j k from : ℕ) → j < length heads → k < j → ((m : ℕ) → from ≤ m → IsSeen ps heads m k → ¬ IsAhead ps heads j k m) → (m : ℕ) → from ≤ m → m < k → ¬ IsAhead ps heads j k m
  none_ahead j k from j_in k_j none m l m_k =
      downward (λ x. ¬ IsAhead ps heads j k x) from k
      (λ x x_from x_k later ahead. none x x_from (seen_back j k x j_in k_j x_k ahead later) ahead)
      k m l m_k (omega arith)

  not_seen : (j k m : ℕ) → k < j → m < k → (¬ IsAhead ps heads j k m) → ¬ IsSeen ps heads m j
  not_seen j k m k_j m_k no_ h = no_ (h.past k m_k k_j)

  -- the next one that is ahead of the last one that j sees, is seen; all between are behind
  pub seen_after : (j k i : ℕ) → j < length heads → IsSeen ps heads k j → i < k → IsAhead ps heads j k i → ((x : ℕ) → i < x → x < k → ¬ IsAhead ps heads j k x) → IsSeen ps heads i j
  seen_after j k i j_in hk i_k ahead none =
      let k_j = hk.before in
      record {
        before = omega arith;
        past = λ m up m_in.
            let onward : pos 0 ≤ℤ orient (P j) (P m) (P k) → IsAhead ps heads j m i =
            λ l. left_turn_strict (point_at ps a) (P j) (P m) (P k) (P i) (turns m j m_in j_in) (turns k j k_j j_in) (turns i j (omega arith) j_in) l ahead in
            ⊎_elim
            (λ e. subst (λ (x : ℕ). IsAhead ps heads j x i) (sym e) ahead)
            (λ c. ⊎_elim
            (λ below. let behind = by_lt_z (pos 0) (orient (P j) (P k) (P m)) (λ l. absurd (none m up below l)) (λ l. l) in onward (omega (arith, ints, behind, orient_swapped_last (P j) (P k) (P m))))
            (λ above. let next = hk.past m above m_in in onward (omega (arith, ints, next)))
            c)
            (cases_order m k);
      }

  module _ (j k : ℕ) (places : List ℕ) (at : ℕ) (j_in : j < length heads) (hk : IsSeen ps heads k j) (p : AreSeen ps heads k places)
      (before : (s : ℕ) → s < at → ¬ IsAhead ps heads j k (slice_index places s)) (after : (s : ℕ) → at ≤ s → s < length places → IsAhead ps heads j k (slice_index places s)) where
    -- the first of them that is ahead comes next
    pub IsNext-some : (i : ℕ) → at < length places → i ≡ slice_index places at → IsNext ps heads j k (Some i)
    IsNext-some i at_in is =
        let k_j = hk.before in
        let hi = p.each at 0 at_in in
        let ahead = after at (omega arith) at_in in
        rw is (
          hi.before,
          seen_through j k (slice_index places at) j_in hk hi ahead,
          λ m up m_k. not_seen j k m k_j m_k (none_ahead j k (slice_index places at + 1) j_in k_j
              (λ x l seen ah. let (s, s_in, at_s) = p.all x seen in
              let here : slice_index places s ≡ x = get_or_default places s 0 x s_in ∙ at_s in
              ⊎_elim
              (λ e. omega (arith, ap (slice_index places) e))
              (λ c. ⊎_elim
              (λ b. before s b (subst (λ (y : ℕ). IsAhead ps heads j k y) (sym here) ah))
              (λ b. let f = p.falling at s 0 b s_in in omega arith)
              c)
              (cases_order s at))
              m (omega arith) m_k),
        )

    pub IsNext-none : length places ≤ at → IsNext ps heads j k None
    IsNext-none past m m_k =
        let k_j = hk.before in
        not_seen j k m k_j m_k (none_ahead j k 0 j_in k_j
        (λ x l seen ah. let (s, s_in, at_s) = p.all x seen in
        let here : slice_index places s ≡ x = get_or_default places s 0 x s_in ∙ at_s in
        before s (omega arith) (subst (λ (y : ℕ). IsAhead ps heads j k y) (sym here) ah))
        m (omega arith) m_k)

-- k is found, and what comes next
module _ (ps : List Point) (heads : List ℕ) (j k : ℕ) (found : List ℕ) (h : AreSeenTo ps heads j k found) where
  each_more : All (λ i. IsSeen ps heads i j) (found ++ k ∷ [])
  each_more = All-push (λ i. IsSeen ps heads i j) found k h.each h.here

  falls : AllPairs (λ x y. y < x) (found ++ k ∷ [])
  falls = all_pairs_push (λ x y. y < x) found k h.falling (λ s d l. h.after s d l)

  all_more : (i : ℕ) → k ≤ i → IsSeen ps heads i j → Contains (found ++ k ∷ []) i
  all_more i l seen =
      ⊎_elim
      (λ m. Contains-append_left found (k ∷ []) i (h.all i m seen))
      (λ m. let e : k ≡ i = omega arith in subst (λ (x : ℕ). Contains (found ++ k ∷ []) x) e (Contains-push found k))
      (cases_lt k i)

  pub AreSeenTo-next : (i : ℕ) → IsNext ps heads j k (Some i) → AreSeenTo ps heads j i (found ++ k ∷ [])
  AreSeenTo-next i (l, here, none) = record {
    here = here;
    each = each_more;
    all = λ m up seen. ⊎_elim (λ below. absurd (none m up below seen)) (λ n. all_more m n seen) (cases_lt m k);
    after = All-push (λ m. i < m) found k (λ s d s_in. let n = h.after s d s_in in omega arith) l;
    falling = falls;
  }

  pub AreSeen-last : IsNext ps heads j k None → AreSeen ps heads j (found ++ k ∷ [])
  AreSeen-last none = record {
    each = each_more;
    all = λ m seen. ⊎_elim (λ below. absurd (none m below seen)) (λ n. all_more m n seen) (cases_lt m k);
    falling = falls;
  }

-- the list of a place
pub AreSeen-listed : (ps : List Point) (heads : List ℕ) (n k : ℕ) (seen : List (Vec ℕ Global)) (one : Vec ℕ Global) → AreLists ps heads n seen → k < n → one ≡ get_or seen k one → AreSeen ps heads k one.items
AreSeen-listed ps heads n k seen one h l at = subst (λ (x : Vec ℕ Global). AreSeen ps heads k x.items) (sym at) (h.each k one l)

-- one more list
pub AreLists-push : (ps : List Point) (heads : List ℕ) (j : ℕ) (seen : List (Vec ℕ Global)) (one : Vec ℕ Global) → AreLists ps heads j seen → AreSeen ps heads j one.items → AreLists ps heads (j + 1) (seen ++ one ∷ [])
AreLists-push ps heads j seen one h new = record {
  count = omega (arith, h.count, length-append seen (one ∷ []));
  each = λ k d l.
      let n = h.count in
      ⊎_elim
      (λ m. subst (λ (x : Vec ℕ Global). AreSeen ps heads k x.items) (sym (get_or_append_left seen (one ∷ []) d k (omega arith))) (h.each k d m))
      (λ m. let e : length seen ≡ k = omega arith in
      subst (λ (x : Vec ℕ Global). AreSeen ps heads k x.items) (sym (get_or_push seen one d k e)) (let same : j ≡ k = omega arith in subst (λ (x : ℕ). AreSeen ps heads x one.items) same new))
      (cases_lt k j);
}
