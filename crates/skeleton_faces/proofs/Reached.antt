-- How far triangles reach, with one triangle more.
use Rattle.std.proofs.Common.{◌≡◌, ◌≢◌, ◌⊎◌, ℕ, zero, suc, ◌+◌, ◌-◌, ◌<◌, ◌≤◌, max, Bool, List, length, replicate, set, slice_index, AllPairs, get_or-set_other, get_or-set_same, refl, sym, ap, ◌∙◌, subst, inl, inr, ⊎_elim, arith}
use Rattle.std.proofs.lemmas.Bool.{cases_eq, cases_lt}
use Rattle.std.proofs.lemmas.List.{length-replicate, length-set}
use Rattle.exact_predicates.specs.Candidates.{EdgePrecedes}
use Rattle.lmt_network.specs.Network.{NetworkParts, tri_at}
use Rattle.lmt_network.specs.Numbers.{IsNumberOf}
use Rattle.lmt_network.proofs.TriangleSides.{number_once}
use Rattle.skeleton_faces.specs.declared.reaches.Reaches.{Reaches}
use Rattle.skeleton_faces.specs.Reaches.{AreReaches, IsGreatest, IsHead, IsLiveTri, IsPlaceOf, IsSpan, IsTail}

-- the greatest values of nothing
greatest_none : (P : ℕ → ℕ → Type 0) (table : List ℕ) (size : ℕ) → table ≡ replicate size 0 → ((key value : ℕ) → ¬ P key value) → IsGreatest P table
greatest_none P table size is none =
    record {
      most = λ key value h. absurd (none key value h);
      from = λ key some. let zero = ap (λ xs. slice_index xs key) is ∙ empty size key in absurd (omega arith);
    }
  where
    empty : (n key : ℕ) → slice_index (replicate n 0) key ≡ 0
    empty zero key = refl
    empty (suc n) zero = refl
    empty (suc n) (suc key) = empty n key

-- where nothing is added they stay
greatest_same : (P Q : ℕ → ℕ → Type 0) (table after : List ℕ) → IsGreatest P table → after ≡ table → ((key value : ℕ) → P key value → Q key value) → ((key value : ℕ) → Q key value → P key value) → IsGreatest Q after
greatest_same P Q table after h is wider back =
    subst (IsGreatest Q) (sym is)
    (record { most = λ key value q. h.most key value (back key value q); from = λ key some. wider key (slice_index table key) (h.from key some) })

-- and with one value more
greatest_more : (P Q : ℕ → ℕ → Type 0) (table after : List ℕ) (key value : ℕ) → IsGreatest P table → key < length table → after ≡ set table key (max (slice_index table key) value)
    → Q key value → ((k v : ℕ) → P k v → Q k v) → ((k v : ℕ) → Q k v → P k v ⊎ ((k ≡ key) × (v ≡ value))) → IsGreatest Q after
greatest_more P Q table after key value h key_in is here wider cases =
    subst (IsGreatest Q) (sym is)
    (record {
      most = λ k v q.
          ⊎_elim
          (λ (e : k ≡ key). let entry = at_key k e in
          ⊎_elim (λ p. let l = h.most k v p in let old = ap (slice_index table) e in omega arith) (λ new. let v_is = new.1 in omega arith) (cases k v q))
          (λ (ne : k ≢ key). let entry = elsewhere k ne in
          ⊎_elim (λ p. let l = h.most k v p in omega arith) (λ new. absurd (ne new.0)) (cases k v q))
          (cases_eq k key);
      from = λ k some.
          ⊎_elim
          (λ (e : k ≡ key). let entry = at_key k e in
          ⊎_elim
          (λ (l : slice_index table key < value). let v_is : value ≡ slice_index (set table key (max (slice_index table key) value)) k = omega arith in
          subst (λ (x : ℕ). Q x (slice_index (set table key (max (slice_index table key) value)) k)) (sym e) (subst (Q key) v_is here))
          (λ (m : value ≤ slice_index table key). let v_is : slice_index table key ≡ slice_index (set table key (max (slice_index table key) value)) k = omega arith in
          subst (λ (x : ℕ). Q x (slice_index (set table key (max (slice_index table key) value)) k)) (sym e) (subst (Q key) v_is (wider key (slice_index table key) (h.from key (omega arith)))))
          (cases_lt (slice_index table key) value))
          (λ (ne : k ≢ key). let entry = elsewhere k ne in
          subst (Q k) (sym entry) (wider k (slice_index table k) (h.from k (omega arith))))
          (cases_eq k key);
    })
  where
    at_key : (k : ℕ) → k ≡ key → slice_index (set table key (max (slice_index table key) value)) k ≡ max (slice_index table key) value
    at_key k e = ap (slice_index (set table key (max (slice_index table key) value))) e ∙ get_or-set_same table key (max (slice_index table key) value) 0 key_in

    elsewhere : (k : ℕ) → k ≢ key → slice_index (set table key (max (slice_index table key) value)) k ≡ slice_index table k
    elsewhere k ne = get_or-set_other table key k (max (slice_index table key) value) 0 ne

-- a number below m + 1 is below m, or m
up_to : {C : Type 0} (t m : ℕ) → t < m + 1 → (t < m → C) → (t ≡ m → C) → C
up_to t m l f g = ⊎_elim f (λ (k : m ≤ t). g (omega arith)) (cases_lt t m)

module _ (n : NetworkParts) (flags : List Bool) (places : List ℕ) (count m : ℕ) where
  span_wider : (i j : ℕ) → IsSpan n flags places m i j → IsSpan n flags places (m + 1) i j
  span_wider i j h = let l = h.t_in in record { t = h.t; t_in = omega arith; live = h.live; first = h.first; last = h.last }

  head_wider : (p i : ℕ) → IsHead n flags places m p i → IsHead n flags places (m + 1) p i
  head_wider p i h = let l = h.t_in in record { t = h.t; t_in = omega arith; live = h.live; corner = h.corner; between = h.between; last = h.last }

  tail_wider : (p x : ℕ) → IsTail n flags places count m p x → IsTail n flags places count (m + 1) p x
  tail_wider p x h = let l = h.t_in in record { t = h.t; t_in = omega arith; live = h.live; corner = h.corner; between = h.between; place = h.place; first = h.first; left_over = h.left_over }

  -- what the triangle m adds
  span_cases : (i j : ℕ) → IsSpan n flags places (m + 1) i j
      → IsSpan n flags places m i j ⊎ (IsLiveTri n flags m × IsPlaceOf n places (tri_at n m).a (tri_at n m).b i × IsPlaceOf n places (tri_at n m).c (tri_at n m).a j)
  span_cases i j h =
      up_to h.t m h.t_in
      (λ l. inl (record { t = h.t; t_in = l; live = h.live; first = h.first; last = h.last }))
      (λ e. inr (subst (λ (t : ℕ). IsLiveTri n flags t × IsPlaceOf n places (tri_at n t).a (tri_at n t).b i × IsPlaceOf n places (tri_at n t).c (tri_at n t).a j) e (h.live, h.first, h.last)))

  head_cases : (p i : ℕ) → IsHead n flags places (m + 1) p i
      → IsHead n flags places m p i ⊎ (IsLiveTri n flags m × ((tri_at n m).c ≡ p) × ((tri_at n m).c < (tri_at n m).b) × IsPlaceOf n places (tri_at n m).b (tri_at n m).c i)
  head_cases p i h =
      up_to h.t m h.t_in
      (λ l. inl (record { t = h.t; t_in = l; live = h.live; corner = h.corner; between = h.between; last = h.last }))
      (λ e. inr (subst (λ (t : ℕ). IsLiveTri n flags t × ((tri_at n t).c ≡ p) × ((tri_at n t).c < (tri_at n t).b) × IsPlaceOf n places (tri_at n t).b (tri_at n t).c i) e (h.live, h.corner, h.between, h.last)))

  tail_cases : (p x : ℕ) → IsTail n flags places count (m + 1) p x
      → IsTail n flags places count m p x
      ⊎ (IsLiveTri n flags m × ((tri_at n m).b ≡ p) × ((tri_at n m).b < (tri_at n m).c) × ((i : ℕ) × IsPlaceOf n places (tri_at n m).b (tri_at n m).c i × (x ≡ count - i)))
  tail_cases p x h =
      up_to h.t m h.t_in
      (λ l. inl (record { t = h.t; t_in = l; live = h.live; corner = h.corner; between = h.between; place = h.place; first = h.first; left_over = h.left_over }))
      (λ e. inr (subst (λ (t : ℕ). IsLiveTri n flags t × ((tri_at n t).b ≡ p) × ((tri_at n t).b < (tri_at n t).c) × ((i : ℕ) × IsPlaceOf n places (tri_at n t).b (tri_at n t).c i × (x ≡ count - i))) e
      (h.live, h.corner, h.between, (h.place, h.first, h.left_over))))

  -- a triangle that is not live reaches nowhere
  pub reaches_dead : (r : Reaches) → AreReaches n flags places count m r → ¬ IsLiveTri n flags m → AreReaches n flags places count (m + 1) r
  reaches_dead r h dead =
      record {
        spans_each = h.spans_each;
        heads_each = h.heads_each;
        tails_each = h.tails_each;
        spans = greatest_same (IsSpan n flags places m) (IsSpan n flags places (m + 1)) r.spans.items r.spans.items h.spans refl span_wider
            (λ i j s. ⊎_elim (λ old. old) (λ new. absurd (dead new.0)) (span_cases i j s));
        heads = greatest_same (IsHead n flags places m) (IsHead n flags places (m + 1)) r.heads.items r.heads.items h.heads refl head_wider
            (λ p i s. ⊎_elim (λ old. old) (λ new. absurd (dead new.0)) (head_cases p i s));
        tails = greatest_same (IsTail n flags places count m) (IsTail n flags places count (m + 1)) r.tails.items r.tails.items h.tails refl tail_wider
            (λ p x s. ⊎_elim (λ old. old) (λ new. absurd (dead new.0)) (tail_cases p x s));
      }

  module _ (ascending : AllPairs EdgePrecedes n.edges) (r after : Reaches) (h : AreReaches n flags places count m r) (live : IsLiveTri n flags m)
      (ab bc ca : ℕ) (ab_is : IsNumberOf n (tri_at n m).a (tri_at n m).b ab) (bc_is : IsNumberOf n (tri_at n m).b (tri_at n m).c bc) (ca_is : IsNumberOf n (tri_at n m).c (tri_at n m).a ca)
      (ab_in : slice_index places ab < count)
      (spans_are : after.spans.items ≡ set r.spans.items (slice_index places ab) (max (slice_index r.spans.items (slice_index places ab)) (slice_index places ca))) where
    -- the place of an edge is that of its number
    place_is : (u v f i : ℕ) → IsNumberOf n u v f → IsPlaceOf n places u v i → i ≡ slice_index places f
    place_is u v f i f_is (g, g_is, at) = sym at ∙ ap (slice_index places) (number_once n u v g f ascending g_is f_is)

    spans_more : IsGreatest (IsSpan n flags places (m + 1)) after.spans.items
    spans_more =
        greatest_more (IsSpan n flags places m) (IsSpan n flags places (m + 1)) r.spans.items after.spans.items (slice_index places ab) (slice_index places ca) h.spans
        (omega (arith, h.spans_each)) spans_are
        (record { t = m; t_in = omega arith; live = live; first = (ab, ab_is, refl); last = (ca, ca_is, refl) })
        span_wider
        (λ i j s. ⊎_elim (λ old. inl old) (λ new. inr (place_is _ _ ab i ab_is new.1, place_is _ _ ca j ca_is new.2)) (span_cases i j s))

    spans_kept : length after.spans.items ≡ count
    spans_kept = ap length spans_are ∙ (length-set r.spans.items (slice_index places ab) (max (slice_index r.spans.items (slice_index places ab)) (slice_index places ca)) ∙ h.spans_each)

    -- a live triangle with its greatest corner last
    pub reaches_tail : (tri_at n m).b < (tri_at n m).c → (tri_at n m).b < length n.points → after.heads.items ≡ r.heads.items
        → after.tails.items ≡ set r.tails.items (tri_at n m).b (max (slice_index r.tails.items (tri_at n m).b) (count - slice_index places bc)) → AreReaches n flags places count (m + 1) after
    reaches_tail up b_in heads_are tails_are =
        record {
          spans_each = spans_kept;
          heads_each = ap length heads_are ∙ h.heads_each;
          tails_each = ap length tails_are ∙ (length-set r.tails.items (tri_at n m).b (max (slice_index r.tails.items (tri_at n m).b) (count - slice_index places bc)) ∙ h.tails_each);
          spans = spans_more;
          heads = greatest_same (IsHead n flags places m) (IsHead n flags places (m + 1)) r.heads.items after.heads.items h.heads heads_are head_wider
              (λ p i s. ⊎_elim (λ old. old) (λ new. let down = new.2 in absurd (omega arith)) (head_cases p i s));
          tails = greatest_more (IsTail n flags places count m) (IsTail n flags places count (m + 1)) r.tails.items after.tails.items (tri_at n m).b (count - slice_index places bc) h.tails
              (omega (arith, h.tails_each)) tails_are
              (record { t = m; t_in = omega arith; live = live; corner = refl; between = up; place = slice_index places bc; first = (bc, bc_is, refl); left_over = refl })
              tail_wider
              (λ p x s. ⊎_elim (λ old. inl old) (λ (alive, corner, between, (i, place, left)). inr (sym corner, left ∙ ap (λ (y : ℕ). count - y) (place_is _ _ bc i bc_is place))) (tail_cases p x s));
        }

    -- and one with its greatest corner second
    pub reaches_head : (tri_at n m).c < (tri_at n m).b → (tri_at n m).c < length n.points → after.tails.items ≡ r.tails.items
        → after.heads.items ≡ set r.heads.items (tri_at n m).c (max (slice_index r.heads.items (tri_at n m).c) (slice_index places bc)) → AreReaches n flags places count (m + 1) after
    reaches_head down c_in tails_are heads_are =
        record {
          spans_each = spans_kept;
          heads_each = ap length heads_are ∙ (length-set r.heads.items (tri_at n m).c (max (slice_index r.heads.items (tri_at n m).c) (slice_index places bc)) ∙ h.heads_each);
          tails_each = ap length tails_are ∙ h.tails_each;
          spans = spans_more;
          heads = greatest_more (IsHead n flags places m) (IsHead n flags places (m + 1)) r.heads.items after.heads.items (tri_at n m).c (slice_index places bc) h.heads
              (omega (arith, h.heads_each)) heads_are
              (record { t = m; t_in = omega arith; live = live; corner = refl; between = down; last = (bc, bc_is, refl) })
              head_wider
              (λ p i s. ⊎_elim (λ old. inl old) (λ (alive, corner, between, place). inr (sym corner, place_is _ _ bc i bc_is place)) (head_cases p i s));
          tails = greatest_same (IsTail n flags places count m) (IsTail n flags places count (m + 1)) r.tails.items after.tails.items h.tails tails_are tail_wider
              (λ p x s. ⊎_elim (λ old. old) (λ new. let up = new.2 in absurd (omega arith)) (tail_cases p x s));
        }

-- no triangle reaches anywhere at first
pub reaches_none : (n : NetworkParts) (flags : List Bool) (places : List ℕ) (count : ℕ) (r : Reaches) → r.spans.items ≡ replicate count 0 → r.heads.items ≡ replicate (length n.points) 0 → r.tails.items ≡ replicate (length n.points) 0
    → AreReaches n flags places count 0 r
reaches_none n flags places count r spans_are heads_are tails_are =
    record {
      spans_each = ap length spans_are ∙ length-replicate count 0;
      heads_each = ap length heads_are ∙ length-replicate (length n.points) 0;
      tails_each = ap length tails_are ∙ length-replicate (length n.points) 0;
      spans = greatest_none (IsSpan n flags places 0) r.spans.items count spans_are (λ i j s. let l = s.t_in in omega arith);
      heads = greatest_none (IsHead n flags places 0) r.heads.items (length n.points) heads_are (λ p i s. let l = s.t_in in omega arith);
      tails = greatest_none (IsTail n flags places count 0) r.tails.items (length n.points) tails_are (λ p x s. let l = s.t_in in omega arith);
    }
