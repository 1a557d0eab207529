-- How a tree grows, entry by entry.
use Rattle.std.proofs.Common.{◌≡◌, ◌⊎◌, ℕ, ◌+◌, ◌<◌, ◌≤◌, List, [], ◌∷◌, ◌++◌, length, get_or, slice_index_or, Contains, arith, inl, inr, ⊎_elim, refl, sym, ap, ◌∙◌, subst, length-append, pos}
use Rattle.std.proofs.lemmas.Bool.{cases_lt}
use Rattle.std.proofs.lemmas.Int.{ints}
use Rattle.std.proofs.lemmas.List.{get_or_append_left, get_or_push, get_or_default}
use Rattle.exact_predicates.specs.declared.point.Point.{Point}
use Rattle.exact_predicates.specs.PointSet.{point_at}
use Rattle.point_grid.specs.declared.frame.Frame.{Frame}
use Rattle.point_grid.specs.declared.spot.Entry.{Entry}
use Rattle.point_grid.specs.declared.spot.Entry.TheVariants.{Leaf, Fork}
use Rattle.point_grid.specs.declared.spot.Spot.{Spot}
use Rattle.point_grid.specs.Frames.{IsInFrame}
use Rattle.point_grid.specs.Numbered.{AreNumbered}
use Rattle.point_grid.specs.Tree.{HasLeaf, HasFork, AreFramed, AreSpotsOf, Grows}

-- the old entries are among the new ones
pub record Keeps (old new : List Entry) : Type 0 where
  pub longer : length old ≤ length new
  pub kept : (k : ℕ) (e : Entry) → k < length old → slice_index_or new k e ≡ slice_index_or old k e

module _ (old new : List Entry) (h : Keeps old new) where
  leaf_back : (k : ℕ) (s : Spot) → k < length old → HasLeaf new k s → HasLeaf old k s
  leaf_back k s l leaf = (l, sym (h.kept k (Leaf s) l) ∙ leaf.1)

  leaf_on : (k : ℕ) (s : Spot) → HasLeaf old k s → HasLeaf new k s
  leaf_on k s leaf = let l = h.longer in let m = leaf.0 in (omega arith, h.kept k (Leaf s) m ∙ leaf.1)

  fork_back : (k : ℕ) (f : Frame) (start : ℕ) → k < length old → HasFork new k f start → HasFork old k f start
  fork_back k f start l fork = (l, sym (h.kept k (Fork f start) l) ∙ fork.1)

Keeps-push : (old : List Entry) (e : Entry) → Keeps old (old ++ e ∷ [])
Keeps-push old e = record {
  longer = omega (arith, length-append old (e ∷ []));
  kept = λ k d l. get_or_append_left old (e ∷ []) d k l;
}

-- what the last entry is
last_leaf : (old : List Entry) (e : Entry) (k : ℕ) (s : Spot) → length old ≤ k → HasLeaf (old ++ e ∷ []) k s → (length old ≡ k) × (e ≡ Leaf s)
last_leaf old e k s past h =
    let l = h.0 in
    let same : length old ≡ k = omega (arith, length-append old (e ∷ [])) in
    (same, sym (get_or_push old e (Leaf s) k same) ∙ h.1)

last_fork : (old : List Entry) (e : Entry) (k : ℕ) (f : Frame) (start : ℕ) → length old ≤ k → HasFork (old ++ e ∷ []) k f start → (length old ≡ k) × (e ≡ Fork f start)
last_fork old e k f start past h =
    let l = h.0 in
    let same : length old ≡ k = omega (arith, length-append old (e ∷ [])) in
    (same, sym (get_or_push old e (Fork f start) k same) ∙ h.1)

-- a spot more
pub AreFramed-leaf : (old : List Entry) (s : Spot) → AreFramed old → AreFramed (old ++ Leaf s ∷ [])
AreFramed-leaf old s h = record {
  starts = λ k f start fork. ⊎_elim (λ l. h.starts k f start (before k f start l fork)) (λ l. absurd (none k f start l fork)) (cases_lt k (length old));
  framed = λ k f start i t fork a b leaf.
      ⊎_elim
      (λ l. h.framed k f start i t (before k f start l fork) a b (leaf_back old _ (Keeps-push old _) i t (omega arith) leaf))
      (λ l. absurd (none k f start l fork))
      (cases_lt k (length old));
}
  where
    before : (k : ℕ) (f : Frame) (start : ℕ) → k < length old → HasFork (old ++ Leaf s ∷ []) k f start → HasFork old k f start
    before k f start l fork = fork_back old _ (Keeps-push old _) k f start l fork

    none : (k : ℕ) (f : Frame) (start : ℕ) → length old ≤ k → HasFork (old ++ Leaf s ∷ []) k f start → ⊥
    none k f start l fork = let e = (last_fork old (Leaf s) k f start l fork).1 in cc

-- a frame more, which has the spots from its start on
AreFramed-fork : (old : List Entry) (f : Frame) (start : ℕ) → AreFramed old → start ≤ length old → ((i : ℕ) (s : Spot) → start ≤ i → HasLeaf old i s → IsInFrame f s.point)
    → AreFramed (old ++ Fork f start ∷ [])
AreFramed-fork old f start h low inside = record {
  starts = λ k g from fork.
      ⊎_elim
      (λ l. h.starts k g from (before k g from l fork))
      (λ l. let (same, e) = last_fork old (Fork f start) k g from l fork in let n : start ≡ from = cc in omega arith)
      (cases_lt k (length old));
  framed = λ k g from i t fork a b leaf.
      ⊎_elim
      (λ l. h.framed k g from i t (before k g from l fork) a b (leaf_back old _ (Keeps-push old _) i t (omega arith) leaf))
      (λ l. let (same, e) = last_fork old (Fork f start) k g from l fork in
      let n : start ≡ from = cc in
      let m : f ≡ g = cc in
      subst (λ (x : Frame). IsInFrame x t.point) m (inside i t (omega arith) (leaf_back old _ (Keeps-push old _) i t (omega arith) leaf)))
      (cases_lt k (length old));
}
  where
    before : (k : ℕ) (g : Frame) (from : ℕ) → k < length old → HasFork (old ++ Fork f start ∷ []) k g from → HasFork old k g from
    before k g from l fork = fork_back old _ (Keeps-push old _) k g from l fork

pub Grows-leaf : (es : List Entry) (s : Spot) → AreFramed es → Grows es (es ++ Leaf s ∷ []) (λ t. s ≡ t)
Grows-leaf es s h =
    let k = Keeps-push es (Leaf s) in record {
      longer = k.longer;
      kept = k.kept;
      framed = AreFramed-leaf es s h;
      each = λ i t l leaf. let e = (last_leaf es (Leaf s) i t l leaf).1 in cc;
      all = λ t e. (length es, omega arith, (omega (arith, length-append es (Leaf s ∷ [])), get_or_push es (Leaf s) (Leaf t) (length es) refl ∙ ap Leaf e));
    }

pub Grows-fork : (P : Spot → Type 0) (old es : List Entry) (f : Frame) (start : ℕ) → start ≡ length old → Grows old es P → ((s : Spot) → P s → IsInFrame f s.point) → Grows old (es ++ Fork f start ∷ []) P
Grows-fork P old es f start e h inside =
    let k = Keeps-push es (Fork f start) in
    let low = h.longer in
    let more = k.longer in
    record {
      longer = omega arith;
      kept = λ i e l. k.kept i e (omega arith) ∙ h.kept i e l;
      framed = AreFramed-fork es f start h.framed (omega arith) (λ i s l leaf. inside s (h.each i s (omega arith) leaf));
      each = λ i t l leaf.
          ⊎_elim
          (λ m. h.each i t l (leaf_back es _ k i t m leaf))
          (λ m. absurd (let e = (last_leaf es (Fork f start) i t m leaf).1 in cc))
          (cases_lt i (length es));
      all = λ t p. let (i, l, leaf) = h.all t p in (i, l, leaf_on es _ k i t leaf);
    }

pub Grows-trans : (P Q R : Spot → Type 0) (a b c : List Entry) → Grows a b P → Grows b c Q → ((s : Spot) → R s → P s ⊎ Q s) → ((s : Spot) → P s ⊎ Q s → R s) → Grows a c R
Grows-trans P Q R a b c h g there back =
    let low = h.longer in
    let more = g.longer in
    let k : Keeps b c = record { longer = more; kept = g.kept } in
    record {
      longer = omega arith;
      kept = λ i e l. g.kept i e (omega arith) ∙ h.kept i e l;
      framed = g.framed;
      each = λ i s l leaf.
          ⊎_elim
          (λ m. back s (inl (h.each i s l (leaf_back b c k i s m leaf))))
          (λ m. back s (inr (g.each i s m leaf)))
          (cases_lt i (length b));
      all = λ s r.
          ⊎_elim
          (λ p. let (i, l, leaf) = h.all s p in (i, l, leaf_on b c k i s leaf))
          (λ q. let (i, l, leaf) = g.all s q in (i, omega arith, leaf))
          (there s r);
    }

some : Spot
some = record { number = 0; point = record { id = 0; x = pos 0; y = pos 0 }; in_range = record { left = omega (arith, ints); right = omega (arith, ints); low = omega (arith, ints); high = omega (arith, ints) } }

-- a tree of the points with their numbers
pub AreSpotsOf-grown : (ps : List Point) (spots : List Spot) (es : List Entry) → AreNumbered ps spots → Grows [] es (Contains spots) → AreSpotsOf ps es
AreSpotsOf-grown ps spots es n g = record {
  each = λ k s leaf.
      let (i, i_in, at) = g.each k s (omega arith) leaf in
      let same : s.number ≡ i = ap (λ (t : Spot). t.number) (sym at) ∙ n.1.number i s i_in in
      let count = n.0 in
      (omega arith, ap (λ (t : Spot). t.point) (sym at) ∙ (n.1.point i s i_in ∙ ap (point_at ps) (sym same)));
  all = λ i l.
      let count = n.0 in
      let i_in : i < length spots = omega arith in
      let s = get_or spots i some in
      let (k, low, leaf) = g.all s (i, i_in, get_or_default spots i s some i_in) in
      (k, s, leaf, n.1.number i some i_in);
}

-- s is one of the first i spots
abbrev pub IsAmongFirst : List Spot → ℕ → Spot → Type 0
IsAmongFirst spots i s = (k : ℕ) × (k < i) × (slice_index_or spots k s ≡ s)

-- one spot of a list more
pub Grows-more : (old es : List Entry) (spots : List Spot) (i : ℕ) (s : Spot) → i < length spots → s ≡ get_or spots i s → Grows old es (IsAmongFirst spots i) → Grows old (es ++ Leaf s ∷ []) (IsAmongFirst spots (i + 1))
Grows-more old es spots i s i_in is h =
    Grows-trans (IsAmongFirst spots i) (λ t. s ≡ t) (IsAmongFirst spots (i + 1)) old es (es ++ Leaf s ∷ []) h (Grows-leaf es s h.framed)
    (λ t (k, l, at).
    ⊎_elim
    (λ m. inl (k, m, at))
    (λ m. let same : i ≡ k = omega arith in inr (is ∙ (get_or_default spots i s t i_in ∙ (ap (λ (j : ℕ). get_or spots j t) same ∙ at))))
    (cases_lt k i))
    (λ t c.
    ⊎_elim
    (λ (k, l, at). (k, omega arith, at))
    (λ e. (i, omega arith, sym (get_or_default spots i s t i_in) ∙ (sym is ∙ e)))
    c)
