-- The points of a window, gathered from a tree, entry by entry from the last one on.
use Rattle.std.proofs.Common.{◌≡◌, ◌≢◌, ◌⊎◌, ℕ, ◌+◌, ◌-◌, ◌<◌, ◌≤◌, pos, ◌<ℤ◌, ◌≤ℤ◌, eqb, nat_cmp, List, [], ◌∷◌, ◌++◌, length, All, AllPairs, Contains, ⊎_elim, arith, refl, sym, ap, subst, ◌∙◌}
use Rattle.std.proofs.lemmas.Bool.{cases_lt}
use Rattle.std.proofs.lemmas.Int.{ints}
use Rattle.std.proofs.lemmas.List.Elements.{All-contains, All-contains_itself, All-push, All-weaker, Contains-append_left, Contains-push}
use Rattle.std.proofs.lemmas.List.Kept.{AllPairs-from_increasing, Contains-dedup_nat, Contains-from_dedup}
use Rattle.std.proofs.lemmas.List.Sorted.{Contains-permutation, IsPermutation-sym}
use Rattle.std.proofs.lemmas.Map.Keys.{IsStrictlyIncreasing-dedup}
use Rattle.std.specs.List.{dedup}
use Rattle.std.specs.List.Sorted.{IsPermutation, IsSorted}
use Rattle.exact_predicates.specs.declared.point.Point.{Point}
use Rattle.exact_predicates.specs.PointSet.{IsPointSet, point_at}
use Rattle.exact_predicates.proofs.Numbers.{IsOrdered-points}
use Rattle.point_grid.specs.declared.frame.Frame.{Frame}
use Rattle.point_grid.specs.declared.spot.Entry.{Entry}
use Rattle.point_grid.specs.declared.spot.Spot.{Spot}
use Rattle.point_grid.specs.declared.window.Window.{Window}
use Rattle.point_grid.specs.Frames.{IsInFrame}
use Rattle.point_grid.specs.Gathered.{AreGathered, HasSpot, IsNumberIn}
use Rattle.point_grid.specs.Tree.{HasLeaf, HasFork, AreFramed, AreSpotsOf}
use Rattle.point_grid.specs.Windows.{IsIn, AreAllIn}
use Rattle.point_grid.proofs.Entries.{leaf_or_fork, same_leaf}

module _ (es : List Entry) (w : Window) where
  -- at first, after all entries
  pub AreGathered-none : AreGathered es w (length es) []
  AreGathered-none = record { each = λ k d l. absurd (omega arith); all = λ k s l leaf h. let m = leaf.0 in absurd (omega arith) }

  -- entries with no spot of the window
  pub AreGathered-skip : (next end : ℕ) (rs : List ℕ) → ((k : ℕ) (s : Spot) → next ≤ k → k < end → HasLeaf es k s → ¬ HasSpot w s) → AreGathered es w end rs → AreGathered es w next rs
  AreGathered-skip next end rs none h = record {
    each = h.each;
    all = λ k s l leaf has. ⊎_elim (λ m. absurd (none k s l m leaf has)) (λ m. h.all k s m leaf has) (cases_lt k end);
  }

  -- a spot of the window
  pub AreGathered-push : (next end : ℕ) (rs : List ℕ) (s : Spot) → next + 1 ≡ end → HasLeaf es next s → HasSpot w s → AreGathered es w end rs → AreGathered es w next (rs ++ s.number ∷ [])
  AreGathered-push next end rs s e leaf has h = record {
    each = All-push (IsNumberIn es w) rs s.number h.each (next, s, leaf, has, refl);
    all = λ k t l other inside.
        ⊎_elim
        (λ m. let same : k ≡ next = omega arith in
        let is = same_leaf es next s t leaf (subst (λ (i : ℕ). HasLeaf es i t) same other) in
        subst (Contains (rs ++ s.number ∷ [])) (ap (λ (x : Spot). x.number) is) (Contains-push rs s.number))
        (λ m. Contains-append_left rs (s.number ∷ []) t.number (h.all k t m other inside))
        (cases_lt k end);
  }

  -- the spot at an entry is none of the window
  pub not_at_leaf : (next : ℕ) (s : Spot) → HasLeaf es next s → (¬ HasSpot w s) → (k : ℕ) (t : Spot) → next ≤ k → k < next + 1 → HasLeaf es k t → ¬ HasSpot w t
  not_at_leaf next s leaf none k t low high other has =
      let same : k ≡ next = omega arith in
      let is = same_leaf es next s t leaf (subst (λ (i : ℕ). HasLeaf es i t) same other) in
      none (subst (HasSpot w) (sym is) has)

  -- the frame at an entry is no spot
  pub not_at_fork : (next : ℕ) (f : Frame) (start : ℕ) → HasFork es next f start → (k : ℕ) (t : Spot) → next ≤ k → k < next + 1 → HasLeaf es k t → ¬ HasSpot w t
  not_at_fork next f start fork k t low high other has =
      let same : k ≡ next = omega arith in
      leaf_or_fork es next t f start (subst (λ (i : ℕ). HasLeaf es i t) same other) fork

  -- and where it does not meet the window, none of its spots is of the window
  pub not_in_fork : (next : ℕ) (f : Frame) (start : ℕ) → AreFramed es → HasFork es next f start → ((k : ℕ) (s : Spot) → HasLeaf es k s → IsInFrame f s.point → ¬ HasSpot w s) → (k : ℕ) (t : Spot) → start ≤ k → k < next + 1 → HasLeaf es k t → ¬ HasSpot w t
  not_in_fork next f start framed fork none k t low high other has =
      ⊎_elim
      (λ l. none k t other (framed.framed next f start k t fork low l other) has)
      (λ l. not_at_fork next f start fork k t l high other has)
      (cases_lt k next)

module _ (ps : List Point) (es : List Entry) (w : Window) (v : IsPointSet ps) (spots : AreSpotsOf ps es) (w_in : w.to ≤ length ps) where
  x_rises : (i j : ℕ) → i ≤ j → j < length ps → (point_at ps i).x ≤ℤ (point_at ps j).x
  x_rises i j l j_in =
      let o = IsOrdered-points ps v in
      ⊎_elim
      (λ m. ⊎_elim (λ h. omega (arith, ints)) (λ h. let h0 = h.0 in omega (arith, ints)) (o.rising i j m j_in))
      (λ m. let e : j ≡ i = omega arith in subst (λ (x : ℕ). (point_at ps i).x ≤ℤ (point_at ps x).x) (sym e) (omega (arith, ints)))
      (cases_lt i j)

  -- the first and the last point of the window stand in its outer columns
  pub AreColumns-ends : (k : ℕ) (s : Spot) → HasLeaf es k s → HasSpot w s → ((point_at ps w.from).x ≤ℤ s.point.x) × (s.point.x ≤ℤ (point_at ps (w.to - 1)).x)
  AreColumns-ends k s leaf has =
      let at = (spots.each k s leaf).1 in
      let from = has.from in
      let to = has.to in
      (rw at (x_rises w.from s.number from (omega arith)), rw at (x_rises s.number (w.to - 1) (omega arith) (omega arith)))

  in_window : (r : ℕ) → IsNumberIn es w r → IsIn ps w r
  in_window r (k, s, leaf, has, is) =
      let at = (spots.each k s leaf).1 in
      subst (IsIn ps w) is (record { from = has.from; to = has.to; low = rw at at has.low; high = rw at at has.high })

  -- all of them are gathered, and sorted to leave out what is there twice
  pub AreAllIn-gathered : (found sorted rs : List ℕ) → AreGathered es w 0 found → IsPermutation found sorted → IsSorted nat_cmp sorted → rs ≡ dedup eqb sorted → AreAllIn ps w rs
  AreAllIn-gathered found sorted rs h moved order is =
      subst (AreAllIn ps w) (sym is)
      (record {
        each = All-weaker (Contains (dedup eqb sorted)) (IsIn ps w)
            (λ r c. in_window r (All-contains (IsNumberIn es w) found r h.each (Contains-permutation sorted found r (IsPermutation-sym found sorted moved) (Contains-from_dedup eqb sorted r c))))
            (dedup eqb sorted) (All-contains_itself (dedup eqb sorted));
        all = λ r i.
            let to = i.to in
            let (k, s, leaf, same) = spots.all r (omega arith) in
            let at = (spots.each k s leaf).1 ∙ ap (point_at ps) same in
            let has : HasSpot w s = record { from = rw same i.from; to = rw same i.to; low = rw at i.low; high = rw at i.high } in
            Contains-dedup_nat sorted r (Contains-permutation found sorted r moved (subst (Contains found) same (h.all k s (omega arith) leaf has)));
        distinct = λ i j d l m e. let up = AllPairs-from_increasing _ (IsStrictlyIncreasing-dedup sorted order) i j d l m in omega arith;
      })

  -- an empty window
  pub AreAllIn-empty : w.to ≤ w.from → AreAllIn ps w []
  AreAllIn-empty none = record {
    each = λ k d l. absurd (omega arith);
    all = λ r i. let from = i.from in let to = i.to in absurd (omega arith);
    distinct = λ i j d l m. absurd (omega arith);
  }
