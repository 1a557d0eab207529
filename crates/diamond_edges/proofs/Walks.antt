-- What a walk through the tree adds to a row.
use Rattle.std.proofs.Common.{◌≡◌, ℕ, ◌+◌, ◌<◌, ◌≤◌, nat_cmp, eqb, List, [], ◌∷◌, ◌++◌, length, get_or, Contains, arith, inl, inr, ⊎_elim, sym, ap, ◌∙◌, subst}
use Rattle.std.proofs.lemmas.Bool.{cases_lt}
use Rattle.std.proofs.lemmas.List.{get_or_default}
use Rattle.std.proofs.lemmas.List.Elements.{All-contains_itself, All-weaker, Contains-append_left, Contains-push, Contains-push_cases}
use Rattle.std.proofs.lemmas.List.Kept.{AllPairs-from_increasing, Contains-dedup_nat, Contains-from_dedup}
use Rattle.std.proofs.lemmas.List.Sorted.{Contains-permutation, IsPermutation-sym}
use Rattle.std.proofs.lemmas.Map.Keys.{IsStrictlyIncreasing-dedup}
use Rattle.std.specs.List.{dedup}
use Rattle.std.specs.List.Sorted.{IsPermutation, IsSorted}
use Rattle.exact_predicates.specs.declared.diamond.Diamond.TheVariants.{On}
use Rattle.exact_predicates.specs.declared.point.Point.{Point}
use Rattle.exact_predicates.specs.Blocking.{Blocks}
use Rattle.exact_predicates.specs.PointSet.{point_at}
use Rattle.point_grid.specs.declared.frame.Frame.{Frame}
use Rattle.point_grid.specs.declared.spot.Entry.{Entry}
use Rattle.point_grid.specs.declared.spot.Entry.TheVariants.{Leaf, Fork}
use Rattle.point_grid.specs.declared.spot.Spot.{Spot}
use Rattle.point_grid.specs.Blockers.{HasNoBlocker}
use Rattle.point_grid.specs.Tree.{HasLeaf, HasFork, AreSpotsOf}
use Rattle.point_grid.proofs.Entries.{same_leaf}
use Rattle.diamond_edges.specs.Rows.{IsClear, IsNext, IsRow, Adds}

-- where no spot blocks, no point does
pub clear_from : (ps : List Point) (es : List Entry) (p q : Point) → AreSpotsOf ps es → HasNoBlocker es p q → IsClear ps p q
clear_from ps es p q t none r r_in b =
    let (k, s, leaf, same) = t.all r r_in in
    none k s leaf (subst (Blocks p q) (sym ((t.each k s leaf).1 ∙ ap (point_at ps) same)) b)

module _ (ps : List Point) (a : ℕ) (es : List Entry) where
  -- where there is none to add
  pub Adds-none : (lo hi : ℕ) (row : List ℕ) → ((k : ℕ) (s : Spot) → lo ≤ k → k < hi → HasLeaf es k s → ¬ IsNext On ps a s.number) → Adds ps a es lo hi row row
  Adds-none lo hi row none = record {
    kept = λ b c. c;
    only = λ b c. inl c;
    found = λ k s l m leaf n. absurd (none k s l m leaf n);
  }

  -- the first part and then the second
  pub Adds-parts : (lo mid hi : ℕ) (r0 r1 r2 : List ℕ) → Adds ps a es lo mid r0 r1 → Adds ps a es mid hi r1 r2 → Adds ps a es lo hi r0 r2
  Adds-parts lo mid hi r0 r1 r2 h g = record {
    kept = λ b c. g.kept b (h.kept b c);
    only = λ b c. ⊎_elim (λ d. h.only b d) (λ n. inr n) (g.only b c);
    found = λ k s l m leaf n. ⊎_elim (λ e. g.kept s.number (h.found k s l e leaf n)) (λ e. g.found k s e m leaf n) (cases_lt k mid);
  }

  -- the second part and then the first
  pub Adds-parts_back : (lo mid hi : ℕ) (r0 r1 r2 : List ℕ) → Adds ps a es mid hi r0 r1 → Adds ps a es lo mid r1 r2 → Adds ps a es lo hi r0 r2
  Adds-parts_back lo mid hi r0 r1 r2 h g = record {
    kept = λ b c. g.kept b (h.kept b c);
    only = λ b c. ⊎_elim (λ d. h.only b d) (λ n. inr n) (g.only b c);
    found = λ k s l m leaf n. ⊎_elim (λ e. g.found k s l e leaf n) (λ e. g.kept s.number (h.found k s e m leaf n)) (cases_lt k mid);
  }

  -- an entry that is none to add
  pub Adds-skip : (lo hi : ℕ) (r0 r1 : List ℕ) → Adds ps a es lo hi r0 r1 → ((s : Spot) → HasLeaf es hi s → ¬ IsNext On ps a s.number) → Adds ps a es lo (hi + 1) r0 r1
  Adds-skip lo hi r0 r1 h none = record {
    kept = h.kept;
    only = h.only;
    found = λ k s l m leaf n.
        ⊎_elim
        (λ e. h.found k s l e leaf n)
        (λ e. let same : k ≡ hi = omega arith in absurd (none s (subst (λ (i : ℕ). HasLeaf es i s) same leaf) n))
        (cases_lt k hi);
  }

  -- a spot to add
  pub Adds-push : (lo hi : ℕ) (r0 r1 : List ℕ) (s : Spot) → Adds ps a es lo hi r0 r1 → HasLeaf es hi s → IsNext On ps a s.number → Adds ps a es lo (hi + 1) r0 (r1 ++ s.number ∷ [])
  Adds-push lo hi r0 r1 s h leaf next = record {
    kept = λ b c. Contains-append_left r1 _ b (h.kept b c);
    only = λ b c. ⊎_elim (λ d. h.only b d) (λ e. inr (subst (IsNext On ps a) e next)) (Contains-push_cases r1 s.number b c);
    found = λ k t l m other n.
        ⊎_elim
        (λ e. Contains-append_left r1 _ t.number (h.found k t l e other n))
        (λ e. let same : k ≡ hi = omega arith in
        let is = same_leaf es hi s t leaf (subst (λ (i : ℕ). HasLeaf es i t) same other) in
        subst (Contains (r1 ++ s.number ∷ [])) (ap (λ (x : Spot). x.number) is) (Contains-push r1 s.number))
        (cases_lt k hi);
  }

-- an entry that is read is the spot there
pub entry_leaf : (es : List Entry) (k : ℕ) (e : Entry) (s : Spot) → e ≡ get_or es k e → HasLeaf es k s → e ≡ Leaf s
entry_leaf es k e s is leaf = is ∙ (get_or_default es k e (Leaf s) leaf.0 ∙ leaf.1)

-- what has been added in all, in order and each once
pub IsRow-made : (ps : List Point) (a : ℕ) (es : List Entry) (added sorted row : List ℕ) → AreSpotsOf ps es → Adds ps a es 0 (length es) [] added
    → IsPermutation added sorted → IsSorted nat_cmp sorted → row ≡ dedup eqb sorted → IsRow On ps a row
IsRow-made ps a es added sorted row t h moved order is =
    subst (IsRow On ps a) (sym is)
    (record {
      ascending = AllPairs-from_increasing _ (IsStrictlyIncreasing-dedup sorted order);
      are = All-weaker (Contains (dedup eqb sorted)) (λ b. b < length ps) (λ b c. (next b c).1) (dedup eqb sorted) (All-contains_itself (dedup eqb sorted));
      each = All-weaker (Contains (dedup eqb sorted)) (IsNext On ps a) next (dedup eqb sorted) (All-contains_itself (dedup eqb sorted));
      all = λ b _ n.
          let (k, s, leaf, same) = t.all b n.1 in
          let found = h.found k s (omega arith) leaf.0 leaf (subst (IsNext On ps a) (sym same) n) in
          Contains-dedup_nat sorted b (Contains-permutation added sorted b moved (subst (Contains added) same found));
    })
  where
    next : (b : ℕ) → Contains (dedup eqb sorted) b → IsNext On ps a b
    next b c =
        ⊎_elim
        (λ none. absurd (let l = none.1 in omega arith))
        (λ n. n)
        (h.only b (Contains-permutation sorted added b (IsPermutation-sym added sorted moved) (Contains-from_dedup eqb sorted b c)))
