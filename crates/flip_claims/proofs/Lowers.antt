-- A claim keeps the rule.
use Rattle.std.proofs.Common.{◌≡◌, ◌≢◌, ◌⊎◌, ℕ, ◌<◌, ◌≤◌, min, List, length, get_or, set, sym, refl, ap, subst, inl, inr, ⊎_elim, arith, length-set, get_or-set_other, get_or-set_same}
use Rattle.std.proofs.lemmas.Bool.{cases_lt}
use mathlib.Core.Logic.{dite}
use mathlib.Core.Option.{none, some}
use native.Mathlib.Decide.{ℕ_discrete}
use lib.ListN.{get_elem?}
use Rattle.atomic_table.specs.Table.{step, keeps, Allows}
use Rattle.atomic_table.proofs.Lists.{at_set, set_here}
use Rattle.exact_predicates.specs.declared.point.Point.{Point}
use Rattle.flip_finish.specs.Flipping.{Shortens}
use Rattle.flip_finish.specs.Winners.{HasTriangle}
use Rattle.flip_claims.specs.declared.view.Claimed.{Claimed}
use Rattle.flip_claims.specs.declared.view.Known.{Known}
use Rattle.flip_claims.specs.declared.view.About.{About}
use Rattle.flip_claims.specs.Plays.{Sitting, claimed_view, lowered}
use Rattle.flip_claims.specs.Rule.{ClaimsHold, IsClaimedBy, ViewHolds, WordHolds, claim_on, shares_of, splits_of}
use Rattle.flip_claims.specs.Words.{unclaimed}
use Rattle.flip_claims.proofs.Claiming.{claimed_set}
use Rattle.flip_claims.proofs.Members.{Contains-cases, Contains-here, Contains-later, in_list}
use Rattle.flip_claims.proofs.Totals.{total_set}

-- the lesser of two numbers is one of them
min_either : (P : ℕ → Type 0) (x s : ℕ) → P x → P s → P (min x s)
min_either P x s at_x at_s =
    ⊎_elim
    (λ (l : x < s). let is : x ≡ min x s = omega arith in subst P is at_x)
    (λ (l : s ≤ x). let is : s ≡ min x s = omega arith in subst P is at_s)
    (cases_lt x s)

module _ (ws : List ℕ) (t s : ℕ) (inside : t < length ws) where
  -- the words after a claim
  abbrev after : List ℕ
  after = set ws t (min (get_or ws t 0) s)

  -- none is greater
  not_greater : (i : ℕ) → get_or after i 0 ≤ get_or ws i 0
  not_greater i = dite (ℕ_discrete i t)
      (λ (is : i ≡ t). subst (λ (j : ℕ). get_or after j 0 ≤ get_or ws j 0) (sym is) (let here = get_or-set_same ws t (min (get_or ws t 0) s) 0 inside in omega arith))
      (λ ne. let same = get_or-set_other ws t i (min (get_or ws t 0) s) 0 ne in omega arith)

  -- a view that its seat leaves alone
  others_hold : (d : Known) → ViewHolds ws d → ViewHolds after d
  others_hold d h = record { least = λ i u has. let was = h.least i u has in let now = not_greater i in omega arith; share = h.share }

  -- the view of the seat that claims
  mine_holds : (x : ℕ) (d : Known) → 0 < d.shares → ViewHolds ws d → ViewHolds after (claimed_view t s x d)
  mine_holds x d has_share h = record {
    least = λ i u has. ⊎_elim
        (λ (is : claim_on t s ≡ claim_on i u).
        let triangle : t ≡ i = ap (λ (c : Claimed). c.triangle) is in
        let slot : s ≡ u = ap (λ (c : Claimed). c.slot) is in
        let here = get_or-set_same ws t (min (get_or ws t 0) s) 0 inside in
        subst (λ (j : ℕ). get_or after j 0 ≤ u) triangle (omega arith))
        (λ old. (others_hold d h).least i u old)
        (Contains-cases (claim_on t s) (claim_on i u) d.claimed has);
    share = λ i u has. has_share;
  }

module _ (k : About) where
  pub lowers : (slots id : ℕ) (me : Sitting) (t s : ℕ) (ps : List Point) → t < length k.mesh.value.tris → Shortens ps k.mesh.value s → HasTriangle k.mesh.value s t → 0 < me.0.shares
      → Allows (ClaimsHold k) slots id me t (λ x. min x s) (lowered (step slots t s 0 none) me)
  lowers slots id me t s ps low shortens has has_share st r at_home at fits =
      let d : Known = me.0 in
      let ws : List ℕ = st.words in
      let x : ℕ = get_or ws t 0 in
      let wide = r.wide in
      let inside : t < length ws = omega arith in
      let w : Known = claimed_view t s x d in
      let views : List Known = set st.views id w in
      let Owned : ℕ → ℕ → Type 0 = λ i y. (y ≡ unclaimed) ⊎ IsClaimedBy views i y in
      let mine : IsClaimedBy views t s = record { seat = id; view = w; view_at = set_here st.views id w (in_list st.views id d at); has = Contains-here (claim_on t s) d.claimed } in
      let kept : (i y : ℕ) → (y ≡ unclaimed) ⊎ IsClaimedBy st.views i y → Owned i y = λ i y o.
      ⊎_elim (λ free. inl free) (λ by. inr (claimed_set st.views id d w i y at (λ c c_in. Contains-later (claim_on t s) c d.claimed c_in) by)) o in
      let here = get_or-set_same ws t (min x s) 0 inside in (
        w,
        keeps,
        tt,
        record {
          wide = let same = length-set ws t (min x s) in omega arith;
          words = λ i i_in. dite (ℕ_discrete i t)
              (λ (is : i ≡ t). subst (λ (j : ℕ). WordHolds k.mesh.value j (get_or (after ws t s inside) j 0)) (sym is)
              (subst (WordHolds k.mesh.value t) (sym here) (min_either (WordHolds k.mesh.value t) x s (r.words t low) (inr (record { points = ps; shortens = shortens; has = has })))))
              (λ ne. subst (WordHolds k.mesh.value i) (sym (get_or-set_other ws t i (min x s) 0 ne)) (r.words i i_in));
          each = λ j e h. ⊎_elim
              (λ (q : (j ≡ id) × (w ≡ e)). subst (ViewHolds (after ws t s inside)) q.1 (mine_holds ws t s inside x d has_share (r.each id d at)))
              (λ (q : (j ≢ id) × (get_elem? st.views j ≡ some e)). others_hold ws t s inside e (r.each j e q.1))
              (at_set st.views id j w e h);
          seated = let sum = total_set splits_of st.views id d w at in let wide_views = length-set st.views id w in let most = r.seated in omega arith;
          claimed = λ i i_in. dite (ℕ_discrete i t)
              (λ (is : i ≡ t). subst (λ (j : ℕ). Owned j (get_or (after ws t s inside) j 0)) (sym is)
              (subst (Owned t) (sym here) (min_either (Owned t) x s (kept t x (r.claimed t low)) (inr mine))))
              (λ ne. subst (Owned i) (sym (get_or-set_other ws t i (min x s) 0 ne)) (kept i (get_or ws i 0) (r.claimed i i_in)));
          shared = let sum = total_set shares_of st.views id d w at in let all = r.shared in omega arith;
        },
        refl,
      )
