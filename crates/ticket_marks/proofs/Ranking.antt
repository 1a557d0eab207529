-- Ranks while plain elimination goes on.
use Rattle.std.proofs.Common.{◌≡◌, ◌≢◌, ◌⊎◌, ℕ, ◌+◌, ◌*◌, ◌<◌, ◌≤◌, Bool, cond, eqb, List, length, map, set, slice_index, Contains, sym, refl, ap, ◌∙◌, subst, inl, inr, ⊎_elim, arith, eq-eqb, ne_eqb, length-set, get_or-set_other, get_or-set_same}
use Rattle.std.proofs.lemmas.Bool.{cases_lt, eqb-true}
use Rattle.std.proofs.lemmas.List.{get_or-map, length-map}
use Rattle.std.proofs.lemmas.List.Elements.{All-contains}
use Rattle.std.proofs.lemmas.List.Sums.{sum_by-set, count_by-le-length}
use mathlib.Core.Logic.{dite}
use native.Mathlib.Decide.{ℕ_discrete}
use Rattle.lmt_network.specs.Derivation.{IsDerivation}
use Rattle.lmt_network.specs.Network.{NetworkParts}
use Rattle.lmt_network.specs.Numbers.{IsHullNumber, IsMinimalPair, IsOtherSide, IsSupported, AreClosed, AreLive}
use Rattle.lmt_network.proofs.Derivations.{ranked_dead_law}
use Rattle.lmt_network.proofs.NumberLaws.{live_if_closed}
use Rattle.lmt_network.proofs.Passes.{in_turn, turn_of}
use Rattle.lmt_network.proofs.Picked.{All-from_members, flag_in, live_from_flag, flag_from_live}
use Rattle.ticket_marks.specs.Finish.{unranked, left_over, HasRankedSide, HasUnrankedSides, IsBrokenAt, AreRanksUpTo, RanksStand}
use Rattle.mark_seats.proofs.Sides.{other_side_in}
use Rattle.ticket_marks.proofs.Views.{derivation_more}

-- the edges with the rank 0
pub unranked_from : (ranks : List ℕ) (e : ℕ) → e < length ranks → slice_index ranks e ≡ 0 → Contains (unranked ranks) e
unranked_from ranks e e_in none = live_from_flag (map (λ m. eqb m 0) ranks) e (get_or-map (λ m. eqb m 0) ranks e 0 _ e_in ∙ eq-eqb (slice_index ranks e) 0 none)

pub unranked_to : (ranks : List ℕ) (e : ℕ) → Contains (unranked ranks) e → (e < length ranks) × (slice_index ranks e ≡ 0)
unranked_to ranks e has =
    let on = flag_from_live (map (λ m. eqb m 0) ranks) e has in
    let wide = length-map ranks (λ m. eqb m 0) in
    let flag = flag_in (map (λ m. eqb m 0) ranks) e on in
    let e_in : e < length ranks = omega arith in
    (e_in, eqb-true (slice_index ranks e) 0 (sym (get_or-map (λ m. eqb m 0) ranks e 0 _ e_in) ∙ on))

-- a pair whose sides all have the rank 0 is a support
pub supported_at : (n : NetworkParts) (ranks : List ℕ) (e l r : ℕ) → length ranks ≡ length n.edges → IsMinimalPair n e l r → HasUnrankedSides n ranks l → HasUnrankedSides n ranks r → IsSupported n (unranked ranks) e
supported_at n ranks e l r many pair left right =
    record {
      l = l;
      r = r;
      pair = pair;
      others = λ f h. let f_in = other_side_in n e l r f h in unranked_from ranks f (omega arith) (⊎_elim (λ s. left f s) (λ s. right f s) h.1);
    }

-- a side with a rank is another side of an edge that has none
not_itself : (ranks : List ℕ) (e f : ℕ) → slice_index ranks e ≡ 0 → 0 < slice_index ranks f → f ≢ e
not_itself ranks e f none above same = let is : slice_index ranks f ≡ slice_index ranks e = ap (slice_index ranks) same in absurd (omega arith)

pub broken_left : (n : NetworkParts) (ranks : List ℕ) (e l : ℕ) → slice_index ranks e ≡ 0 → HasRankedSide n ranks l → IsBrokenAt n ranks e l
broken_left n ranks e l none s = λ r pair. (s.0, (not_itself ranks e s.0 none s.2, inl s.1), s.2)

pub broken_right : (n : NetworkParts) (ranks : List ℕ) (e l r : ℕ) → slice_index ranks e ≡ 0 → HasRankedSide n ranks r → (f : ℕ) × IsOtherSide n e l r f × (0 < slice_index ranks f)
broken_right n ranks e l r none s = (s.0, (not_itself ranks e s.0 none s.2, inr s.1), s.2)

-- one edge less has the rank 0
left_falls : (ranks : List ℕ) (e m : ℕ) → e < length ranks → slice_index ranks e ≡ 0 → left_over (set ranks e (m + 1)) + 1 ≡ left_over ranks
left_falls ranks e m e_in none =
    let weigh : ℕ → ℕ = λ x. cond (eqb x 0) 1 0 in
    let here : weigh (slice_index ranks e) ≡ 1 = ap (λ (b : Bool). cond b 1 0) (eq-eqb (slice_index ranks e) 0 none) in
    let there : weigh (m + 1) ≡ 0 = ap (λ (b : Bool). cond b 1 0) (ne_eqb (m + 1) 0 (λ z. omega arith)) in
    let sum = sum_by-set weigh ranks e (m + 1) 0 e_in in
    omega arith

-- one rank more
pub ranked_more : (n : NetworkParts) (ranks : List ℕ) (last e : ℕ) → AreRanksUpTo n ranks last → e < length n.edges → slice_index ranks e ≡ 0 → ¬ IsHullNumber n e → ((l : ℕ) → IsBrokenAt n ranks e l)
    → AreRanksUpTo n (set ranks e (last + 1)) (last + 1)
ranked_more n ranks last e are e_in none inner broken =
    let many = are.one_each in
    let same : (f : ℕ) → f ≢ e → slice_index (set ranks e (last + 1)) f ≡ slice_index ranks f = λ f ne. get_or-set_other ranks e f (last + 1) 0 ne in
    let here : slice_index (set ranks e (last + 1)) e ≡ last + 1 = get_or-set_same ranks e (last + 1) 0 (omega arith) in
    record {
      one_each = length-set ranks e (last + 1) ∙ are.one_each;
      derivation = derivation_more n ranks (set ranks e (last + 1)) e (last + 1) none here same inner
          (λ l r pair. let b = broken l r pair in let most = are.low b.0 in (b.0, b.1, b.2, omega arith)) are.derivation;
      low = λ f. dite (ℕ_discrete f e)
          (λ (z : f ≡ e). let is : slice_index (set ranks e (last + 1)) f ≡ slice_index (set ranks e (last + 1)) e = ap (slice_index (set ranks e (last + 1))) z in omega arith)
          (λ ne. let is = same f ne in let most = are.low f in omega arith);
      room = let falls = left_falls ranks e last (omega arith) none in let most = are.room in omega arith;
    }

pub left_less : (n : NetworkParts) (ranks : List ℕ) (last e : ℕ) → AreRanksUpTo n ranks last → e < length n.edges → slice_index ranks e ≡ 0 → left_over (set ranks e (last + 1)) < left_over ranks
left_less n ranks last e are e_in none = let many = are.one_each in let falls = left_falls ranks e last (omega arith) none in omega arith

pub ranks_stand : (ranks : List ℕ) (e m : ℕ) → slice_index ranks e ≡ 0 → RanksStand ranks (set ranks e m)
ranks_stand ranks e m none = λ f above. get_or-set_other ranks e f m 0 (not_itself ranks e f none above)

pub stand_on : (a b c : List ℕ) → RanksStand a b → RanksStand b c → RanksStand a c
stand_on a b c x y = λ e above. let first = x e above in y e (omega arith) ∙ x e above

-- the edge has a rank above 0, or is a hull edge, or has a support
abbrev pub IsJudged : NetworkParts → List ℕ → ℕ → Type 0
IsJudged n ranks e = slice_index ranks e ≡ 0 → IsHullNumber n e ⊎ IsSupported n (unranked ranks) e

-- A pass that has come to its k-th edge, from the ranks `first` up to `last` to the ranks up to `now`.
pub record IsRankPass (n : NetworkParts) (first ranks : List ℕ) (last now : ℕ) (downwards : Bool) (k : ℕ) : Type 0 where
  pub ranks_are : AreRanksUpTo n ranks now
  pub stand : RanksStand first ranks
  pub grows : last ≤ now
  pub fewer : last < now → left_over ranks < left_over first
  pub same : now ≡ last → ranks ≡ first
  pub judged : now ≡ last → (j : ℕ) → j < k → IsJudged n first (in_turn (length n.edges) j downwards)

pub pass_begins : (n : NetworkParts) (ranks : List ℕ) (last : ℕ) (downwards : Bool) → AreRanksUpTo n ranks last → IsRankPass n ranks ranks last last downwards 0
pass_begins n ranks last downwards are = record {
  ranks_are = are;
  stand = λ e above. refl;
  grows = omega arith;
  fewer = λ l. absurd (omega arith);
  same = λ _. refl;
  judged = λ _ j l. absurd (omega arith);
}

pub pass_goes_on : (n : NetworkParts) (first ranks more : List ℕ) (last now next : ℕ) (downwards : Bool) (k e : ℕ) → IsRankPass n first ranks last now downwards k → e ≡ in_turn (length n.edges) k downwards
    → AreRanksUpTo n more next → RanksStand ranks more → now ≤ next → (now < next → left_over more < left_over ranks) → (next ≡ now → more ≡ ranks) → (next ≡ now → IsJudged n ranks e)
    → IsRankPass n first more last next downwards (k + 1)
pass_goes_on n first ranks more last now next downwards k e p turn are stand up fewer same judged =
    let grows = p.grows in
    record {
      ranks_are = are;
      stand = stand_on first ranks more p.stand stand;
      grows = omega arith;
      fewer = λ l. ⊎_elim
          (λ (rose : now < next). let falls = fewer rose in ⊎_elim
          (λ (before : last < now). let fell = p.fewer before in omega arith)
          (λ (none : now ≤ last). let is = ap left_over (p.same (omega arith)) in omega arith)
          (cases_lt last now))
          (λ (still : next ≤ now). let is = ap left_over (same (omega arith)) in let fell = p.fewer (omega arith) in omega arith)
          (cases_lt now next);
      same = λ is. same (omega arith) ∙ p.same (omega arith);
      judged = λ is j l. ⊎_elim
          (λ (low : j < k). p.judged (omega arith) j low)
          (λ (high : k ≤ j).
          let here : j ≡ k = omega arith in
          let edge : e ≡ in_turn (length n.edges) j downwards = turn ∙ ap (λ (i : ℕ). in_turn (length n.edges) i downwards) (sym here) in
          subst (IsJudged n first) edge (subst (λ (rs : List ℕ). IsJudged n rs e) (p.same (omega arith)) (judged (omega arith))))
          (cases_lt j k);
    }

-- a pass that gave no rank leaves closed edges
pub pass_ends : (n : NetworkParts) (first ranks : List ℕ) (last now : ℕ) (downwards : Bool) (k : ℕ) → IsRankPass n first ranks last now downwards k → length n.edges ≤ k → now ≡ last → AreClosed n (unranked ranks)
pass_ends n first ranks last now downwards k p all is =
    All-from_members (λ e. (e < length n.edges) × (IsHullNumber n e ⊎ IsSupported n (unranked ranks) e)) (unranked ranks)
    (λ e has.
    let at = unranked_to ranks e has in
    let low = at.0 in
    let many = p.ranks_are.one_each in
    let e_in : e < length n.edges = omega arith in
    let t = turn_of (length n.edges) e downwards e_in in
    let turn_in = t.0 in
    let same = p.same is in
    let judged : IsJudged n ranks e = subst (λ (rs : List ℕ). IsJudged n rs e) (sym same) (subst (IsJudged n first) t.1 (p.judged is (in_turn (length n.edges) e downwards) (omega arith))) in
    (e_in, judged at.1))

-- ranks that tickets gave are ranks up to the greatest
pub ranks_begin : (n : NetworkParts) (ranks : List ℕ) (most : ℕ) → length ranks ≡ length n.edges → IsDerivation n ranks → ((e : ℕ) → slice_index ranks e ≤ most) → most ≤ 65 * length n.edges → AreRanksUpTo n ranks most
ranks_begin n ranks most many derivation low bound = record {
  one_each = many;
  derivation = derivation;
  low = low;
  room = let few = count_by-le-length (λ m. eqb m 0) ranks in omega arith;
}

-- closed edges that no rank is above 0 of are the live ones
pub unranked_live : (n : NetworkParts) (ranks : List ℕ) (last : ℕ) → AreRanksUpTo n ranks last → AreClosed n (unranked ranks) → AreLive n (unranked ranks)
unranked_live n ranks last are closed =
    live_if_closed n (unranked ranks) closed
    (λ fs fs_closed. All-from_members (Contains (unranked ranks)) fs
    (λ e has.
    let many = are.one_each in
    let e_in = (All-contains (λ x. (x < length n.edges) × (IsHullNumber n x ⊎ IsSupported n fs x)) fs e fs_closed has).0 in
    dite (ℕ_discrete (slice_index ranks e) 0)
    (λ none. unranked_from ranks e (omega arith) none)
    (λ above. absurd (ranked_dead_law n ranks e are.derivation e_in (omega arith) fs fs_closed has))))
