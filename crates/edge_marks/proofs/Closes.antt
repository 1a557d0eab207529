-- What the flags of the last state say.
use Rattle.std.proofs.Common.{◌≡◌, ◌≢◌, ◌⊎◌, ℕ, ◌+◌, ◌<◌, ◌≤◌, Bool, true, false, eqb, List, length, get_or, set, All, Contains, sym, ◌∙◌, subst, arith, eq-eqb, ne_eqb, length-set, get_or-set_other, get_or-set_same}
use Rattle.std.proofs.lemmas.Bool.{false≢true}
use Rattle.std.proofs.lemmas.List.Elements.{All-contains}
use mathlib.Core.Logic.{dite}
use mathlib.Core.Option.{some}
use native.Mathlib.Decide.{ℕ_discrete}
use lib.ListN.{get_elem?}
use Rattle.atomic_table.specs.Table.{State}
use Rattle.lmt_network.specs.Flags.{live_numbers}
use Rattle.lmt_network.specs.Numbers.{IsHullNumber, IsSupported, AreClosed, AreLive}
use Rattle.lmt_network.proofs.NumberLaws.{live_same}
use Rattle.lmt_network.proofs.Picked.{All-from_members, flag_in, live_from_flag, flag_from_live}
use Rattle.edge_marks.specs.declared.view.Known.{Known}
use Rattle.edge_marks.specs.declared.view.About.{About}
use Rattle.edge_marks.specs.Words.{mark_of}
use Rattle.edge_marks.specs.Rule.{unkilled, MarksHold}
use Rattle.edge_marks.specs.Handles.{AreFlagsOf}
use Rattle.edge_marks.proofs.Kept.{net}
use Rattle.edge_marks.proofs.Views.{contains_unkilled, unkilled_contains}

-- the flags of the first k edges show their marks
abbrev pub FlagsShow : ℕ → List ℕ → List Bool → Type 0
FlagsShow k ws flags = (e : ℕ) → e < k → get_or flags e false ≡ eqb (mark_of ws e) 0

-- the flags of the first e edges show their marks, and the others of n are true
abbrev pub FlagsTo : ℕ → List ℕ → List Bool → ℕ → Type 0
FlagsTo n ws flags e = (length flags ≡ n) × FlagsShow e ws flags × ((j : ℕ) → e ≤ j → j < n → get_or flags j false ≡ true)

-- one more flag falls, or stays
pub one_falls : (n : ℕ) (ws : List ℕ) (flags : List Bool) (e b : ℕ) → FlagsTo n ws flags e → e < n → mark_of ws e ≡ b → b ≢ 0 → FlagsTo n ws (set flags e false) (e + 1)
one_falls n ws flags e b so low is lit = let wide = so.0 in (
  length-set flags e false ∙ so.0,
  (λ j h. dite (ℕ_discrete j e)
      (λ (q : j ≡ e). subst (λ (i : ℕ). get_or (set flags e false) i false ≡ eqb (mark_of ws i) 0) (sym q) (get_or-set_same flags e false false (omega arith) ∙ sym (ne_eqb (mark_of ws e) 0 (λ z. lit (sym is ∙ z)))))
      (λ q. get_or-set_other flags e j false false q ∙ so.1 j (omega arith))),
  λ j lo hi. get_or-set_other flags e j false false (λ q. omega arith) ∙ so.2 j (omega arith) hi,
)

pub one_stays : (n : ℕ) (ws : List ℕ) (flags : List Bool) (e b : ℕ) → FlagsTo n ws flags e → e < n → mark_of ws e ≡ b → b ≡ 0 → FlagsTo n ws flags (e + 1)
one_stays n ws flags e b so low is dark = (
  so.0,
  (λ j h. dite (ℕ_discrete j e)
      (λ (q : j ≡ e). subst (λ (i : ℕ). get_or flags i false ≡ eqb (mark_of ws i) 0) (sym q) (so.2 e (omega arith) low ∙ sym (eq-eqb (mark_of ws e) 0 (is ∙ dark))))
      (λ q. so.1 j (omega arith))),
  λ j lo hi. so.2 j (omega arith) hi,
)

module _ (k : About) (s : State ℕ Known) (r : MarksHold k s) (flags : List Bool) (wide : length flags ≡ length k.net.value.edges) (shows : FlagsShow (length k.net.value.edges) s.words flags) where
  -- a member of closed edges stays live
  pub closed_stay : (es : List ℕ) → AreClosed (net k) es → All (Contains (live_numbers flags)) es
  closed_stay es closed = All-from_members (Contains (live_numbers flags)) es
      (λ e has. let low = (All-contains (λ x. (x < length (net k).edges) × (IsHullNumber (net k) x ⊎ IsSupported (net k) es x)) es e closed has).0 in
      dite (ℕ_discrete (mark_of s.words e) 0)
      (λ z. live_from_flag flags e (shows e low ∙ eq-eqb (mark_of s.words e) 0 z))
      (λ z. absurd (r.safe e low (omega arith) es closed has)))

  -- an edge that was seen killed is not
  pub seen_fall : (id : ℕ) (d : Known) → get_elem? s.views id ≡ some d → (e : ℕ) → Contains d.seen e → get_or flags e false ≡ false
  seen_fall id d at e has = let t = (r.each id d at).seen_killed e has in let t₁ = t.1 in shows e t.0 ∙ ne_eqb (mark_of s.words e) 0 (λ z. omega arith)

  -- an edge whose flag is live is not killed
  unkilled_flagged : (e : ℕ) → e < length k.net.value.edges → get_or flags e false ≡ true → mark_of s.words e ≡ 0
  unkilled_flagged e low on = dite (ℕ_discrete (mark_of s.words e) 0) (λ z. z) (λ z. absurd (false≢true (sym (shows e low ∙ ne_eqb (mark_of s.words e) 0 z) ∙ on)))

  -- so the flags are those of the state
  pub flags_of : AreFlagsOf (net k) s flags
  flags_of = record {
    live = λ e low. (unkilled_flagged e low, λ z. shows e low ∙ eq-eqb (mark_of s.words e) 0 z);
    tried = λ e low off. r.killed_tried e low (dite (ℕ_discrete (mark_of s.words e) 0)
        (λ z. absurd (false≢true (sym off ∙ (shows e low ∙ eq-eqb (mark_of s.words e) 0 z))))
        (λ z. omega arith));
  }

  flag_unkilled : (e : ℕ) → Contains (live_numbers flags) e → Contains (unkilled (length (net k).edges) s.words) e
  flag_unkilled e has = let on = flag_from_live flags e has in let low : e < length (net k).edges = subst (λ (n : ℕ). e < n) wide (flag_in flags e on) in
      contains_unkilled (length (net k).edges) s.words e low (unkilled_flagged e low on)

  unkilled_flag : (e : ℕ) → Contains (unkilled (length (net k).edges) s.words) e → Contains (live_numbers flags) e
  unkilled_flag e has = let t = unkilled_contains (length (net k).edges) s.words e has in live_from_flag flags e (shows e t.0 ∙ eq-eqb (mark_of s.words e) 0 t.1)

  -- where the seat was settled the flags are the live edges
  pub settled_live : (id : ℕ) (d : Known) → get_elem? s.views id ≡ some d → d.settled ≡ true → AreLive (net k) (live_numbers flags)
  settled_live id d at quiet = live_same (net k) (unkilled (length (net k).edges) s.words) (live_numbers flags) unkilled_flag flag_unkilled ((r.each id d at).quiet quiet)
