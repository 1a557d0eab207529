-- The loads of the counters, with which a pass begins and ends, keep the rule.
use Rattle.std.proofs.Common.{◌≡◌, ◌⊎◌, ℕ, ◌+◌, ◌*◌, ◌/◌, ◌<◌, ◌≤◌, Bool, true, false, eqb, cond, ◌||◌, List, [], length, get_or, Contains, sym, refl, ap, ◌∙◌, subst, inl, inr, ⊎_elim, arith, eq-eqb, ne_eqb}
use Rattle.std.proofs.lemmas.Bool.{false≢true}
use Rattle.std.proofs.lemmas.List.Elements.{All-contains}
use mathlib.Core.Logic.{dite}
use mathlib.Core.Option.{none}
use native.Mathlib.Decide.{ℕ_discrete}
use Rattle.atomic_table.specs.Table.{State, step, keeps, Allows}
use Rattle.lmt_network.specs.Network.{NetworkParts}
use Rattle.lmt_network.specs.Numbers.{IsHullNumber, IsSupported, AreLive}
use Rattle.lmt_network.proofs.NumberLaws.{hull_not_dead}
use Rattle.lmt_network.proofs.Picked.{All-from_members, Contains-nil}
use Rattle.edge_marks.specs.declared.view.Loaded.{Loaded}
use Rattle.edge_marks.specs.declared.view.Pass.{Pass}
use Rattle.edge_marks.specs.declared.view.Pass.TheVariants.{NoPass, AtFirst, InPass}
use Rattle.edge_marks.specs.declared.view.Known.{Known}
use Rattle.edge_marks.specs.declared.view.About.{About}
use Rattle.mark_seats.specs.Bits.{bit_in}
use Rattle.edge_marks.specs.Words.{mark_of}
use Rattle.edge_marks.specs.Rule.{finished, unkilled, ArePresent, PassHolds, WasLive, WasKilled, HadSupport, AreJudged, MarksHold}
use Rattle.edge_marks.specs.Plays.{Sitting, opened_view, opened, compared, compared_view, read_finished, has_begun_with, settled_view, settled}
use Rattle.mark_seats.proofs.Sides.{other_side_in}
use Rattle.edge_marks.proofs.Views.{contains_unkilled, unkilled_contains}
use Rattle.edge_marks.proofs.Kept.{net, load_kept, begun_bounded}

or_true : (a b : Bool) → (a || b) ≡ true → (a ≡ true) ⊎ (b ≡ true)
or_true true b h = inl refl
or_true false b h = inr h

eqb_same : (x b : ℕ) → eqb x b ≡ true → x ≡ b
eqb_same x b h = dite (ℕ_discrete x b) (λ e. e) (λ n. absurd (false≢true (sym (ne_eqb x b n) ∙ h)))

pass_compared : (n : NetworkParts) (ws : List ℕ) (x : ℕ) (p : Pass) → finished n ws ≡ x → PassHolds n ws p → PassHolds n ws (compared x p)
pass_compared n ws x NoPass is holds = tt
pass_compared n ws x (AtFirst b) is holds = let P : Pass → Type 0 = λ p. PassHolds n ws p in dite (ℕ_discrete x b)
    (λ e. subst (λ (t : Bool). P (cond t (InPass b []) NoPass)) (sym (eq-eqb x b e)) (holds, λ now. (is ∙ e, λ l h. absurd (Contains-nil l h))))
    (λ ne. subst (λ (t : Bool). P (cond t (InPass b []) NoPass)) (sym (ne_eqb x b ne)) tt)
pass_compared n ws x (InPass b loads) is holds = tt

-- an edge that was loaded live, by loads that are the present words, is not killed
still_live : (n : NetworkParts) (ws : List ℕ) (loads : List Loaded) (e : ℕ) → ArePresent n ws loads → WasLive loads e → mark_of ws e ≡ 0
still_live n ws loads e present h = ap (λ (x : ℕ). bit_in x e) (present _ h.1).1 ∙ h.2

still_killed : (n : NetworkParts) (ws : List ℕ) (loads : List Loaded) (e : ℕ) → ArePresent n ws loads → WasKilled loads e → 0 < mark_of ws e
still_killed n ws loads e present h = subst (λ (x : ℕ). 0 < bit_in x e) (sym (present _ h.1).1) h.2

module _ (k : About) where
  pub opens : (slots id : ℕ) (me : Sitting) → Allows (MarksHold k) slots id me (length k.net.value.edges / 64 + 16) (λ x. x) (opened (step slots (length k.net.value.edges / 64 + 16) 0 0 none) me)
  opens slots id me s r _ at fits = let n : NetworkParts = net k in let W : ℕ = length n.edges / 64 + 16 in let x : ℕ = get_or s.words W 0 in let d : Known = me.0 in let h = r.each id d at in let w : Known = opened_view W x d in
      let same : x ≤ get_or s.words W 0 = omega arith in let most = begun_bounded k s r in let bound : x ≤ 65 * length d.net.edges = subst (λ (m : NetworkParts). x ≤ 65 * length m.edges) (sym h.net_is) most in (
        w,
        keeps,
        tt,
        load_kept k s r id W d w at record {
          net_is = h.net_is;
          seen_killed = h.seen_killed;
          tried_below = h.tried_below;
          tried_killed = h.tried_killed;
          tried_once = h.tried_once;
          aim = h.aim;
          in_pass = same;
          quiet = h.quiet;
          low_is = same;
        } refl refl refl,
        (refl, h.low_is, bound),
      )

  pub compares : (slots id : ℕ) (me : Sitting) → Allows (MarksHold k) slots id me (length k.net.value.edges / 64 + 32) (λ x. x) (read_finished (step slots (length k.net.value.edges / 64 + 32) 0 0 none) me)
  compares slots id me s r _ at fits = let n : NetworkParts = net k in let i : ℕ = length n.edges / 64 + 32 in let x : ℕ = get_or s.words i 0 in let d : Known = me.0 in let h = r.each id d at in let w : Known = compared_view i x d in (
    w,
    keeps,
    tt,
    load_kept k s r id i d w at record {
      net_is = h.net_is;
      seen_killed = h.seen_killed;
      tried_below = h.tried_below;
      tried_killed = h.tried_killed;
      tried_once = h.tried_once;
      aim = h.aim;
      in_pass = pass_compared n s.words x d.pass refl h.in_pass;
      quiet = h.quiet;
      low_is = h.low_is;
    } refl refl refl,
    refl,
  )

  -- where each edge was judged, by loads that are the present words, the edges that are not killed are the live ones
  live_now : (s : State ℕ Known) → MarksHold k s → (loads : List Loaded) → ArePresent (net k) s.words loads → AreJudged (net k) loads → AreLive (net k) (unkilled (length (net k).edges) s.words)
  live_now s r loads present judged = let n : NetworkParts = net k in let E : ℕ = length n.edges in let ws : List ℕ = s.words in let U : List ℕ = unkilled E ws in record {
    closed = All-from_members (λ e. (e < E) × (IsHullNumber n e ⊎ IsSupported n U e)) U (λ e has. let t = unkilled_contains E ws e has in (
      t.0,
      ⊎_elim
          (λ (hull : IsHullNumber n e). inl hull)
          (λ (more : WasKilled loads e ⊎ HadSupport n loads e). ⊎_elim
          (λ (killed : WasKilled loads e). absurd (let p = still_killed n ws loads e present killed in let t₁ = t.1 in omega arith))
          (λ (by : HadSupport n loads e). let g : IsSupported n U e = record {
            l = by.0;
            r = by.1;
            pair = by.2;
            others = λ f other. let was = by.3 f other in contains_unkilled E ws f (other_side_in n e by.0 by.1 f other) (still_live n ws loads f present was);
          } in inr g) more)
          (judged e t.0),
    ));
    hull_edges = λ e low hull. dite (ℕ_discrete (mark_of ws e) 0) (λ z. contains_unkilled E ws e low z) (λ z. absurd (hull_not_dead n e low hull (r.safe e low (omega arith))));
    greatest = λ fs closed. All-from_members (Contains U) fs (λ e has. let low = (All-contains (λ x. (x < E) × (IsHullNumber n x ⊎ IsSupported n fs x)) fs e closed has).0 in
        dite (ℕ_discrete (mark_of ws e) 0) (λ z. contains_unkilled E ws e low z) (λ z. absurd (r.safe e low (omega arith) fs closed has)));
  }

  pub settles : (slots id : ℕ) (me : Sitting) (b : ℕ) (loads : List Loaded) → me.0.pass ≡ InPass b loads → AreJudged k.net.value loads
      → Allows (MarksHold k) slots id me (length k.net.value.edges / 64 + 16) (λ x. x) (settled (step slots (length k.net.value.edges / 64 + 16) 0 0 none) me)
  settles slots id me b loads is judged s r _ at fits = let n : NetworkParts = net k in let W : ℕ = length n.edges / 64 + 16 in let x : ℕ = get_or s.words W 0 in let d : Known = me.0 in let h = r.each id d at in let w : Known = settled_view W x d in
      let same : x ≤ get_or s.words W 0 = omega arith in let pass : PassHolds n s.words (InPass b loads) = subst (PassHolds n s.words) is h.in_pass in
      let most = begun_bounded k s r in let bound : x ≤ 65 * length d.net.edges = subst (λ (m : NetworkParts). x ≤ 65 * length m.edges) (sym h.net_is) most in (
        w,
        keeps,
        tt,
        load_kept k s r id W d w at record {
          net_is = h.net_is;
          seen_killed = h.seen_killed;
          tried_below = h.tried_below;
          tried_killed = h.tried_killed;
          tried_once = h.tried_once;
          aim = h.aim;
          in_pass = tt;
          quiet = λ z. ⊎_elim
              (λ (a : d.settled ≡ true). h.quiet a)
              (λ (a : has_begun_with x d.pass ≡ true). live_now s r loads (pass.1 (eqb_same x b (ap (has_begun_with x) (sym is) ∙ a))).1 judged)
              (or_true d.settled (has_begun_with x d.pass) z);
          low_is = same;
        } refl refl refl,
        (refl, h.low_is, bound),
      )
