-- The three steps of a kill keep the rule.
use Rattle.std.proofs.Common.{◌≡◌, ◌≢◌, ℕ, ◌+◌, ◌*◌, ◌/◌, ◌%◌, ◌^◌, ◌<◌, ◌≤◌, List, [], ◌∷◌, length, get_or, set, Contains, sym, refl, ap, ◌∙◌, subst, inl, inr, ⊎_elim, arith, bit_or, length-set, get_or-set_other, get_or-set_same}
use mathlib.Core.Logic.{dite}
use mathlib.Core.Option.{none}
use native.Mathlib.Decide.{ℕ_discrete}
use Rattle.atomic_table.specs.Table.{State, step, keeps, Allows}
use Rattle.lmt_network.specs.Network.{NetworkParts}
use Rattle.lmt_network.specs.Numbers.{IsHullNumber, IsDead, IsBroken}
use Rattle.lmt_network.proofs.NumberLaws.{dead_if_broken}
use Rattle.lmt_network.proofs.Picked.{Contains-here, Contains-later, Contains-cases}
use Rattle.edge_marks.specs.declared.view.Phase.{Phase}
use Rattle.edge_marks.specs.declared.view.Phase.TheVariants.{Idle, Begun, Marked}
use Rattle.edge_marks.specs.declared.view.Known.{Known}
use Rattle.edge_marks.specs.declared.view.About.{About}
use Rattle.mark_seats.specs.Bits.{bit_in}
use Rattle.edge_marks.specs.Words.{mark_of}
use Rattle.edge_marks.specs.Rule.{unkilled, IsAim, PhaseHolds, busy, ViewHolds, is_busy, MarksHold}
use Rattle.edge_marks.specs.Plays.{Sitting, begun_view, started, marked_view, marked, ended_view, ended}
use Rattle.mark_seats.proofs.Members.{distinct_more}
use Rattle.mark_seats.proofs.Packed.{with_bit, bit_here, bit_else}
use Rattle.edge_marks.proofs.Views.{contains_unkilled, live_words, view_words}
use Rattle.edge_marks.proofs.Looks.{noted_edge}
use Rattle.edge_marks.proofs.Kept.{net, moved, begun_small, begun_bounded, in_kill}

-- a change of a counter leaves the marks
abbrev Counts : NetworkParts → List ℕ → List ℕ → Type 0
Counts n ws ws' = (e : ℕ) → e / 64 < length n.edges / 64 + 1 → mark_of ws' e ≡ mark_of ws e

module _ (k : About) where
  pub begins : (slots id : ℕ) (me : Sitting) (note e : ℕ) → me.1 ≡ (note, e) ∷ [] → me.0.phase ≡ Idle → e < length k.net.value.edges → ¬ IsHullNumber k.net.value e → ¬ Contains me.0.tried e → IsBroken k.net.value me.0.seen e
      → Allows (MarksHold k) slots id me (length k.net.value.edges / 64 + 16) (λ x. (x + 1) % 2 ^ 64) (started (step slots (length k.net.value.edges / 64 + 16) 1 0 none) me)
  begins slots id me note e carried idle low inner new broken s r _ at fits = let n : NetworkParts = net k in let ws : List ℕ = s.words in let E : ℕ = length n.edges in let W : ℕ = E / 64 + 16 in let x : ℕ = get_or ws W 0 in let d : Known = me.0 in let h = r.each id d at in
      let w : Known = begun_view W e x d in let small = begun_small k s r in let up : x + 1 ≡ (x + 1) % 18446744073709551616 = omega arith in let ws' : List ℕ = set ws W (x + 1) in let wide = r.wide in
      let same : (j : ℕ) → j ≢ W → get_or ws' j 0 ≡ get_or ws j 0 = λ j ne. get_or-set_other ws W j (x + 1) 0 ne in
      let now : get_or ws' W 0 ≡ x + 1 = get_or-set_same ws W (x + 1) 0 (omega arith) in
      let now' : get_or ws' (E / 64 + 32) 0 ≡ get_or ws (E / 64 + 32) 0 = same (E / 64 + 32) (λ z. omega arith) in
      let mark : Counts n ws ws' = λ f l. ap (λ (y : ℕ). bit_in y f) (same (f / 64) (λ z. omega arith)) in
      let others : (v : Known) → ViewHolds n ws v → ViewHolds n ws' v = λ v. view_words n ws ws' v (omega arith) (λ f l p. let m = mark f (omega arith) in omega arith) (λ b b_le is _. omega arith)
      (λ _. live_words n ws ws' (λ f l z. mark f (omega arith) ∙ z) (λ f l z. sym (mark f (omega arith)) ∙ z)) in
      let base = others d h in let zero_busy : is_busy d ≡ 0 = ap busy idle in
      let s' : State ℕ Known = record { words = ws'; homes = s.homes; views = set s.views id w } in
      let kept : MarksHold k s' = moved k s r id d w at ws' record {
        wide = length-set ws W (x + 1);
        safe = λ f l p. r.safe f l (let m = mark f (omega arith) in omega arith);
        spare = λ f l m. mark f m ∙ r.spare f l m;
        killed = λ f l p. inl (let m = mark f (omega arith) in omega arith);
        tried = λ f has. Contains-later e f d.tried has;
        others = others;
        mine = record {
          net_is = h.net_is;
          seen_killed = base.seen_killed;
          tried_below = λ f has. ⊎_elim (λ (t : e ≡ f). subst (λ (y : ℕ). y < E) t low) (λ (t : Contains d.tried f). h.tried_below f t) (Contains-cases e f d.tried has);
          tried_killed = λ f has not. ⊎_elim
              (λ (t : e ≡ f). absurd (not (ap (λ (y : ℕ). let p : Phase = Begun y in p) t)))
              (λ (t : Contains d.tried f). base.tried_killed f t (λ z. absurd (let g : Idle ≡ Begun f = sym idle ∙ z in cc)))
              (Contains-cases e f d.tried has);
          tried_once = distinct_more e d.tried new h.tried_once;
          aim = (low, inner, broken, Contains-here e d.tried);
          in_pass = tt;
          quiet = base.quiet;
          low_is = let g : x + 1 ≤ get_or ws' W 0 = omega arith in g;
        };
        open_kills = let o = r.open_kills in omega arith;
        kills = let o = r.kills in omega arith;
      } refl in
      let most = begun_bounded k s' kept in let low_is = h.low_is in let bound : x + 1 ≤ 65 * length d.net.edges = subst (λ (m : NetworkParts). x + 1 ≤ 65 * length m.edges) (sym h.net_is) (omega arith) in (
        w,
        keeps,
        tt,
        subst (λ (y : ℕ). MarksHold k record { words = set ws W y; homes = s.homes; views = set s.views id w }) up kept,
        λ i e' is. let same_e : e ≡ e' = ap noted_edge (sym carried ∙ is) in (ap (λ (y : ℕ). let v : Sitting = (begun_view W y x d, me.1) in v) same_e, low_is, bound),
      )

  pub marks : (slots id : ℕ) (me : Sitting) (e : ℕ) → me.0.phase ≡ Begun e → Allows (MarksHold k) slots id me (e / 64) (λ x. bit_or x (2 ^ (e % 64))) (marked (step slots (e / 64) (2 ^ (e % 64)) 0 none) me)
  marks slots id me e is s r _ at fits = let n : NetworkParts = net k in let ws : List ℕ = s.words in let E : ℕ = length n.edges in let i : ℕ = e / 64 in let x : ℕ = get_or ws i 0 in let d : Known = me.0 in let h = r.each id d at in
      let w : Known = marked_view e x d in let y : ℕ = bit_or x (2 ^ (e % 64)) in let ws' : List ℕ = with_bit ws e in let wide = r.wide in let aims : IsAim n d.seen d.tried e = subst (PhaseHolds n ws d.seen d.tried) is h.aim in let low = aims.0 in
      let dead = dead_if_broken n d.seen e aims.1 aims.2 (λ f has. let t = h.seen_killed f has in r.safe f t.0 t.1) in
      let same : (j : ℕ) → j ≢ e → mark_of ws' j ≡ mark_of ws j = λ j ne. bit_else ws e j (omega arith) ne in
      let now : mark_of ws' e ≡ 1 = bit_here ws e (omega arith) in let lit : 0 < mark_of ws' e = omega arith in
      let now₀ : get_or ws' (E / 64 + 16) 0 ≡ get_or ws (E / 64 + 16) 0 = get_or-set_other ws i (E / 64 + 16) y 0 (λ z. omega arith) in
      let now₁ : get_or ws' (E / 64 + 32) 0 ≡ get_or ws (E / 64 + 32) 0 = get_or-set_other ws i (E / 64 + 32) y 0 (λ z. omega arith) in
      let kept : (f : ℕ) → f < E → 0 < mark_of ws f → 0 < mark_of ws' f = λ f l p. dite (ℕ_discrete f e) (λ z. subst (λ (j : ℕ). 0 < mark_of ws' j) (sym z) lit) (λ z. let m = same f z in omega arith) in
      let one : is_busy d ≡ 1 = ap busy is in let gap = in_kill k s r id d at one in
      let others : (v : Known) → ViewHolds n ws v → ViewHolds n ws' v = λ v. view_words n ws ws' v (omega arith) kept (λ b b_le h imp. let z = imp (omega arith) in omega arith)
      (λ _ live. live_words n ws ws'
      (λ f l z. dite (ℕ_discrete f e) (λ q. absurd (dead (unkilled E ws) live.closed (contains_unkilled E ws e low (ap (λ (j : ℕ). mark_of ws j) (sym q) ∙ z)))) (λ q. same f q ∙ z))
      (λ f l z. dite (ℕ_discrete f e) (λ q. absurd (let z' : mark_of ws' e ≡ 0 = ap (λ (j : ℕ). mark_of ws' j) (sym q) ∙ z in omega arith)) (λ q. sym (same f q) ∙ z)) live) in
      let base = others d h in (
        w,
        keeps,
        tt,
        moved k s r id d w at ws' record {
          wide = length-set ws i y;
          safe = λ f l p. dite (ℕ_discrete f e) (λ q. subst (IsDead n) (sym q) dead) (λ q. r.safe f l (let m = same f q in omega arith));
          spare = λ f l m. same f (λ q. omega arith) ∙ r.spare f l m;
          killed = λ f l p. dite (ℕ_discrete f e) (λ q. inr (subst (Contains d.tried) (sym q) aims.3)) (λ q. inl (let m = same f q in omega arith));
          tried = λ f has. has;
          others = others;
          mine = record {
            net_is = h.net_is;
            seen_killed = base.seen_killed;
            tried_below = h.tried_below;
            tried_killed = λ f has not. dite (ℕ_discrete f e)
                (λ q. subst (λ (j : ℕ). 0 < mark_of ws' j) (sym q) lit)
                (λ q. base.tried_killed f has (λ z. let g : Begun e ≡ Begun f = sym is ∙ z in let g' : e ≡ f = cc in q (sym g')));
            tried_once = h.tried_once;
            aim = (aims, lit);
            in_pass = base.in_pass;
            quiet = base.quiet;
            low_is = base.low_is;
          };
          open_kills = let o = r.open_kills in omega arith;
          kills = let o = r.kills in omega arith;
        } refl,
        λ e' is'. let g : Begun e ≡ Begun e' = sym is ∙ is' in let same_e : e ≡ e' = cc in ap (λ (z : ℕ). let v : Sitting = (marked_view z x d, me.1) in v) same_e,
      )

  -- the same for a word that is said to be the edge's bit alone
  pub marks_by : (slots id : ℕ) (me : Sitting) (e bit : ℕ) → bit ≡ 2 ^ (e % 64) → me.0.phase ≡ Begun e → Allows (MarksHold k) slots id me (e / 64) (λ x. bit_or x bit) (marked (step slots (e / 64) bit 0 none) me)
  marks_by slots id me e bit is begun = subst (λ (b : ℕ). Allows (MarksHold k) slots id me (e / 64) (λ x. bit_or x b) (marked (step slots (e / 64) b 0 none) me)) (sym is) (marks slots id me e begun)

  pub finishes : (slots id : ℕ) (me : Sitting) (e : ℕ) → me.0.phase ≡ Marked e
      → Allows (MarksHold k) slots id me (length k.net.value.edges / 64 + 32) (λ x. (x + 1) % 2 ^ 64) (ended (step slots (length k.net.value.edges / 64 + 32) 1 0 none) me)
  finishes slots id me e is s r _ at fits = let n : NetworkParts = net k in let ws : List ℕ = s.words in let E : ℕ = length n.edges in let i : ℕ = E / 64 + 32 in let x : ℕ = get_or ws i 0 in let d : Known = me.0 in let h = r.each id d at in
      let w : Known = ended_view i e x d in let small = begun_small k s r in let wide = r.wide in let aims : IsAim n d.seen d.tried e × (0 < mark_of ws e) = subst (PhaseHolds n ws d.seen d.tried) is h.aim in let low = aims.0.0 in
      let one : is_busy d ≡ 1 = ap busy is in let gap = in_kill k s r id d at one in let up : x + 1 ≡ (x + 1) % 18446744073709551616 = omega arith in let ws' : List ℕ = set ws i (x + 1) in
      let same : (j : ℕ) → j ≢ i → get_or ws' j 0 ≡ get_or ws j 0 = λ j ne. get_or-set_other ws i j (x + 1) 0 ne in
      let now : get_or ws' i 0 ≡ x + 1 = get_or-set_same ws i (x + 1) 0 (omega arith) in
      let now₀ : get_or ws' (E / 64 + 16) 0 ≡ get_or ws (E / 64 + 16) 0 = same (E / 64 + 16) (λ z. omega arith) in
      let mark : Counts n ws ws' = λ f l. ap (λ (y : ℕ). bit_in y f) (same (f / 64) (λ z. omega arith)) in
      let lit : 0 < mark_of ws' e = (let m = mark e (omega arith) in let p = aims.1 in omega arith) in
      let others : (v : Known) → ViewHolds n ws v → ViewHolds n ws' v = λ v. view_words n ws ws' v (omega arith) (λ f l p. let m = mark f (omega arith) in omega arith) (λ b b_le h imp. let z = imp (omega arith) in omega arith)
      (λ _. live_words n ws ws' (λ f l z. mark f (omega arith) ∙ z) (λ f l z. sym (mark f (omega arith)) ∙ z)) in
      let base = others d h in (
        w,
        keeps,
        tt,
        subst (λ (y : ℕ). MarksHold k record { words = set ws i y; homes = s.homes; views = set s.views id w }) up (moved k s r id d w at ws' record {
          wide = length-set ws i (x + 1);
          safe = λ f l p. r.safe f l (let m = mark f (omega arith) in omega arith);
          spare = λ f l m. mark f m ∙ r.spare f l m;
          killed = λ f l p. inl (let m = mark f (omega arith) in omega arith);
          tried = λ f has. has;
          others = others;
          mine = record {
            net_is = h.net_is;
            seen_killed = λ f has. ⊎_elim
                (λ (t : e ≡ f). subst (λ (j : ℕ). (j < E) × (0 < mark_of ws' j)) t (low, lit))
                (λ (t : Contains d.seen f). base.seen_killed f t)
                (Contains-cases e f d.seen has);
            tried_below = h.tried_below;
            tried_killed = λ f has not. base.tried_killed f has (λ z. absurd (let g : Marked e ≡ Begun f = sym is ∙ z in cc));
            tried_once = h.tried_once;
            aim = tt;
            in_pass = base.in_pass;
            quiet = base.quiet;
            low_is = base.low_is;
          };
          open_kills = let o = r.open_kills in omega arith;
          kills = let o = r.kills in omega arith;
        } refl),
        λ e' is'. let g : Marked e ≡ Marked e' = sym is ∙ is' in let same_e : e ≡ e' = cc in ap (λ (y : ℕ). let v : Sitting = (ended_view i y x d, me.1) in v) same_e,
      )
