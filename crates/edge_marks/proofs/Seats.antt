-- Opening the marks, splitting a seat and taking the notes keep the rule.
use Rattle.std.proofs.Common.{◌≡◌, ◌≢◌, ℕ, ◌+◌, ◌*◌, ◌/◌, ◌%◌, ◌<◌, ◌≤◌, false, List, [], ◌∷◌, ◌++◌, length, get_or, set, Contains, sym, refl, ap, ◌∙◌, subst, ⊎_elim, arith}
use Rattle.std.proofs.lemmas.Bool.{false≢true}
use Rattle.std.proofs.lemmas.Nat.Bits.{bit_at-zero}
use mathlib.Core.Option.{none, some, some-ne-none}
use mathlib.Core.Option as maybe
use lib.ListN.{get_elem?}
use lib.Seq.{set-get_or}
use Rattle.atomic_table.specs.Table.{step, takes, Allows, Splits, opening}
use Rattle.atomic_table.proofs.Lists.{at_set, at_snoc}
use Rattle.lmt_network.specs.Network.{NetworkParts}
use Rattle.lmt_network.proofs.Picked.{Contains-nil}
use Rattle.edge_marks.specs.declared.view.Known.{Known}
use Rattle.edge_marks.specs.declared.view.About.{About}
use Rattle.mark_seats.specs.Bits.{bit_in}
use Rattle.edge_marks.specs.Words.{mark_of}
use Rattle.edge_marks.specs.Rule.{first_view, ViewHolds, is_busy, tries, notes_of, MarksHold}
use Rattle.edge_marks.specs.Plays.{Sitting, noted_view, took_note, left_view, right_view}
use Rattle.mark_seats.proofs.Members.{any_after, any_more, contains_more}
use Rattle.mark_seats.proofs.Seating.{seats_opened, own_home, seats_took, seats_split}
use Rattle.edge_marks.proofs.Kept.{net}
use Rattle.mark_seats.proofs.Totals.{total_set, total_last}

no_mark : (ws : List ℕ) → ((i : ℕ) → get_or ws i 0 ≡ 0) → (e : ℕ) → mark_of ws e ≡ 0
no_mark ws blank e = ap (λ (x : ℕ). bit_in x e) (blank (e / 64)) ∙ bit_at-zero (e % 64)

module _ (k : About) where
  pub starts : (ws xs : List ℕ) → length ws ≡ length k.net.value.edges / 64 + 48 → ((i : ℕ) → get_or ws i 0 ≡ 0) → length xs ≡ k.seats * 32 → 0 < k.seats → k.seats ≤ 65 → length k.net.value.edges < 4294967296
      → MarksHold k (opening ws xs (first_view k))
  starts ws xs wide blank deep some_seat few small = let n : NetworkParts = net k in let v : Known = first_view k in let b₁ = blank (length n.edges / 64 + 16) in let b₂ = blank (length n.edges / 64 + 32) in
      let one : (j : ℕ) (d : Known) → get_elem? (v ∷ []) j ≡ some d → v ≡ d = λ j d h. ⊎_elim (λ (t : get_elem? [] j ≡ some d). absurd (some-ne-none d (sym t))) (λ (t : v ≡ d). t) (at_snoc [] v d j h) in record {
        wide = wide;
        few = small;
        safe = λ e low lit. absurd (let b = no_mark ws blank e in omega arith);
        spare = λ e _ _. no_mark ws blank e;
        killed_tried = λ e low lit. absurd (let b = no_mark ws blank e in omega arith);
        each = λ j d h. subst (ViewHolds n ws) (one j d h) record {
          net_is = refl;
          seen_killed = λ e has. absurd (Contains-nil e has);
          tried_below = λ e has. absurd (Contains-nil e has);
          tried_killed = λ e has _. absurd (Contains-nil e has);
          tried_once = λ i j d l m. absurd (omega arith);
          aim = tt;
          in_pass = tt;
          quiet = λ z. absurd (false≢true z);
          low_is = omega arith;
        };
        open_kills = omega arith;
        kills = omega arith;
        seating = seats_opened notes_of k.seats xs v refl refl refl some_seat few deep;
      }

  pub notes : (slots id : ℕ) (me : Sitting) → me.1 ≡ [] → me.0.noted ≡ false → Allows (MarksHold k) slots id me 0 (λ x. x) (took_note (step slots 0 0 0 none) me)
  notes slots id me bare new s r _ at fits = let n : NetworkParts = net k in let d : Known = me.0 in let v = r.each id d at in let w : Known = noted_view d in let home = own_home notes_of k.seats s.homes s.views r.seating id d w at new in
      let hs : List (maybe.Option ℕ) = set s.homes (d.slot * 32) none in (
        w,
        takes (d.slot * 32) home.0,
        home.1,
        subst (λ (ws : List ℕ). MarksHold k record { words = ws; homes = hs; views = set s.views id w }) (sym (set-get_or s.words 0 0)) record {
          wide = r.wide;
          few = r.few;
          safe = r.safe;
          spare = r.spare;
          killed_tried = λ e low lit. any_after (λ (v : Known). Contains v.tried e) s.views id d w at (λ has. has) (r.killed_tried e low lit);
          each = λ j e h. ⊎_elim (λ (t : (j ≡ id) × (w ≡ e)). subst (ViewHolds n s.words) t.1 record {
            net_is = v.net_is;
            seen_killed = v.seen_killed;
            tried_below = v.tried_below;
            tried_killed = v.tried_killed;
            tried_once = v.tried_once;
            aim = v.aim;
            in_pass = v.in_pass;
            quiet = v.quiet;
            low_is = v.low_is;
          }) (λ (t : (j ≢ id) × (get_elem? s.views j ≡ some e)). r.each j e t.1) (at_set s.views id j w e h);
          open_kills = let t = total_set is_busy s.views id d w at in let o = r.open_kills in omega arith;
          kills = let t = total_set tries s.views id d w at in let o = r.kills in omega arith;
          seating = seats_took notes_of k.seats s.homes s.views r.seating id d w at new refl refl refl;
        },
        (home.0, ap (λ (l : List (ℕ × ℕ)). let v : Sitting = (w, (d.slot * 32, home.0) ∷ l) in v) bare),
      )

  pub splits : (id : ℕ) (d : Known) → 0 < d.splits → Splits (MarksHold k) id d (left_view d) (right_view d)
  splits id d some_left s r at = let n : NetworkParts = net k in let v = r.each id d at in let w : Known = left_view d in let o : Known = right_view d in let vs : List Known = set s.views id w in record {
    wide = r.wide;
    few = r.few;
    safe = r.safe;
    spare = r.spare;
    killed_tried = λ e low lit. any_more (λ (v : Known). Contains v.tried e) vs (vs ++ o ∷ []) (λ v has. contains_more vs o v has) (any_after (λ (v : Known). Contains v.tried e) s.views id d w at (λ has. has) (r.killed_tried e low lit));
    each = λ j e h. ⊎_elim
        (λ (g : get_elem? vs j ≡ some e). ⊎_elim (λ (t : (j ≡ id) × (w ≡ e)). subst (ViewHolds n s.words) t.1 record {
          net_is = v.net_is;
          seen_killed = v.seen_killed;
          tried_below = v.tried_below;
          tried_killed = v.tried_killed;
          tried_once = v.tried_once;
          aim = v.aim;
          in_pass = v.in_pass;
          quiet = v.quiet;
          low_is = v.low_is;
        }) (λ (t : (j ≢ id) × (get_elem? s.views j ≡ some e)). r.each j e t.1) (at_set s.views id j w e g))
        (λ (t : o ≡ e). subst (ViewHolds n s.words) t record {
          net_is = v.net_is;
          seen_killed = v.seen_killed;
          tried_below = λ f has. absurd (Contains-nil f has);
          tried_killed = λ f has _. absurd (Contains-nil f has);
          tried_once = λ i j d l m. absurd (omega arith);
          aim = tt;
          in_pass = tt;
          quiet = λ z. absurd (false≢true z);
          low_is = omega arith;
        })
        (at_snoc vs o e j h);
    open_kills = let t = total_set is_busy s.views id d w at in let u = total_last is_busy vs o in let q = r.open_kills in omega arith;
    kills = let t = total_set tries s.views id d w at in let u = total_last tries vs o in let q = r.kills in omega arith;
    seating = seats_split notes_of k.seats s.homes s.views r.seating id d w at o some_left refl refl refl refl refl refl;
  }
