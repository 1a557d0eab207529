-- Opening the tickets, splitting a seat and taking the notes keep the rule.
use Rattle.std.proofs.Common.{◌≡◌, ◌≢◌, ℕ, ◌+◌, ◌*◌, ◌<◌, ◌≤◌, false, List, [], ◌∷◌, length, get_or, set, sym, refl, ap, subst, ⊎_elim, arith}
use mathlib.Core.Option.{none, some, some-ne-none}
use mathlib.Core.Option as maybe
use lib.ListN.{get_elem?}
use lib.Seq.{set-get_or}
use Rattle.atomic_table.specs.Table.{step, takes, Allows, Splits, opening}
use Rattle.atomic_table.proofs.Lists.{at_set, at_snoc}
use Rattle.lmt_network.specs.Network.{NetworkParts}
use Rattle.lmt_network.proofs.Picked.{Contains-nil}
use Rattle.ticket_marks.specs.declared.view.Known.{Known}
use Rattle.ticket_marks.specs.declared.view.About.{About}
use Rattle.ticket_marks.specs.Rule.{first_view, ViewHolds, tries, notes_of, TicketsHold}
use Rattle.ticket_marks.specs.Plays.{Sitting, noted_view, took_note, left_view, right_view}
use Rattle.mark_seats.proofs.Seating.{seats_opened, own_home, seats_took, seats_split}
use Rattle.ticket_marks.proofs.Kept.{net}
use Rattle.mark_seats.proofs.Totals.{total_set, total_last}

module _ (k : About) where
  pub starts : (ws xs : List ℕ) → length ws ≡ length k.net.value.edges + 32 → ((i : ℕ) → get_or ws i 0 ≡ 0) → length xs ≡ k.seats * 32 → 0 < k.seats → k.seats ≤ 65 → length k.net.value.edges < 4294967296
      → TicketsHold k (opening ws xs (first_view k))
  starts ws xs wide blank deep some_seat few small = let n : NetworkParts = net k in let v : Known = first_view k in let b = blank (length n.edges + 16) in
      let one : (j : ℕ) (d : Known) → get_elem? (v ∷ []) j ≡ some d → v ≡ d = λ j d h. ⊎_elim (λ (t : get_elem? [] j ≡ some d). absurd (some-ne-none d (sym t))) (λ (t : v ≡ d). t) (at_snoc [] v d j h) in record {
        wide = wide;
        few = small;
        derivation = record { hull = λ e _ _. blank e; derived = λ e _ above. absurd (let z = blank e in omega arith) };
        low = λ e _. let z = blank e in omega arith;
        each = λ j d h. subst (ViewHolds n ws) (one j d h) record {
          net_is = refl;
          seen_marked = λ s has. absurd (Contains-nil s has);
          tried_below = λ e has. absurd (Contains-nil e has);
          tried_once = λ i j d l m. absurd (omega arith);
          ticket = tt;
        };
        tickets = omega arith;
        seating = seats_opened notes_of k.seats xs v refl refl refl some_seat few deep;
      }

  pub notes : (slots id : ℕ) (me : Sitting) → me.1 ≡ [] → me.0.noted ≡ false → Allows (TicketsHold k) slots id me 0 (λ x. x) (took_note (step slots 0 0 0 none) me)
  notes slots id me bare new s r _ at fits = let n : NetworkParts = net k in let d : Known = me.0 in let v = r.each id d at in let w : Known = noted_view d in let home = own_home notes_of k.seats s.homes s.views r.seating id d w at new in
      let hs : List (maybe.Option ℕ) = set s.homes (d.slot * 32) none in (
        w,
        takes (d.slot * 32) home.0,
        home.1,
        subst (λ (ws : List ℕ). TicketsHold k record { words = ws; homes = hs; views = set s.views id w }) (sym (set-get_or s.words 0 0)) record {
          wide = r.wide;
          few = r.few;
          derivation = r.derivation;
          low = r.low;
          each = λ j e h. ⊎_elim (λ (t : (j ≡ id) × (w ≡ e)). subst (ViewHolds n s.words) t.1 record {
            net_is = v.net_is;
            seen_marked = v.seen_marked;
            tried_below = v.tried_below;
            tried_once = v.tried_once;
            ticket = v.ticket;
          }) (λ (t : (j ≢ id) × (get_elem? s.views j ≡ some e)). r.each j e t.1) (at_set s.views id j w e h);
          tickets = let t = total_set tries s.views id d w at in let o = r.tickets in omega arith;
          seating = seats_took notes_of k.seats s.homes s.views r.seating id d w at new refl refl refl;
        },
        (home.0, ap (λ (l : List (ℕ × ℕ)). let v : Sitting = (w, (d.slot * 32, home.0) ∷ l) in v) bare),
      )

  pub splits : (id : ℕ) (d : Known) → 0 < d.splits → Splits (TicketsHold k) id d (left_view d) (right_view d)
  splits id d some_left s r at = let n : NetworkParts = net k in let v = r.each id d at in let w : Known = left_view d in let o : Known = right_view d in let vs : List Known = set s.views id w in record {
    wide = r.wide;
    few = r.few;
    derivation = r.derivation;
    low = r.low;
    each = λ j e h. ⊎_elim
        (λ (g : get_elem? vs j ≡ some e). ⊎_elim (λ (t : (j ≡ id) × (w ≡ e)). subst (ViewHolds n s.words) t.1 record {
          net_is = v.net_is;
          seen_marked = v.seen_marked;
          tried_below = v.tried_below;
          tried_once = v.tried_once;
          ticket = v.ticket;
        }) (λ (t : (j ≢ id) × (get_elem? s.views j ≡ some e)). r.each j e t.1) (at_set s.views id j w e g))
        (λ (t : o ≡ e). subst (ViewHolds n s.words) t record {
          net_is = v.net_is;
          seen_marked = v.seen_marked;
          tried_below = λ f has. absurd (Contains-nil f has);
          tried_once = λ i j d l m. absurd (omega arith);
          ticket = tt;
        })
        (at_snoc vs o e j h);
    tickets = let t = total_set tries s.views id d w at in let u = total_last tries vs o in let q = r.tickets in omega arith;
    seating = seats_split notes_of k.seats s.homes s.views r.seating id d w at o some_left refl refl refl refl refl refl;
  }
