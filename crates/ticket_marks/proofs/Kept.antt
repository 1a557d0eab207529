-- What a step that leaves the slots alone has to show.
use Rattle.std.proofs.Common.{◌≡◌, ◌≢◌, ℕ, ◌+◌, ◌*◌, ◌<◌, ◌≤◌, List, length, get_or, set, slice_index, sym, refl, ap, ◌∙◌, subst, ⊎_elim, arith}
use mathlib.Core.Option.{some}
use lib.ListN.{get_elem?}
use lib.Seq.{set-get_or}
use Rattle.atomic_table.specs.Table.{State}
use Rattle.atomic_table.proofs.Lists.{at_set}
use Rattle.lmt_network.specs.Derivation.{IsDerivation}
use Rattle.lmt_network.specs.Network.{NetworkParts}
use Rattle.ticket_marks.specs.declared.view.Known.{Known}
use Rattle.ticket_marks.specs.declared.view.About.{About}
use Rattle.ticket_marks.specs.Rule.{ViewHolds, tries, notes_of, TicketsHold}
use Rattle.ticket_marks.specs.Words.{issued}
use Rattle.mark_seats.specs.Seats.{total}
use Rattle.mark_seats.proofs.Seating.{seats_moved, tries_bounded}
use Rattle.mark_seats.proofs.Totals.{total_set}

module _ (k : About) where
  abbrev pub net : NetworkParts
  net = k.net.value

  -- What a step of the seat id shows, whose view becomes w, of the words ws after it.
  pub record Moves (s : State ℕ Known) (d w : Known) (ws : List ℕ) : Type 0 where
    pub wide : length ws ≡ length s.words
    pub derivation : IsDerivation net ws
    pub low : (e : ℕ) → e < length net.edges → slice_index ws e ≤ issued net ws
    pub others : (e : Known) → ViewHolds net s.words e → ViewHolds net ws e
    pub mine : ViewHolds net ws w
    pub tickets : issued net ws + tries d ≡ total tries s.views + tries w

  pub moved : (s : State ℕ Known) → TicketsHold k s → (id : ℕ) (d w : Known) → get_elem? s.views id ≡ some d → (ws : List ℕ) → Moves s d w ws
      → notes_of w ≡ notes_of d
      → TicketsHold k record { words = ws; homes = s.homes; views = set s.views id w }
  moved s r id d w at ws m same = record {
    wide = m.wide ∙ r.wide;
    few = r.few;
    derivation = m.derivation;
    low = m.low;
    each = λ j e h. ⊎_elim
        (λ (t : (j ≡ id) × (w ≡ e)). subst (ViewHolds net ws) t.1 m.mine)
        (λ (t : (j ≢ id) × (get_elem? s.views j ≡ some e)). m.others e (r.each j e t.1))
        (at_set s.views id j w e h);
    tickets = let t = total_set tries s.views id d w at in let o = m.tickets in omega arith;
    seating = seats_moved notes_of k.seats s.homes s.views r.seating id d w at same;
  }

  -- a step that leaves the words as they are, with a view that has tried as much as before
  pub still : (s : State ℕ Known) → TicketsHold k s → (id i x : ℕ) (d w : Known) → get_elem? s.views id ≡ some d → x ≡ get_or s.words i 0 → ViewHolds net s.words w
      → tries w ≡ tries d → notes_of w ≡ notes_of d
      → TicketsHold k record { words = set s.words i x; homes = s.homes; views = set s.views id w }
  still s r id i x d w at is mine e same =
      subst (λ (ws : List ℕ). TicketsHold k record { words = ws; homes = s.homes; views = set s.views id w }) (sym (ap (set s.words i) is ∙ set-get_or s.words i 0))
      (moved s r id d w at s.words record {
        wide = refl;
        derivation = r.derivation;
        low = r.low;
        others = λ e h. h;
        mine = mine;
        tickets = let o = r.tickets in omega arith;
      } same)

  -- each seat tries each edge once at most
  pub issued_bounded : (s : State ℕ Known) → TicketsHold k s → issued net s.words ≤ 65 * length net.edges
  issued_bounded s r = let t = tries_bounded notes_of k.seats s.homes s.views r.seating (λ d. d.tried) (length net.edges) (λ i d e. let h = r.each i d e in (h.tried_once, h.tried_below)) in
      let c = r.tickets in omega arith

  -- so the count of tickets stays far below 2 ^ 64
  pub issued_small : (s : State ℕ Known) → TicketsHold k s → issued net s.words < 65 * 4294967296
  issued_small s r = let b = issued_bounded s r in let f = r.few in omega arith
