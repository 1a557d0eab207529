-- What a step that leaves the slots alone has to show.
use Rattle.std.proofs.Common.{◌≡◌, ◌≢◌, ℕ, ◌+◌, ◌*◌, ◌/◌, ◌<◌, ◌⊎◌, ◌≤◌, List, length, get_or, set, Contains, sym, refl, ap, ◌∙◌, subst, inl, ⊎_elim, arith}
use Rattle.std.proofs.lemmas.List.Quantifiers.{any-set}
use mathlib.Core.Option.{some}
use mathlib.Core.Logic.{dite}
use native.Mathlib.Decide.{ℕ_discrete}
use lib.ListN.{get_elem?}
use lib.Seq.{set-get_or}
use Rattle.atomic_table.specs.Table.{State}
use Rattle.atomic_table.proofs.Lists.{at_set, at_index}
use Rattle.lmt_network.specs.Network.{NetworkParts}
use Rattle.lmt_network.specs.Numbers.{IsDead}
use Rattle.edge_marks.specs.declared.view.Known.{Known}
use Rattle.edge_marks.specs.declared.view.About.{About}
use Rattle.edge_marks.specs.Words.{mark_of}
use Rattle.edge_marks.specs.Rule.{begun, finished, ViewHolds, is_busy, tries, notes_of, MarksHold}
use Rattle.mark_seats.specs.Seats.{total}
use Rattle.mark_seats.proofs.Members.{any_after, item_at}
use Rattle.mark_seats.proofs.Seating.{seats_moved, tries_bounded}
use Rattle.mark_seats.proofs.Totals.{total_set, total_at}

module _ (k : About) where
  abbrev pub net : NetworkParts
  net = k.net.value

  -- What a step of the seat id shows, whose view becomes w, of the words ws after it.
  pub record Moves (s : State ℕ Known) (d w : Known) (ws : List ℕ) : Type 0 where
    pub wide : length ws ≡ length s.words
    pub safe : (e : ℕ) → e < length net.edges → 0 < mark_of ws e → IsDead net e
    pub spare : (e : ℕ) → length net.edges ≤ e → e / 64 < length net.edges / 64 + 1 → mark_of ws e ≡ 0
    pub killed : (e : ℕ) → e < length net.edges → 0 < mark_of ws e → (0 < mark_of s.words e) ⊎ Contains w.tried e
    pub tried : (e : ℕ) → Contains d.tried e → Contains w.tried e
    pub others : (e : Known) → ViewHolds net s.words e → ViewHolds net ws e
    pub mine : ViewHolds net ws w
    pub open_kills : finished net ws + (total is_busy s.views + is_busy w) ≡ begun net ws + is_busy d
    pub kills : begun net ws + tries d ≡ total tries s.views + tries w

  pub moved : (s : State ℕ Known) → MarksHold k s → (id : ℕ) (d w : Known) → get_elem? s.views id ≡ some d → (ws : List ℕ) → Moves s d w ws
      → notes_of w ≡ notes_of d
      → MarksHold k record { words = ws; homes = s.homes; views = set s.views id w }
  moved s r id d w at ws m same = record {
    wide = m.wide ∙ r.wide;
    few = r.few;
    safe = m.safe;
    spare = m.spare;
    killed_tried = λ e low lit. ⊎_elim
        (λ (was : 0 < mark_of s.words e). any_after (λ (v : Known). Contains v.tried e) s.views id d w at (m.tried e) (r.killed_tried e low was))
        (λ (has : Contains w.tried e). any-set (λ (v : Known). Contains v.tried e) s.views id w (item_at s.views id d d at).0 has)
        (m.killed e low lit);
    each = λ j e h. ⊎_elim
        (λ (t : (j ≡ id) × (w ≡ e)). subst (ViewHolds net ws) t.1 m.mine)
        (λ (t : (j ≢ id) × (get_elem? s.views j ≡ some e)). m.others e (r.each j e t.1))
        (at_set s.views id j w e h);
    open_kills = let t = total_set is_busy s.views id d w at in let o = m.open_kills in omega arith;
    kills = let t = total_set tries s.views id d w at in let o = m.kills in omega arith;
    seating = seats_moved notes_of k.seats s.homes s.views r.seating id d w at same;
  }

  -- a load, with a view that is as busy and has tried as much as before
  pub load_kept : (s : State ℕ Known) → MarksHold k s → (id i : ℕ) (d w : Known) → get_elem? s.views id ≡ some d → ViewHolds net s.words w
      → is_busy w ≡ is_busy d → w.tried ≡ d.tried → notes_of w ≡ notes_of d
      → MarksHold k record { words = set s.words i (get_or s.words i 0); homes = s.homes; views = set s.views id w }
  load_kept s r id i d w at mine e₁ e₂ same =
      subst (λ (ws : List ℕ). MarksHold k record { words = ws; homes = s.homes; views = set s.views id w }) (sym (set-get_or s.words i 0))
      (moved s r id d w at s.words record {
        wide = refl;
        safe = r.safe;
        spare = r.spare;
        killed = λ e _ lit. inl lit;
        tried = λ e has. subst (λ (l : List ℕ). Contains l e) (sym e₂) has;
        others = λ e h. h;
        mine = mine;
        open_kills = let o = r.open_kills in omega arith;
        kills = let o = r.kills in let t = ap (λ (l : List ℕ). length l) e₂ in omega arith;
      } same)

  -- each seat tries each edge once at most
  pub begun_bounded : (s : State ℕ Known) → MarksHold k s → begun net s.words ≤ 65 * length net.edges
  begun_bounded s r = let t = tries_bounded notes_of k.seats s.homes s.views r.seating (λ d. d.tried) (length net.edges) (λ i d e. let h = r.each i d e in (h.tried_once, h.tried_below)) in
      let c = r.kills in omega arith

  -- so the count of kills stays far below 2 ^ 64
  pub begun_small : (s : State ℕ Known) → MarksHold k s → begun net s.words < 65 * 4294967296
  begun_small s r = let b = begun_bounded s r in let f = r.few in omega arith

  -- where no kill has begun no edge is killed
  pub none_killed : (s : State ℕ Known) → MarksHold k s → begun net s.words ≡ 0 → (e : ℕ) → e < length net.edges → mark_of s.words e ≡ 0
  none_killed s r none e low = dite (ℕ_discrete (mark_of s.words e) 0)
      (λ z. z)
      (λ z. absurd (let t = r.killed_tried e low (omega arith) in let m = total_at tries s.views t.0 t.1 (at_index s.views t.0 t.1 t.2 (sym t.3)) in let c = r.kills in let l = t.4.1 in omega arith))

  -- while the seat id is in the midst of a kill the counters differ
  pub in_kill : (s : State ℕ Known) → MarksHold k s → (id : ℕ) (d : Known) → get_elem? s.views id ≡ some d → is_busy d ≡ 1 → finished net s.words < begun net s.words
  in_kill s r id d at one = let t = total_at is_busy s.views id d at in let o = r.open_kills in omega arith
