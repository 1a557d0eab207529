-- The two steps of a kill keep the rule.
use Rattle.std.proofs.Common.{◌≡◌, ◌≢◌, ℕ, zero, suc, ◌+◌, ◌*◌, ◌%◌, ◌^◌, ◌<◌, ◌≤◌, eqb, List, [], ◌∷◌, length, get_or, set, Contains, sym, refl, ap, ◌∙◌, subst, ⊎_elim, arith, length-set, get_or-set_other, get_or-set_same}
use mathlib.Core.Logic.{dite}
use mathlib.Core.Option.{none, some}
use native.Mathlib.Decide.{ℕ_discrete}
use lib.ListN.{get_elem?}
use prog.Atomic.{either}
use Rattle.atomic_table.specs.Table.{State, step, keeps, Allows}
use Rattle.atomic_table.proofs.Lists.{exchanged}
use Rattle.lmt_network.specs.Network.{NetworkParts}
use Rattle.lmt_network.specs.Numbers.{IsHullNumber, IsOtherSide, IsBroken}
use Rattle.lmt_network.proofs.Picked.{Contains-here, Contains-cases}
use Rattle.ticket_marks.specs.declared.view.Ranked.{Ranked}
use Rattle.ticket_marks.specs.declared.view.Drawn.{Drawn}
use Rattle.ticket_marks.specs.declared.view.Drawn.TheVariants.{Ticket}
use Rattle.ticket_marks.specs.declared.view.Known.{Known}
use Rattle.ticket_marks.specs.declared.view.About.{About}
use Rattle.ticket_marks.specs.Rule.{ranked, edges_seen, DrawnHolds, ViewHolds, TicketsHold}
use Rattle.ticket_marks.specs.Words.{issued}
use Rattle.ticket_marks.specs.Plays.{Sitting, drawn_view, drew, now_mark, killed_view, killed}
use Rattle.ticket_marks.proofs.Kept.{net, moved, still, issued_small, issued_bounded}
use Rattle.mark_seats.proofs.Members.{distinct_more}
use Rattle.ticket_marks.proofs.SeenRanks.{seen_rank}
use Rattle.ticket_marks.proofs.Views.{derivation_same, derivation_more, view_words}

now_mark_first : (t x : ℕ) → x ≡ 0 → now_mark t x ≡ t + 1
now_mark_first t zero is = refl
now_mark_first t (suc x) is = absurd (omega arith)

now_mark_already : (t x : ℕ) → x ≢ 0 → now_mark t x ≡ x
now_mark_already t zero ne = absurd (ne refl)
now_mark_already t (suc x) ne = refl

-- the edge in the note
abbrev edge_noted : List (ℕ × ℕ) → ℕ
edge_noted [] = 0
edge_noted (y ∷ ys) = y.1

-- the ticket that a seat has drawn
ticket_of : (n : NetworkParts) (count : ℕ) (seen : List Ranked) (tried : List ℕ) (p : Drawn) (e t : ℕ) → p ≡ Ticket e t → DrawnHolds n count seen tried p → DrawnHolds n count seen tried (Ticket e t)
ticket_of n count seen tried p e t is holds = subst (DrawnHolds n count seen tried) is holds

module _ (k : About) where
  pub draws : (slots id : ℕ) (me : Sitting) (note e : ℕ) → me.1 ≡ (note, e) ∷ [] → e < length k.net.value.edges → ¬ IsHullNumber k.net.value e → ¬ Contains me.0.tried e → IsBroken k.net.value (edges_seen me.0.seen) e
      → Allows (TicketsHold k) slots id me (length k.net.value.edges + 16) (λ x. (x + 1) % 2 ^ 64) (drew (step slots (length k.net.value.edges + 16) 1 0 none) me)
  draws slots id me note e carried low inner new broken s r at_home at fits = let n : NetworkParts = net k in let ws : List ℕ = s.words in let E : ℕ = length n.edges in let W : ℕ = E + 16 in let x : ℕ = get_or ws W 0 in let d : Known = me.0 in let h = r.each id d at in
      let w : Known = drawn_view W e x d in let small = issued_small k s r in let up : x + 1 ≡ (x + 1) % 18446744073709551616 = omega arith in let ws' : List ℕ = set ws W (x + 1) in let wide = r.wide in
      let same : (j : ℕ) → j < E → get_or ws' j 0 ≡ get_or ws j 0 = λ j l. get_or-set_other ws W j (x + 1) 0 (λ z. omega arith) in
      let now : get_or ws' W 0 ≡ x + 1 = get_or-set_same ws W (x + 1) 0 (omega arith) in
      let others : (v : Known) → ViewHolds n ws v → ViewHolds n ws' v = λ v. view_words n ws ws' v (λ f l p. same f l) (omega arith) in
      let base = others d h in
      let s' : State ℕ Known = record { words = ws'; homes = s.homes; views = set s.views id w } in
      let kept : TicketsHold k s' = moved k s r id d w at ws' record {
        wide = length-set ws W (x + 1);
        derivation = derivation_same n ws ws' same r.derivation;
        low = λ f l. let m = same f l in let o = r.low f l in omega arith;
        others = others;
        mine = record {
          net_is = h.net_is;
          seen_marked = base.seen_marked;
          tried_below = λ f has. ⊎_elim (λ (t : e ≡ f). subst (λ (y : ℕ). y < E) t low) (λ (t : Contains d.tried f). h.tried_below f t) (Contains-cases e f d.tried has);
          tried_once = distinct_more e d.tried new h.tried_once;
          ticket = (
            omega arith,
            low,
            inner,
            Contains-here e d.tried,
            λ l r' pair.
                let b = broken l r' pair in
                let q = seen_rank d.seen b.1 (b.0, b.2, b.3) in
                let m = h.seen_marked q.0 q.1 in
                let is = m.2 in
                let most = r.low q.0.edge m.0 in
                (q.0.edge, q.0.rank, subst (IsOtherSide n e l r') (sym q.2) b.4, q.1, omega arith),
          );
        };
        tickets = let o = r.tickets in omega arith;
      } refl in
      let most = issued_bounded k s' kept in let bound : x + 1 ≤ 65 * length d.net.edges = subst (λ (m : NetworkParts). x + 1 ≤ 65 * length m.edges) (sym h.net_is) (omega arith) in (
        w,
        keeps,
        tt,
        subst (λ (y : ℕ). TicketsHold k record { words = set ws W y; homes = s.homes; views = set s.views id w }) up kept,
        λ k' e' is. let same_e : e ≡ e' = ap edge_noted (sym carried ∙ is) in (ap (λ (z : ℕ). let v : Sitting = (drawn_view W z x d, me.1) in v) same_e, bound),
      )

  -- the state after a first kill
  first : (s : State ℕ Known) → TicketsHold k s → (id e t : ℕ) (d : Known) → get_elem? s.views id ≡ some d → d.drawn ≡ Ticket e t → get_or s.words e 0 ≡ 0
      → TicketsHold k record { words = set s.words e (t + 1); homes = s.homes; views = set s.views id (killed_view e t (get_or s.words e 0) d) }
  first s r id e t d at drawn was = let n : NetworkParts = net k in let ws : List ℕ = s.words in let E : ℕ = length n.edges in let x : ℕ = get_or ws e 0 in let h = r.each id d at in
      let w : Known = killed_view e t x d in let ws' : List ℕ = set ws e (t + 1) in let wide = r.wide in
      let good = ticket_of n (issued n ws) d.seen d.tried d.drawn e t drawn h.ticket in
      let below = good.0 in let low = good.1 in
      let same : (j : ℕ) → j ≢ e → get_or ws' j 0 ≡ get_or ws j 0 = λ j ne. get_or-set_other ws e j (t + 1) 0 ne in
      let now : get_or ws' e 0 ≡ t + 1 = get_or-set_same ws e (t + 1) 0 (omega arith) in
      let count : issued n ws' ≡ issued n ws = same (E + 16) (λ z. omega arith) in
      let marked : (f : ℕ) → f < E → 0 < get_or ws f 0 → get_or ws' f 0 ≡ get_or ws f 0 = λ f l p. same f (λ z. let q : get_or ws f 0 ≡ x = ap (λ (i : ℕ). get_or ws i 0) z in omega arith) in
      let others : (v : Known) → ViewHolds n ws v → ViewHolds n ws' v = λ v. view_words n ws ws' v marked (omega arith) in
      let base = others d h in
      let stands : now_mark t x ≡ t + 1 = now_mark_first t x was in
      moved k s r id d w at ws' record {
        wide = length-set ws e (t + 1);
        derivation = derivation_more n ws ws' e (t + 1) was now same good.2
            (λ l r' pair.
            let b = good.4 l r' pair in
            let m = h.seen_marked (ranked b.0 b.1) b.3 in
            let above = m.1 in let is = m.2 in let most = b.4 in
            (b.0, b.2, omega arith, omega arith)) r.derivation;
        low = λ f l. dite (ℕ_discrete f e)
            (λ (z : f ≡ e). let q : get_or ws' f 0 ≡ get_or ws' e 0 = ap (λ (i : ℕ). get_or ws' i 0) z in omega arith)
            (λ ne. let m = same f ne in let o = r.low f l in omega arith);
        others = others;
        mine = record {
          net_is = h.net_is;
          seen_marked = λ y has. ⊎_elim
              (λ (z : ranked e (now_mark t x) ≡ y). subst (λ (y : Ranked). (y.edge < E) × (0 < y.rank) × (get_or ws' y.edge 0 ≡ y.rank)) z (let p : 0 < now_mark t x = omega arith in (low, p, now ∙ sym stands)))
              (λ (old : Contains d.seen y). base.seen_marked y old)
              (Contains-cases (ranked e (now_mark t x)) y d.seen has);
          tried_below = h.tried_below;
          tried_once = h.tried_once;
          ticket = tt;
        };
        tickets = let o = r.tickets in omega arith;
      } refl

  -- the state after a kill that found a rank
  already : (s : State ℕ Known) → TicketsHold k s → (id e t : ℕ) (d : Known) → get_elem? s.views id ≡ some d → d.drawn ≡ Ticket e t → get_or s.words e 0 ≢ 0
      → TicketsHold k record { words = set s.words e (get_or s.words e 0); homes = s.homes; views = set s.views id (killed_view e t (get_or s.words e 0) d) }
  already s r id e t d at drawn above = let n : NetworkParts = net k in let ws : List ℕ = s.words in let x : ℕ = get_or ws e 0 in let h = r.each id d at in
      let good = ticket_of n (issued n ws) d.seen d.tried d.drawn e t drawn h.ticket in
      let stands : now_mark t x ≡ x = now_mark_already t x above in
      still k s r id e x d (killed_view e t x d) at refl record {
        net_is = h.net_is;
        seen_marked = λ y has. ⊎_elim
            (λ (z : ranked e (now_mark t x) ≡ y). subst (λ (y : Ranked). (y.edge < length n.edges) × (0 < y.rank) × (get_or ws y.edge 0 ≡ y.rank)) z (let p : 0 < now_mark t x = omega arith in (good.1, p, sym stands)))
            (λ (old : Contains d.seen y). h.seen_marked y old)
            (Contains-cases (ranked e (now_mark t x)) y d.seen has);
        tried_below = h.tried_below;
        tried_once = h.tried_once;
        ticket = tt;
      } refl refl

  pub stores : (slots id : ℕ) (me : Sitting) (e t m : ℕ) → me.0.drawn ≡ Ticket e t → m ≡ t + 1
      → Allows (TicketsHold k) slots id me e (λ x. either (eqb x 0) m x) (killed (step slots e 0 m none) me)
  stores slots id me e t m drawn is s r at_home at fits = let x : ℕ = get_or s.words e 0 in let d : Known = me.0 in let w : Known = killed_view e t x d in (
    w,
    keeps,
    tt,
    exchanged x 0 m (λ (y : ℕ). TicketsHold k record { words = set s.words e y; homes = s.homes; views = set s.views id w })
        (λ z. subst (λ (y : ℕ). TicketsHold k record { words = set s.words e y; homes = s.homes; views = set s.views id w }) (sym is) (first s r id e t d at drawn z))
        (λ ne. already s r id e t d at drawn ne),
    λ e' t' is'. let g : Ticket e t ≡ Ticket e' t' = sym drawn ∙ is' in let same_e : e ≡ e' = cc in let same_t : t ≡ t' = cc in
        ap (λ (z : ℕ × ℕ). let v : Sitting = (killed_view z.0 z.1 x d, me.1) in v) (λ i. (same_e i, same_t i)),
  )

  -- a ticket, at a word that is said to be the counter's
  pub draws_at : (slots id : ℕ) (me : Sitting) (i note e : ℕ) → i ≡ length k.net.value.edges + 16 → me.1 ≡ (note, e) ∷ [] → e < length k.net.value.edges → ¬ IsHullNumber k.net.value e → ¬ Contains me.0.tried e → IsBroken k.net.value (edges_seen me.0.seen) e
      → Allows (TicketsHold k) slots id me i (λ x. (x + 1) % 2 ^ 64) (drew (step slots i 1 0 none) me)
  draws_at slots id me i note e is a b c d f = subst (λ (i : ℕ). Allows (TicketsHold k) slots id me i (λ x. (x + 1) % 2 ^ 64) (drew (step slots i 1 0 none) me)) (sym is) (draws slots id me note e a b c d f)
