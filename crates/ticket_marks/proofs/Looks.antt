-- A load of a mark keeps the rule.
use Rattle.std.proofs.Common.{◌≡◌, ℕ, zero, suc, ◌<◌, List, length, get_or, Contains, sym, refl, subst, ⊎_elim, arith}
use mathlib.Core.Option.{none}
use Rattle.atomic_table.specs.Table.{step, keeps, Allows}
use Rattle.lmt_network.specs.Network.{NetworkParts}
use Rattle.lmt_network.specs.Numbers.{IsDead}
use Rattle.lmt_network.proofs.Derivations.{ranked_dead_law}
use Rattle.lmt_network.proofs.Picked.{Contains-cases}
use Rattle.ticket_marks.specs.declared.view.Ranked.{Ranked}
use Rattle.ticket_marks.specs.declared.view.Drawn.{Drawn}
use Rattle.ticket_marks.specs.declared.view.Drawn.TheVariants.{NoTicket, Ticket}
use Rattle.ticket_marks.specs.declared.view.Known.{Known}
use Rattle.ticket_marks.specs.declared.view.About.{About}
use Rattle.ticket_marks.specs.Rule.{ranked, DrawnHolds, TicketsHold}
use Rattle.ticket_marks.specs.Words.{issued}
use Rattle.ticket_marks.specs.Plays.{Sitting, now_seen, looked_view, looked}
use Rattle.ticket_marks.proofs.Kept.{net, still}
use Rattle.ticket_marks.proofs.Loads.{seen_more}

-- an edge seen has its mark
abbrev IsMarked : NetworkParts → List ℕ → Ranked → Type 0
IsMarked n ws s = (s.edge < length n.edges) × (0 < s.rank) × (get_or ws s.edge 0 ≡ s.rank)

seen_now : (n : NetworkParts) (ws : List ℕ) (e x : ℕ) (seen : List Ranked) → e < length n.edges → get_or ws e 0 ≡ x → ((s : Ranked) → Contains seen s → IsMarked n ws s)
    → (s : Ranked) → Contains (now_seen e x seen) s → IsMarked n ws s
seen_now n ws e zero seen low is old s h = old s h
seen_now n ws e (suc x) seen low is old s h = ⊎_elim
    (λ (same : ranked e (suc x) ≡ s). subst (IsMarked n ws) same (let p : 0 < suc x = omega arith in (low, p, is)))
    (λ (t : Contains seen s). old s t)
    (Contains-cases (ranked e (suc x)) s seen h)

-- a ticket stays good where more edges were seen
pub drawn_seen : (n : NetworkParts) (count : ℕ) (seen more : List Ranked) (tried : List ℕ) (p : Drawn) → ((s : Ranked) → Contains seen s → Contains more s) → DrawnHolds n count seen tried p → DrawnHolds n count more tried p
drawn_seen n count seen more tried NoTicket kept holds = tt
drawn_seen n count seen more tried (Ticket e t) kept holds = (
  holds.0,
  holds.1,
  holds.2,
  holds.3,
  λ l r pair. let b = holds.4 l r pair in (b.0, b.1, b.2, kept (ranked b.0 b.1) b.3, b.4),
)

module _ (k : About) where
  pub looks : (slots id : ℕ) (me : Sitting) (e : ℕ) → e < length k.net.value.edges → Allows (TicketsHold k) slots id me e (λ x. x) (looked (step slots e 0 0 none) me)
  looks slots id me e low s r at_home at fits = let n : NetworkParts = net k in let x : ℕ = get_or s.words e 0 in let d : Known = me.0 in let h = r.each id d at in
      let w : Known = looked_view e x d in (
        w,
        keeps,
        tt,
        still k s r id e x d w at refl record {
          net_is = h.net_is;
          seen_marked = seen_now n s.words e x d.seen low refl h.seen_marked;
          tried_below = h.tried_below;
          tried_once = h.tried_once;
          ticket = drawn_seen n (issued n s.words) d.seen (now_seen e x d.seen) d.tried d.drawn (λ y has. seen_more e x y d.seen has) h.ticket;
        } refl refl,
        (
          refl,
          record {
            dead = λ p. subst (λ (m : NetworkParts). IsDead m e) (sym h.net_is) (ranked_dead_law n s.words e r.derivation low p);
            seen = λ m has. (h.seen_marked (ranked e m) has).2;
          },
        ),
      )
