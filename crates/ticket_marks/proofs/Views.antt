-- What a change of a word does to the derivation and to what the rule says of a view.
use Rattle.std.proofs.Common.{◌≡◌, ◌≢◌, ℕ, ◌<◌, ◌≤◌, List, length, get_or, slice_index, sym, ap, ◌∙◌, subst, arith}
use mathlib.Core.Logic.{dite}
use native.Mathlib.Decide.{ℕ_discrete}
use Rattle.lmt_network.specs.Derivation.{IsDerivation}
use Rattle.lmt_network.specs.Network.{NetworkParts}
use Rattle.lmt_network.specs.Numbers.{IsHullNumber, IsMinimalPair, IsOtherSide}
use Rattle.ticket_marks.specs.declared.view.Ranked.{Ranked}
use Rattle.ticket_marks.specs.declared.view.Drawn.{Drawn}
use Rattle.ticket_marks.specs.declared.view.Drawn.TheVariants.{NoTicket, Ticket}
use Rattle.ticket_marks.specs.declared.view.Known.{Known}
use Rattle.ticket_marks.specs.Rule.{DrawnHolds, ViewHolds}
use Rattle.ticket_marks.specs.Words.{issued}
use Rattle.mark_seats.proofs.Sides.{other_side_in}

-- ranks that are the same are a derivation too
pub derivation_same : (n : NetworkParts) (ranks more : List ℕ) → ((e : ℕ) → e < length n.edges → slice_index more e ≡ slice_index ranks e) → IsDerivation n ranks → IsDerivation n more
derivation_same n ranks more same are =
    record {
      hull = λ e e_in h. same e e_in ∙ are.hull e e_in h;
      derived = λ e e_in some l r pair.
          let here = same e e_in in
          let was = are.derived e e_in (omega arith) l r pair in
          let there = same was.0 (other_side_in n e l r was.0 was.1) in
          let above = was.2 in
          let below = was.3 in
          (was.0, was.1, omega arith, omega arith);
    }

-- the ranks stay a derivation where one that was 0 becomes m, above those that break its edge's pairs
pub derivation_more : (n : NetworkParts) (ranks more : List ℕ) (e m : ℕ) → slice_index ranks e ≡ 0 → slice_index more e ≡ m → ((f : ℕ) → f ≢ e → slice_index more f ≡ slice_index ranks f)
    → ¬ IsHullNumber n e → ((l r : ℕ) → IsMinimalPair n e l r → (f : ℕ) × IsOtherSide n e l r f × (0 < slice_index ranks f) × (slice_index ranks f < m))
    → IsDerivation n ranks → IsDerivation n more
derivation_more n ranks more e m was now same inner broken are =
    record {
      hull = λ f f_in h. dite (ℕ_discrete f e)
          (λ (is : f ≡ e). absurd (inner (subst (IsHullNumber n) is h)))
          (λ ne. same f ne ∙ are.hull f f_in h);
      derived = λ f f_in some l r pair. dite (ℕ_discrete f e)
          (λ (is : f ≡ e).
          let b = broken l r (subst (λ (g : ℕ). IsMinimalPair n g l r) is pair) in
          let there = same b.0 b.1.0 in
          let above = b.2 in
          let below = b.3 in
          let here : slice_index more f ≡ m = ap (slice_index more) is ∙ now in
          (b.0, subst (λ (g : ℕ). IsOtherSide n g l r b.0) (sym is) b.1, omega arith, omega arith))
          (λ ne.
          let here = same f ne in
          let b = are.derived f f_in (omega arith) l r pair in
          let above = b.2 in
          let below = b.3 in
          let there = same b.0 (λ (z : b.0 ≡ e). let none : slice_index ranks b.0 ≡ 0 = ap (slice_index ranks) z ∙ was in absurd (omega arith)) in
          (b.0, b.1, omega arith, omega arith));
    }

drawn_more : (n : NetworkParts) (i j : ℕ) (seen : List Ranked) (tried : List ℕ) (p : Drawn) → i ≤ j → DrawnHolds n i seen tried p → DrawnHolds n j seen tried p
drawn_more n i j seen tried NoTicket up holds = tt
drawn_more n i j seen tried (Ticket e t) up holds = let low = holds.0 in (omega arith, holds.1, holds.2, holds.3, holds.4)

-- a view that its seat leaves alone, where marks above 0 stay and no fewer tickets were drawn
pub view_words : (n : NetworkParts) (ws ws' : List ℕ) (d : Known) → ((e : ℕ) → e < length n.edges → 0 < get_or ws e 0 → get_or ws' e 0 ≡ get_or ws e 0) → issued n ws ≤ issued n ws' → ViewHolds n ws d → ViewHolds n ws' d
view_words n ws ws' d same up holds = record {
  net_is = holds.net_is;
  seen_marked = λ s has. let t = holds.seen_marked s has in let some = t.1 in let is = t.2 in (t.0, t.1, same s.edge t.0 (omega arith) ∙ t.2);
  tried_below = holds.tried_below;
  tried_once = holds.tried_once;
  ticket = drawn_more n (issued n ws) (issued n ws') d.seen d.tried d.drawn up holds.ticket;
}
