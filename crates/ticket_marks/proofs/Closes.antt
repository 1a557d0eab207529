-- What the ranks of the last state say.
use Rattle.std.proofs.Common.{◌≡◌, ℕ, zero, suc, ◌+◌, ◌*◌, ◌<◌, ◌≤◌, List, [], ◌∷◌, length, get_or, set, slice_index, Contains, sym, ◌∙◌, subst, ⊎_elim, arith, length-set, get_or-set_other, get_or-set_same}
use Rattle.std.proofs.lemmas.Bool.{cases_lt}
use Rattle.std.proofs.lemmas.List.{get_or_past}
use mathlib.Core.Logic.{dite}
use mathlib.Core.Option.{some, some-injective, some-ne-none}
use native.Mathlib.Decide.{ℕ_discrete}
use lib.ListN.{get_elem?}
use Rattle.atomic_table.specs.Table.{State}
use Rattle.lmt_network.specs.Derivation.{IsDerivation}
use Rattle.ticket_marks.specs.declared.view.Known.{Known}
use Rattle.ticket_marks.specs.declared.view.About.{About}
use Rattle.ticket_marks.specs.Rule.{ranked, TicketsHold}
use Rattle.ticket_marks.proofs.Kept.{net, issued_bounded}
use Rattle.ticket_marks.proofs.Views.{derivation_same}

-- the ranks of the first e of n edges are their marks
pub record AreTakenTo (n : ℕ) (ws ranks : List ℕ) (e : ℕ) : Type 0 where
  pub one_each : length ranks ≡ n
  pub each : (f : ℕ) → f < e → slice_index ranks f ≡ slice_index ws f

pub one_taken : (n : ℕ) (ws ranks : List ℕ) (e x : ℕ) → AreTakenTo n ws ranks e → e < n → slice_index ws e ≡ x → AreTakenTo n ws (set ranks e x) (e + 1)
one_taken n ws ranks e x so low is = let many = so.one_each in
    record {
      one_each = length-set ranks e x ∙ so.one_each;
      each = λ f f_in. dite (ℕ_discrete f e)
          (λ (z : f ≡ e). subst (λ (i : ℕ). slice_index (set ranks e x) i ≡ slice_index ws i) (sym z) (get_or-set_same ranks e x 0 (omega arith) ∙ sym is))
          (λ z. get_or-set_other ranks e f x 0 z ∙ so.each f (omega arith));
    }

-- the value of a word
pub word_at : (ws : List ℕ) (i x : ℕ) → get_elem? ws i ≡ some x → get_or ws i 0 ≡ x
word_at [] i x h = absurd (some-ne-none x (sym h))
word_at (w ∷ ws) zero x h = some-injective w x h
word_at (w ∷ ws) (suc i) x h = word_at ws i x h

module _ (k : About) (s : State ℕ Known) (r : TicketsHold k s) (ranks : List ℕ) (wide : length ranks ≡ length k.net.value.edges) (shows : (e : ℕ) → e < length k.net.value.edges → slice_index ranks e ≡ slice_index s.words e) where
  -- they are a derivation
  pub ranks_derived : IsDerivation (net k) ranks
  ranks_derived = derivation_same (net k) s.words ranks shows r.derivation

  -- none is too great
  pub ranks_most : (e : ℕ) → slice_index ranks e ≤ 65 * length (net k).edges
  ranks_most e = ⊎_elim
      (λ (low : e < length (net k).edges). let is = shows e low in let count = r.low e low in let most = issued_bounded k s r in omega arith)
      (λ (past : length (net k).edges ≤ e). let none = get_or_past ranks e 0 (omega arith) in omega arith)
      (cases_lt e (length (net k).edges))

  -- each edge seen killed has its rank
  pub ranks_seen : (id : ℕ) (d : Known) → get_elem? s.views id ≡ some d → (e m : ℕ) → Contains d.seen (ranked e m) → slice_index ranks e ≡ m
  ranks_seen id d at e m has = let t = (r.each id d at).seen_marked (ranked e m) has in shows e t.0 ∙ t.2
