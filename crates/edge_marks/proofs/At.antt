-- The steps on the counters, at a word that is said to be theirs.
use Rattle.std.proofs.Common.{◌≡◌, ℕ, ◌+◌, ◌/◌, ◌%◌, ◌^◌, ◌<◌, List, [], ◌∷◌, length, Contains, sym, subst}
use mathlib.Core.Option.{none}
use Rattle.atomic_table.specs.Table.{step, Allows}
use Rattle.lmt_network.specs.Numbers.{IsHullNumber, IsBroken}
use Rattle.edge_marks.specs.declared.view.Loaded.{Loaded}
use Rattle.edge_marks.specs.declared.view.Phase.TheVariants.{Idle, Marked}
use Rattle.edge_marks.specs.declared.view.Pass.TheVariants.{InPass}
use Rattle.edge_marks.specs.declared.view.About.{About}
use Rattle.edge_marks.specs.Rule.{AreJudged, MarksHold}
use Rattle.edge_marks.specs.Plays.{Sitting, started, ended, opened, read_finished, settled}
use Rattle.edge_marks.proofs.Kills.{begins, finishes}
use Rattle.edge_marks.proofs.Passes.{opens, compares, settles}

module _ (k : About) (slots id : ℕ) (me : Sitting) (i : ℕ) where
  abbrev Counter : ℕ
  Counter = length k.net.value.edges / 64

  pub begins_at : (note e : ℕ) → i ≡ Counter + 16 → me.1 ≡ (note, e) ∷ [] → me.0.phase ≡ Idle → e < length k.net.value.edges → ¬ IsHullNumber k.net.value e → ¬ Contains me.0.tried e → IsBroken k.net.value me.0.seen e
      → Allows (MarksHold k) slots id me i (λ x. (x + 1) % 2 ^ 64) (started (step slots i 1 0 none) me)
  begins_at note e is a b c d f g = subst (λ (i : ℕ). Allows (MarksHold k) slots id me i (λ x. (x + 1) % 2 ^ 64) (started (step slots i 1 0 none) me)) (sym is) (begins k slots id me note e a b c d f g)

  pub finishes_at : (e : ℕ) → i ≡ Counter + 32 → me.0.phase ≡ Marked e → Allows (MarksHold k) slots id me i (λ x. (x + 1) % 2 ^ 64) (ended (step slots i 1 0 none) me)
  finishes_at e is a = subst (λ (i : ℕ). Allows (MarksHold k) slots id me i (λ x. (x + 1) % 2 ^ 64) (ended (step slots i 1 0 none) me)) (sym is) (finishes k slots id me e a)

  pub opens_at : i ≡ Counter + 16 → Allows (MarksHold k) slots id me i (λ x. x) (opened (step slots i 0 0 none) me)
  opens_at is = subst (λ (i : ℕ). Allows (MarksHold k) slots id me i (λ x. x) (opened (step slots i 0 0 none) me)) (sym is) (opens k slots id me)

  pub compares_at : i ≡ Counter + 32 → Allows (MarksHold k) slots id me i (λ x. x) (read_finished (step slots i 0 0 none) me)
  compares_at is = subst (λ (i : ℕ). Allows (MarksHold k) slots id me i (λ x. x) (read_finished (step slots i 0 0 none) me)) (sym is) (compares k slots id me)

  pub settles_at : (b : ℕ) (loads : List Loaded) → i ≡ Counter + 16 → me.0.pass ≡ InPass b loads → AreJudged k.net.value loads → Allows (MarksHold k) slots id me i (λ x. x) (settled (step slots i 0 0 none) me)
  settles_at b loads is a j = subst (λ (i : ℕ). Allows (MarksHold k) slots id me i (λ x. x) (settled (step slots i 0 0 none) me)) (sym is) (settles k slots id me b loads a j)
