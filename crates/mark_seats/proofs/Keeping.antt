-- What a seat keeps, between the steps of a call.
use Rattle.std.proofs.Common.{◌≡◌, ◌≢◌, ℕ, ◌+◌, ◌*◌, ◌/◌, ◌-◌, Bool, true, cond, Vec, Global, List, [], ◌∷◌, ◌++◌, length, length-append, replicate, refl, sym, ap, ◌∙◌, arith, eq-eqb, ne_eqb}
use lib.ListN.{length-replicate}
use mathlib.Core.Logic.{dite}
use native.Mathlib.Decide.{ℕ_discrete}
use Rattle.atomic_table.specs.Table.{rest, Me}
use Rattle.mark_seats.specs.Bits.{bit_of, one_if, has_number}
use Rattle.mark_seats.specs.Seats.{Notes}
use Rattle.mark_seats.specs.Keeping.{IsKeeping}
use Rattle.mark_seats.proofs.Members.{all_front, all_end}
use Rattle.mark_seats.proofs.Packed.{blank_bit}

module _ {edges : ℕ} {notes : Notes} {tried : List ℕ} {carried : List (ℕ × ℕ)} {slot : ℕ} {bits : List ℕ} {spare : List (Vec ℕ Global)} (h : IsKeeping edges notes tried carried slot bits spare) where
  -- the seat carries its note alone
  pub note_alone : (y : ℕ) → (slot * 32, y) ∷ rest carried ≡ (slot * 32, y) ∷ []
  note_alone y = ap (λ (l : List (ℕ × ℕ)). (slot * 32, y) ∷ l) (ap rest h.note)

  -- it writes an edge into its note
  pub note_written : {V : Type 0} (d : V) (y : ℕ) (m : Me ℕ V) → m ≡ (d, (slot * 32, y) ∷ rest carried) → m ≡ (d, (slot * 32, y) ∷ [])
  note_written {V} d y m is = is ∙ ap (λ (l : List (ℕ × ℕ)). let v : Me ℕ V = (d, l) in v) (note_alone y)

  -- and keeps what it kept
  pub kept_written : (y : ℕ) → IsKeeping edges notes tried ((slot * 32, y) ∷ []) slot bits spare
  kept_written y = record {
    note = refl;
    slot_is = h.slot_is;
    noted = h.noted;
    splits = h.splits;
    wide = h.wide;
    bits_are = h.bits_are;
    blank = h.blank;
    few = h.few;
  }

  -- the bits after that of an edge tried is set
  pub kept_tried : (e y : ℕ) (bits' : List ℕ) → length bits' ≡ length bits → bit_of bits' e ≡ 1 → ((f : ℕ) → f ≢ e → bit_of bits' f ≡ bit_of bits f)
      → IsKeeping edges notes (e ∷ tried) ((slot * 32, y) ∷ []) slot bits' spare
  kept_tried e y bits' wide here others = record {
    note = refl;
    slot_is = h.slot_is;
    noted = h.noted;
    splits = h.splits;
    wide = wide ∙ h.wide;
    bits_are = λ g low. dite (ℕ_discrete g e)
        (λ (z : g ≡ e). ap (bit_of bits') z ∙ (here ∙ ap (λ (t : Bool). one_if (cond t true (has_number g tried))) (sym (eq-eqb e g (sym z)))))
        (λ z. others g z ∙ (h.bits_are g low ∙ ap (λ (t : Bool). one_if (cond t true (has_number g tried))) (sym (ne_eqb e g (λ q. z (sym q))))));
    blank = h.blank;
    few = h.few;
  }

  -- after a split it has one row less
  pub kept_left : (front : List (Vec ℕ Global)) (row : Vec ℕ Global) → spare ≡ front ++ row ∷ [] → IsKeeping edges record { slot = notes.slot; splits = notes.splits - 1; noted = notes.noted } tried carried slot bits front
  kept_left front row is = let wide = ap length is in let l = length-append front (row ∷ []) in let s = h.splits in let f = h.few in record {
    note = h.note;
    slot_is = h.slot_is;
    noted = h.noted;
    splits = omega arith;
    wide = h.wide;
    bits_are = h.bits_are;
    blank = all_front (λ (r : Vec ℕ Global). r.items ≡ replicate (edges / 64 + 1) 0) spare front row is h.blank;
    few = omega arith;
  }

  -- and the new one has that row
  pub kept_right : (front : List (Vec ℕ Global)) (row : Vec ℕ Global) → spare ≡ front ++ row ∷ [] → (y last : ℕ) → last ≡ slot + length front + 1 → (none : List (Vec ℕ Global)) → none ≡ []
      → IsKeeping edges record { slot = notes.slot + notes.splits; splits = 0; noted = true } [] (((notes.slot + notes.splits) * 32, y) ∷ []) last row.items none
  kept_right front row is y last at none empty = let wide = ap length is in let l = length-append front (row ∷ []) in let s = h.splits in let f = h.few in let sl = h.slot_is in let z = ap length empty in
      let here : notes.slot + notes.splits ≡ last = omega arith in
      let blank : row.items ≡ replicate (edges / 64 + 1) 0 = all_end (λ (r : Vec ℕ Global). r.items ≡ replicate (edges / 64 + 1) 0) spare front row is h.blank in record {
        note = ap (λ (i : ℕ). (i * 32, y) ∷ []) here;
        slot_is = here;
        noted = refl;
        splits = sym z;
        wide = ap length blank ∙ length-replicate (edges / 64 + 1) 0;
        bits_are = λ e low. ap (λ (b : List ℕ). bit_of b e) blank ∙ blank_bit (edges / 64 + 1) e;
        blank = λ i r low. absurd (omega arith);
        few = omega arith;
      }
