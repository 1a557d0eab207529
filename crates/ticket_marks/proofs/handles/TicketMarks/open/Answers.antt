use Rattle.std.proofs.Common.{rules, ◌≡◌, ℕ, ◌+◌, List, length, get_or, replicate, ap, ◌∙◌, arith}
use lib.ListN.{length-replicate}
use Rattle.std.proofs.lemmas.Grind.{common_steps}
use Rattle.ticket_marks.specs.declared.view.About.{About}
use Rattle.ticket_marks.specs.Plays.{Sitting}
use Rattle.mark_seats.proofs.Packed.{blank_word}
use Rattle.ticket_marks.proofs.Seats.{starts, notes}
use Rattle.ticket_marks.proofs.handles.TicketMarks.open.Goals as goal

pub new-requires : goal.new-requires
new-requires c = let k : About = record { net = c.of.result; seats = c.args.seats } in let ws : List ℕ = c.as_slice.result.now in let n : ℕ = length k.net.value.edges + 32 in
    let same : length k.net.value.edges ≡ length c.args.net.now.edges = first_of (search rules, grind (arith, common_steps)) in
    let words : ws ≡ replicate n 0 = first_of (search rules, grind (arith, common_steps)) in
    starts k ws c.in_ok-notes.notes.items (ap length words ∙ length-replicate n 0) (λ i. ap (λ (l : List ℕ). get_or l i 0) words ∙ blank_word n i) (first_of (search rules, grind (arith, common_steps))) c.requires.some c.requires.few
    (let a = c.edges-count.ensures.valid.few_edges in omega arith)

pub load-requires : goal.load-requires
load-requires c = let e = c.in-Ok.ensures.ok in let w = e.0 in let l = c.as_slice.ensures.len in let m = c.in_ok-words.ensures.len in
    (e.2, omega arith, notes c.in-Ok.table.shared.key _ _ c.in-Ok.place.me (ap (λ (m : Sitting). m.1) e.4) (ap (λ (m : Sitting). m.0.noted) e.4))

pub invariant_of-seat : goal.invariant_of-seat
invariant_of-seat c =
    record {
      idle = search rules;
      keeps = record {
        note = search rules;
        slot_is = search rules;
        noted = search rules;
        splits = search rules;
        wide = search rules;
        bits_are = grind (arith, common_steps);
        blank = search rules;
        few = search rules;
      };
    }
