-- The side has a number, and stands at this place alone.
use Rattle.std.proofs.Common.{ℕ, List, slice_index, sym, ◌∙◌, ap}
use Rattle.face_optimum.specs.Places.{next_point}
use Rattle.face_optimum.proofs.SideSeating.{sides_hit}
use Rattle.face_optimum.proofs.side_seats.seat_side.Goals as goal

pub number-e-requires : goal.number-e-requires
number-e-requires c =
    let s = c.args.seat in
    c.requires.edges (slice_index c.ring-ring.result.now s.place) c.next_point-v.result s (record {
      face_in = c.requires.face_in;
      place_in = c.requires.place_in;
      from = ap (λ (r : List ℕ). slice_index r s.place) (sym c.ring-ring.ensures.value);
      to = sym (c.next_point-v.ensures ∙ ap (λ (r : List ℕ). next_point r s.place) c.ring-ring.ensures.value);
    })

pub returns : goal.returns
returns c =
    let n = c.args.net.now in
    let s = c.args.seat in
    let j = c.side_number.result in
    sides_hit n c.args.rings.now c.args.seats.now j s c.requires.ascending c.requires.once c.requires.seats_are c.side_number.ensures.within
    (record {
      face_in = c.requires.face_in;
      place_in = c.requires.place_in;
      from = ap (λ (r : List ℕ). slice_index r s.place) (sym c.ring-ring.ensures.value) ∙ sym c.side_number.ensures.start;
      to = sym (c.next_point-v.ensures ∙ ap (λ (r : List ℕ). next_point r s.place) c.ring-ring.ensures.value) ∙ sym c.side_number.ensures.end_;
    })
