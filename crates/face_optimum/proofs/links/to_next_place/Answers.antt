-- The places are those of the face.
use Rattle.std.proofs.Common.{◌≡◌, ◌+◌, ◌%◌, ℕ, length, ap, ◌∙◌}
use Rattle.face_optimum.specs.Places.{face_at}
use Rattle.face_optimum.proofs.links.to_next_place.Goals as goal

pub returns : goal.returns
returns c =
    let same : length c.ring.result.now ≡ length (face_at c.args.rings.now c.args.seat.face) = ap length c.ring.ensures.value in
    ap (λ (to : ℕ). record { face = c.args.seat.face; from = c.args.seat.place; to = to }) (c.next_place.ensures ∙ ap (λ (k : ℕ). (c.args.seat.place + 1) % k) same)
