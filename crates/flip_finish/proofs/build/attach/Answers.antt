-- A side gets its slot, where there is a triangle.
use Rattle.std.proofs.Common.{slice_set, sym, ap, ◌∙◌}
use Rattle.flip_finish.specs.Face.{with_slot}
use Rattle.flip_finish.proofs.build.attach.Goals as goal

pub returns-in-Some : goal.returns-in-Some
returns-in-Some c =
    let is = sym c.index-faces-t.is in
    rw c.in-Some.is
    (record {
      face = c.index-faces-t.result;
      face_at = record { inside = c.requires c.in-Some.t c.in-Some.is; is = is };
      after = ap (λ f. slice_set c.args.faces.now c.in-Some.t f) (c.set_slot.ensures ∙ ap (λ f. with_slot f c.args.u c.args.p) is);
    })
