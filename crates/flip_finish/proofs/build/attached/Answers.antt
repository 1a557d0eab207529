-- Faces with their slots are the triangles that came.
use Rattle.std.proofs.Common.{subst, sym, ap, ◌∙◌}
use Rattle.std.proofs.lemmas.List.{with_items_is}
use Rattle.flip_finish.specs.Face.{face_tris}
use Rattle.flip_finish.specs.Slotted.{AreSlotsOf}
use Rattle.flip_finish.proofs.Giving.{tris_of_unattached}
use Rattle.flip_finish.proofs.build.attached.Goals as goal

pub attach_all-requires-clause-slots : goal.attach_all-requires-clause-slots
attach_all-requires-clause-slots c =
    let same = ap (λ l. face_tris l) (c.deref_mut.ensures.value ∙ c.in_ok-faces.ensures) ∙ tris_of_unattached c.args.tris.now in
    subst (λ ts. AreSlotsOf ts c.args.slots.now) (sym same) c.requires.slots

pub returns-clause-same : goal.returns-clause-same
returns-clause-same c =
    ap (λ l. face_tris l) (with_items_is c.in_ok-faces.faces c.attach_all.new.faces (c.attach_all.auto.faces ∙ c.deref_mut.ensures.len))
    ∙ (c.attach_all.ensures.same ∙ (ap (λ l. face_tris l) (c.deref_mut.ensures.value ∙ c.in_ok-faces.ensures) ∙ tris_of_unattached c.args.tris.now))
