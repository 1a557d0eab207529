-- A flip of the faces and slots is one of the mesh.
use Rattle.std.proofs.Common.{◌<◌, sum_by, sym, ◌∙◌, subst}
use Rattle.std.proofs.lemmas.List.{with_items_is}
use Rattle.std.specs.Vec.{with_items}
use Rattle.flip_finish.specs.Flipping.{IsFlipped, IsLowered, IsShortened, slot_d2}
use Rattle.flip_finish.specs.Mesh.{Parts}
use Rattle.flip_finish.proofs.FlipAnswers.{IsDone, done, ends_differ}
use Rattle.flip_finish.proofs.Quads.{IsShortening-across, outer_not_quad, parts}
use Rattle.flip_finish.proofs.Wholes.{IsWhole-fits}
use Rattle.flip_finish.proofs.mesh.Mesh.flip.Goals as goal

pub unreachable-requires : goal.unreachable-requires
unreachable-requires c =
    let s = rw (← c.self.view_is) at c.requires.shortens in
    let outer = rw c.deref-2.ensures.value at c.in_default.ensures in
    outer_not_quad _ c.args.slot s.u s.v s.a s.b outer s.quad

pub flip-requires-clause-apart : goal.flip-requires-clause-apart
flip-requires-clause-apart c =
    let s = rw (← c.self.view_is) at c.requires.shortens in
    let x = rw c.deref.ensures.value at c.in-Some.ensures in
    ends_differ c.args.points.now.points _ _ _ _ (IsShortening-across c.args.points.now.points _ _ c.args.slot c.in-Some.across c.self.invariant x s)

-- the flip is done, on the faces and slots that were written
all_done : (c : goal.After-self-2-1) → IsDone c.args.points.now.points c.self.inside.faces.items (with_items c.self.inside.faces c.flip.new.faces).items c.self.inside.slots.items (with_items c.self.inside.slots c.flip.new.slots).items c.args.slot
all_done c =
    let ps = c.args.points.now.points in
    let old = c.self.inside in
    let slot = c.args.slot in
    let faces_are = with_items_is old.faces c.flip.new.faces (c.flip.auto.faces ∙ c.deref_mut.ensures.len) in
    let slots_are = with_items_is old.slots c.flip.new.slots (c.flip.auto.slots ∙ c.deref_mut-2.ensures.len) in
    let s = rw (← c.self.view_is) at c.requires.shortens in
    let x = rw c.deref.ensures.value at c.in-Some.ensures in
    let e = rw (c.deref_mut.ensures.value, c.deref_mut-2.ensures.value) at c.flip.ensures in
    subst (λ l. IsDone ps old.faces.items l old.slots.items (with_items old.slots c.flip.new.slots).items slot) (sym faces_are)
    (subst (λ l. IsDone ps old.faces.items c.flip.new.faces old.slots.items l slot) (sym slots_are)
    (done ps old.faces.items c.flip.new.faces old.slots.items c.flip.new.slots slot c.in-Some.across c.self.invariant x e
    (IsShortening-across ps old.faces.items old.slots.items slot c.in-Some.across c.self.invariant x s)))

pub invariant_of-self : goal.invariant_of-self
invariant_of-self c = (all_done c).fits

pub returns-clause-flipped : goal.returns-clause-flipped
returns-clause-flipped c =
    subst (λ m. IsFlipped c.args.points.now.points m (parts (with_items c.self.inside.faces c.flip.new.faces).items (with_items c.self.inside.slots c.flip.new.slots).items) c.args.slot)
    c.self.view_is (all_done c).flipped

pub returns-clause-shortened : goal.returns-clause-shortened
returns-clause-shortened c =
    subst (λ m. IsShortened c.args.points.now.points m (parts (with_items c.self.inside.faces c.flip.new.faces).items (with_items c.self.inside.slots c.flip.new.slots).items))
    c.self.view_is (all_done c).shortened

pub returns-clause-lowered : goal.returns-clause-lowered
returns-clause-lowered c =
    subst (λ m. IsLowered c.args.points.now.points m (parts (with_items c.self.inside.faces c.flip.new.faces).items (with_items c.self.inside.slots c.flip.new.slots).items))
    c.self.view_is (all_done c).lowered

pub returns-clause-falls : goal.returns-clause-falls
returns-clause-falls c =
    subst (λ (m : Parts). sum_by (slot_d2 c.args.points.now.points) (with_items c.self.inside.slots c.flip.new.slots).items < sum_by (slot_d2 c.args.points.now.points) m.slots)
    c.self.view_is (all_done c).falls

pub returns-clause-whole : goal.returns-clause-whole
returns-clause-whole c = IsWhole-fits _ _ (all_done c).fits
