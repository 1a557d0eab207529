-- What is written makes the two faces on the other diagonal.
use Rattle.std.proofs.Common.{◌≡◌, slice_set, sym, ap, arith, refl, ◌∙◌}
use Rattle.std.proofs.lemmas.List.{length-set}
use Rattle.flip_finish.specs.Slot.{with_left}
use Rattle.flip_finish.proofs.Seeing.{first_left, second_left}
use Rattle.flip_finish.proofs.across.Across.flip.Goals as goal

pub bounds-slots-slot : goal.bounds-slots-slot
bounds-slots-slot c = (first_left c.args.faces.now c.args.slots.now c.args.self.now.i _ c.args.self.now.left c.requires.fits c.requires.across.left).slot_at.inside

pub bounds-slots-ub : goal.bounds-slots-ub
bounds-slots-ub c =
    let h = (second_left c.args.faces.now c.args.slots.now c.args.self.now.j _ c.args.self.now.right c.requires.fits c.requires.across.right).slot_at.inside in
    omega (arith, h, length-set c.args.slots.now c.args.self.now.left.uv c.between.result)

pub bounds-slots-va : goal.bounds-slots-va
bounds-slots-va c =
    let h = (second_left c.args.faces.now c.args.slots.now c.args.self.now.i _ c.args.self.now.left c.requires.fits c.requires.across.left).slot_at.inside in
    let x = c.args.self.now in
    omega (arith, h, length-set c.args.slots.now x.left.uv c.between.result, length-set (slice_set c.args.slots.now x.left.uv c.between.result) x.right.vw c.set_left.new.self)

pub returns : goal.returns
returns c =
    let x = c.args.self.now in
    let slots = c.args.slots.now in
    let one = slice_set slots x.left.uv c.between.result in
    let ub = (second_left c.args.faces.now slots x.j _ x.right c.requires.fits c.requires.across.right).slot_at.inside in
    let va = (second_left c.args.faces.now slots x.i _ x.left c.requires.fits c.requires.across.left).slot_at.inside in
    let ub_is = sym c.index-slots-ub.is in
    let va_is = sym c.index-slots-va.is in
    let first : c.set_left.new.self ≡ with_left c.index-slots-ub.result x.left.u x.right.w x.i
    = c.set_left.ensures ∙ ap (λ s. with_left s x.left.u x.right.w x.i) ub_is in
    let second : c.set_left-2.new.self ≡ with_left c.index-slots-va.result x.left.v x.left.w x.j
    = c.set_left-2.ensures ∙ ap (λ s. with_left s x.left.v x.left.w x.j) va_is in
    record {
      top = c.of.result;
      bottom = c.of-2.result;
      diagonal = c.between.result;
      ub_slot = c.index-slots-ub.result;
      va_slot = c.index-slots-va.result;
      top_is = c.of.ensures;
      bottom_is = c.of-2.ensures;
      diagonal_is = c.between.ensures;
      ub_at = record { inside = omega (arith, ub, length-set slots x.left.uv c.between.result); is = ub_is };
      va_at = rw (← first) (record {
        inside = omega (arith, va, length-set slots x.left.uv c.between.result, length-set one x.right.vw c.set_left.new.self);
        is = va_is;
      });
      faces_are = refl;
      slots_are = ap (λ s. slice_set (slice_set one x.right.vw s) x.left.vw c.set_left-2.new.self) first
          ∙ ap (λ s. slice_set (slice_set one x.right.vw (with_left c.index-slots-ub.result x.left.u x.right.w x.i)) x.left.vw s) second;
    }
