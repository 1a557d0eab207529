-- Sorted halves have the same edges, place by place.
use Rattle.flip_finish.specs.Halves.{all_sides}
use Rattle.flip_finish.proofs.HalfSums.{AreMoved, have_same}
use Rattle.flip_finish.proofs.PairedHalves.{same_edges}
use Rattle.flip_finish.proofs.SlotAnswers.{AreSlots-made}
use Rattle.flip_finish.proofs.build.slots_of.Goals as goal

pub returns : goal.returns
returns c =
    let hull = c.args.hull.now in
    let tris = c.args.tris.now in
    let ups = c.sort_by_edge.new.halves.items in
    let downs = c.sort_by_edge-2.new.halves.items in
    let moved : AreMoved (all_sides hull tris) ups downs = record {
      old_ups = c.in_ok-ups.field-0.ups.items;
      old_downs = c.in_ok-ups.field-0.downs.items;
      split = c.in_ok-ups.ensures;
      ups_moved = c.sort_by_edge.ensures.permutation;
      downs_moved = c.sort_by_edge-2.ensures.permutation;
    } in
    let ascending = c.in_ok-sort_by_edge.ensures.ascending in
    AreSlots-made hull tris ups downs c.in_ok-slots.slots.items
    (record {
      moved = moved;
      paired = record {
        edges = same_edges ups downs ascending c.in_ok-sort_by_edge-2.ensures.ascending (have_same hull tris ups downs moved c.requires.met);
        slots_are = rw (c.deref.ensures.value, c.deref-2.ensures.value) at c.in_ok-slots.ensures;
      };
      ascending = ascending;
      few = c.requires.few;
    })
