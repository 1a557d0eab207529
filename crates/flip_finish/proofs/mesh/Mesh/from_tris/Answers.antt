-- The slots of a triangulation make its mesh.
use Rattle.std.proofs.Common.{List, length, subst, sym, ap, ◌∙◌, arith}
use Rattle.exact_predicates.specs.Triangulation.{IsTriangulation, edges}
use Rattle.exact_predicates.proofs.EdgeCounts.{edge_count-sides}
use Rattle.flip_finish.specs.declared.slot.Slot.{Slot}
use Rattle.flip_finish.specs.Face.{Fits}
use Rattle.flip_finish.specs.Mesh.{edge_count}
use Rattle.flip_finish.proofs.HullSums.{sides_met}
use Rattle.flip_finish.proofs.Wholes.{IsWhole-fits}
use Rattle.flip_finish.proofs.mesh.Mesh.from_tris.Goals as goal

pub slots_of-requires-clause-few : goal.slots_of-requires-clause-few
slots_of-requires-clause-few c =
    omega (arith, c.len.ensures.value, c.len.ensures.valid.not_more, c.requires.tris.count, ap length c.as_slice.ensures.is, ap length c.as_slice-2.ensures.is)

pub slots_of-requires-clause-met : goal.slots_of-requires-clause-met
slots_of-requires-clause-met c = λ x y ne.
    rw (c.as_slice.ensures.is, c.as_slice-2.ensures.is)
    (sides_met c.args.points.now.points c.args.hull.now c.args.tris.now x y c.requires.hull c.requires.tris ne)

pub returns-clause-mesh : goal.returns-clause-mesh
returns-clause-mesh c =
    let ps = c.args.points.now.points in
    let hull = c.args.hull.now in
    let slots = rw (c.as_slice.ensures.is, c.as_slice-2.ensures.is) at c.in_ok-slots.ensures in
    let same = c.in_ok-faces.ensures.same ∙ c.as_slice-3.ensures.is in
    record {
      tris = subst (λ ts. IsTriangulation ps hull ts) (sym same) c.requires.tris;
      each = λ x y l.
          slots.each x y l
          ∙ (edge_count-sides ps hull c.args.tris.now x y c.requires.hull c.requires.tris l
          ∙ ap (λ ts. edge_count (edges hull ts) x y) (sym same));
      outer_left = slots.outer_left;
      outer_right = slots.outer_right;
    }

pub returns-clause-whole : goal.returns-clause-whole
returns-clause-whole c = IsWhole-fits c.in_ok-faces.faces.items c.in_ok-slots.slots.items
    (subst (λ (l : List Slot). Fits c.in_ok-faces.faces.items l) c.deref.ensures.value c.in_ok-faces.ensures.fits)
