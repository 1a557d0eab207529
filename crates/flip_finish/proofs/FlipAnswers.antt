-- What the flip of a mesh ensures.
use Rattle.std.proofs.Common.{refl, ◌≡◌, ◌≢◌, ℕ, ◌<◌, List, slice_set, sum_by, sym, ◌∙◌, subst}
use Rattle.exact_predicates.specs.declared.point.Point.{Point}
use Rattle.exact_predicates.specs.Flip.{IsShortening}
use Rattle.exact_predicates.specs.PointSet.{point_at}
use Rattle.exact_predicates.proofs.Equalities.{Joins-comm}
use Rattle.exact_predicates.proofs.Flips.{apart_differ}
use Rattle.flip_finish.specs.declared.across.Across.{Across}
use Rattle.flip_finish.specs.declared.face.Face.{Face}
use Rattle.flip_finish.specs.declared.slot.Slot.{Slot}
use Rattle.flip_finish.specs.Across.{IsAcross, IsExchanged}
use Rattle.flip_finish.specs.Face.{Fits}
use Rattle.flip_finish.specs.Flipping.{IsFlipped, IsLowered, IsShortened, slot_d2}
use Rattle.flip_finish.specs.Mesh.{HasLeft, slot_edges}
use Rattle.flip_finish.proofs.FlipSteps.{new_ab, new_ba, new_faces, new_slots}
use Rattle.flip_finish.proofs.Flipped.{IsFlip-step, edges-step, falls-step, others-step}
use Rattle.flip_finish.proofs.FlippedMeshes.{IsLowered-step, IsShortened-step, step}
use Rattle.flip_finish.proofs.Fitting.{Fits-flip}
use Rattle.flip_finish.proofs.Quads.{HasQuad-across, parts}

-- the diagonals of a quadrilateral that a flip shortens have different ends
pub ends_differ : (ps : List Point) (u v a b : ℕ) → IsShortening ps u v a b → a ≢ b
ends_differ ps u v a b s = apart_differ (point_at ps u) (point_at ps v) (point_at ps) a b s.convex.by_line

-- all that holds after the flip of the faces x of a slot
pub record IsDone (ps : List Point) (faces new : List Face) (slots after : List Slot) (slot : ℕ) : Type 0 where
  pub fits : Fits new after
  pub flipped : IsFlipped ps (parts faces slots) (parts new after) slot
  pub shortened : IsShortened ps (parts faces slots) (parts new after)
  pub lowered : IsLowered ps (parts faces slots) (parts new after)
  pub falls : sum_by (slot_d2 ps) after < sum_by (slot_d2 ps) slots

pub done : (ps : List Point) (faces new : List Face) (slots after : List Slot) (slot : ℕ) (x : Across) → Fits faces slots → IsAcross faces slot x
    → IsExchanged faces new slots after x → IsShortening ps x.left.u x.left.v x.left.w x.right.w → IsDone ps faces new slots after slot
unfolding HasQuad-across IsFlip-step
done ps faces new slots after slot x fits h e short =
    let s = step faces new slots after slot x fits h e (ends_differ ps x.left.u x.left.v x.left.w x.right.w short) in
    let quad = HasQuad-across faces slots slot x fits h in
    let at = h.left.slot_is in
    subst (λ l. IsDone ps faces l slots after slot) (sym e.faces_are)
    (subst (λ l. IsDone ps faces (new_faces s) slots l slot) (sym e.slots_are)
    (record {
      fits = Fits-flip s;
      flipped = record {
        u = x.left.u;
        v = x.left.v;
        a = x.left.w;
        b = x.right.w;
        quad = quad;
        shortening = short;
        tris = IsFlip-step s;
        i_same = refl;
        j_same = refl;
        edge = e.diagonal.edge;
        joins = Joins-comm e.diagonal.edge x.right.w x.left.w e.diagonal_is.joins;
        edges = subst (λ n. slot_edges (new_slots s) ≡ slice_set (slot_edges slots) n e.diagonal.edge) at (edges-step s);
        top = subst (λ n. HasLeft (new_slots s) n x.right.w x.left.w x.i) at (new_ba s);
        bottom = subst (λ n. HasLeft (new_slots s) n x.left.w x.right.w x.j) at (new_ab s);
        others = λ p old now ne at_old at_now.
            let m = others-step s p old now (λ k. ne (k ∙ at)) at_old at_now in
            (m.edge, m.left, m.right);
      };
      shortened = IsShortened-step ps s short;
      lowered = IsLowered-step ps s short;
      falls = falls-step ps s short;
    }))
