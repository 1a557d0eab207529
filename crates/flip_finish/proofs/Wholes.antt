-- A mesh is whole: its sides are at its slots.
use Rattle.std.proofs.Common.{List, subst, sym}
use Rattle.exact_predicates.specs.declared.tri.Tri.{Tri}
use Rattle.exact_predicates.specs.Triangulation.{HasCorners}
use Rattle.flip_finish.specs.declared.face.Face.{Face}
use Rattle.flip_finish.specs.declared.slot.Slot.{Slot}
use Rattle.flip_finish.specs.Face.{Fits}
use Rattle.flip_finish.specs.Mesh.{IsWhole}
use Rattle.flip_finish.proofs.Faces.{HasSideAt-corners, side_of_corners}
use Rattle.flip_finish.proofs.Quads.{parts}
use Rattle.flip_finish.proofs.Standing.{IsAt-map, IsAt-unmap}

pub IsWhole-fits : (faces : List Face) (slots : List Slot) → Fits faces slots → IsWhole (parts faces slots)
IsWhole-fits faces slots fits =
    record {
      of_side = λ t tri x y w at_t corners.
          let (f, at_f, same) = IsAt-unmap (λ f. f.tri) faces t tri at_t in
          let (p, side) = side_of_corners f x y w (subst (λ (k : Tri). HasCorners k x y w) (sym same) corners) in
          (p, fits.to_slot p x y t (record { face = f; w = w; face_at = at_f; side = side }));
      of_slot = λ p x y t h.
          let k = fits.to_face p x y t h in
          (k.face.tri, k.w, IsAt-map (λ f. f.tri) faces t k.face k.face_at, HasSideAt-corners k.face x y k.w p k.side);
    }
