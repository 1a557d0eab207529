-- The test whether a slot shortens.
use Rattle.std.proofs.Common.{◌≤◌, ◌<◌, ◌≡◌, ℕ, Bool, nat_lt, List, IsTrue, ◌↔◌, arith, ap, ◌∙◌}
use Rattle.std.proofs.lemmas.Bool.{lt-ltb, ltb-true}
use Rattle.exact_predicates.specs.declared.point.Point.{Point}
use Rattle.exact_predicates.specs.Plane.{Crosses, d2}
use Rattle.exact_predicates.specs.PointSet.{point_at}
use Rattle.flip_finish.specs.declared.across.Across.{Across}
use Rattle.flip_finish.specs.declared.face.Face.{Face}
use Rattle.flip_finish.specs.declared.slot.Slot.{Slot}
use Rattle.flip_finish.specs.Across.{IsAcross}
use Rattle.flip_finish.specs.Face.{Fits}
use Rattle.flip_finish.specs.Flipping.{Shortens}
use Rattle.flip_finish.proofs.Quads.{HasQuad-across, IsShortening-across, parts}

-- the points of the quadrilateral that x sees
pub record AreCorners (ps : List Point) (x : Across) (pu pv pa pb : Point) : Type 0 where
  pub u : pu ≡ point_at ps x.left.u
  pub v : pv ≡ point_at ps x.left.v
  pub a : pa ≡ point_at ps x.left.w
  pub b : pb ≡ point_at ps x.right.w

-- the test by the crossing, where the other diagonal is shorter
pub by_crossing : (ps : List Point) (faces : List Face) (slots : List Slot) (slot : ℕ) (x : Across) (pu pv pa pb : Point) (d e : ℕ) (answer : Bool)
    → Fits faces slots → IsAcross faces slot x → AreCorners ps x pu pv pa pb → d ≡ d2 pa pb → e ≡ d2 pu pv → d < e
    → (IsTrue answer ↔ Crosses pu pv pa pb) → IsTrue answer ↔ Shortens ps (parts faces slots) slot
by_crossing ps faces slots slot x pu pv pa pb d e answer fits h k d_is e_is below test =
    let short : d ≡ d2 (point_at ps x.left.w) (point_at ps x.right.w) = d_is ∙ (ap (λ p. d2 p pb) k.a ∙ ap (λ p. d2 (point_at ps x.left.w) p) k.b) in
    let long : e ≡ d2 (point_at ps x.left.u) (point_at ps x.left.v) = e_is ∙ (ap (λ p. d2 p pv) k.u ∙ ap (λ p. d2 (point_at ps x.left.u) p) k.v) in (
      λ crossing.
          let crosses = test.0 crossing in
          record {
            u = x.left.u;
            v = x.left.v;
            a = x.left.w;
            b = x.right.w;
            quad = HasQuad-across faces slots slot x fits h;
            shortening = record { convex = rw (k.u, k.v, k.a, k.b) at crosses; shorter = omega arith };
          },
      λ s. test.1 (rw (k.u, k.v, k.a, k.b) (IsShortening-across ps faces slots slot x fits h s).convex),
    )

-- and where it is not
pub not_shorter : (ps : List Point) (faces : List Face) (slots : List Slot) (slot : ℕ) (x : Across) (pu pv pa pb : Point) (d e : ℕ)
    → Fits faces slots → IsAcross faces slot x → AreCorners ps x pu pv pa pb → d ≡ d2 pa pb → e ≡ d2 pu pv → e ≤ d
    → IsTrue (nat_lt d e) ↔ Shortens ps (parts faces slots) slot
not_shorter ps faces slots slot x pu pv pa pb d e fits h k d_is e_is above =
    let short : d ≡ d2 (point_at ps x.left.w) (point_at ps x.right.w) = d_is ∙ (ap (λ p. d2 p pb) k.a ∙ ap (λ p. d2 (point_at ps x.left.w) p) k.b) in
    let long : e ≡ d2 (point_at ps x.left.u) (point_at ps x.left.v) = e_is ∙ (ap (λ p. d2 p pv) k.u ∙ ap (λ p. d2 (point_at ps x.left.u) p) k.v) in (
      λ below. let l = ltb-true d e below in absurd (omega arith),
      λ s. let t = (IsShortening-across ps faces slots slot x fits h s).shorter in lt-ltb d e (omega arith),
    )
