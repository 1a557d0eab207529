-- The frame of the first points, made one point wider.
use Rattle.std.proofs.Common.{◌≡◌, ℕ, ◌+◌, List, ⊎_elim, arith, ◌∙◌, subst}
use Rattle.std.proofs.lemmas.Bool.{cases_lt}
use Rattle.std.proofs.lemmas.Int.{ints}
use Rattle.exact_predicates.specs.declared.point.Point.{Point}
use Rattle.exact_predicates.specs.PointSet.{point_at}
use Rattle.point_grid.specs.declared.frame.Frame.{Frame}
use Rattle.point_grid.specs.Frames.{IsInFrame, Extends, IsFrameOf}

-- the frame of a point
pub IsInFrame-point : (f : Frame) (p : Point) → f.left ≡ p.x → f.right ≡ p.x → f.low ≡ p.y → f.high ≡ p.y → IsInFrame f p
IsInFrame-point f p left right low high =
    record { left = omega (arith, ints, left); right = omega (arith, ints, right); low = omega (arith, ints, low); high = omega (arith, ints, high) }

pub IsFrameOf-first : (ps : List Point) (f : Frame) → f.left ≡ (point_at ps 0).x → f.right ≡ (point_at ps 0).x → f.low ≡ (point_at ps 0).y → f.high ≡ (point_at ps 0).y → IsFrameOf ps 1 f
IsFrameOf-first ps f left right low high = record {
  has = λ r l. let e : 0 ≡ r = omega arith in subst (λ (k : ℕ). IsInFrame f (point_at ps k)) e (IsInFrame-point f (point_at ps 0) left right low high);
  left = (0, omega arith, left);
  right = (0, omega arith, right);
  low = (0, omega arith, low);
  high = (0, omega arith, high);
}

pub IsFrameOf-next : (ps : List Point) (r : ℕ) (f g : Frame) → IsFrameOf ps r f → Extends f (point_at ps r) g → IsFrameOf ps (r + 1) g
IsFrameOf-next ps r f g h x = record {
  has = λ k l.
      ⊎_elim
      (λ m. x.wider (point_at ps k) (h.has k m))
      (λ m. let e : r ≡ k = omega arith in subst (λ (i : ℕ). IsInFrame g (point_at ps i)) e x.has)
      (cases_lt k r);
  left = ⊎_elim (λ e. let l = h.left.1 in (h.left.0, omega arith, e ∙ h.left.2)) (λ e. (r, omega arith, e)) x.left;
  right = ⊎_elim (λ e. let l = h.right.1 in (h.right.0, omega arith, e ∙ h.right.2)) (λ e. (r, omega arith, e)) x.right;
  low = ⊎_elim (λ e. let l = h.low.1 in (h.low.0, omega arith, e ∙ h.low.2)) (λ e. (r, omega arith, e)) x.low;
  high = ⊎_elim (λ e. let l = h.high.1 in (h.high.0, omega arith, e ∙ h.high.2)) (λ e. (r, omega arith, e)) x.high;
}
