use Rattle.exact_predicates.proofs.Triangles.{triangle_y_at_least, triangle_y_at_most}
use Rattle.point_grid.proofs.Diamonds.{between_within}
use Rattle.point_grid.proofs.Widths.{triangle_x_at_least, triangle_x_at_most}
use Rattle.point_grid.proofs.region.Region.bounds.Goals as goal

pub returns-in-Segment : goal.returns-in-Segment
returns-in-Segment c = λ r x lies.
    between_within c.in-Segment.p c.in-Segment.q x _ c.around.ensures.first c.around.ensures.second (rw c.in-Segment.is at lies)

pub returns-in-Triangle : goal.returns-in-Triangle
returns-in-Triangle c = λ r x lies.
    let proper = rw c.in-Triangle.is at c.requires in
    let inside = (rw c.in-Triangle.is at lies).1 in
    let a = c.wider.ensures.all c.in-Triangle.a c.around-in-Triangle.ensures.first in
    let b = c.wider.ensures.all c.in-Triangle.b c.around-in-Triangle.ensures.second in
    let t = c.wider.ensures.has in
    record {
      left = triangle_x_at_least _ _ _ x _ proper.3 inside a.left b.left t.left;
      right = triangle_x_at_most _ _ _ x _ proper.3 inside a.right b.right t.right;
      low = triangle_y_at_least _ _ _ x _ proper.3 inside a.low b.low t.low;
      high = triangle_y_at_most _ _ _ x _ proper.3 inside a.high b.high t.high;
    }
