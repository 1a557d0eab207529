use Rattle.empty_triangles.specs.Enumeration.{AreTrianglesWith}
use Rattle.empty_triangles.proofs.Lists.{IsFromFan}
use Rattle.empty_triangles.proofs.row.fill_triangles.Given as goal

abbrev pub invariant-loop-i : goal.invariant-loop-i
invariant-loop-i l = AreTrianglesWith l.points.points l.edges (IsFromFan l.corner.a l.corner.row.items l.i) l.tris.items
