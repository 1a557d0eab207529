use Rattle.empty_triangles.specs.Enumeration.{AreTrianglesWith, IsBefore}
use Rattle.empty_triangles.proofs.row.triangles_of_group.Given as goal

abbrev pub invariant-loop-a : goal.invariant-loop-a
invariant-loop-a l = AreTrianglesWith l.points.points l.edges (IsBefore l.group l.a) l.tris.items
