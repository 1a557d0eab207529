use Rattle.std.proofs.Common.{◌+◌, ◌-◌, ◌<◌, ◌≤◌, vec_len}
use Rattle.mwt_base.specs.Limits.{most_triangles}
use Rattle.empty_triangles.specs.Enumeration.{AreTrianglesWith, group_of}
use Rattle.empty_triangles.proofs.rows.triangles.Given as goal

abbrev pub invariant-loop-group : goal.invariant-loop-group
invariant-loop-group g l = (AreTrianglesWith l.points.points l.edges (λ t. group_of t < l.group) l.tris.items) × (vec_len l.tris ≤ most_triangles) × (l.group ≤ l.groups)

abbrev pub decreases-loop-group : goal.decreases-loop-group
decreases-loop-group g l = l.groups - l.group

abbrev pub invariant-loop-i : goal.invariant-loop-i
invariant-loop-i g l = (AreTrianglesWith l.points.points l.edges (λ t. group_of t < l.group + l.i) l.tris.items) × (vec_len l.tris ≤ most_triangles)
