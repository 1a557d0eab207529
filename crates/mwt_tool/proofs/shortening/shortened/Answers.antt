use Rattle.std.proofs.Common.{List, subst}
use Rattle.exact_predicates.specs.declared.tri.Tri.{Tri}
use Rattle.exact_predicates.specs.Length.{IsNotLonger}
use Rattle.exact_predicates.specs.Triangulation.{edges}
use Rattle.exact_predicates.proofs.Reordered.{IsFlipMinimal-permutation, IsNotLonger-permutation}
use Rattle.exact_predicates.proofs.Triangulations.{IsTriangulation-permutation}
use Rattle.flip_finish.proofs.Ordered.{ascending_tris}
use Rattle.mwt_tool.proofs.shortening.shortened.Goals as goal

pub returns-clause-triangulation : goal.returns-clause-triangulation
returns-clause-triangulation g c =
    let mesh = c.shorten_claimed.ensures.shortened.kept c.args.hull.now c.requires.hull c.in_ok-mesh.ensures.mesh in
    IsTriangulation-permutation _ _ _ _ c.in_ok-tris.ensures.same mesh.tris

pub returns-clause-minimal : goal.returns-clause-minimal
returns-clause-minimal g c =
    let mesh = c.shorten_claimed.ensures.shortened.kept c.args.hull.now c.requires.hull c.in_ok-mesh.ensures.mesh in
    IsFlipMinimal-permutation _ _ _ _ c.in_ok-tris.ensures.same (c.in_ok-shorten_claimed.ensures.minimal c.args.hull.now mesh)

pub returns-clause-not_longer : goal.returns-clause-not_longer
returns-clause-not_longer g c =
    let ps = c.args.points.now.points in
    let hull = c.args.hull.now in
    let P : List Tri → Type 0 = λ first. IsNotLonger ps (edges hull c.shorten_claimed.new.mesh.tris) (edges hull first) in
    let shorter = c.shorten_claimed.ensures.shortened.not_longer hull c.requires.hull c.in_ok-mesh.ensures.mesh in
    IsNotLonger-permutation ps hull c.shorten_claimed.new.mesh.tris c.in_ok-tris.field-0 c.args.tris.now c.in_ok-tris.ensures.same (subst P c.in_ok-mesh.ensures.same shorter)

pub returns-clause-descendant : goal.returns-clause-descendant
returns-clause-descendant g c =
    let ps = c.args.points.now.points in
    let hull = c.args.hull.now in
    let mesh = c.shorten_claimed.ensures.shortened.kept hull c.requires.hull c.in_ok-mesh.ensures.mesh in
    let rounds = c.in_ok-shorten_claimed.ensures.rounds in
    record {
      start = c.in_ok-mesh.mesh;
      last = c.shorten_claimed.new.mesh;
      rounds = rounds.0;
      ordered = record {
        same = c.in_ok-mesh.ensures.same;
        mesh = c.in_ok-mesh.ensures.mesh;
        whole = c.in_ok-mesh.ensures.whole;
        ascending = c.in_ok-mesh.ensures.ascending;
      };
      made = rounds.1;
      ended = c.in_ok-shorten_claimed.ensures.none;
      listed = c.in_ok-tris.ensures.same;
      ascending = ascending_tris ps hull c.in_ok-tris.field-0 c.requires.points c.requires.hull
          (IsTriangulation-permutation _ _ _ _ c.in_ok-tris.ensures.same mesh.tris) c.in_ok-tris.ensures.ascending;
    }
