use Rattle.exact_predicates.proofs.Triangulations.{IsTriangulation-permutation}
use Rattle.mwt_tests.proofs.helpers.shortest.Goals as goal

pub returns-in-Ok-tris : goal.returns-in-Ok-tris
returns-in-Ok-tris c =
    let mesh = c.shorten.ensures.shortened.kept c.args.hull.now c.requires.hull c.in-Ok.ensures.mesh in
    IsTriangulation-permutation _ _ _ _ c.in-Ok-tris.ensures.same mesh.tris
