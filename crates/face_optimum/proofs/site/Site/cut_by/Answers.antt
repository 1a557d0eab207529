use Rattle.std.proofs.Common.{◌+◌, ◌∙◌, ap, refl, slice_index}
use Rattle.lmt_network.proofs.TriangleSides.{number_once}
use Rattle.face_optimum.proofs.site.Site.cut_by.Goals as goal

pub returns : goal.returns
returns c =
    let n = c.args.self.now.net.now in
    let costs = c.args.costs.now in
    let up = c.requires.site.network.ascending in (
      refl,
      refl,
      λ u v w x y corners e_is x_is y_is.
          let (first_is, second_is) = c.legs-x.ensures.legs u v w corners e_is in
          ap (λ k. slice_index costs k + slice_index costs c.legs-x.result.1) (number_once n u v c.legs-x.result.0 x up first_is x_is)
          ∙ ap (λ k. slice_index costs x + slice_index costs k) (number_once n v w c.legs-x.result.1 y up second_is y_is),
    )
