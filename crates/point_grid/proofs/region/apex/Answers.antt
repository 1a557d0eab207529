use Rattle.point_grid.proofs.Tenths.{kept_less, kept_plus, tenth_above, tenth_below}
use Rattle.point_grid.proofs.region.apex.Goals as goal

pub returns-clause-below : goal.returns-clause-below
returns-clause-below c =
    let is = rw (kept_plus c.args.a c.args.b c.requires.a_in c.requires.b_in, kept_less c.args.c c.args.d c.requires.c_in c.requires.d_in) at c.mix.ensures.value in
    tenth_below c.mix.result c.div_euclid.result _ c.div_euclid.ensures c.mix.ensures.bound is

pub returns-clause-above : goal.returns-clause-above
returns-clause-above c =
    let is = rw (kept_plus c.args.a c.args.b c.requires.a_in c.requires.b_in, kept_less c.args.c c.args.d c.requires.c_in c.requires.d_in) at c.mix.ensures.value in
    tenth_above c.mix.result c.div_euclid.result _ c.div_euclid.ensures c.mix.ensures.bound is
