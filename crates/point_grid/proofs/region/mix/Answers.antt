use Rattle.point_grid.proofs.Bits.{mixed_le, fits_mixed, kept_mixed}
use Rattle.point_grid.proofs.region.mix.Goals as goal

pub overflow_add-result : goal.overflow_add-result
overflow_add-result c = fits_mixed c.args.m c.args.x c.args.n c.args.y c.requires.m_in c.requires.x_in c.requires.n_in c.requires.y_in

pub returns-clause-value : goal.returns-clause-value
returns-clause-value c = kept_mixed c.args.m c.args.x c.args.n c.args.y c.requires.m_in c.requires.x_in c.requires.n_in c.requires.y_in

pub returns-clause-bound : goal.returns-clause-bound
returns-clause-bound c =
    rw (kept_mixed c.args.m c.args.x c.args.n c.args.y c.requires.m_in c.requires.x_in c.requires.n_in c.requires.y_in)
    (mixed_le c.args.m c.args.x c.args.n c.args.y c.requires.m_in c.requires.x_in c.requires.n_in c.requires.y_in)
