use Rattle.point_grid.proofs.grid.Grid.any_between.Goals as goal

pub returns : goal.returns
returns c = rw (c.deref.ensures.value, c.self.view_is, c.requires.made, c.at.ensures.value, c.at-2.ensures.value) at c.first_in.ensures
