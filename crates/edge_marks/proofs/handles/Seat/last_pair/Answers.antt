use Rattle.std.proofs.lemmas.List.Elements.{Contains-get_or}
use Rattle.edge_marks.proofs.handles.Seat.last_pair.Goals as goal

pub returns-then-right-rights : goal.returns-then-right-rights
returns-then-right-rights c = (
  (c.left-lefts.ensures.members _).0 (Contains-get_or c.left-lefts.result.now c.in_ok-places.places.now.left 0 c.if-left-lefts.true),
  (c.right-rights.ensures.members _).0 (Contains-get_or c.right-rights.result.now c.in_ok-places.places.now.right 0 c.if-right-rights.true),
)
