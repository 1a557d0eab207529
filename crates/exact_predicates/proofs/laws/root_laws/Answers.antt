-- The roots are roots.
use Rattle.exact_predicates.proofs.Roots.{root_down_is, root_up_is}
use Rattle.exact_predicates.proofs.laws.root_laws.Goals as goal

pub returns : goal.returns
returns c = λ n. (root_down_is n, root_up_is n)
