-- An edge that is listed is found.
use Rattle.exact_predicates.proofs.ListOrder.{search_finds}
use Rattle.exact_predicates.proofs.lists.place_of_edge.Goals as goal

pub returns-in-Err-clause-none : goal.returns-in-Err-clause-none
returns-in-Err-clause-none c = λ none has.
    search_finds c.args.edges.now c.of.result c.args.u c.args.v c.in-Err.field-0 c.requires.ascending has (c.of.ensures.lesser, c.of.ensures.greater) c.in-Err.ensures.position
