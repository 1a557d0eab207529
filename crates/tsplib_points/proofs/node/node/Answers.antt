-- What a line of the section is: no node where a word is missing or reads as nothing, else the node of its three words.
use Rattle.std.proofs.Common.{ap}
use Rattle.tsplib_points.specs.Nodes.{node_reason}
use Rattle.tsplib_points.proofs.NodeTexts.{none_of_none, none_of_one, none_of_two, none_of_four, of_three}
use Rattle.tsplib_points.proofs.node.node.Goals as goal

pub returns-in_default : goal.returns-in_default
returns-in_default c = λ before. ap (node_reason before) (none_of_none _ _ (rw c.of-words.ensures at c.in_default.ensures.word))

pub returns-in_default-next : goal.returns-in_default-next
returns-in_default-next c = λ before.
    ap (node_reason before) (none_of_one _ _ _ _ (rw c.of-words.ensures at c.in-Some.ensures.word) c.in_default-next.ensures.word)

pub returns-in_default-next-2 : goal.returns-in_default-next-2
returns-in_default-next-2 c = λ before.
    ap (node_reason before) (none_of_two _ _ _ _ _ _ (rw c.of-words.ensures at c.in-Some.ensures.word) c.in-Some-next.ensures.word c.in_default-next-2.ensures.word)

pub returns-in-Some-next-3 : goal.returns-in-Some-next-3
returns-in-Some-next-3 c = λ before.
    ap (node_reason before) (none_of_four _ _ _ _ _ _ _ _ _ _ (rw c.of-words.ensures at c.in-Some.ensures.word) c.in-Some-next.ensures.word c.in-Some-next-2.ensures.word c.in-Some-next-3.ensures.word)

pub returns-in-None : goal.returns-in-None
returns-in-None c =
    let words = rw c.of-words.ensures at c.in-Some.ensures.word in
    let e = of_three c.args.line _ _ _ _ _ _ _ words c.in-Some-next.ensures.word c.in-Some-next-2.ensures.word c.in-None.ensures.word in
    rw e c.fields.ensures
