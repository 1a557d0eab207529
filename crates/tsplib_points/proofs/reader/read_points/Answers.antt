-- Each refusal has its rule, and the points are those of the file.
use Rattle.std.proofs.Common.{sym, ◌∙◌, refl, arith}
use Rattle.std.proofs.lemmas.Result.{err_from_is_err_and}
use Rattle.tsplib_points.proofs.Rules.{refusal-line}
use Rattle.tsplib_points.proofs.WholeFile.{no_coords, wrong_count, HasNodes-from, HasPoints-from, nodes_within, unit_at_most, too_large, as_many_points, points_in_range, points_distinct, broken_rule, is_file}
use Rattle.tsplib_points.proofs.reader.read_points.Goals as goal

pub returns-in_err-found-clause-refused : goal.returns-in_err-found-clause-refused
returns-in_err-found-clause-refused c =
    let p = err_from_is_err_and c.from_residual.result c.from_residual.ensures.1 in
    rw (p.1, p.2) (λ why e. refusal-line c.args.bytes.now why (rw (← c.as_slice.ensures.is) (c.in_err-found.ensures.fails why e)))

pub returns-then-not-found-clause-refused : goal.returns-then-not-found-clause-refused
returns-then-not-found-clause-refused c = λ why e.
    no_coords c.args.bytes.now c.in_ok-found.found (rw (← c.as_slice.ensures.is) c.in_ok-found.ensures.found) c.if-not-found.true ∙ cc

pub returns-then-not-is_count-clause-refused : goal.returns-then-not-is_count-clause-refused
returns-then-not-is_count-clause-refused c = λ why e.
    let count = sym c.if-not-is_count.ensures.is in
    wrong_count c.args.bytes.now c.in_ok-found.found (rw (← c.as_slice.ensures.is) c.in_ok-found.ensures.found) c.if-not-found.false (rw c.deref.ensures.value at count) ∙ cc

pub points-requires-clause-within : goal.points-requires-clause-within
points-requires-clause-within c =
    let nodes = HasNodes-from c.args.bytes.now _ c.in_ok-found.found _ _ c.unit_of-unit.result c.as_slice.ensures.is c.in_ok-found.ensures.found c.if-not-found.false
    c.deref.ensures.value c.if-not-is_count.ensures.is c.deref-2.ensures.value c.unit_of-unit.ensures in
    nodes_within c.args.bytes.now c.in_ok-found.found c.unit_of-unit.result nodes

pub points-requires-clause-few : goal.points-requires-clause-few
points-requires-clause-few c =
    let nodes = HasNodes-from c.args.bytes.now _ c.in_ok-found.found _ _ c.unit_of-unit.result c.as_slice.ensures.is c.in_ok-found.ensures.found c.if-not-found.false
    c.deref.ensures.value c.if-not-is_count.ensures.is c.deref-2.ensures.value c.unit_of-unit.ensures in
    unit_at_most c.args.bytes.now c.in_ok-found.found c.unit_of-unit.result nodes

pub returns-in_err-points-clause-refused : goal.returns-in_err-points-clause-refused
returns-in_err-points-clause-refused c =
    let nodes = HasNodes-from c.args.bytes.now _ c.in_ok-found.found _ _ c.unit_of-unit.result c.as_slice.ensures.is c.in_ok-found.ensures.found c.if-not-found.false
    c.deref.ensures.value c.if-not-is_count.ensures.is c.deref-2.ensures.value c.unit_of-unit.ensures in
    let p = err_from_is_err_and c.from_residual-in_err-points.result c.from_residual-in_err-points.ensures.1 in
    rw (p.1, p.2) (λ why e. too_large c.args.bytes.now c.in_ok-found.found c.unit_of-unit.result why nodes (c.in_err-points.ensures.refused why e _ nodes.gathered.kept))

pub of-requires : goal.of-requires
of-requires c =
    let nodes = HasNodes-from c.args.bytes.now _ c.in_ok-found.found _ _ c.unit_of-unit.result c.as_slice.ensures.is c.in_ok-found.ensures.found c.if-not-found.false
    c.deref.ensures.value c.if-not-is_count.ensures.is c.deref-2.ensures.value c.unit_of-unit.ensures in
    let points = HasPoints-from c.args.bytes.now c.in_ok-found.found c.unit_of-unit.result c.in_ok-points.points.items nodes c.in_ok-points.ensures.scaled c.in_ok-points.ensures.in_range in
    let few = rw c.deref.ensures.value at (c.if-not-is_count.ensures.few refl) in
    omega (arith, as_many_points c.args.bytes.now c.in_ok-found.found c.unit_of-unit.result c.in_ok-points.points.items points, c.in_ok-points.points.ok.0)

pub lawful-requires-clause-in_range : goal.lawful-requires-clause-in_range
lawful-requires-clause-in_range c =
    let nodes = HasNodes-from c.args.bytes.now _ c.in_ok-found.found _ _ c.unit_of-unit.result c.as_slice.ensures.is c.in_ok-found.ensures.found c.if-not-found.false
    c.deref.ensures.value c.if-not-is_count.ensures.is c.deref-2.ensures.value c.unit_of-unit.ensures in
    let points = HasPoints-from c.args.bytes.now c.in_ok-found.found c.unit_of-unit.result c.in_ok-points.points.items nodes c.in_ok-points.ensures.scaled c.in_ok-points.ensures.in_range in
    rw c.of.ensures (points_in_range c.args.bytes.now c.in_ok-found.found c.unit_of-unit.result c.in_ok-points.points.items points)

pub lawful-requires-clause-distinct : goal.lawful-requires-clause-distinct
lawful-requires-clause-distinct c =
    let nodes = HasNodes-from c.args.bytes.now _ c.in_ok-found.found _ _ c.unit_of-unit.result c.as_slice.ensures.is c.in_ok-found.ensures.found c.if-not-found.false
    c.deref.ensures.value c.if-not-is_count.ensures.is c.deref-2.ensures.value c.unit_of-unit.ensures in
    let points = HasPoints-from c.args.bytes.now c.in_ok-found.found c.unit_of-unit.result c.in_ok-points.points.items nodes c.in_ok-points.ensures.scaled c.in_ok-points.ensures.in_range in
    rw c.of.ensures (points_distinct c.args.bytes.now c.in_ok-found.found c.unit_of-unit.result c.in_ok-points.points.items points)

pub returns-in_err-points-2-clause-refused : goal.returns-in_err-points-2-clause-refused
returns-in_err-points-2-clause-refused c =
    let nodes = HasNodes-from c.args.bytes.now _ c.in_ok-found.found _ _ c.unit_of-unit.result c.as_slice.ensures.is c.in_ok-found.ensures.found c.if-not-found.false
    c.deref.ensures.value c.if-not-is_count.ensures.is c.deref-2.ensures.value c.unit_of-unit.ensures in
    let points = HasPoints-from c.args.bytes.now c.in_ok-found.found c.unit_of-unit.result c.in_ok-points.points.items nodes c.in_ok-points.ensures.scaled c.in_ok-points.ensures.in_range in
    let p = err_from_is_err_and c.from_residual-in_err-points-2.result c.from_residual-in_err-points-2.ensures.1 in
    rw (p.1, p.2) (λ why e. broken_rule c.args.bytes.now c.in_ok-found.found c.unit_of-unit.result c.in_ok-points.points.items why points
    (rw c.of.ensures at (c.in_err-points-2.ensures.refused why e)))

pub returns-clause-file : goal.returns-clause-file
returns-clause-file c =
    let nodes = HasNodes-from c.args.bytes.now _ c.in_ok-found.found _ _ c.unit_of-unit.result c.as_slice.ensures.is c.in_ok-found.ensures.found c.if-not-found.false
    c.deref.ensures.value c.if-not-is_count.ensures.is c.deref-2.ensures.value c.unit_of-unit.ensures in
    let points = HasPoints-from c.args.bytes.now c.in_ok-found.found c.unit_of-unit.result c.in_ok-points.points.items nodes c.in_ok-points.ensures.scaled c.in_ok-points.ensures.in_range in
    rw (c.from.ensures, c.merged-merged.ensures)
    (is_file c.args.bytes.now c.in_ok-found.found c.unit_of-unit.result c.in_ok-points.points.items c.in_ok-points-2.points points (rw c.of.ensures at c.in_ok-points-2.ensures.made))

pub returns-clause-unit : goal.returns-clause-unit
returns-clause-unit c =
    let nodes = HasNodes-from c.args.bytes.now _ c.in_ok-found.found _ _ c.unit_of-unit.result c.as_slice.ensures.is c.in_ok-found.ensures.found c.if-not-found.false
    c.deref.ensures.value c.if-not-is_count.ensures.is c.deref-2.ensures.value c.unit_of-unit.ensures in
    rw c.from.ensures (unit_at_most c.args.bytes.now c.in_ok-found.found c.unit_of-unit.result nodes)
