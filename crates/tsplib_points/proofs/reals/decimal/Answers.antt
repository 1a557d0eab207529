-- The digits on both sides of the point are one number.
use Rattle.std.proofs.Common.{[]}
use Rattle.length_enclosure.specs.Number.{number}
use Rattle.tsplib_points.specs.Real.{is_point}
use Rattle.tsplib_points.specs.Kept.{Holds}
use Rattle.length_enclosure.proofs.Digits.{number_none}
use Rattle.tsplib_points.proofs.reals.decimal.Goals as goal

pub returns-then-push_all-2-clause-digits : goal.returns-then-push_all-2-clause-digits
returns-then-push_all-2-clause-digits c =
    let whole = c.cut_at.ensures.before is_point c.position_of.ensures.first in
    let behind = c.cut_at.ensures.behind is_point c.position_of.ensures.first in
    let none : Holds c.zero-digits.result.head c.zero-digits.result.zeros (number []) = rw number_none c.zero-digits.ensures.value in
    let first = c.push_all.ensures.value c.if-push_all.true [] none in
    let both = c.push_all-then-push_all.ensures.value c.if-push_all-2.true _ first in
    rw (whole, behind) at both
