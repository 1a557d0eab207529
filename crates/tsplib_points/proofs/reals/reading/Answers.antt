-- Whether a text has the form of a real, and what is read of it.
use Rattle.std.proofs.Common.{◌∙◌, sym, ap, is_some}
use Rattle.std.specs.List.{list_any, before_first, after_first}
use Rattle.tsplib_points.specs.Real.{is_power}
use Rattle.tsplib_points.proofs.Pieces.{is_some-position, none_behind}
use Rattle.tsplib_points.proofs.RealTexts.{not_decimal, not_exponent, is_one, reads_real}
use Rattle.tsplib_points.proofs.reals.reading.Goals as goal

pub exponent-requires : goal.exponent-requires
exponent-requires c = λ none.
    let place = c.position_of_power-power_place.ensures.first in
    c.cut_at.ensures.behind is_power place ∙ none_behind is_power c.unsigned-body.result.now (sym (c.is_some.ensures ∙ ap is_some place) ∙ none)

pub returns-in_default-clause-form : goal.returns-in_default-clause-form
returns-in_default-clause-form c =
    let place = c.position_of_power-power_place.ensures.first in
    let front = c.cut_at.ensures.before is_power place ∙ ap (before_first is_power) c.unsigned-body.ensures in
    not_decimal c.args.text.now _ front c.in_default.ensures.form

pub returns-in_default-exponent-clause-form : goal.returns-in_default-exponent-clause-form
returns-in_default-exponent-clause-form c =
    let place = c.position_of_power-power_place.ensures.first in
    let there = c.is_some.ensures ∙ ap is_some place ∙ is_some-position is_power c.unsigned-body.result.now ∙ ap (list_any is_power) c.unsigned-body.ensures in
    let behind = c.cut_at.ensures.behind is_power place ∙ ap (after_first is_power) c.unsigned-body.ensures in
    not_exponent c.args.text.now _ _ there behind c.in_default-exponent.ensures.form

pub returns-clause-form : goal.returns-clause-form
returns-clause-form c =
    let place = c.position_of_power-power_place.ensures.first in
    let front = c.cut_at.ensures.before is_power place ∙ ap (before_first is_power) c.unsigned-body.ensures in
    let there = c.is_some.ensures ∙ ap is_some place ∙ is_some-position is_power c.unsigned-body.result.now ∙ ap (list_any is_power) c.unsigned-body.ensures in
    let behind = c.cut_at.ensures.behind is_power place ∙ ap (after_first is_power) c.unsigned-body.ensures in
    is_one c.args.text.now _ _ _ front there behind c.in-Some.ensures.form c.in-Some-exponent.ensures.form

pub returns-clause-read : goal.returns-clause-read
returns-clause-read c =
    let place = c.position_of_power-power_place.ensures.first in
    let front = c.cut_at.ensures.before is_power place ∙ ap (before_first is_power) c.unsigned-body.ensures in
    let behind = c.cut_at.ensures.behind is_power place ∙ ap (after_first is_power) c.unsigned-body.ensures in
    let m = c.in-Some.ensures in
    let e = c.in-Some-exponent.ensures in
    reads_real c.args.text.now _ _ _ _ _ _ _ _ front behind c.is_negative.ensures m.digits m.places e.right e.left
