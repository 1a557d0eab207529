-- A line is cut at its first colon.
use Rattle.std.proofs.Common.{◌≡◌, ◌∙◌, refl, ap, is_some}
use Rattle.std.specs.List.{list_any}
use Rattle.tsplib_points.specs.Lines.{trim}
use Rattle.tsplib_points.specs.Header.{is_colon, parts_of}
use Rattle.tsplib_points.proofs.Pieces.{is_some-position}
use Rattle.tsplib_points.proofs.header.Parts.of.Goals as goal

pub returns : goal.returns
unfolding parts_of
returns c =
    let place = c.position_of-colon.ensures.first in
    let keyword = c.trim.ensures ∙ ap trim (c.cut_at.ensures.before is_colon place) in
    let value = c.trim-2.ensures ∙ ap trim (c.cut_at.ensures.behind is_colon place) in
    let colon : c.is_some.result ≡ list_any is_colon c.args.text.now = c.is_some.ensures ∙ ap is_some place ∙ is_some-position is_colon c.args.text.now in
    rw (keyword, value, colon) refl
