use Rattle.std.proofs.Common.{◌≡◌, List, None, subst, ◌∙◌}
use Rattle.exact_predicates.specs.declared.point.Point.{Point}
use Rattle.exact_predicates.specs.Merging.{IsMadeFrom, points_code}
use Rattle.dual_checker.proofs.PointLists.{made_whole, HasPoints-no_code, HasPoints-made}
use Rattle.dual_checker.proofs.points.points_of.Goals as goal

pub returns-in-Ok : goal.returns-in-Ok
returns-in-Ok c =
    let r = c.args.report.now in
    let set = c.in-Ok.points in
    let list = c.of.ensures ∙ (c.in_ok-list.ensures.items ∙ c.as_slice.ensures.is) in
    let made = subst (λ (ps : List Point). IsMadeFrom ps set) list c.in-Ok.ensures.made in
    let same = made_whole r.points set c.requires.points_ascend made in
    (HasPoints-made r set same made, same)

pub returns-in-Err-Refused : goal.returns-in-Err-Refused
returns-in-Err-Refused c = λ h.
    let list = c.of.ensures ∙ (c.in_ok-list.ensures.items ∙ c.as_slice.ensures.is) in
    let none : points_code c.args.report.now.points ≡ None = HasPoints-no_code c.args.report.now c.requires h in
    let some = c.in-Err-Refused.ensures.refused c.in-Err-Refused.field-0-0 c.in-Err-Refused.field-0-is in
    absurd cc
