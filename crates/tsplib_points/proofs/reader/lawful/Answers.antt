-- Points in range with distinct ids can break but three rules.
use Rattle.exact_predicates.proofs.Codes.{points_code-late}
use Rattle.tsplib_points.proofs.reader.lawful.Goals as goal

pub reason_of-requires : goal.reason_of-requires
reason_of-requires c =
    let list = c.args.list in
    points_code-late list c.requires.in_range c.requires.distinct c.in-Err-Refused.rule
    (c.in-Err-Refused.ensures.refused c.in-Err-Refused.rule c.in-Err-Refused.field-0-is)
