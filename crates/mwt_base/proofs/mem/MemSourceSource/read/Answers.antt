-- A read gives the front of what is left, and nothing only at the end.
use Rattle.std.proofs.Common.{◌≡◌, ◌∙◌, drop, sym, ap, rules}
use Rattle.mwt_base.specs.Planned.{PlannedSource}
use Rattle.mwt_base.proofs.Giving.{gives_front, sees_end}
use Rattle.mwt_base.proofs.mem.MemSourceSource.read.Goals as goal

pub returns-clause-bytes : goal.returns-clause-bytes
returns-clause-bytes c =
    let bytes = c.self.inside.bytes in
    let at = c.self.inside.at in
    let k = c.give-count.result in
    let left : c.args.self.now.left ≡ drop at bytes = sym (ap (λ (s : PlannedSource). s.left) c.self.view_is) in
    (left ∙ gives_front bytes c.give-count.new.buf at k (search rules), λ none room. sees_end bytes at k (search rules))
