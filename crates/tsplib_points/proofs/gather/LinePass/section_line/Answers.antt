-- One line of the section: the end, a node, or why it fails.
use Rattle.std.proofs.Common.{refl, Some, sym, ap, ◌∙◌}
use Rattle.std.proofs.lemmas.Bool.{not-true, not-false}
use Rattle.tsplib_points.specs.Lines.{Line}
use Rattle.tsplib_points.specs.Header.{is_end, is_end_mark}
use Rattle.tsplib_points.specs.Nodes.{nodes, node_reason}
use Rattle.tsplib_points.proofs.KeptNodes.{kept_node, node_judged, more_numbers}
use Rattle.tsplib_points.proofs.Steps.{reason_end, reason_section, passes_end, passes_node}
use Rattle.tsplib_points.proofs.gather.LinePass.section_line.Goals as goal

pub returns-then-is_end_mark-clause-over : goal.returns-then-is_end_mark-clause-over
unfolding is_end
returns-then-is_end_mark-clause-over c = λ before h.
    let l : Line = record { number = c.args.number; text = c.args.text.now } in
    let marked = ap is_end_mark (sym c.of.ensures) ∙ sym c.is_end_mark.ensures ∙ c.if-is_end_mark.true in
    (reason_end before l c.requires.some (sym h.end ∙ c.requires.open) (sym h.section ∙ c.requires.section) marked, passes_end c.args.self.now before l h marked)

pub returns-in-Err-clause-fails : goal.returns-in-Err-clause-fails
unfolding is_end
returns-in-Err-clause-fails c = λ before h.
    let l : Line = record { number = c.args.number; text = c.args.text.now } in
    let marked = ap is_end_mark (sym c.of.ensures) ∙ sym c.is_end_mark.ensures ∙ c.if-is_end_mark.false in
    let judged = reason_section before l c.requires.some (sym h.end ∙ c.requires.open) (sym h.section ∙ c.requires.section) marked in
    rw (judged, c.in-Err.ensures (nodes before)) (ap Some (sym c.at.ensures))

pub returns-then-not-is_new-clause-fails : goal.returns-then-not-is_new-clause-fails
unfolding is_end
returns-then-not-is_new-clause-fails c = λ before h.
    let l : Line = record { number = c.args.number; text = c.args.text.now } in
    let marked = ap is_end_mark (sym c.of.ensures) ∙ sym c.is_end_mark.ensures ∙ c.if-is_end_mark.false in
    let judged = reason_section before l c.requires.some (sym h.end ∙ c.requires.open) (sym h.section ∙ c.requires.section) marked in
    let k = kept_node _ c.in-Ok.kept c.in-Ok.ensures in
    let there = not-false _ (sym c.in_ok-is_new.ensures.added ∙ c.if-not-is_new.true) in
    rw (judged, k.1, node_judged c.args.self.now before c.in-Ok.kept k.0 _ h k.2 there) (ap Some (sym c.at-then-not-is_new.ensures))

pub returns-clause-over : goal.returns-clause-over
unfolding is_end
returns-clause-over c = λ before h.
    let l : Line = record { number = c.args.number; text = c.args.text.now } in
    let marked = ap is_end_mark (sym c.of.ensures) ∙ sym c.is_end_mark.ensures ∙ c.if-is_end_mark.false in
    let judged = reason_section before l c.requires.some (sym h.end ∙ c.requires.open) (sym h.section ∙ c.requires.section) marked in
    let k = kept_node _ c.in-Ok.kept c.in-Ok.ensures in
    let absent = not-true _ (sym c.in_ok-is_new.ensures.added ∙ c.if-not-is_new.false) in (
      judged ∙ ap (node_reason (nodes before)) k.1 ∙ node_judged c.args.self.now before c.in-Ok.kept k.0 _ h k.2 absent,
      passes_node c.args.self.now _ before l c.in-Ok.kept k.0 h c.requires.open c.requires.section marked k.1 k.2 refl refl refl c.in_ok-push.ensures.items
          (more_numbers _ _ c.in-Ok.kept k.0 k.2 (λ q. c.in_ok-is_new.ensures.updates.0 q)),
    )
