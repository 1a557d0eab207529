use Rattle.std.proofs.Common.{◌≤◌, sym, subst}
use Rattle.std.proofs.lemmas.List.{get_or_default}
use Rattle.exact_predicates.specs.declared.edge.Edge.{Edge}
use Rattle.empty_triangles.proofs.Ends.{IsStartOf-here}
use Rattle.empty_triangles.proofs.edges.start_of.Goals as goal

pub returns-else-edges-place : goal.returns-else-edges-place
returns-else-edges-place c =
    let h = c.loop-place.invariant in
    IsStartOf-here c.args.edges.now c.loop-place.place c.args.a c.requires.ascending h.within h.before
    (λ place_in d. subst (λ (e : Edge). c.args.a ≤ e.a)
    (sym (get_or_default c.args.edges.now c.loop-place.place d c.index-edges-place.result place_in)) c.if-edges-place.false)
