use Rattle.std.proofs.Common.{◌+◌, Option, sym, ◌∙◌, subst}
use Rattle.std.proofs.lemmas.Bool.{false≢true}
use Rattle.std.proofs.lemmas.List.Elements.{Contains-get_or}
use Rattle.face_optimum.specs.declared.cut.Cut.{Cut}
use Rattle.face_optimum.proofs.Best.{IsBestUpto, best_all, best_kept, best_more}
use Rattle.face_optimum.proofs.site.Site.best_cut.Goals as goal
use Rattle.face_optimum.proofs.site.Site.best_cut.Goals.{then-is_live, else-is_live}

pub is_live-requires-clause-t_in : goal.is_live-requires-clause-t_in
is_live-requires-clause-t_in c = ((c.row-t-items.ensures _).0 (Contains-get_or c.row-t-items.result.now c.loop-t.t-index 0 c.loop-t-test.true)).0

pub loop-t-preserved : goal.loop-t-preserved
loop-t-preserved c =
    let s = c.args.self.now in
    let n = s.net.now in
    let row = c.row-t-items.result.now in
    let k = c.loop-t.t-index in
    let upto = λ (best : Option Cut). IsBestUpto n s.flags.now s.tri_seats.now c.args.costs.now c.args.u c.args.v row (k + 1) best in
    elim c.if-is_live.branch [
      | then-is_live w ↦ subst upto (sym w.best-is)
          (best_more n s.flags.now s.tri_seats.now c.args.costs.now c.args.u c.args.v row k c.args.e c.loop-t.best w.cut_by.result w.cheaper.result
          c.requires.site.network c.requires.number c.loop-t.invariant (c.is_live.ensures.0 w.if-is_live.true)
          ((c.row-t-items.ensures _).0 (Contains-get_or row k 0 c.loop-t-test.true)).1 w.cut_by.ensures w.cheaper.ensures)
      | else-is_live w ↦ subst upto (sym w.best-is)
          (best_kept n s.flags.now s.tri_seats.now c.args.costs.now c.args.u c.args.v row k c.loop-t.best c.loop-t.invariant
          (λ live. false≢true (sym w.if-is_live.false ∙ c.is_live.ensures.1 live)))
    ]

pub returns : goal.returns
returns c =
    let s = c.args.self.now in
    best_all s.net.now s.flags.now s.tri_seats.now c.args.costs.now c.args.u c.args.v c.row-t-items.result.now c.loop-t.t-index c.loop-t.best
    c.row-t-items.ensures c.loop-t-test.false c.loop-t.invariant
