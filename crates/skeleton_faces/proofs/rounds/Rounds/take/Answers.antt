-- One face more, or none.
use Rattle.std.proofs.Common.{◌++◌, ◌∷◌, [], ◌*◌, ℕ, Bool, List, ap, sym, ◌∙◌, subst}
use Rattle.std.proofs.lemmas.List.{with_items_is}
use Rattle.skeleton_faces.specs.Rounds.{IsRound}
use Rattle.skeleton_faces.proofs.Traces.{AreTraced-more}
use Rattle.skeleton_faces.proofs.rounds.Rounds.take.Goals as goal

pub returns-in_ok-push : goal.returns-in_ok-push
returns-in_ok-push c =
    let es = c.args.edges.now in
    let nexts = c.args.nexts.now in
    let n = c.args.edge in
    let r = c.args.self.now in
    let starts = c.go_round.new.starts in
    let done_is = with_items_is r.done c.go_round.new.done (c.go_round.auto.done ∙ c.deref_mut.ensures.len) in
    let Round : List Bool → Type 0 = λ done. IsRound es nexts (2 * n) r.done.items r.starts.items done starts.items in
    let round = rw c.deref_mut.ensures.value at c.in_ok-go_round.ensures in
    AreTraced-more es nexts n c.requires.ascending c.requires.edge_in c.requires.following r _ c.requires.traced (subst Round (sym done_is) round) c.requires.few
    (c.in_ok-push.ensures.items ∙ ap (λ (k : ℕ). r.bounds.items ++ k ∷ []) (c.len.ensures ∙ starts.ok.0))
