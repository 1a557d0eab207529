use Rattle.std.proofs.Common.{◌≡◌, ◌≢◌, ℕ, [], ◌∷◌, Contains, sym, ap, ◌∙◌, ⊎_elim}
use Rattle.std.proofs.lemmas.Bool.{false≢true}
use Rattle.lmt_network.proofs.Picked.{Contains-nil, Contains-cases}
use Rattle.mark_seats.specs.Supports.{Asked, asked}
use Rattle.edge_marks.proofs.Answering.{look_killed, look_live}
use Rattle.edge_marks.proofs.Loads.{killed_seen, live_one}
use Rattle.edge_marks.proofs.handles.Marks.passes.Goals as goal

-- the one load
only_one : (f e x : ℕ) → f ≢ e → (l : Asked) → Contains (asked f x ∷ []) l → (l.edge ≡ f) × (f ≢ e)
only_one f e x ne l h = (⊎_elim (λ (is : asked f x ≡ l). ap (λ (z : Asked). z.edge) (sym is)) (λ (none : Contains [] l). absurd (Contains-nil l none)) (Contains-cases (asked f x) l [] h), ne)

pub returns-in-Live-clause-told : goal.returns-in-Live-clause-told
returns-in-Live-clause-told c = let s = c.look.ensures.step in let f = c.args.f in (asked f s.0 ∷ [], s.2, only_one f c.args.e s.0 c.if-f-e.false, (λ _ _. live_one f s.0 (look_live _ (sym s.1 ∙ c.in-Live.is))), λ h. absurd (false≢true (sym h)))

pub returns-in-Killed-clause-told : goal.returns-in-Killed-clause-told
returns-in-Killed-clause-told c = let s = c.look.ensures.step in let f = c.args.f in
    (asked f s.0 ∷ [], s.2, only_one f c.args.e s.0 c.if-f-e.false, (λ h. absurd (false≢true h)), λ _. (c.if-f-e.false, killed_seen f s.0 c.args.seat.now.known c.look.new.seat.known s.2 (look_killed _ (sym s.1 ∙ c.in-Killed.is))))
