use Rattle.std.proofs.Common.{◌≡◌, ◌≢◌, ℕ, [], ◌∷◌, Contains, sym, ap, ◌∙◌, ⊎_elim}
use Rattle.std.proofs.lemmas.Bool.{false≢true}
use Rattle.lmt_network.proofs.Picked.{Contains-nil, Contains-cases}
use Rattle.mark_seats.specs.Supports.{Asked, asked}
use Rattle.ticket_marks.proofs.Answering.{rank_killed, rank_live}
use Rattle.ticket_marks.proofs.Loads.{killed_seen, live_one}
use Rattle.ticket_marks.proofs.handles.TicketMarks.passes.Goals as goal

-- the one load
only_one : (f e x : ℕ) → f ≢ e → (l : Asked) → Contains (asked f x ∷ []) l → (l.edge ≡ f) × (f ≢ e)
only_one f e x ne l h = (⊎_elim (λ (is : asked f x ≡ l). ap (λ (z : Asked). z.edge) (sym is)) (λ (none : Contains [] l). absurd (Contains-nil l none)) (Contains-cases (asked f x) l [] h), ne)

pub returns-in-Live-clause-told : goal.returns-in-Live-clause-told
returns-in-Live-clause-told c = let s = c.look.ensures.step in let f = c.args.f in (asked f s.0 ∷ [], s.2, only_one f c.args.e s.0 c.if-f-e.false, (λ _ _. live_one f s.0 (rank_live _ (sym s.1 ∙ c.in-Live.is))), λ h. absurd (false≢true (sym h)))

pub returns-in-Killed-clause-told : goal.returns-in-Killed-clause-told
returns-in-Killed-clause-told c = let s = c.look.ensures.step in let f = c.args.f in
    (asked f s.0 ∷ [], s.2, only_one f c.args.e s.0 c.if-f-e.false, (λ h. absurd (false≢true h)), λ _. (c.if-f-e.false, killed_seen f s.0 c.args.seat.now.known c.look.new.seat.known s.2 (rank_killed _ _ (sym s.1 ∙ c.in-Killed.is))))
