-- What a seat still knows after its steps.
use Rattle.std.proofs.Common.{ℕ, List, [], ◌∷◌, ◌++◌, sym, refl, ap, ◌∙◌}
use Rattle.std.proofs.lemmas.List.{append-nil, append_assoc}
use Rattle.lmt_network.proofs.Picked.{Contains-later}
use Rattle.ticket_marks.specs.declared.view.Made.{Made}
use Rattle.ticket_marks.specs.declared.view.Made.TheVariants.{Load, Add, Exchange, Fork}
use Rattle.ticket_marks.specs.declared.view.Known.{Known}
use Rattle.ticket_marks.specs.Rule.{ranked}
use Rattle.ticket_marks.specs.Plays.{now_mark, looked_view, drawn_view, killed_view, left_view}
use Rattle.mark_seats.specs.Supports.{Asked}
use Rattle.ticket_marks.specs.Told.{looked_all, Remembers}
use Rattle.ticket_marks.proofs.Loads.{seen_more}

remembers_self : (d : Known) → Remembers d d
remembers_self d = record { seen = λ s h. h; tried = λ e h. h; steps = ([], sym (append-nil d.steps)) }

remembers_on : (a b c : Known) → Remembers a b → Remembers b c → Remembers a c
remembers_on a b c x y = record {
  seen = λ s h. y.seen s (x.seen s h);
  tried = λ e h. y.tried e (x.tried e h);
  steps = (x.steps.0 ++ y.steps.0, y.steps.1 ∙ (ap (λ (l : List Made). l ++ y.steps.0) x.steps.1 ∙ append_assoc a.steps x.steps.0 y.steps.0));
}

pub remembers_look : (e x : ℕ) (d : Known) → Remembers d (looked_view e x d)
remembers_look e x d = record { seen = λ s h. seen_more e x s d.seen h; tried = λ f h. h; steps = (Load e x ∷ [], refl) }

pub remembers_looks : (ls : List Asked) (d : Known) → Remembers d (looked_all ls d)
remembers_looks [] d = remembers_self d
remembers_looks (l ∷ ls) d = remembers_on d (looked_view l.edge l.value d) (looked_all ls (looked_view l.edge l.value d)) (remembers_look l.edge l.value d) (remembers_looks ls (looked_view l.edge l.value d))

pub remembers_kill : (i e t x : ℕ) (d : Known) → Remembers d (killed_view e t x (drawn_view i e t d))
remembers_kill i e t x d = record {
  seen = λ s h. Contains-later (ranked e (now_mark t x)) s d.seen h;
  tried = λ f h. Contains-later e f d.tried h;
  steps = (Add i t ∷ Exchange e x ∷ [], append_assoc d.steps (Add i t ∷ []) (Exchange e x ∷ []));
}

pub remembers_fork : (d : Known) → Remembers d (left_view d)
remembers_fork d = record { seen = λ s h. h; tried = λ e h. h; steps = (Fork ∷ [], refl) }
