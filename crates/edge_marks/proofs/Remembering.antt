-- What a seat still knows after its steps.
use Rattle.std.proofs.Common.{◌≡◌, ℕ, ◌/◌, ◌≤◌, Bool, ◌||◌, List, [], ◌∷◌, ◌++◌, sym, refl, ap, ◌∙◌, subst, arith}
use Rattle.std.proofs.lemmas.List.{append-nil, append_assoc}
use Rattle.lmt_network.specs.Network.{NetworkParts}
use Rattle.lmt_network.proofs.Picked.{Contains-later}
use Rattle.edge_marks.specs.declared.view.Made.{Made}
use Rattle.edge_marks.specs.declared.view.Made.TheVariants.{Load, Or, Add, Fork}
use Rattle.edge_marks.specs.declared.view.Known.{Known}
use Rattle.mark_seats.specs.Bits.{bit_in}
use Rattle.edge_marks.specs.Words.{begun_word, finished_word}
use Rattle.edge_marks.specs.Plays.{looked_view, begun_view, marked_view, ended_view, has_begun_with, settled_view, left_view}
use Rattle.mark_seats.specs.Supports.{Asked}
use Rattle.edge_marks.specs.Told.{looked_all, Remembers, entered}
use Rattle.edge_marks.proofs.Loads.{seen_more}

pub remembers_self : (d : Known) → Remembers d d
remembers_self d = record { seen = λ e h. h; tried = λ e h. h; settled = λ h. h; low = omega arith; steps = ([], sym (append-nil d.steps)) }

pub remembers_on : (a b c : Known) → Remembers a b → Remembers b c → Remembers a c
remembers_on a b c x y = let x₁ = x.low in let y₁ = y.low in record {
  seen = λ e h. y.seen e (x.seen e h);
  tried = λ e h. y.tried e (x.tried e h);
  settled = λ h. y.settled (x.settled h);
  low = omega arith;
  steps = (x.steps.0 ++ y.steps.0, y.steps.1 ∙ (ap (λ (l : List Made). l ++ y.steps.0) x.steps.1 ∙ append_assoc a.steps x.steps.0 y.steps.0));
}

pub remembers_look : (e x : ℕ) (d : Known) → Remembers d (looked_view e x d)
remembers_look e x d = record {
  seen = λ f h. seen_more e (bit_in x e) f d.seen h;
  tried = λ f h. h;
  settled = λ h. h;
  low = omega arith;
  steps = (Load (e / 64) x ∷ [], refl);
}

pub remembers_looks : (ls : List Asked) (d : Known) → Remembers d (looked_all ls d)
remembers_looks [] d = remembers_self d
remembers_looks (l ∷ ls) d = remembers_on d (looked_view l.edge l.value d) (looked_all ls (looked_view l.edge l.value d)) (remembers_look l.edge l.value d) (remembers_looks ls (looked_view l.edge l.value d))

pub remembers_entry : (n : NetworkParts) (b f : ℕ) (d : Known) → d.low ≤ b → Remembers d (entered n b f d)
remembers_entry n b f d low = record {
  seen = λ e h. h;
  tried = λ e h. h;
  settled = λ h. h;
  low = low;
  steps = (Load (begun_word n) b ∷ Load (finished_word n) f ∷ [], append_assoc d.steps (Load (begun_word n) b ∷ []) (Load (finished_word n) f ∷ []));
}

pub remembers_end : (i x : ℕ) (d : Known) → d.low ≤ x → Remembers d (settled_view i x d)
remembers_end i x d low = record {
  seen = λ e h. h;
  tried = λ e h. h;
  settled = λ h. ap (λ (t : Bool). t || has_begun_with x d.pass) h;
  low = low;
  steps = (Load i x ∷ [], refl);
}

-- after a whole pass
pub remembers_pass : (n : NetworkParts) (b f x : ℕ) (ls : List Asked) (old start mid new : Known) → start ≡ entered n b f old → old.low ≤ b → mid ≡ looked_all ls start → new ≡ settled_view (begun_word n) x mid → mid.low ≤ x → Remembers old new
remembers_pass n b f x ls old start mid new is low looked ended more = remembers_on old start new
    (subst (Remembers old) (sym is) (remembers_entry n b f old low))
    (remembers_on start mid new (subst (Remembers start) (sym looked) (remembers_looks ls start)) (subst (Remembers mid) (sym ended) (remembers_end (begun_word n) x mid more)))

pub remembers_kill : (i j e b x f : ℕ) (d : Known) → d.low ≤ b → Remembers d (ended_view j e f (marked_view e x (begun_view i e b d)))
remembers_kill i j e b x f d low = record {
  seen = λ g h. Contains-later e g d.seen h;
  tried = λ g h. Contains-later e g d.tried h;
  settled = λ h. h;
  low = omega arith;
  steps = (
    Add i b ∷ Or (e / 64) x ∷ Add j f ∷ [],
    ap (λ (l : List Made). l ++ Add j f ∷ []) (append_assoc d.steps (Add i b ∷ []) (Or (e / 64) x ∷ [])) ∙ append_assoc d.steps (Add i b ∷ Or (e / 64) x ∷ []) (Add j f ∷ []),
  );
}

pub remembers_fork : (d : Known) → Remembers d (left_view d)
remembers_fork d = record { seen = λ e h. h; tried = λ e h. h; settled = λ h. h; low = omega arith; steps = (Fork ∷ [], refl) }
