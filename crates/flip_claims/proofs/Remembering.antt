-- What a seat still knows after its steps.
use Rattle.std.proofs.Common.{ℕ, [], ◌∷◌, refl}
use Rattle.std.proofs.lemmas.List.{append_assoc}
use Rattle.std.proofs.lemmas.List.Elements.{Contains-append_left}
use Rattle.flip_claims.specs.declared.view.Made.TheVariants.{Min, Fork, Join}
use Rattle.flip_claims.specs.declared.view.Known.{Known}
use Rattle.flip_claims.specs.Plays.{claimed_view, joined_view, left_view}
use Rattle.flip_claims.specs.Rule.{claim_on}
use Rattle.flip_claims.specs.Told.{Remembers}
use Rattle.flip_claims.proofs.Members.{Contains-later}

pub remembers_claim : (l r s x y : ℕ) (d : Known) → Remembers d (claimed_view r s y (claimed_view l s x d))
remembers_claim l r s x y d = record {
  claimed = λ c has. Contains-later (claim_on r s) c (claim_on l s ∷ d.claimed) (Contains-later (claim_on l s) c d.claimed has);
  steps = (Min l s x ∷ Min r s y ∷ [], append_assoc d.steps (Min l s x ∷ []) (Min r s y ∷ []));
}

pub remembers_split : (d : Known) → Remembers d (left_view d)
remembers_split d = record { claimed = λ c has. has; steps = (Fork ∷ [], refl) }

pub remembers_join : (d e : Known) → Remembers d (joined_view d e)
remembers_join d e = record { claimed = λ c has. Contains-append_left d.claimed e.claimed c has; steps = (Join ∷ [], refl) }
