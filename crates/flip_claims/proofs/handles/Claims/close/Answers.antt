use Rattle.std.proofs.Common.{◌≡◌, ◌⊎◌, ℕ, ◌<◌, List, length, slice_index, Contains, sym, ap, ◌∙◌, subst, arith}
use Rattle.flip_claims.specs.Handles.{ClaimsView, SeatView}
use Rattle.flip_claims.specs.Rule.{claim_on}
use Rattle.flip_claims.specs.Words.{unclaimed}
use Rattle.flip_claims.proofs.Closes.{taken_claimed, taken_least}
use Rattle.flip_claims.proofs.handles.Claims.close.Goals as goal

-- what is taken is the last state
shows : (c : goal.After-free) → (t : ℕ) → t < length c.self.inside.table.shared.key.mesh.value.tris → slice_index c.take_words.new.words.items t ≡ slice_index c.close_with-closed.ensures.values.2.0.words t
shows c t low = let i₀ = c.self.invariant.0 in c.take_words.ensures.each t (omega arith) ∙ ap (λ (l : List ℕ). slice_index l t) (sym c.close_with-closed.ensures.values.2.2)

pub returns-clause-claimed : goal.returns-clause-claimed
returns-clause-claimed c t s has = let f = c.close_with-closed.ensures.values.2 in
    taken_least c.self.inside.table.shared.key f.0 f.1.0 c.take_words.new.words.items (c.take_words.ensures.one_each ∙ c.self.invariant.0) (shows c) _ _ f.1.1 t s
    (subst (λ (v : SeatView). Contains v.known.claimed (claim_on t s)) (sym c.seat.view_is) has)

pub returns-clause-whole : goal.returns-clause-whole
returns-clause-whole c all t low = let f = c.close_with-closed.ensures.values.2 in let x = slice_index c.take_words.new.words.items t in
    subst (λ (v : SeatView). (x ≡ unclaimed) ⊎ Contains v.known.claimed (claim_on t x)) c.seat.view_is
    (taken_claimed c.self.inside.table.shared.key f.0 f.1.0 c.take_words.new.words.items (c.take_words.ensures.one_each ∙ c.self.invariant.0) (shows c) _ _ f.1.1
    (ap (λ (v : SeatView). v.known.shares) c.seat.view_is ∙ all) t
    (subst (λ (v : ClaimsView). t < length v.mesh.tris) (sym c.self.view_is) low))
