-- A claim that a view has stays one of some view.
use Rattle.std.proofs.Common.{◌≡◌, ◌≢◌, ℕ, List, [], ◌∷◌, ◌++◌, set, Contains, sym, ◌∙◌, subst}
use Rattle.std.proofs.lemmas.List.Elements.{Contains-append_left, Contains-append_right}
use mathlib.Core.Logic.{dite}
use mathlib.Core.Option.{some, some-injective}
use native.Mathlib.Decide.{ℕ_discrete}
use lib.ListN.{get_elem?}
use Rattle.atomic_table.proofs.Lists.{at_longer, set_else, set_here}
use Rattle.flip_claims.specs.declared.view.Claimed.{Claimed}
use Rattle.flip_claims.specs.declared.view.Known.{Known}
use Rattle.flip_claims.specs.Plays.{joined_view, spent_view}
use Rattle.flip_claims.specs.Rule.{IsClaimedBy, claim_on}
use Rattle.flip_claims.proofs.Members.{in_list}

-- where a view becomes one with more claims
pub claimed_set : (views : List Known) (id : ℕ) (d w : Known) (t s : ℕ) → get_elem? views id ≡ some d → ((c : Claimed) → Contains d.claimed c → Contains w.claimed c)
    → IsClaimedBy views t s → IsClaimedBy (set views id w) t s
claimed_set views id d w t s at more by = dite (ℕ_discrete by.seat id)
    (λ (is : by.seat ≡ id).
    let same : by.view ≡ d = some-injective by.view d (sym by.view_at ∙ subst (λ (i : ℕ). get_elem? views i ≡ some d) (sym is) at) in
    record {
      seat = id;
      view = w;
      view_at = set_here views id w (in_list views id d at);
      has = more (claim_on t s) (subst (λ (v : Known). Contains v.claimed (claim_on t s)) same by.has);
    })
    (λ ne. record { seat = by.seat; view = by.view; view_at = set_else views id by.seat w ne ∙ by.view_at; has = by.has })

-- where there is one view more
pub claimed_longer : (views : List Known) (o : Known) (t s : ℕ) → IsClaimedBy views t s → IsClaimedBy (views ++ o ∷ []) t s
claimed_longer views o t s by = record { seat = by.seat; view = by.view; view_at = at_longer views (o ∷ []) by.seat by.view by.view_at; has = by.has }

-- where a view gets the claims of another
pub claimed_joined : (views : List Known) (id other : ℕ) (d e : Known) (t s : ℕ) → get_elem? views id ≡ some d → other ≢ id → get_elem? (set views id (joined_view d e)) other ≡ some e
    → IsClaimedBy views t s → IsClaimedBy (set (set views id (joined_view d e)) other spent_view) t s
claimed_joined views id other d e t s at apart other_at by =
    let both : Known = joined_view d e in
    let mid = claimed_set views id d both t s at (λ c has. Contains-append_left d.claimed e.claimed c has) by in
    dite (ℕ_discrete mid.seat other)
    (λ (is : mid.seat ≡ other).
    let same : mid.view ≡ e = some-injective mid.view e (sym mid.view_at ∙ subst (λ (i : ℕ). get_elem? (set views id both) i ≡ some e) (sym is) other_at) in
    record {
      seat = id;
      view = both;
      view_at = set_else (set views id both) other id spent_view (λ z. apart (sym z)) ∙ set_here views id both (in_list views id d at);
      has = Contains-append_right d.claimed e.claimed (claim_on t s) (subst (λ (v : Known). Contains v.claimed (claim_on t s)) same mid.has);
    })
    (λ ne. record { seat = mid.seat; view = mid.view; view_at = set_else (set views id both) other mid.seat spent_view ne ∙ mid.view_at; has = mid.has })
