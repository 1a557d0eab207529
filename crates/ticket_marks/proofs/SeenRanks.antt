-- Edges that were seen, with and without their ranks.
use Rattle.std.proofs.Common.{◌≡◌, ℕ, List, [], ◌∷◌, Contains, subst, ⊎_elim}
use Rattle.lmt_network.proofs.Picked.{Contains-here, Contains-later, Contains-cases, Contains-nil}
use Rattle.ticket_marks.specs.declared.view.Ranked.{Ranked}
use Rattle.ticket_marks.specs.Rule.{edges_seen}

-- an edge that was seen was seen with a rank
pub seen_rank : (seen : List Ranked) (f : ℕ) → Contains (edges_seen seen) f → (s : Ranked) × Contains seen s × (s.edge ≡ f)
seen_rank [] f h = absurd (Contains-nil f h)
seen_rank (x ∷ xs) f h = ⊎_elim
    (λ (is : x.edge ≡ f). (x, Contains-here x xs, is))
    (λ (t : Contains (edges_seen xs) f). let r = seen_rank xs f t in (r.0, Contains-later x r.0 xs r.1, r.2))
    (Contains-cases x.edge f (edges_seen xs) h)

-- and the other way round
pub rank_seen : (seen : List Ranked) (s : Ranked) → Contains seen s → Contains (edges_seen seen) s.edge
rank_seen [] s h = absurd (Contains-nil s h)
rank_seen (x ∷ xs) s h = ⊎_elim
    (λ (is : x ≡ s). subst (λ (y : Ranked). Contains (edges_seen (x ∷ xs)) y.edge) is (Contains-here x.edge (edges_seen xs)))
    (λ (t : Contains xs s). Contains-later x.edge s.edge (edges_seen xs) (rank_seen xs s t))
    (Contains-cases x s xs h)
