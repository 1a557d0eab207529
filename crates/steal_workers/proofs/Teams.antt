-- Teams of workers.
use Rattle.std.proofs.Common.{◌≡◌, ℕ, ◌<◌, List, [], ◌∷◌, ◌++◌, length, take, get_or, All, refl, sym, ap, subst, arith, length-append}
use Rattle.std.proofs.lemmas.List.{get_or_push, get_or_append_left}
use lib.Seq.{take-append_seam}
use mathlib.Core.Logic.{dite}
use native.Mathlib.Decide.{ℕ_discrete}
use Rattle.edge_marks.specs.Handles.{MarksView}
use Rattle.lmt_network.specs.Network.{NetworkParts}
use Rattle.steal_workers.specs.Workers.{WorkerView, IsRecruit, AreTeam}

-- one more worker, at the end
pub team_more : (m : MarksView) (ws : List WorkerView) (w : WorkerView) → AreTeam m ws → IsRecruit m (length ws) w → AreTeam m (ws ++ w ∷ [])
team_more m ws w team new k d low = let wide = length-append ws (w ∷ []) in dite (ℕ_discrete k (length ws))
    (λ (z : k ≡ length ws). subst (λ (i : ℕ). IsRecruit m i (get_or (ws ++ w ∷ []) i d)) (sym z) (subst (IsRecruit m (length ws)) (sym (get_or_push ws w d (length ws) refl)) new))
    (λ z. let below : k < length ws = omega arith in subst (IsRecruit m k) (sym (get_or_append_left ws (w ∷ []) d k below)) (team k d below))

pub team_edges : (m : MarksView) (ws : List WorkerView) → AreTeam m ws → All (λ w. length w.seat.known.net.edges ≡ length m.net.edges) ws
team_edges m ws team k d low = ap (λ (n : NetworkParts). length n.edges) (team k d low).belongs.1

-- the workers that are lent come back whole
pub whole_back : (n : ℕ) (ws rest : List WorkerView) → n ≡ length ws → take n (ws ++ rest) ≡ ws
whole_back n ws rest is = subst (λ (k : ℕ). take k (ws ++ rest) ≡ ws) (sym is) (take-append_seam ws rest)
