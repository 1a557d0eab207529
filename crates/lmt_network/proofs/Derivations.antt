-- What a derivation says of its edges.
use Rattle.std.proofs.Common.{◌⊎◌, ℕ, zero, suc, ◌+◌, ◌<◌, List, length, slice_index, ⊎_elim, arith}
use Rattle.std.proofs.lemmas.List.Elements.{All-contains}
use Rattle.lmt_network.proofs.Naming.{dead_law}
use Rattle.lmt_network.specs.Derivation.{IsDerivation, RankedIsDead, RankedIsInNone}
use Rattle.lmt_network.specs.Network.{NetworkParts}
use Rattle.lmt_network.specs.Numbers.{IsHullNumber, IsSupported, IsDead}

-- an edge with a rank below m is dead
dead_below : (n : NetworkParts) (ranks : List ℕ) → IsDerivation n ranks → (m e : ℕ) → e < length n.edges → 0 < slice_index ranks e → slice_index ranks e < m → IsDead n e
dead_below n ranks are zero e e_in some low = absurd (omega arith)
dead_below n ranks are (suc m) e e_in some low = λ es closed has.
    ⊎_elim
    (λ (h : IsHullNumber n e). let none = are.hull e e_in h in absurd (omega arith))
    (λ (s : IsSupported n es e).
    let f = are.derived e e_in some s.l s.r s.pair in
    let in_es = s.others f.0 f.1 in
    let lower = f.3 in
    let f_in = (All-contains (λ x. (x < length n.edges) × (IsHullNumber n x ⊎ IsSupported n es x)) es f.0 closed in_es).0 in
    dead_below n ranks are m f.0 f_in f.2 (omega arith) es closed in_es)
    (All-contains (λ x. (x < length n.edges) × (IsHullNumber n x ⊎ IsSupported n es x)) es e closed has).1

pub ranked_dead_law : RankedIsDead
ranked_dead_law n ranks e are e_in some = dead_below n ranks are (slice_index ranks e + 1) e e_in some (omega arith)

pub ranked_none_law : RankedIsInNone
ranked_none_law n diamond ranks e fs net candidates are e_in some closed = dead_law n diamond e fs net candidates e_in (ranked_dead_law n ranks e are e_in some) closed
