-- Laws on closed edges, by their numbers.
use Rattle.std.proofs.Common.{◌≡◌, ◌⊎◌, ℕ, ◌<◌, List, [], ◌∷◌, length, All, Contains, ⊎_elim, inl, inr, subst}
use Rattle.std.proofs.lemmas.List.Elements.{All-contains}
use Rattle.exact_predicates.specs.declared.diamond.Diamond.{Diamond}
use Rattle.exact_predicates.specs.declared.edge.Edge.{Edge}
use Rattle.exact_predicates.specs.declared.point.Point.{Point}
use Rattle.exact_predicates.specs.Candidates.{EdgePrecedes}
use Rattle.exact_predicates.proofs.Ascending.{ascending-only, EdgePrecedes-not}
use Rattle.lmt_network.proofs.Picked.{All-from_members, Contains-here, Contains-cases, Contains-nil}
use Rattle.lmt_network.specs.Live.{IsLive}
use Rattle.lmt_network.specs.Network.{NetworkParts}
use Rattle.lmt_network.specs.NumberLaws.{BrokenIsDead, HullIsNotDead, LiveNumbersAreOne}
use Rattle.lmt_network.specs.Numbers.{IsHullNumber, IsSupported, AreClosed, AreLive, IsDead}

-- what supports an edge among some edges supports it among more
pub IsSupported-more : (n : NetworkParts) (es fs : List ℕ) (e : ℕ) → ((f : ℕ) → Contains es f → Contains fs f) → IsSupported n es e → IsSupported n fs e
IsSupported-more n es fs e more s = record { l = s.l; r = s.r; pair = s.pair; others = λ f h. more f (s.others f h) }

-- Where some edges have every closed one, an edge that is no hull edge and has no support among them is dead.
pub dead_if_unsupported : (n : NetworkParts) (es : List ℕ) (e : ℕ) → ((fs : List ℕ) → AreClosed n fs → All (Contains es) fs)
    → ¬ IsHullNumber n e → ¬ IsSupported n es e → IsDead n e
dead_if_unsupported n es e every inner unsupported fs closed has =
    ⊎_elim
    (λ (h : IsHullNumber n e). inner h)
    (λ (s : IsSupported n fs e). unsupported (IsSupported-more n fs es e (λ f in_fs. All-contains (Contains es) fs f (every fs closed) in_fs) s))
    (All-contains (λ x. (x < length n.edges) × (IsHullNumber n x ⊎ IsSupported n fs x)) fs e closed has).1

-- An edge that is no hull edge is dead, where each of its locally minimal pairs has a dead side.
pub dead_if_broken : BrokenIsDead
dead_if_broken n seen e inner broken dead fs closed has =
    ⊎_elim
    (λ (h : IsHullNumber n e). inner h)
    (λ (s : IsSupported n fs e). let b = broken s.l s.r s.pair in dead b.1 (b.0, b.2, b.3) fs closed (s.others b.1 b.4))
    (All-contains (λ x. (x < length n.edges) × (IsHullNumber n x ⊎ IsSupported n fs x)) fs e closed has).1

-- edges with the same members as the live ones are the live ones
pub live_same : (n : NetworkParts) (es fs : List ℕ) → ((e : ℕ) → Contains es e → Contains fs e) → ((e : ℕ) → Contains fs e → Contains es e) → AreLive n es → AreLive n fs
live_same n es fs to back live =
    record {
      closed = All-from_members (λ x. (x < length n.edges) × (IsHullNumber n x ⊎ IsSupported n fs x)) fs
          (λ e has. let c = All-contains (λ x. (x < length n.edges) × (IsHullNumber n x ⊎ IsSupported n es x)) es e live.closed (back e has) in
          (c.0, ⊎_elim (λ (h : IsHullNumber n e). inl h) (λ (s : IsSupported n es e). inr (IsSupported-more n es fs e to s)) c.1));
      hull_edges = λ e e_in hull. to e (live.hull_edges e e_in hull);
      greatest = λ gs closed. All-from_members (Contains fs) gs (λ e has. to e (All-contains (Contains es) gs e (live.greatest gs closed) has));
    }

-- the live edges are the same in each list of them
pub live_once : (n : NetworkParts) (es fs : List ℕ) → AreLive n es → AreLive n fs → (e : ℕ) → Contains es e → Contains fs e
live_once n es fs one other e has = All-contains (Contains fs) es e (other.greatest es one.closed) has

pub live_one_law : LiveNumbersAreOne
live_one_law n es fs one other e = (live_once n es fs one other e, live_once n fs es other one e)

-- a hull edge alone is closed
pub hull_closed : (n : NetworkParts) (e : ℕ) → e < length n.edges → IsHullNumber n e → AreClosed n (e ∷ [])
hull_closed n e e_in hull =
    All-from_members (λ x. (x < length n.edges) × (IsHullNumber n x ⊎ IsSupported n (e ∷ []) x)) (e ∷ [])
    (λ x has. ⊎_elim
    (λ (is : e ≡ x). (subst (λ (y : ℕ). y < length n.edges) is e_in, inl (subst (IsHullNumber n) is hull)))
    (λ (none : Contains [] x). absurd (Contains-nil x none))
    (Contains-cases e x [] has))

-- so it is not dead
pub hull_not_dead : HullIsNotDead
hull_not_dead n e e_in hull dead = dead (e ∷ []) (hull_closed n e e_in hull) (Contains-here e [])

-- closed edges that have every closed one are the live ones
pub live_if_closed : (n : NetworkParts) (es : List ℕ) → AreClosed n es → ((fs : List ℕ) → AreClosed n fs → All (Contains es) fs) → AreLive n es
live_if_closed n es closed every =
    record {
      closed = closed;
      hull_edges = λ e e_in hull. All-contains (Contains es) (e ∷ []) e (every (e ∷ []) (hull_closed n e e_in hull)) (Contains-here e []);
      greatest = every;
    }

-- over edges: there is one live list
pub IsLive-only : (ps : List Point) (hull : List ℕ) (diamond : Diamond) (es fs : List Edge) → IsLive ps hull diamond es → IsLive ps hull diamond fs → es ≡ fs
IsLive-only ps hull diamond es fs h k =
    ascending-only EdgePrecedes EdgePrecedes-not es fs h.closed.ascending k.closed.ascending
    (λ e m. All-contains (Contains fs) es e (k.greatest es h.closed) m)
    (λ e m. All-contains (Contains es) fs e (h.greatest fs k.closed) m)
