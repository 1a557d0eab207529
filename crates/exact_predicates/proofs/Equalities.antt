-- Edges are known by their ends, and triangles by their corners.
use Rattle.std.proofs.Common.{◌≡◌, ◌≢◌, ℕ, ◌<◌, List, Contains, subst, ap, sym, ◌∙◌, arith}
use denote.Struct.Props.{props}
use Rattle.exact_predicates.specs.declared.edge.Edge.{Edge}
use Rattle.exact_predicates.specs.declared.tri.Tri.{Tri}
use Rattle.exact_predicates.specs.Candidates.{Joins, HasEdge}

lt_prop : (a b : ℕ) → IsProp (a < b)
lt_prop a b = hlevel props

ne_prop : (a b : ℕ) → IsProp (a ≢ b)
ne_prop a b = hlevel props

-- two edges with the same ends are one
pub Edge-equal : (e f : Edge) → e.a ≡ f.a → e.b ≡ f.b → e ≡ f
Edge-equal e f p q =
    let at : (c d : ℕ) → e.a ≡ c → e.b ≡ d → (k : c < d) → e ≡ record { a = c; b = d; ascending = k } = λ c d p q.
    subst (λ (x : ℕ). (k : x < d) → e ≡ record { a = x; b = d; ascending = k }) p
    (subst (λ (y : ℕ). (k : e.a < y) → e ≡ record { a = e.a; b = y; ascending = k }) q
    (λ k. ap (λ (l : e.a < e.b). record { a = e.a; b = e.b; ascending = l }) (lt_prop e.a e.b e.ascending k))) in
    at f.a f.b p q f.ascending

-- two triangles with the same corners are one
pub Tri-equal : (s t : Tri) → s.a ≡ t.a → s.b ≡ t.b → s.c ≡ t.c → s ≡ t
Tri-equal s t p q r =
    let at : (a b c : ℕ) → s.a ≡ a → s.b ≡ b → s.c ≡ c → (h : a < b) (k : a < c) (l : b ≢ c) → s ≡ record { a = a; b = b; c = c; below_b = h; below_c = k; apart = l } = λ a b c p q r.
    subst (λ (x : ℕ). (h : x < b) (k : x < c) (l : b ≢ c) → s ≡ record { a = x; b = b; c = c; below_b = h; below_c = k; apart = l }) p
    (subst (λ (y : ℕ). (h : s.a < y) (k : s.a < c) (l : y ≢ c) → s ≡ record { a = s.a; b = y; c = c; below_b = h; below_c = k; apart = l }) q
    (subst (λ (z : ℕ). (h : s.a < s.b) (k : s.a < z) (l : s.b ≢ z) → s ≡ record { a = s.a; b = s.b; c = z; below_b = h; below_c = k; apart = l }) r
    (λ h k l i. record { a = s.a; b = s.b; c = s.c; below_b = lt_prop s.a s.b s.below_b h i; below_c = lt_prop s.a s.c s.below_c k i; apart = ne_prop s.b s.c s.apart l i }))) in
    at t.a t.b t.c p q r t.below_b t.below_c t.apart

-- the edge with given ends is one
pub Joins-only : (e f : Edge) (u v : ℕ) → Joins e u v → Joins f u v → e ≡ f
Joins-only e f u v h k = Edge-equal e f (h.0 ∙ sym k.0) (h.1 ∙ sym k.1)

-- an edge joins its ends
pub Joins-ends : (e : Edge) → Joins e e.a e.b
Joins-ends e = let l = e.ascending in (omega arith, omega arith)

-- in either order
pub Joins-comm : (e : Edge) (u v : ℕ) → Joins e u v → Joins e v u
Joins-comm e u v h = (omega (arith, h.0), omega (arith, h.1))

-- an edge of a list is known by its ends
pub HasEdge-Contains : (es : List Edge) (e : Edge) (u v : ℕ) → Joins e u v → Contains es e → HasEdge es u v
HasEdge-Contains es e u v h (k, k_in, at_k) = (k, e, k_in, at_k, h)

-- and the other way round
pub Contains-HasEdge : (es : List Edge) (e : Edge) (u v : ℕ) → Joins e u v → HasEdge es u v → Contains es e
Contains-HasEdge es e u v h (k, f, k_in, at_k, j) = subst (λ (x : Edge). Contains es x) (Joins-only f e u v j h) (k, k_in, at_k)

-- the ends come in either order
pub HasEdge-comm : (es : List Edge) (u v : ℕ) → HasEdge es u v → HasEdge es v u
HasEdge-comm es u v (k, e, k_in, at_k, h) = (k, e, k_in, at_k, Joins-comm e u v h)
