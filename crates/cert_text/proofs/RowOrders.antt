-- The orders of the lists of a report: what tests them, and that each is transitive.
use Rattle.std.proofs.Common.{◌≡◌, ◌⊎◌, ℕ, ℤ, ◌<◌, ◌<ℤ◌, Bool, true, List, [], ◌∷◌, Option, Some, None, inl, inr, refl, sym, subst, ◌∙◌, arith}
use Rattle.std.specs.Prelude.{int_lt}
use Rattle.std.proofs.lemmas.Bool.{or_cases, or_left, or_right, and_parts, and_from, not-true, not_from_false, ltb-true, lt-ltb, eqb-true, eq-eqb, cases_order, false≢true, false_from_ne_true}
use Rattle.std.proofs.lemmas.Bool.Decides.{Decides-int_eq}
use Rattle.std.proofs.lemmas.Int.{ints}
use Rattle.exact_predicates.specs.declared.edge.Edge.{Edge}
use Rattle.exact_predicates.specs.declared.tri.Tri.{Tri}
use Rattle.exact_predicates.specs.Plane.{Precedes}
use Rattle.exact_predicates.specs.Candidates.{EdgePrecedes, TriPrecedes}
use Rattle.exact_predicates.proofs.Equalities.{Tri-equal}
use Rattle.exact_predicates.proofs.ListOrder.{EdgePrecedes-trans}
use Rattle.cert_text.specs.Rows.{point_may_follow, hull_may_follow, edge_may_follow, live_may_follow, tri_precedes, tri_may_follow}
use Rattle.cert_text.specs.Within.{LivePrecedes, TriFollows}
use Rattle.cert_text.proofs.Taking.{IsFollowed}
use Rattle.cert_text.proofs.Orders.{IsChain, IsTransitive}

-- the test of an order tells it
pub record Tests {X : Type 0} (may_follow : X → X → Bool) (R : X → X → Type 0) : Type 0 where
  pub tells : (x y : X) → may_follow x y ≡ true → R x y
  pub holds : (x y : X) → R x y → may_follow x y ≡ true

pub chain_from : {X : Type 0} {may_follow : X → X → Bool} {R : X → X → Type 0} → Tests may_follow R → (last : Option X) (xs : List X)
    → IsFollowed may_follow last xs → IsChain R last xs
chain_from t None [] h = tt
chain_from t (Some l) [] h = tt
chain_from t None (x ∷ xs) h = chain_from t (Some x) xs h.1
chain_from t (Some l) (x ∷ xs) h = (t.tells l x h.0, chain_from t (Some x) xs h.1)

pub chain_to : {X : Type 0} {may_follow : X → X → Bool} {R : X → X → Type 0} → Tests may_follow R → (last : Option X) (xs : List X)
    → IsChain R last xs → IsFollowed may_follow last xs
chain_to t None [] h = tt
chain_to t (Some l) [] h = tt
chain_to t None (x ∷ xs) h = (refl, chain_to t (Some x) xs h)
chain_to t (Some l) (x ∷ xs) h = (t.holds l x h.0, chain_to t (Some x) xs h.1)

int_lt_true : (a b : ℤ) → int_lt a b ≡ true → a <ℤ b
int_lt_true a b e = grind (arith, ints)

int_lt_from : (a b : ℤ) → a <ℤ b → int_lt a b ≡ true
int_lt_from a b h = grind (arith, ints)

pub points_order : Tests point_may_follow Precedes
points_order = record {
  tells = λ p q e. elim (or_cases _ _ e) [
    | inl h ↦ inl (int_lt_true p.x q.x h)
    | inr h ↦ let k = and_parts _ _ h in inr ((Decides-int_eq p.x q.x).0 k.0, int_lt_true p.y q.y k.1)
  ];
  holds = λ p q h. elim h [
    | inl l ↦ or_left _ _ (int_lt_from p.x q.x l)
    | inr e ↦ or_right _ _ (and_from _ _ ((Decides-int_eq p.x q.x).1 e.0) (int_lt_from p.y q.y e.1))
  ];
}

edge_tells : (e f : Edge) → edge_may_follow e f ≡ true → EdgePrecedes e f
edge_tells e f h = elim (or_cases _ _ h) [
  | inl l ↦ inl (ltb-true e.a f.a l)
  | inr r ↦ let k = and_parts _ _ r in inr (eqb-true e.a f.a k.0, ltb-true e.b f.b k.1)
]

edge_holds : (e f : Edge) → EdgePrecedes e f → edge_may_follow e f ≡ true
edge_holds e f h = elim h [
  | inl l ↦ or_left _ _ (lt-ltb e.a f.a l)
  | inr r ↦ or_right _ _ (and_from _ _ (eq-eqb e.a f.a r.0) (lt-ltb e.b f.b r.1))
]

pub edges_order : Tests edge_may_follow EdgePrecedes
edges_order = record { tells = edge_tells; holds = edge_holds }

pub live_order : Tests live_may_follow LivePrecedes
live_order = record { tells = λ l m h. edge_tells l.edge m.edge h; holds = λ l m h. edge_holds l.edge m.edge h }

-- the order of triangles
tri_less : (s t : Tri) → TriPrecedes s t → tri_precedes s t ≡ true
tri_less s t h = elim h [
  | inl a ↦ or_left _ _ (lt-ltb s.a t.a a)
  | inr r ↦ elim r [
    | inl b ↦ or_right _ _ (and_from _ _ (eq-eqb s.a t.a b.0) (or_left _ _ (lt-ltb s.b t.b b.1)))
    | inr c ↦ or_right _ _ (and_from _ _ (eq-eqb s.a t.a c.0) (or_right _ _ (and_from _ _ (eq-eqb s.b t.b c.1) (lt-ltb s.c t.c c.2))))
  ]
]

tri_tells : (s t : Tri) → tri_precedes s t ≡ true → TriPrecedes s t
tri_tells s t h = elim (or_cases _ _ h) [
  | inl a ↦ inl (ltb-true s.a t.a a)
  | inr r ↦
      let p = and_parts _ _ r in
      let same = eqb-true s.a t.a p.0 in
      elim (or_cases _ _ p.1) [
        | inl b ↦ inr (inl (same, ltb-true s.b t.b b))
        | inr c ↦ let q = and_parts _ _ c in inr (inr (same, eqb-true s.b t.b q.0, ltb-true s.c t.c q.1))
      ]
]

-- two triples of numbers are the same, or one is less
abbrev Less : ℕ → ℕ → ℕ → ℕ → ℕ → ℕ → Type 0
Less a b c d e f = (a < d) ⊎ (((a ≡ d) × (b < e)) ⊎ ((a ≡ d) × (b ≡ e) × (c < f)))

ways : (a b c d e f : ℕ) → (Less a b c d e f ⊎ ((a ≡ d) × (b ≡ e) × (c ≡ f))) ⊎ Less d e f a b c
ways a b c d e f = elim (cases_order a d) [
  | inl x ↦ elim (cases_order b e) [
    | inl y ↦ elim (cases_order c f) [
      | inl z ↦ inl (inr (x, y, z))
      | inr z ↦ elim z [ inl l ↦ inl (inl (inr (inr (x, y, l)))) | inr g ↦ inr (inr (inr (sym x, sym y, g))) ]
    ]
    | inr y ↦ elim y [ inl l ↦ inl (inl (inr (inl (x, l)))) | inr g ↦ inr (inr (inl (sym x, g))) ]
  ]
  | inr x ↦ elim x [ inl l ↦ inl (inl (inl l)) | inr g ↦ inr (inl g) ]
]

apart : (a b c d e f : ℕ) → Less a b c d e f → Less d e f a b c → ⊥
apart a b c d e f (inl x) (inl y) = omega arith
apart a b c d e f (inl x) (inr (inl y)) = let y0 = y.0 in omega arith
apart a b c d e f (inl x) (inr (inr y)) = let y0 = y.0 in omega arith
apart a b c d e f (inr (inl x)) (inl y) = let x0 = x.0 in omega arith
apart a b c d e f (inr (inl x)) (inr (inl y)) = let x1 = x.1 in let y1 = y.1 in omega arith
apart a b c d e f (inr (inl x)) (inr (inr y)) = let x1 = x.1 in let y1 = y.1 in omega arith
apart a b c d e f (inr (inr x)) (inl y) = let x0 = x.0 in omega arith
apart a b c d e f (inr (inr x)) (inr (inl y)) = let x1 = x.1 in let y1 = y.1 in omega arith
apart a b c d e f (inr (inr x)) (inr (inr y)) = let x2 = x.2 in let y2 = y.2 in omega arith

-- a triangle is not less than another where it follows it
not_less : (s t : Tri) → TriFollows s t → TriPrecedes t s → ⊥
not_less s t (inl l) g = apart s.a s.b s.c t.a t.b t.c l g
not_less s t (inr e) g = let P : Tri → Type 0 = λ u. TriPrecedes u s in let g' = subst P (sym e) g in apart s.a s.b s.c s.a s.b s.c g' g'

follows : (s t : Tri) → (TriPrecedes t s → ⊥) → TriFollows s t
follows s t h = elim (ways s.a s.b s.c t.a t.b t.c) [
  | inl w ↦ elim w [ inl l ↦ inl l | inr e ↦ inr (Tri-equal s t e.0 e.1 e.2) ]
  | inr g ↦ absurd (h g)
]

pub tris_order : Tests tri_may_follow TriFollows
tris_order = record {
  tells = λ s t h. follows s t (λ g. false≢true (sym (not-true _ h) ∙ tri_less t s g));
  holds = λ s t h. not_from_false _ (false_from_ne_true _ (λ e. not_less s t h (tri_tells t s e)));
}

-- the points of a hull come in any order
pub hull_order : (last : Option ℕ) (us : List ℕ) → IsFollowed hull_may_follow last us
hull_order last [] = tt
hull_order None (u ∷ us) = (refl, hull_order (Some u) us)
hull_order (Some v) (u ∷ us) = (refl, hull_order (Some u) us)

-- the orders of live lines and of triangles are transitive
pub LivePrecedes-trans : IsTransitive LivePrecedes
LivePrecedes-trans l m n h k = EdgePrecedes-trans l.edge m.edge n.edge h k

less_trans : (a b c d e f g h i : ℕ) → Less a b c d e f → Less d e f g h i → Less a b c g h i
less_trans a b c d e f g h i (inl x) (inl y) = inl (omega arith)
less_trans a b c d e f g h i (inl x) (inr (inl y)) = let y0 = y.0 in inl (omega arith)
less_trans a b c d e f g h i (inl x) (inr (inr y)) = let y0 = y.0 in inl (omega arith)
less_trans a b c d e f g h i (inr (inl x)) (inl y) = let x0 = x.0 in inl (omega arith)
less_trans a b c d e f g h i (inr (inr x)) (inl y) = let x0 = x.0 in inl (omega arith)
less_trans a b c d e f g h i (inr (inl x)) (inr (inl y)) = let x1 = x.1 in let y1 = y.1 in inr (inl (x.0 ∙ y.0, omega arith))
less_trans a b c d e f g h i (inr (inl x)) (inr (inr y)) = let x1 = x.1 in let y1 = y.1 in inr (inl (x.0 ∙ y.0, omega arith))
less_trans a b c d e f g h i (inr (inr x)) (inr (inl y)) = let x1 = x.1 in let y1 = y.1 in inr (inl (x.0 ∙ y.0, omega arith))
less_trans a b c d e f g h i (inr (inr x)) (inr (inr y)) = let x2 = x.2 in let y2 = y.2 in inr (inr (x.0 ∙ y.0, x.1 ∙ y.1, omega arith))

pub TriFollows-trans : IsTransitive TriFollows
TriFollows-trans s t u (inl h) (inl k) = inl (less_trans s.a s.b s.c t.a t.b t.c u.a u.b u.c h k)
TriFollows-trans s t u (inl h) (inr e) = inl (subst (λ (x : Tri). TriPrecedes s x) e h)
TriFollows-trans s t u (inr e) k = subst (λ (x : Tri). TriFollows x u) (sym e) k
