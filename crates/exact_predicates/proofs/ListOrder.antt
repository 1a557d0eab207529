-- The orders of edges and of triangles in lists.
use Rattle.std.proofs.Common.{◌≡◌, ◌↔◌, ◌⊎◌, ℕ, ◌<◌, ◌≤◌, arith, AllPairs, List, get_or, ap, subst, sym, ◌∙◌, ⊎_elim, inl, inr}
use Rattle.std.specs.declared.cmp.Ordering.{Ordering}
use Rattle.std.specs.declared.cmp.Ordering.TheVariants.{Less, Equal, Greater}
use Rattle.std.specs.Ordering.{nat_cmp, ordering_index, ordering_then}
use Rattle.std.specs.List.Sorted.{IsNonDecreasingBy, IsPartitionPoint}
use Rattle.std.proofs.lemmas.Bool.{cases_lt, cases_order}
use Rattle.std.proofs.lemmas.Bool.Decides.{nat_tests}
use Rattle.exact_predicates.specs.declared.edge.Edge.{Edge}
use Rattle.exact_predicates.specs.declared.tri.Tri.{Tri}
use Rattle.exact_predicates.specs.Candidates.{EdgePrecedes, HasEdge, Joins, TriPrecedes, edge_cmp}
use Rattle.exact_predicates.specs.Triangulation.{tri_cmp}

nat_cmp-less : (a b : ℕ) → a < b → nat_cmp a b ≡ Less
nat_cmp-less a b l = grind (arith, nat_tests)

nat_cmp-greater : (a b : ℕ) → b < a → nat_cmp a b ≡ Greater
nat_cmp-greater a b l = grind (arith, nat_tests)

nat_cmp-same : (a b : ℕ) → a ≡ b → nat_cmp a b ≡ Equal
nat_cmp-same a b e = grind (arith, nat_tests)

-- by the first part, and where it is the same by the rest
module _ (a b : ℕ) (rest : Ordering) where
  then_less : a < b → ordering_then (nat_cmp a b) rest ≡ Less
  then_less l = ap (λ o. ordering_then o rest) (nat_cmp-less a b l)

  then_greater : b < a → ordering_then (nat_cmp a b) rest ≡ Greater
  then_greater l = ap (λ o. ordering_then o rest) (nat_cmp-greater a b l)

  then_rest : a ≡ b → ordering_then (nat_cmp a b) rest ≡ rest
  then_rest e = ap (λ o. ordering_then o rest) (nat_cmp-same a b e)

  -- what comes first is told by it
  then_cases : ordering_then (nat_cmp a b) rest ≡ Less → (a < b) ⊎ ((a ≡ b) × (rest ≡ Less))
  then_cases h =
      ⊎_elim
      (λ e. inr (e, sym (then_rest e) ∙ h))
      (λ c. ⊎_elim (λ l. inl l) (λ l. let g = then_greater l in absurd (cc)) c)
      (cases_order a b)

nat_less : (a b : ℕ) → nat_cmp a b ≡ Less → a < b
nat_less a b h =
    ⊎_elim
    (λ e. let g = nat_cmp-same a b e in absurd (cc))
    (λ c. ⊎_elim (λ l. l) (λ l. let g = nat_cmp-greater a b l in absurd (cc)) c)
    (cases_order a b)

pub edge_cmp-precedes : (e f : Edge) → EdgePrecedes e f → edge_cmp e f ≡ Less
edge_cmp-precedes e f h =
    ⊎_elim
    (λ l. then_less e.a f.a (nat_cmp e.b f.b) l)
    (λ k. then_rest e.a f.a (nat_cmp e.b f.b) k.0 ∙ nat_cmp-less e.b f.b k.1)
    h

pub edge_cmp-follows : (e f : Edge) → EdgePrecedes f e → edge_cmp e f ≡ Greater
edge_cmp-follows e f h =
    ⊎_elim
    (λ l. then_greater e.a f.a (nat_cmp e.b f.b) l)
    (λ k. then_rest e.a f.a (nat_cmp e.b f.b) (sym k.0) ∙ nat_cmp-greater e.b f.b k.1)
    h

pub edge_cmp-same : (e f : Edge) → e.a ≡ f.a → e.b ≡ f.b → edge_cmp e f ≡ Equal
edge_cmp-same e f p q = then_rest e.a f.a (nat_cmp e.b f.b) p ∙ nat_cmp-same e.b f.b q

-- the order of edges is that of their type
pub edge_cmp-less : (e f : Edge) → (edge_cmp e f ≡ Less) ↔ EdgePrecedes e f
edge_cmp-less e f = (
  λ h. ⊎_elim (λ l. inl l) (λ k. inr (k.0, nat_less e.b f.b k.1)) (then_cases e.a f.a (nat_cmp e.b f.b) h),
  edge_cmp-precedes e f,
)

-- and so that of triangles
pub tri_cmp-less : (s t : Tri) → (tri_cmp s t ≡ Less) ↔ TriPrecedes s t
tri_cmp-less s t =
    let last : Ordering = nat_cmp s.c t.c in
    let rest : Ordering = ordering_then (nat_cmp s.b t.b) last in (
      λ h. ⊎_elim
          (λ l. inl l)
          (λ k. ⊎_elim
          (λ l. inr (inl (k.0, l)))
          (λ j. inr (inr (k.0, j.0, nat_less s.c t.c j.1)))
          (then_cases s.b t.b last k.1))
          (then_cases s.a t.a rest h),
      λ h. ⊎_elim
          (λ l. then_less s.a t.a rest l)
          (λ k. ⊎_elim
          (λ l. then_rest s.a t.a rest l.0 ∙ then_less s.b t.b last l.1)
          (λ l. then_rest s.a t.a rest l.0 ∙ (then_rest s.b t.b last l.1 ∙ nat_cmp-less s.c t.c l.2))
          k)
          h,
    )

-- of two edges one precedes the other, or they have the same ends
pub edge_cases : (e f : Edge) → EdgePrecedes e f ⊎ (((e.a ≡ f.a) × (e.b ≡ f.b)) ⊎ EdgePrecedes f e)
edge_cases e f =
    ⊎_elim
    (λ same. ⊎_elim
    (λ last. inr (inl (same, last)))
    (λ c. ⊎_elim (λ l. inl (inr (same, l))) (λ l. inr (inr (inr (sym same, l)))) c)
    (cases_order e.b f.b))
    (λ c. ⊎_elim (λ l. inl (inl l)) (λ l. inr (inr (inl l))) c)
    (cases_order e.a f.a)

pub EdgePrecedes-trans : (e f g : Edge) → EdgePrecedes e f → EdgePrecedes f g → EdgePrecedes e g
EdgePrecedes-trans e f g h k =
    ⊎_elim
    (λ l. ⊎_elim (λ m. let s : e.a < g.a = omega (arith, l, m) in inl s) (λ m. let s : e.a < g.a = omega (arith, l, m.0) in inl s) k)
    (λ l. ⊎_elim (λ m. let s : e.a < g.a = omega (arith, l.0, m) in inl s) (λ m. let s : e.b < g.b = omega (arith, l.1, m.1) in inr (l.0 ∙ m.0, s)) k)
    h

pub EdgePrecedes-irreflexive : (e : Edge) → ¬ EdgePrecedes e e
EdgePrecedes-irreflexive e h = ⊎_elim (λ l. absurd (omega (arith, l))) (λ p. absurd (omega (arith, p.1))) h

index_at_most : (o : Ordering) → ordering_index o ≤ 2
index_at_most Less = omega arith
index_at_most Equal = omega arith
index_at_most Greater = omega arith

-- the later edge is not the lesser
index-rises : (e f x : Edge) → EdgePrecedes e f → ordering_index (edge_cmp e x) ≤ ordering_index (edge_cmp f x)
index-rises e f x h =
    ⊎_elim
    (λ before. let none = ap ordering_index (edge_cmp-precedes e x (EdgePrecedes-trans e f x h before)) in omega (arith, none))
    (λ m. ⊎_elim
    (λ (same : (f.a ≡ x.a) × (f.b ≡ x.b)).
    let first : EdgePrecedes e x = ⊎_elim (λ l. let s : e.a < x.a = omega (arith, l, same.0) in inl s) (λ l. let s : e.b < x.b = omega (arith, l.1, same.1) in inr (l.0 ∙ same.0, s)) h in
    let none = ap ordering_index (edge_cmp-precedes e x first) in omega (arith, none))
    (λ after. let two = ap ordering_index (edge_cmp-follows f x after) in let most = index_at_most (edge_cmp e x) in omega (arith, two, most))
    m)
    (edge_cases f x)

-- a search that finds no place for a listed edge is impossible
pub search_finds : (es : List Edge) (x : Edge) (u v i : ℕ) → AllPairs EdgePrecedes es → HasEdge es u v → Joins x u v
    → (IsNonDecreasingBy (λ y. ordering_index (edge_cmp y x)) es → IsPartitionPoint (λ y. edge_cmp y x ≡ Less) (λ y. edge_cmp y x ≡ Greater) es i) → ⊥
search_finds es x u v i up (k, e, k_in, at_k, joins) x_is answer =
    let point = answer (λ a b d l b_in. ⊎_elim (λ (less : a < b). index-rises (get_or es a d) (get_or es b d) x (up a b d less b_in)) (λ (not_less : b ≤ a). let same : a ≡ b = omega arith in rw same (omega arith)) (cases_lt a b)) in
    let equal : edge_cmp e x ≡ Equal = edge_cmp-same e x (joins.0 ∙ sym x_is.0) (joins.1 ∙ sym x_is.1) in
    ⊎_elim
    (λ (low : k < i). let less : edge_cmp e x ≡ Less = subst (λ (y : Edge). edge_cmp y x ≡ Less) at_k (point.0 k e (omega arith) low) in absurd (apart1 (sym equal ∙ less)))
    (λ (high : i ≤ k). let greater : edge_cmp e x ≡ Greater = subst (λ (y : Edge). edge_cmp y x ≡ Greater) at_k (point.1 k e high k_in) in absurd (apart2 (sym equal ∙ greater)))
    (cases_lt k i)
  where
    apart1 : Equal ≡ Less → ⊥
    apart1 h = cc

    apart2 : Equal ≡ Greater → ⊥
    apart2 h = cc
