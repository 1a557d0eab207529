-- Two sorted lists of halves with the same edges, each as often in both, have the same edges place by place.
use Rattle.std.proofs.Common.{◌≡◌, ℕ, ◌≤◌, List, [], ◌∷◌, get_or, sum_by, map, AllPairs, arith, ap, sym, ◌∙◌, refl, subst, ⊎_elim}
use Rattle.std.proofs.lemmas.List.Sums.{sum_by-cons}
use Rattle.std.proofs.lemmas.List.Elements.{All-cons}
use Rattle.exact_predicates.specs.declared.edge.Edge.{Edge}
use Rattle.exact_predicates.specs.Candidates.{EdgePrecedes}
use Rattle.exact_predicates.specs.Triangulation.{hit}
use Rattle.exact_predicates.proofs.Elements.{sum_by-none}
use Rattle.exact_predicates.proofs.Equalities.{Edge-equal}
use Rattle.exact_predicates.proofs.ListOrder.{EdgePrecedes-irreflexive, edge_cases}
use Rattle.exact_predicates.proofs.ListFacts.{AllPairs-head, AllPairs-tail}
use Rattle.exact_predicates.proofs.Pairs.{hit_none, hit_same}
use Rattle.flip_finish.specs.declared.halves.Half.{Half}
use Rattle.flip_finish.specs.Mesh.{IsUpTo}

-- the edge of a half counts for x and y
abbrev pub edge_hit : ℕ → ℕ → Half → ℕ
edge_hit x y h = hit x y (h.edge.a, h.edge.b)

-- halves in the order of their edges
abbrev pub AreAscending : List Half → Type 0
AreAscending hs = AllPairs (λ h k. IsUpTo h.edge k.edge) hs

-- an edge before the first of a sorted list is not in it
not_there : (e : Edge) (d : Half) (ds : List Half) → EdgePrecedes e d.edge → AreAscending (d ∷ ds) → sum_by (edge_hit e.a e.b) (d ∷ ds) ≡ 0
not_there e d ds before up =
    sum_by-none (edge_hit e.a e.b) (d ∷ ds)
    (All-cons (λ h. edge_hit e.a e.b h ≡ 0) d ds (absent d (EdgePrecedes-irreflexive d.edge))
    (λ k h l. absent (get_or ds k h) (AllPairs-head (λ h k. IsUpTo h.edge k.edge) d ds up k h l)))
  where
    absent : (h : Half) → IsUpTo d.edge h.edge → edge_hit e.a e.b h ≡ 0
    absent h l =
        hit_none e.a e.b h.edge.a h.edge.b
        (λ k. l (subst (λ (f : Edge). EdgePrecedes f d.edge) (sym (Edge-equal h.edge e k.0 k.1)) before))

-- there are as many of each edge
abbrev pub HaveSame : List Half → List Half → Type 0
HaveSame us ds = (x y : ℕ) → sum_by (edge_hit x y) us ≡ sum_by (edge_hit x y) ds

own_hit : (h : Half) (hs : List Half) → 1 ≤ sum_by (edge_hit h.edge.a h.edge.b) (h ∷ hs)
own_hit h hs = omega (arith, sum_by-cons (edge_hit h.edge.a h.edge.b) h hs, hit_same h.edge.a h.edge.b)

pub same_edges : (us ds : List Half) → AreAscending us → AreAscending ds → HaveSame us ds → map (λ h. h.edge) us ≡ map (λ h. h.edge) ds
same_edges [] [] u d same = refl
same_edges [] (h ∷ ds) u d same = absurd (omega (arith, own_hit h ds, same h.edge.a h.edge.b))
same_edges (h ∷ us) [] u d same = absurd (omega (arith, own_hit h us, same h.edge.a h.edge.b))
same_edges (g ∷ us) (h ∷ ds) u d same =
    let R : Half → Half → Type 0 = λ h k. IsUpTo h.edge k.edge in
    ⊎_elim
    (λ l. absurd (omega (arith, own_hit g us, same g.edge.a g.edge.b, not_there g.edge h ds l d)))
    (λ rest. ⊎_elim
    (λ ends.
    let e = Edge-equal g.edge h.edge ends.0 ends.1 in
    let tails = same_edges us ds (AllPairs-tail R g us u) (AllPairs-tail R h ds d)
    (λ x y. omega (arith, same x y, sum_by-cons (edge_hit x y) g us, sum_by-cons (edge_hit x y) h ds, ap (λ (f : Edge). hit x y (f.a, f.b)) e)) in
    ap (λ f. f ∷ map (λ k. k.edge) us) e ∙ ap (λ es. h.edge ∷ es) tails)
    (λ l. absurd (omega (arith, own_hit h ds, same h.edge.a h.edge.b, not_there h.edge g us l u)))
    rest)
    (edge_cases g.edge h.edge)
