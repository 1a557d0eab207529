-- Whether an edge is in a list.
use Rattle.std.proofs.Common.{◌⊎◌, List, [], ◌∷◌, Contains, ap, subst, ⊎_elim, inl, inr}
use Rattle.std.proofs.lemmas.Bool.{cases_eq}
use Rattle.exact_predicates.specs.declared.edge.Edge.{Edge}
use Rattle.exact_predicates.proofs.Equalities.{Edge-equal}
use Rattle.lmt_network.proofs.Picked.{Contains-cases, Contains-here, Contains-later, Contains-nil}

pub edge_or_not : (es : List Edge) (e : Edge) → Contains es e ⊎ (¬ Contains es e)
edge_or_not [] e = inr (Contains-nil e)
edge_or_not (x ∷ xs) e =
    ⊎_elim
    (λ later. inl (Contains-later x e xs later))
    (λ none. ⊎_elim
    (λ a. ⊎_elim
    (λ b. inl (subst (Contains (x ∷ xs)) (Edge-equal x e a b) (Contains-here x xs)))
    (λ b. inr (λ has. ⊎_elim (λ is. b (ap (λ (y : Edge). y.b) is)) none (Contains-cases x e xs has)))
    (cases_eq x.b e.b))
    (λ a. inr (λ has. ⊎_elim (λ is. a (ap (λ (y : Edge). y.a) is)) none (Contains-cases x e xs has)))
    (cases_eq x.a e.a))
    (edge_or_not xs e)
