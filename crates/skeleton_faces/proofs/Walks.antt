-- Walks in turn and backwards.
use Rattle.std.proofs.Common.{◌≡◌, ℕ, List, [], ◌∷◌, refl, sym, ◌∙◌, subst}
use Rattle.exact_predicates.specs.declared.edge.Edge.{Edge}
use Rattle.exact_predicates.specs.Candidates.{HasEdge}
use Rattle.exact_predicates.proofs.Equalities.{HasEdge-comm}
use Rattle.skeleton_faces.specs.Walks.{LeadsTo, AreJoined}

pub joined_itself : (es : List Edge) (u v : ℕ) → u ≡ v → AreJoined es u v
joined_itself es u v e = ([], e)

pub joined_edge : (es : List Edge) (u v : ℕ) → HasEdge es u v → AreJoined es u v
joined_edge es u v h = (v ∷ [], (h, refl))

-- one walk after the other
pub joined_on : (es : List Edge) (u v w : ℕ) → AreJoined es u v → AreJoined es v w → AreJoined es u w
joined_on es u v w (walk, h) k = at walk u h
  where
    at : (walk : List ℕ) (u : ℕ) → LeadsTo es u walk v → AreJoined es u w
    at [] u e = subst (λ (x : ℕ). AreJoined es x w) (sym e) k
    at (x ∷ xs) u (edge, rest) = let (walk, on) = at xs x rest in (x ∷ walk, (edge, on))

-- and backwards
pub joined_back : (es : List Edge) (u v : ℕ) → AreJoined es u v → AreJoined es v u
joined_back es u v (walk, h) = at walk u h
  where
    at : (walk : List ℕ) (u : ℕ) → LeadsTo es u walk v → AreJoined es v u
    at [] u e = joined_itself es v u (sym e)
    at (x ∷ xs) u (edge, rest) = joined_on es v x u (at xs x rest) (joined_edge es x u (HasEdge-comm es u x edge))

-- a name that both ends of each edge have is kept along walks
pub joined_name : (es : List Edge) (name : ℕ → ℕ) (u v : ℕ) → ((x y : ℕ) → HasEdge es x y → name x ≡ name y) → AreJoined es u v → name u ≡ name v
joined_name es name u v same (walk, h) = at walk u h
  where
    at : (walk : List ℕ) (u : ℕ) → LeadsTo es u walk v → name u ≡ name v
    at [] u e = subst (λ (x : ℕ). name u ≡ name x) e refl
    at (x ∷ xs) u (edge, rest) = same u x edge ∙ at xs x rest
