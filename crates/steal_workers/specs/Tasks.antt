-- The rule of a deque of tasks.
use Rattle.std.specs.Prelude.{◌≡◌, ◌⊎◌, ℕ, ◌+◌, ◌<◌, List, [], ◌∷◌, All}

-- The deque is new: it holds nothing, and its worker alone knows it, and no bound of the tasks.
abbrev pub IsNew : List ℕ → List ℕ → Type 0
IsNew items views = (items ≡ []) × (views ≡ 0 ∷ [])

-- All that know the deque know the number of edges, and each task is the number of one.
pub record AreEdges (items views : List ℕ) : Type 0 where
  pub edges : ℕ
  pub some : 0 < edges
  pub known : All (λ v. v ≡ edges) views
  pub below : All (λ e. e < edges) items

-- The rule, between any two steps of the deque: each task is the number of an edge.
abbrev pub HoldsEdges : List ℕ → List ℕ → Type 0
HoldsEdges items views = IsNew items views ⊎ AreEdges items views

-- one more than the task that was pushed
abbrev pub above_first : List ℕ → ℕ
above_first [] = 0
above_first (x ∷ xs) = x + 1
