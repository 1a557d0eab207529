-- No triangle of a walk comes twice: its step is its only side from the left of the wedge to the right, and later steps lie above.
use Rattle.std.proofs.Common.{◌≡◌, ◌≢◌, ℕ, List, [], ◌∷◌, All, pos, ◌<ℤ◌, arith, subst}
use Rattle.std.proofs.lemmas.Int.{ints}
use Rattle.std.proofs.lemmas.List.Elements.{All-cons, All-nil}
use Rattle.std.proofs.lemmas.List.Kept.{AllPairs-cons}
use Rattle.exact_predicates.specs.declared.point.Point.{Point}
use Rattle.exact_predicates.specs.declared.tri.Tri.{Tri}
use Rattle.exact_predicates.specs.Plane.{orient}
use Rattle.exact_predicates.specs.PointSet.{point_at}
use Rattle.exact_predicates.specs.Triangulation.{IsTriangulation}
use Rattle.diamond_theorem.specs.Laws.{WalksCrossOnce}
use Rattle.diamond_theorem.specs.Steps.{IsStep}
use Rattle.diamond_theorem.specs.Walks.{AreCrossedOnce, Corner, on_left, on_right, HasSide, IsWalk, next_step, steps_after}
use Rattle.diamond_theorem.proofs.Ascents.{IsAbove, above_left, above_right, above_transitive, left_strict, right_strict}
use Rattle.diamond_theorem.proofs.SharedSides.{HasTriangle-bare}
use Rattle.diamond_theorem.proofs.Steps.{left_sides, right_sides}

-- what comes from the right end of a step is no step
not_from_right : (a b p l r k : Point) → pos 0 <ℤ orient a b p → IsStep a b p l r → ¬ IsStep a b p r k
not_from_right a b p l r k area s t =
    let strict = right_strict a b p l r area s in
    let (from_a, from_b) = left_sides a b p r area t.left in
    omega (arith, ints)

-- nor what goes to its left end
not_to_left : (a b p l r m : Point) → pos 0 <ℤ orient a b p → IsStep a b p l r → ¬ IsStep a b p m l
not_to_left a b p l r m area s t =
    let strict = left_strict a b p l r area s in
    let (from_a, from_b) = right_sides a b p l area t.right in
    omega (arith, ints)

module _ (ps : List Point) (hull : List ℕ) (tris : List Tri) (a b p : ℕ) (is : IsTriangulation ps hull tris)
    (area : pos 0 <ℤ orient (point_at ps a) (point_at ps b) (point_at ps p)) where
  abbrev Step : ℕ × ℕ → Type 0
  Step s = IsStep (point_at ps a) (point_at ps b) (point_at ps p) (point_at ps s.0) (point_at ps s.1)

  abbrev Above : ℕ × ℕ → ℕ × ℕ → Type 0
  Above s t = IsAbove (point_at ps a) (point_at ps b) (point_at ps p) (point_at ps s.0) (point_at ps s.1) (point_at ps t.0) (point_at ps t.1)

  -- a step that lies above another one
  record IsLater (s t : ℕ × ℕ) : Type 0 where
    step : Step t
    above : Above s t

  -- no triangle has both for sides
  other_triangle : (s t : ℕ × ℕ) → Step s → IsLater s t → (x : Tri) → HasSide x s → ¬ HasSide x t
  other_triangle s t first later x h k =
      let not_r : t.0 ≢ s.1 = λ e. not_from_right _ _ _ _ _ _ area first (subst (λ y. Step (y, t.1)) e later.step) in
      let not_l : t.1 ≢ s.0 = λ e. not_to_left _ _ _ _ _ _ area first (subst (λ y. Step (t.0, y)) e later.step) in
      let not_same : t.0 ≡ s.0 → t.1 ≢ s.1 = λ e f. same e f in
      omega (arith, h.1, k.1, not_r, not_l, not_same)
    where
      same : t.0 ≡ s.0 → t.1 ≡ s.1 → ⊥
      same e f =
          let moved = subst (λ y. Above s (s.0, y)) f (subst (λ y. Above s (y, t.1)) e later.above) in
          omega (arith, ints)

  step_of : (s : ℕ × ℕ) (cs : List Corner) (q : ℕ) → IsWalk ps tris a b p s cs q → Step s
  step_of s [] q w = let here = w.0 in here.step
  step_of s (c ∷ cs) q w = let here = w.0 in here.step

  rest_of : (s : ℕ × ℕ) (c : Corner) (cs : List Corner) (q : ℕ) → IsWalk ps tris a b p s (c ∷ cs) q → IsWalk ps tris a b p (next_step s c) cs q
  rest_of s c cs q w = w.2

  -- the next step lies above
  next_above : (s : ℕ × ℕ) (c : Corner) (cs : List Corner) (q : ℕ) → IsWalk ps tris a b p s (c ∷ cs) q → IsLater s (next_step s c)
  next_above s (on_left z) cs q w =
      let here = w.0 in
      let bare = HasTriangle-bare ps hull tris s.0 s.1 z is here.triangle in
      record { step = step_of (z, s.1) cs q w.2; above = above_left _ _ _ _ _ _ area here.step bare.turns_left }
  next_above s (on_right z) cs q w =
      let here = w.0 in
      let bare = HasTriangle-bare ps hull tris s.0 s.1 z is here.triangle in
      record { step = step_of (s.0, z) cs q w.2; above = above_right _ _ _ _ _ _ area here.step bare.turns_left }

  -- and so do all later ones
  all_above : (s : ℕ × ℕ) (cs : List Corner) (q : ℕ) → IsWalk ps tris a b p s cs q → All (IsLater s) (steps_after s cs)
  all_above s [] q w = All-nil (IsLater s)
  all_above s (c ∷ cs) q w =
      let next = next_above s c cs q w in
      let first = step_of s (c ∷ cs) q w in
      let rest = all_above (next_step s c) cs q (rest_of s c cs q w) in
      All-cons (IsLater s) (next_step s c) (steps_after (next_step s c) cs) next
      (λ k d k_in. let later = rest k d k_in in
      record { step = later.step; above = above_transitive _ _ _ _ _ _ _ _ _ first next.step later.step next.above later.above })

  one_more : (s : ℕ × ℕ) (cs : List Corner) (q : ℕ) → IsWalk ps tris a b p s cs q → AreCrossedOnce (steps_after s cs) → AreCrossedOnce (s ∷ steps_after s cs)
  one_more s cs q w later =
      AllPairs-cons (λ t u. (x : Tri) → HasSide x t → ¬ HasSide x u) s (steps_after s cs)
      (λ k d k_in. other_triangle s _ (step_of s cs q w) (all_above s cs q w k d k_in))
      later

  pub crossed_once : (s : ℕ × ℕ) (cs : List Corner) (q : ℕ) → IsWalk ps tris a b p s cs q → AreCrossedOnce (s ∷ steps_after s cs)
  crossed_once s [] q w = one_more s [] q w (λ i j d i_j j_in. absurd (omega arith))
  crossed_once s (c ∷ cs) q w = one_more s (c ∷ cs) q w (crossed_once (next_step s c) cs q (rest_of s c cs q w))

pub walks_cross_once : WalksCrossOnce
walks_cross_once ps hull tris a b is w =
    let goal = w.is_goal in
    let diamond = goal.in_diamond in
    crossed_once ps hull tris a b w.goal is diamond.left (a, b) w.corners w.last w.is_walk
