-- A walk ends: there are no more steps than sides.
use Rattle.std.proofs.Common.{◌≢◌, ◌⊎◌, ℕ, zero, suc, ◌+◌, ◌≤◌, ◌<◌, List, [], ◌∷◌, length, All, AllPairs, Contains, flat_map, pos, ◌≤ℤ◌, ◌<ℤ◌, arith, ap, sym, subst, ⊎_elim, inl, inr}
use Rattle.std.proofs.lemmas.Int.{ints, by_lt_z}
use Rattle.std.proofs.lemmas.List.Elements.{All-cons, All-nil}
use Rattle.std.proofs.lemmas.List.Kept.{AllPairs-cons}
use Rattle.exact_predicates.specs.declared.point.Point.{Point}
use Rattle.exact_predicates.specs.declared.tri.Tri.{Tri}
use Rattle.exact_predicates.specs.Hull.{IsHull}
use Rattle.exact_predicates.specs.Plane.{orient}
use Rattle.exact_predicates.specs.PointSet.{point_at}
use Rattle.exact_predicates.specs.Triangulation.{IsTriangulation, sides}
use Rattle.exact_predicates.proofs.Few.{length-le_from_distinct}
use Rattle.exact_predicates.proofs.Orientation.{orient_swapped, orient_return, orient_last_twice}
use Rattle.diamond_theorem.specs.Discs.{IsInDisc}
use Rattle.diamond_theorem.specs.Laws.{WalksExist}
use Rattle.diamond_theorem.specs.Steps.{IsStep}
use Rattle.diamond_theorem.specs.Walks.{Corner, on_left, on_right, HasTriangle, IsGoal, IsStepTo, IsWalk, Walk}
use Rattle.diamond_theorem.proofs.Ascents.{IsAbove, above_left, above_right, above_transitive}
use Rattle.diamond_theorem.proofs.Discs.{diamond_in_disc}
use Rattle.diamond_theorem.proofs.Goals.{some_goal}
use Rattle.diamond_theorem.proofs.SharedSides.{HasTriangle-bare, HasTriangle-turned, other_side, side_listed}
use Rattle.diamond_theorem.proofs.Steps.{first_step, goes_on}

module _ (ps : List Point) (hull : List ℕ) (tris : List Tri) (a b p : ℕ)
    (hull_is : IsHull ps hull) (is : IsTriangulation ps hull tris) (goal : IsGoal ps a b p) where
  abbrev Step : ℕ × ℕ → Type 0
  Step s = IsStep (point_at ps a) (point_at ps b) (point_at ps p) (point_at ps s.0) (point_at ps s.1)

  abbrev Above : ℕ × ℕ → ℕ × ℕ → Type 0
  Above s t = IsAbove (point_at ps a) (point_at ps b) (point_at ps p) (point_at ps s.0) (point_at ps s.1) (point_at ps t.0) (point_at ps t.1)

  -- the walk has come to the side s, whose triangle has the corner z, by the steps before
  record HasCome (before : List (ℕ × ℕ)) (s : ℕ × ℕ) (z : ℕ) : Type 0 where
    here : IsStepTo ps tris a b p s z
    steps : All Step before
    below : All (λ t. Above t s) before
    distinct : AllPairs (λ t u. t ≢ u) before
    listed : All (Contains (flat_map sides tris)) before

  -- a walk that goes on from s
  record Found (s : ℕ × ℕ) : Type 0 where
    corners : List Corner
    last : ℕ
    is_walk : IsWalk ps tris a b p s corners last

  in_disc_or_not : (z : ℕ) → IsInDisc (point_at ps a) (point_at ps b) (point_at ps z) ⊎ (¬ IsInDisc (point_at ps a) (point_at ps b) (point_at ps z))
  in_disc_or_not z = by_lt_z _ (pos 0) (λ h. inl h) (λ h. inr (λ k. omega (arith, ints)))

  -- no step lies above itself
  not_above : (s t : ℕ × ℕ) → Above s t → t ≢ s
  not_above s t h e = let k = subst (λ u. Above s u) e h in omega (arith, ints)

  distinct_so_far : (before : List (ℕ × ℕ)) (s : ℕ × ℕ) (z : ℕ) → HasCome before s z → AllPairs (λ t u. t ≢ u) (s ∷ before)
  distinct_so_far before s z h =
      AllPairs-cons (λ t u. t ≢ u) s before (λ k d k_in. not_above _ s (h.below k d k_in)) h.distinct

  listed_so_far : (before : List (ℕ × ℕ)) (s : ℕ × ℕ) (z : ℕ) → HasCome before s z → All (Contains (flat_map sides tris)) (s ∷ before)
  listed_so_far before s z h =
      let here = h.here in
      All-cons (Contains (flat_map sides tris)) s before (side_listed tris s.0 s.1 z here.triangle) h.listed

  -- the steps are sides, and no two of them are the same
  not_more : (before : List (ℕ × ℕ)) (s : ℕ × ℕ) (z : ℕ) → HasCome before s z → length before < length (flat_map sides tris)
  not_more before s z h =
      let few = length-le_from_distinct (flat_map sides tris) (s ∷ before) (distinct_so_far before s z h) (listed_so_far before s z h) in
      omega arith

  one_more : (before : List (ℕ × ℕ)) (s t : ℕ × ℕ) (z w : ℕ) → HasCome before s z → IsStepTo ps tris a b p t w → Above s t → HasCome (s ∷ before) t w
  one_more before s t z w h next above =
      let here = h.here in
      record {
        here = next;
        steps = All-cons Step s before here.step h.steps;
        below = All-cons (λ u. Above u t) s before above
            (λ k d k_in. above_transitive (point_at ps a) (point_at ps b) (point_at ps p) _ _ _ _ _ _ (h.steps k d k_in) here.step next.step (h.below k d k_in) above);
        distinct = distinct_so_far before s z h;
        listed = listed_so_far before s z h;
      }

  -- the side that is the next step has a triangle on its other side, where the goal is
  next_triangle : (u v w : ℕ) → IsStep (point_at ps a) (point_at ps b) (point_at ps p) (point_at ps v) (point_at ps u) → HasTriangle tris (u, v) w
      → (x : ℕ) × IsStepTo ps tris a b p (v, u) x
  next_triangle u v w step tri =
      let ahead = step.ahead in
      let (x, other) = other_side ps hull tris u v w p hull_is is tri goal.within (omega (arith, ints, orient_swapped (point_at ps v) (point_at ps u) (point_at ps p))) in
      (x, record { step = step; triangle = other })

  -- a point that is not where another is said to be from a line
  apart : (l r x y : ℕ) → orient (point_at ps l) (point_at ps r) (point_at ps x) ≤ℤ pos 0 → pos 0 <ℤ orient (point_at ps l) (point_at ps r) (point_at ps y) → y ≢ x
  apart l r x y h k e = let same = ap (λ z. orient (point_at ps l) (point_at ps r) (point_at ps z)) e in omega (arith, ints)

  -- what goes on from the next step goes on from this one
  onward : (before : List (ℕ × ℕ)) (s : ℕ × ℕ) (z : ℕ) → HasCome before s z → ¬ IsInDisc (point_at ps a) (point_at ps b) (point_at ps z)
      → ((t : ℕ × ℕ) (w : ℕ) → HasCome (s ∷ before) t w → Found t) → Found s
  onward before s z h not_in rest =
      let here = h.here in
      let step = here.step in
      let tri = here.triangle in
      let bare = HasTriangle-bare ps hull tris s.0 s.1 z is tri in
      let diamond = goal.in_diamond in
      let area = diamond.left in
      let turn = bare.turns_left in
      ⊎_elim
      (λ (to_left : IsStep (point_at ps a) (point_at ps b) (point_at ps p) (point_at ps z) (point_at ps s.1) × (¬ IsStep (point_at ps a) (point_at ps b) (point_at ps p) (point_at ps s.0) (point_at ps z))).
      let (x, next) = next_triangle s.1 z s.0 to_left.0 (HasTriangle-turned tris s.0 s.1 z tri) in
      let f = rest (z, s.1) x (one_more before s (z, s.1) z x h next (above_left _ _ _ _ _ _ area step turn)) in
      record { corners = on_left z ∷ f.corners; last = f.last; is_walk = (here, not_in, f.is_walk) })
      (λ (to_right : IsStep (point_at ps a) (point_at ps b) (point_at ps p) (point_at ps s.0) (point_at ps z) × (¬ IsStep (point_at ps a) (point_at ps b) (point_at ps p) (point_at ps z) (point_at ps s.1))).
      let (x, next) = next_triangle z s.0 s.1 to_right.0 (HasTriangle-turned tris s.1 z s.0 (HasTriangle-turned tris s.0 s.1 z tri)) in
      let f = rest (s.0, z) x (one_more before s (s.0, z) z x h next (above_right _ _ _ _ _ _ area step turn)) in
      record { corners = on_right z ∷ f.corners; last = f.last; is_walk = (here, not_in, f.is_walk) })
      (goes_on (point_at ps a) (point_at ps b) (point_at ps p) (point_at ps s.0) (point_at ps s.1) (point_at ps z) area step turn
      (λ i. ⊎_elim
      (apart s.0 s.1 a z step.a_behind turn)
      (λ o. ⊎_elim
      (apart s.0 s.1 b z step.b_behind turn)
      (λ e. not_in (subst (λ x. IsInDisc (point_at ps a) (point_at ps b) (point_at ps x)) (sym e) (diamond_in_disc _ _ _ diamond)))
      o)
      (goal.alone z bare.w_in i))
      (λ i. ⊎_elim
      (apart s.0 s.1 s.0 p (omega (arith, ints, orient_return (point_at ps s.0) (point_at ps s.1))) step.ahead)
      (λ o. ⊎_elim
      (apart s.0 s.1 s.1 p (omega (arith, ints, orient_last_twice (point_at ps s.0) (point_at ps s.1))) step.ahead)
      (λ e. not_in (subst (λ x. IsInDisc (point_at ps a) (point_at ps b) (point_at ps x)) e (diamond_in_disc _ _ _ diamond)))
      o)
      (bare.bare p goal.within i)))

  -- by induction on how many sides are left
  walk_on : (n : ℕ) (before : List (ℕ × ℕ)) (s : ℕ × ℕ) (z : ℕ) → length (flat_map sides tris) ≤ length before + n → HasCome before s z → Found s
  walk_on zero before s z left h = absurd (omega (arith, left, not_more before s z h))
  walk_on (suc n) before s z left h =
      ⊎_elim
      (λ stop. record { corners = []; last = z; is_walk = (h.here, stop) })
      (λ not_in. onward before s z h not_in (λ t w k. walk_on n (s ∷ before) t w (omega (arith, left)) k))
      (in_disc_or_not z)

  pub walk_from : (z : ℕ) → HasTriangle tris (a, b) z → Walk ps tris a b
  walk_from z tri =
      let diamond = goal.in_diamond in
      let f = walk_on (length (flat_map sides tris)) [] (a, b) z (omega arith)
      (record {
        here = record { step = first_step _ _ _ diamond.left; triangle = tri };
        steps = All-nil Step;
        below = All-nil (λ t. Above t (a, b));
        distinct = λ i j d i_j j_in. absurd (omega arith);
        listed = All-nil (Contains (flat_map sides tris));
      }) in
      record { goal = p; is_goal = goal; corners = f.corners; last = f.last; is_walk = f.is_walk }

pub walks_exist : WalksExist
walks_exist ps hull tris a b z r set hull_is is tri r_in h =
    let (p, goal) = some_goal ps a b z r set (HasTriangle-bare ps hull tris a b z is tri) r_in h in
    walk_from ps hull tris a b p hull_is is goal z tri
