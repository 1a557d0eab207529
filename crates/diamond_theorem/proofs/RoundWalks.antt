-- The last corner of a walk lies to the left of each of its steps, so each is low and goes round it.
use Rattle.std.proofs.Common.{ℕ, List, [], ◌∷◌, All, pos, ◌<ℤ◌, arith}
use Rattle.std.proofs.lemmas.Int.{ints}
use Rattle.std.proofs.lemmas.List.Elements.{All-cons, All-nil}
use Rattle.exact_predicates.specs.declared.point.Point.{Point}
use Rattle.exact_predicates.specs.declared.tri.Tri.{Tri}
use Rattle.exact_predicates.specs.Plane.{orient, IsInLeftDiamond}
use Rattle.exact_predicates.specs.PointSet.{point_at}
use Rattle.exact_predicates.specs.Triangulation.{IsTriangulation}
use Rattle.exact_predicates.proofs.Orientation.{orient_turned, orient_swapped}
use Rattle.diamond_theorem.specs.Discs.{IsInDisc}
use Rattle.diamond_theorem.specs.Laws.{WalksGoRound}
use Rattle.diamond_theorem.specs.Steps.{IsLowStep, IsRound, IsStep}
use Rattle.diamond_theorem.specs.Walks.{Corner, on_left, on_right, IsWalk, steps_after}
use Rattle.diamond_theorem.proofs.Along.{left_before, right_after}
use Rattle.diamond_theorem.proofs.Axis.{along, orient_along}
use Rattle.diamond_theorem.proofs.Discs.{power_end, power_start}
use Rattle.diamond_theorem.proofs.Low.{low_step}
use Rattle.diamond_theorem.proofs.Mirror.{mirror, orient_mirror, IsStep-mirror}
use Rattle.diamond_theorem.proofs.SharedSides.{HasTriangle-bare}
use Rattle.diamond_theorem.proofs.Sights.{IsUnder, IsUnder-mirror, goes_round, under_before}
use Rattle.diamond_theorem.proofs.Signs.{mul-both_neg, mul-neg, pos-from-neg}

-- what lies to the left of the next step lies to the left of this one
ahead_before_left : (a b p q l r z : Point) → IsStep a b p l r → pos 0 <ℤ orient l r z → IsUnder a b p q z r → pos 0 <ℤ orient l r q
ahead_before_left a b p q l r z s turn u =
    let next = u.step in
    let ahead = u.ahead in
    let lp = left_before a b p l u.diamond s.left in
    let pr = right_after a b p r u.diamond s.right in
    let zp = left_before a b p z u.diamond next.left in
    let before = under_before a b p q z r u in
    let n1 = mul-neg (orient r q z) (along a b r l) (omega (arith, ints, orient_turned z r q)) (omega (arith, ints)) in
    let n2 = mul-both_neg (along a b r q) (orient r l z) (omega (arith, ints)) (omega (arith, ints, orient_swapped l r z)) in
    let h = pos-from-neg (along a b r z) (orient r q l) (omega (arith, ints)) (omega (arith, ints, orient_along a b r q l z)) in
    omega (arith, ints, orient_turned l r q)

ahead_before_right : (a b p q l r z : Point) → IsStep a b p l r → pos 0 <ℤ orient l r z → IsUnder a b p q l z → pos 0 <ℤ orient l r q
ahead_before_right a b p q l r z s turn u =
    rw (orient_mirror l r q) at (ahead_before_left (mirror b) (mirror a) (mirror p) (mirror q) (mirror r) (mirror l) (mirror z) (IsStep-mirror a b p l r s) (rw (orient_mirror l r z) turn) (IsUnder-mirror a b p q l z u))

module _ (ps : List Point) (hull : List ℕ) (tris : List Tri) (a b p q : ℕ) (is : IsTriangulation ps hull tris)
    (diamond : IsInLeftDiamond (point_at ps a) (point_at ps b) (point_at ps p)) where
  -- neither end lies in the disc
  abbrev IsOut : ℕ → Type 0
  IsOut z = ¬ IsInDisc (point_at ps a) (point_at ps b) (point_at ps z)

  abbrev Under : ℕ × ℕ → Type 0
  Under s = IsUnder (point_at ps a) (point_at ps b) (point_at ps p) (point_at ps q) (point_at ps s.0) (point_at ps s.1)

  -- each step of a walk, from the last one back
  all_under : (s : ℕ × ℕ) (cs : List Corner) → IsOut s.0 → IsOut s.1 → IsWalk ps tris a b p s cs q → Under s × All Under (s ∷ steps_after s cs)
  all_under s [] l_out r_out w =
      let here = w.0 in
      let bare = HasTriangle-bare ps hull tris s.0 s.1 q is here.triangle in
      let u : Under s = record { diamond = diamond; step = here.step; l_out = l_out; r_out = r_out; q_in = w.1; ahead = bare.turns_left } in
      (u, All-cons Under s [] u (All-nil Under))
  all_under s (on_left z ∷ cs) l_out r_out w =
      let here = w.0 in
      let bare = HasTriangle-bare ps hull tris s.0 s.1 z is here.triangle in
      let (next, rest) = all_under (z, s.1) cs w.1 r_out w.2 in
      let u : Under s = record { diamond = diamond; step = here.step; l_out = l_out; r_out = r_out; q_in = next.q_in; ahead = ahead_before_left _ _ _ _ _ _ _ here.step bare.turns_left next } in
      (u, All-cons Under s ((z, s.1) ∷ steps_after (z, s.1) cs) u rest)
  all_under s (on_right z ∷ cs) l_out r_out w =
      let here = w.0 in
      let bare = HasTriangle-bare ps hull tris s.0 s.1 z is here.triangle in
      let (next, rest) = all_under (s.0, z) cs l_out w.1 w.2 in
      let u : Under s = record { diamond = diamond; step = here.step; l_out = l_out; r_out = r_out; q_in = next.q_in; ahead = ahead_before_right _ _ _ _ _ _ _ here.step bare.turns_left next } in
      (u, All-cons Under s ((s.0, z) ∷ steps_after (s.0, z) cs) u rest)

  pub all_round : (cs : List Corner) → IsWalk ps tris a b p (a, b) cs q
      → All (λ s. IsLowStep (point_at ps a) (point_at ps b) (point_at ps s.0) (point_at ps s.1) × IsRound (point_at ps a) (point_at ps b) (point_at ps q) (point_at ps s.0) (point_at ps s.1)) ((a, b) ∷ steps_after (a, b) cs)
  all_round cs w =
      let (first, all) = all_under (a, b) cs
      (λ h. omega (arith, ints, power_start (point_at ps a) (point_at ps b)))
      (λ h. omega (arith, ints, power_end (point_at ps a) (point_at ps b)))
      w in
      λ k d k_in. let u = all k d k_in in
      (low_step _ _ _ _ _ u.diamond u.step u.l_out u.r_out, goes_round _ _ _ _ _ _ u)

pub walks_go_round : WalksGoRound
walks_go_round ps hull tris a b is w =
    let goal = w.is_goal in
    all_round ps hull tris a b w.goal w.last is goal.in_diamond w.corners w.is_walk
