-- A walk is a sleeve to its last corner.
use Rattle.std.proofs.Common.{◌≡◌, ℕ, List, [], ◌∷◌, All, pos, ◌≤ℤ◌, ◌<ℤ◌, arith, ap, ⊎_elim}
use Rattle.std.proofs.lemmas.Int.{ints}
use Rattle.std.proofs.lemmas.List.Elements.{All-cons, All-head, All-nil, All-tail}
use Rattle.exact_predicates.specs.declared.point.Point.{Point}
use Rattle.exact_predicates.specs.declared.tri.Tri.{Tri}
use Rattle.exact_predicates.specs.Plane.{orient}
use Rattle.exact_predicates.specs.PointSet.{point_at}
use Rattle.exact_predicates.specs.Triangulation.{IsTriangulation}
use Rattle.diamond_theorem.specs.Discs.{IsInDisc}
use Rattle.diamond_theorem.specs.Laws.{WalksAreSleeves}
use Rattle.diamond_theorem.specs.Sleeves.{AreTriangles, IsOnItsSide}
use Rattle.diamond_theorem.specs.Steps.{IsRound}
use Rattle.diamond_theorem.specs.Walks.{Corner, on_left, on_right, IsWalk, next_step, number_of, steps_after}
use Rattle.diamond_theorem.proofs.Ascents.{left_strict, right_strict}
use Rattle.diamond_theorem.proofs.RoundWalks.{walks_go_round}
use Rattle.diamond_theorem.proofs.SharedSides.{HasTriangle-bare}

module _ (ps : List Point) (hull : List ℕ) (tris : List Tri) (a b p q : ℕ) (is : IsTriangulation ps hull tris) where
  triangles : (s : ℕ × ℕ) (cs : List Corner) → IsWalk ps tris a b p s cs q → AreTriangles (point_at ps) s cs q
  triangles s [] w = let here = w.0 in let bare = HasTriangle-bare ps hull tris s.0 s.1 q is here.triangle in bare.turns_left
  triangles s (c ∷ cs) w =
      let here = w.0 in
      let bare = HasTriangle-bare ps hull tris s.0 s.1 (number_of c) is here.triangle in
      (bare.turns_left, triangles (next_step s c) cs w.2)

  outside : (s : ℕ × ℕ) (cs : List Corner) → IsWalk ps tris a b p s cs q → All (λ c. ¬ IsInDisc (point_at ps a) (point_at ps b) (point_at ps (number_of c))) cs
  outside s [] w = All-nil (λ c. ¬ IsInDisc (point_at ps a) (point_at ps b) (point_at ps (number_of c)))
  outside s (c ∷ cs) w = All-cons (λ c. ¬ IsInDisc (point_at ps a) (point_at ps b) (point_at ps (number_of c))) c cs w.1 (outside (next_step s c) cs w.2)

  last_in : (s : ℕ × ℕ) (cs : List Corner) → IsWalk ps tris a b p s cs q → IsInDisc (point_at ps a) (point_at ps b) (point_at ps q)
  last_in s [] w = w.1
  last_in s (c ∷ cs) w = last_in (next_step s c) cs w.2

  -- a corner ahead of a step is not where a or b is
  not_behind : (s : ℕ × ℕ) (z : ℕ) (x : Point) → orient (point_at ps s.0) (point_at ps s.1) x ≤ℤ pos 0 → pos 0 <ℤ orient (point_at ps s.0) (point_at ps s.1) (point_at ps z) → ¬ (point_at ps z ≡ x)
  not_behind s z x behind ahead e = let same = ap (λ y. orient (point_at ps s.0) (point_at ps s.1) y) e in omega (arith, ints)

  abbrev Round : ℕ × ℕ → Type 0
  Round s = IsRound (point_at ps a) (point_at ps b) (point_at ps q) (point_at ps s.0) (point_at ps s.1)

  abbrev OnItsSide : Corner → Type 0
  OnItsSide = IsOnItsSide (point_at ps a) (point_at ps b) (point_at ps q) (point_at ps)

  -- each corner is an end of the step after it, which goes round q
  sides : (s : ℕ × ℕ) (cs : List Corner) → pos 0 <ℤ orient (point_at ps a) (point_at ps b) (point_at ps q) → IsWalk ps tris a b p s cs q → All Round (steps_after s cs) → All OnItsSide cs
  sides s [] area w round = All-nil OnItsSide
  sides s (on_left z ∷ cs) area w round =
      let here = w.0 in
      let step = here.step in
      let bare = HasTriangle-bare ps hull tris s.0 s.1 z is here.triangle in
      let next = All-head Round (z, s.1) (steps_after (z, s.1) cs) round in
      let t = next.step in
      All-cons OnItsSide (on_left z) cs
      (⊎_elim
      (λ e. absurd (not_behind s z (point_at ps a) step.a_behind bare.turns_left e))
      (λ d. (d.0, left_strict _ _ _ _ _ area t))
      t.left)
      (sides (z, s.1) cs area w.2 (All-tail Round (z, s.1) (steps_after (z, s.1) cs) round))
  sides s (on_right z ∷ cs) area w round =
      let here = w.0 in
      let step = here.step in
      let bare = HasTriangle-bare ps hull tris s.0 s.1 z is here.triangle in
      let next = All-head Round (s.0, z) (steps_after (s.0, z) cs) round in
      let t = next.step in
      All-cons OnItsSide (on_right z) cs
      (⊎_elim
      (λ e. absurd (not_behind s z (point_at ps b) step.b_behind bare.turns_left e))
      (λ d. (right_strict _ _ _ _ _ area t, d.0))
      t.right)
      (sides (s.0, z) cs area w.2 (All-tail Round (s.0, z) (steps_after (s.0, z) cs) round))

pub walks_are_sleeves : WalksAreSleeves
walks_are_sleeves ps hull tris a b is w =
    let all = walks_go_round ps hull tris a b is w in
    let round : All (Round ps hull tris a b w.goal w.last is) ((a, b) ∷ steps_after (a, b) w.corners) = λ k d k_in. (all k d k_in).1 in
    let first = All-head (Round ps hull tris a b w.goal w.last is) (a, b) (steps_after (a, b) w.corners) round in
    let step = first.step in
    record {
      base = step.ahead;
      in_disc = last_in ps hull tris a b w.goal w.last is (a, b) w.corners w.is_walk;
      triangles = triangles ps hull tris a b w.goal w.last is (a, b) w.corners w.is_walk;
      sides = sides ps hull tris a b w.goal w.last is (a, b) w.corners step.ahead w.is_walk (All-tail (Round ps hull tris a b w.goal w.last is) (a, b) (steps_after (a, b) w.corners) round);
      outside = outside ps hull tris a b w.goal w.last is (a, b) w.corners w.is_walk;
    }
