-- Points have one first triangulation, since a triangle is known by the pair and the point that it joins.
use Rattle.std.proofs.Common.{◌≡◌, ℕ, List, Contains, arith, subst}
use Rattle.exact_predicates.specs.declared.point.Point.{Point}
use Rattle.exact_predicates.specs.declared.tri.Tri.{Tri}
use Rattle.exact_predicates.specs.Candidates.{TriPrecedes}
use Rattle.exact_predicates.specs.Triangulation.{HasCorners}
use Rattle.exact_predicates.proofs.Ascending.{ascending-only}
use Rattle.exact_predicates.proofs.Equalities.{Tri-equal}
use Rattle.hull_sweep.specs.First.{IsFirst}
use Rattle.hull_sweep.specs.Rule.{JoinsVisiblePair, FollowsRule}

-- a triangle is known by its corners
same_corners : (s t : Tri) (u v w : ℕ) → HasCorners s u v w → HasCorners t u v w → s ≡ t
same_corners s t u v w h k =
    let sb = s.below_b in
    let sc = s.below_c in
    let tb = t.below_b in
    let tc = t.below_c in
    Tri-equal s t (omega (arith, h, k)) (omega (arith, h, k)) (omega (arith, h, k))

-- a triangle of one list by the rule is in the other
member_of_both : (P : ℕ → Point) (n : ℕ) (ss ts : List Tri) → FollowsRule P n ss → FollowsRule P n ts → (t : Tri) → Contains ss t → Contains ts t
member_of_both P n ss ts left right t (k, k_in, at_k) =
    let j : JoinsVisiblePair P n t = subst (JoinsVisiblePair P n) at_k (left.no_others k t k_in) in
    let (i, s, i_in, at_i, corners) = right.joined j.u j.v j.q j.known j.pair in
    subst (Contains ts) (same_corners s t j.v j.u j.q corners j.corners) (i, i_in, at_i)

pub one_first : (ps : List Point) (hull other : List ℕ) (ss ts : List Tri) → IsFirst ps hull ss → IsFirst ps other ts → ss ≡ ts
one_first ps hull other ss ts h k =
    ascending-only TriPrecedes (λ s t l m. omega (arith, l, m)) ss ts h.ascending k.ascending
    (member_of_both _ _ ss ts h.rule k.rule)
    (member_of_both _ _ ts ss k.rule h.rule)
