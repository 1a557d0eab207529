-- What the sweep has made of the points so far, and the hull that it ends with.
use Rattle.std.specs.Prelude.{◌≡◌, ◌⊎◌, ℕ, ◌+◌, ◌*◌, ◌<◌, ◌≤◌, List, length, slice_index, All, Any, Contains}
use Rattle.exact_predicates.specs.declared.point.Point.{Point}
use Rattle.exact_predicates.specs.declared.tri.Tri.{Tri}
use Rattle.exact_predicates.specs.Triangulation.{IsCorner, side_count}
use Rattle.hull_sweep.specs.declared.chain.Chain.TheVariants.{Lower, Upper}
use Rattle.hull_sweep.specs.Chain.{IsChain, IsNewest}
use Rattle.hull_sweep.specs.Join.{IsEmptyBelow, pair_count}
use Rattle.hull_sweep.specs.Rule.{FollowsRule}

-- the chains meet at their two ends alone, and one of them has a place between these
pub record MeetAtEnds (q : ℕ) (lower upper : List ℕ) : Type 0 where
  pub ends : (i j : ℕ) → i < length lower → j < length upper → slice_index lower i ≡ slice_index upper j → (slice_index lower i ≡ 0) ⊎ (slice_index lower i + 1 ≡ q)
  pub five : 5 ≤ length lower + length upper

-- The points below q are swept: their hull as two chains, which are the same list while the points lie on one line, and
-- between them the triangles of the rule, as many as Euler's formula asks for. The triangles are empty, each point stands
-- on a chain or is a corner, and each side occurs as often one way as the other, where the chains' sides the other way
-- round are counted too.
pub record IsSwept (P : ℕ → Point) (q : ℕ) (lower upper : List ℕ) (tris : List Tri) : Type 0 where
  pub low : IsChain Lower P q (length lower) (slice_index lower)
  pub high : IsChain Upper P q (length upper) (slice_index upper)
  pub low_newest : IsNewest q lower
  pub high_newest : IsNewest q upper
  pub shape : (lower ≡ upper) ⊎ MeetAtEnds q lower upper
  pub empty : All (IsEmptyBelow P q) tris
  pub rule : FollowsRule P q tris
  pub count : length tris + length lower + length upper ≡ 2 * q
  pub covered : (x : ℕ) → x < q → Contains lower x ⊎ (Contains upper x ⊎ Any (λ t. IsCorner t x) tris)
  pub balance : (u v : ℕ)
      → side_count tris u v + pair_count Lower (slice_index lower) (length lower) v u + pair_count Upper (slice_index upper) (length upper) v u
      ≡ side_count tris v u + pair_count Lower (slice_index lower) (length lower) u v + pair_count Upper (slice_index upper) (length upper) u v

-- the hull of two chains: the lower one up, and then the inner places of the upper one down
pub record IsOutline (lower upper hull : List ℕ) : Type 0 where
  pub size : length hull + 2 ≡ length lower + length upper
  pub up : (k : ℕ) → k < length lower → slice_index hull k ≡ slice_index lower k
  pub down : (i j : ℕ) → 0 < i → i + j + 2 ≡ length upper → slice_index hull (length lower + j) ≡ slice_index upper i
