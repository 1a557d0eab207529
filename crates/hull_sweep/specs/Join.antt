-- One point joined to the pairs of one chain that are visible from it.
use Rattle.std.specs.Prelude.{◌≡◌, ℕ, zero, suc, ◌+◌, ◌<◌, ◌≤◌, List, ◌++◌, length, slice_index, All, Any, pos, ◌<ℤ◌}
use Rattle.exact_predicates.specs.declared.point.Point.{Point}
use Rattle.exact_predicates.specs.declared.tri.Tri.{Tri}
use Rattle.exact_predicates.specs.Plane.{orient, IsInClosedTriangle}
use Rattle.exact_predicates.specs.Triangulation.{IsCorner, hit, side_count}
use Rattle.hull_sweep.specs.declared.chain.Chain.{Chain}
use Rattle.hull_sweep.specs.declared.chain.Chain.TheVariants.{Lower, Upper}
use Rattle.hull_sweep.specs.Chain.{turn}
use Rattle.hull_sweep.specs.Rule.{JoinsVisiblePair}

-- t is the triangle of q with the pair from y up to x, turned counter-clockwise where the pair is visible from q
abbrev pub HasTriangle : Chain → ℕ → ℕ → ℕ → Tri → Type 0
HasTriangle Lower y x q t = (t.a ≡ y) × (t.b ≡ q) × (t.c ≡ x)
HasTriangle Upper y x q t = (t.a ≡ y) × (t.b ≡ x) × (t.c ≡ q)

-- t is an empty triangle of the points below q: it is counter-clockwise, and of these points only its corners lie in it
pub record IsEmptyBelow (P : ℕ → Point) (q : ℕ) (t : Tri) : Type 0 where
  pub a_in : t.a < q
  pub b_in : t.b < q
  pub c_in : t.c < q
  pub turns_left : pos 0 <ℤ orient (P t.a) (P t.b) (P t.c)
  pub bare : (r : ℕ) → r < q → IsInClosedTriangle (P t.a) (P t.b) (P t.c) (P r) → IsCorner t r

-- the pair from y up to x as a directed side of the hull, which has the hull on its left
abbrev pub along : Chain → ℕ → ℕ → ℕ × ℕ
along Lower y x = (y, x)
along Upper y x = (x, y)

-- how often u to v is a directed side among the first places of a chain
abbrev pub pair_count : Chain → (ℕ → ℕ) → ℕ → ℕ → ℕ → ℕ
pair_count s f zero u v = 0
pair_count s f (suc zero) u v = 0
pair_count s f (suc (suc k)) u v = pair_count s f (suc k) u v + hit u v (along s (f k) (f (suc k)))

-- What joining q to the chain c adds, where so many places of c are kept: an empty triangle for each pair above the last kept
-- place, by the rule, the lowest of which was visible. The sides of these triangles balance: what u to v gains on v to u is what
-- it gains from the old chain to the outline that runs over the kept places to q, and from there to the newest point.
pub record IsJoin (s : Chain) (P : ℕ → Point) (q : ℕ) (c : List ℕ) (kept : ℕ) (added : List Tri) : Type 0 where
  pub some : 0 < kept
  pub within : kept ≤ length c
  pub seen : (k : ℕ) → k + 1 ≡ kept → kept < length c → turn s (P (slice_index c k)) (P (slice_index c (k + 1))) (P q) <ℤ pos 0
  pub count : length added + kept ≡ length c
  pub empty : All (IsEmptyBelow P (q + 1)) added
  pub rule : All (JoinsVisiblePair P (q + 1)) added
  pub joined : (k : ℕ) → kept ≤ k + 1 → k + 1 < length c → Any (HasTriangle s (slice_index c k) (slice_index c (k + 1)) q) added
  pub balance : (j k u v : ℕ) → k + 1 ≡ kept → j + 1 ≡ length c
      → side_count added u v + pair_count s (slice_index c) kept v u + pair_count s (slice_index c) (length c) u v + hit v u (along s (slice_index c k) q) + hit u v (along s (slice_index c j) q)
      ≡ side_count added v u + pair_count s (slice_index c) kept u v + pair_count s (slice_index c) (length c) v u + hit u v (along s (slice_index c k) q) + hit v u (along s (slice_index c j) q)

-- the triangles grew by those of q with the chain c, of which so many places are kept
pub record GrowsByJoin (s : Chain) (P : ℕ → Point) (q : ℕ) (c : List ℕ) (kept : ℕ) (old new : List Tri) : Type 0 where
  pub added : List Tri
  pub grows : new ≡ old ++ added
  pub join : IsJoin s P q c kept added
