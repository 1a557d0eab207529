-- How far live triangles reach round their corners: which edges of an order they have in their angles.
use Rattle.std.specs.Prelude.{◌≡◌, ℕ, ◌-◌, ◌<◌, ◌≤◌, List, Bool, true, false, length, slice_index, slice_index_or}
use Rattle.exact_predicates.specs.Candidates.{IsEmptyOver}
use Rattle.lmt_network.specs.Flags.{live_edges}
use Rattle.lmt_network.specs.Network.{NetworkParts, tri_at}
use Rattle.lmt_network.specs.Numbers.{IsNumberOf}
use Rattle.skeleton_faces.specs.declared.reaches.Reaches.{Reaches}

-- the triangle of this number is live: its three sides are live edges
abbrev pub IsLiveTri : NetworkParts → List Bool → ℕ → Type 0
IsLiveTri n flags t = IsEmptyOver n.points (live_edges n flags) (tri_at n t)

-- each edge with a set flag stands in the order at the place that the table has for it
pub record ArePlaces (flags : List Bool) (order places : List ℕ) : Type 0 where
  pub one_each : length places ≡ length flags
  pub inside : (e : ℕ) → slice_index_or flags e false ≡ true → slice_index places e < length order
  pub there : (e : ℕ) → slice_index_or flags e false ≡ true → slice_index order (slice_index places e) ≡ e

-- i is the place of the edge with the ends u and v
abbrev pub IsPlaceOf : NetworkParts → List ℕ → ℕ → ℕ → ℕ → Type 0
IsPlaceOf n places u v i = (f : ℕ) × IsNumberOf n u v f × (slice_index places f ≡ i)

-- One of the first m triangles is live and has, at its least corner, the edges between the places i and j in its angle.
pub record IsSpan (n : NetworkParts) (flags : List Bool) (places : List ℕ) (m i j : ℕ) : Type 0 where
  pub t : ℕ
  pub t_in : t < m
  pub live : IsLiveTri n flags t
  pub first : IsPlaceOf n places (tri_at n t).a (tri_at n t).b i
  pub last : IsPlaceOf n places (tri_at n t).c (tri_at n t).a j

-- One of the first m triangles is live and has, at its corner p, the edges to greater points before the place i in its
-- angle: p is between its other corners in the order of points, and the greatest one comes after the least one.
pub record IsHead (n : NetworkParts) (flags : List Bool) (places : List ℕ) (m p i : ℕ) : Type 0 where
  pub t : ℕ
  pub t_in : t < m
  pub live : IsLiveTri n flags t
  pub corner : (tri_at n t).c ≡ p
  pub between : (tri_at n t).c < (tri_at n t).b
  pub last : IsPlaceOf n places (tri_at n t).b (tri_at n t).c i

-- In the same way it has, at its corner p, the edges to greater points after a place in its angle, at which x of the
-- `count` places are left.
pub record IsTail (n : NetworkParts) (flags : List Bool) (places : List ℕ) (count m p x : ℕ) : Type 0 where
  pub t : ℕ
  pub t_in : t < m
  pub live : IsLiveTri n flags t
  pub corner : (tri_at n t).b ≡ p
  pub between : (tri_at n t).b < (tri_at n t).c
  pub place : ℕ
  pub first : IsPlaceOf n places (tri_at n t).b (tri_at n t).c place
  pub left_over : x ≡ count - place

-- the table has for each key the greatest value with P, or 0 where there is none
pub record IsGreatest (P : ℕ → ℕ → Type 0) (table : List ℕ) : Type 0 where
  pub most : (key value : ℕ) → P key value → value ≤ slice_index table key
  pub from : (key : ℕ) → 0 < slice_index table key → P key (slice_index table key)

-- What the first m triangles have in their angles.
pub record AreReaches (n : NetworkParts) (flags : List Bool) (places : List ℕ) (count m : ℕ) (r : Reaches) : Type 0 where
  pub spans_each : length r.spans.items ≡ count
  pub heads_each : length r.heads.items ≡ length n.points
  pub tails_each : length r.tails.items ≡ length n.points
  pub spans : IsGreatest (IsSpan n flags places m) r.spans.items
  pub heads : IsGreatest (IsHead n flags places m) r.heads.items
  pub tails : IsGreatest (IsTail n flags places count m) r.tails.items
