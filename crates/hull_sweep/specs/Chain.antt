-- The chains of a hull. Each goes from point 0 up to the newest point: the lower chain along the bottom of the hull, the upper
-- chain along its top. P gives the point of a number, the points below q are those with lesser numbers, and f gives the number at
-- each place of a chain. A pair of a chain is one place with the next.
use Rattle.std.specs.Prelude.{◌≡◌, ℕ, ◌+◌, ◌<◌, List, length, slice_index, ℤ, pos, ◌≤ℤ◌, ◌<ℤ◌}
use Rattle.exact_predicates.specs.declared.point.Point.{Point}
use Rattle.exact_predicates.specs.Plane.{orient}
use Rattle.hull_sweep.specs.declared.chain.Chain.{Chain}
use Rattle.hull_sweep.specs.declared.chain.Chain.TheVariants.{Lower, Upper}

-- Where r lies from the pair with the lower end p and the higher end q: positive is inside the hull, 0 on the line of the
-- pair, and negative outside, from where the pair is visible.
abbrev pub turn : Chain → Point → Point → Point → ℤ
turn Lower p q r = orient p q r
turn Upper p q r = orient q p r

-- the pair at place k is hidden from the point q: it is not visible from there
abbrev pub IsHidden : Chain → (ℕ → Point) → ℕ → (ℕ → ℕ) → ℕ → Type 0
IsHidden s P q f k = pos 0 ≤ℤ turn s (P (f k)) (P (f (k + 1))) (P q)

-- One chain of the hull of the points below q, of this many places. The numbers rise from point 0. No point lies outside a
-- pair, and the points whose numbers lie between those of its two ends lie strictly inside: each point on that side of the
-- hull has a place.
pub record IsChain (s : Chain) (P : ℕ → Point) (q count : ℕ) (f : ℕ → ℕ) : Type 0 where
  pub some : 0 < count
  pub first : f 0 ≡ 0
  pub rising : (k : ℕ) → k + 1 < count → f k < f (k + 1)
  pub known : (k : ℕ) → k < count → f k < q
  pub inside : (k r : ℕ) → k + 1 < count → r < q → pos 0 ≤ℤ turn s (P (f k)) (P (f (k + 1))) (P r)
  pub strict : (k r : ℕ) → k + 1 < count → f k < r → r < f (k + 1) → pos 0 <ℤ turn s (P (f k)) (P (f (k + 1))) (P r)

-- the chain ends at the point before q
abbrev pub IsNewest : ℕ → List ℕ → Type 0
IsNewest q c = (k : ℕ) → k + 1 ≡ length c → slice_index c k + 1 ≡ q
