-- No triangulation is shorter than the bound.
use Rattle.std.proofs.Common.{ℕ, suc, ◌+◌, ◌*◌, ◌^◌, ◌≤◌, List, [], ◌∷◌, length, sum_by, All, ℤ, pos, negsuc, ◌*ℤ◌, ◌≤ℤ◌, arith, ap, ⊎_elim}
use Rattle.std.proofs.lemmas.Bool.{cases_lt}
use Rattle.std.proofs.lemmas.Int.{ints}
use Rattle.std.proofs.lemmas.Nat.{mul-le}
use Rattle.std.proofs.lemmas.List.Elements.{All-contains}
use Rattle.std.proofs.lemmas.List.Sums.{sum_by-cons}
use Rattle.exact_predicates.specs.declared.diamond.Diamond.{Diamond}
use Rattle.exact_predicates.specs.declared.diamond.Diamond.TheVariants.{Off}
use Rattle.exact_predicates.specs.declared.edge.Edge.{Edge}
use Rattle.exact_predicates.specs.declared.point.Point.{Point}
use Rattle.exact_predicates.specs.declared.tri.Tri.{Tri}
use Rattle.exact_predicates.specs.Candidates.{IsCandidate}
use Rattle.exact_predicates.specs.Length.{edge_d2, length_down, length_up}
use Rattle.exact_predicates.specs.Root.{root_down, root_up}
use Rattle.exact_predicates.specs.Triangulation.{IsTriangulation, edges}
use Rattle.exact_predicates.proofs.Roots.{pow-two, root_down_is, root_up_is}
use Rattle.length_enclosure.specs.Enclosure.{lo, weight}
use Rattle.length_enclosure.proofs.Enclosures.{scale-le}
use Rattle.exact_predicates.proofs.Roots.{le-square}
use Rattle.lmt_network.specs.Bounds.{BoundIsBelow, BoundHolds, BoundHoldsOff, ExclusionOff, ExclusionWhereSame, IsSplit}
use Rattle.lmt_network.specs.Edges.{IsEdgeOf, HasEdgesIn}
use Rattle.lmt_network.specs.Prices.{Priced, bound, priced_edges}
use Rattle.lmt_network.specs.Skeleton.{IsSkeletonEdge}
use Rattle.lmt_network.proofs.Descent.{found_minimal}
use Rattle.lmt_network.proofs.CandidateEdges.{candidates_law}
use Rattle.lmt_network.proofs.FlipMinimal.{live_law}
use Rattle.lmt_network.proofs.LowerBounds.{below_law}
use Rattle.lmt_network.proofs.Picked.{All-from_members}
use Rattle.lmt_network.proofs.Skeletons.{triangulation_law}

-- a weight, measured more finely and rounded down, is at least as large
weight-scaled : (m d : ℕ) → m * root_down (10 ^ 12 * d) ≤ root_down ((10 ^ 6 * m) ^ 2 * d)
weight-scaled m d =
    let w = root_down (10 ^ 12 * d) in
    let fits = (root_down_is (10 ^ 12 * d)).fits in
    (root_down_is ((10 ^ 6 * m) ^ 2 * d)).greatest (m * w)
    (omega (arith, scale-le (m * m) (w * w) (10 ^ 12 * d) fits, ap (λ x. x * d) (pow-two (10 ^ 6 * m))))

-- a length rounded down at a finer scale is at most the one rounded up
down_up : (m k d : ℕ) → root_down ((10 ^ 6 * (m * k)) ^ 2 * d) ≤ k * root_up ((10 ^ 6 * m) ^ 2 * d)
down_up m k d =
    let r = root_down ((10 ^ 6 * (m * k)) ^ 2 * d) in
    let u = root_up ((10 ^ 6 * m) ^ 2 * d) in
    let fits = (root_down_is ((10 ^ 6 * (m * k)) ^ 2 * d)).fits in
    let covers = (root_up_is ((10 ^ 6 * m) ^ 2 * d)).covers in
    le-square r (k * u)
    (omega (
      arith,
      fits,
      scale-le (k * k) ((10 ^ 6 * m) ^ 2 * d) (u * u) covers,
      ap (λ x. x * d) (pow-two (10 ^ 6 * (m * k))),
      ap (λ x. k * k * (x * d)) (pow-two (10 ^ 6 * m)),
    ))

-- the same of sums
lo-scaled : (ps : List Point) (m : ℕ) (es : List (ℕ × ℕ)) → m * lo ps es ≤ sum_by (length_down ps m) es
lo-scaled ps m [] = omega arith
lo-scaled ps m (e ∷ es) =
    omega (
      arith,
      sum_by-cons (length_down ps m) e es,
      ap (λ n. m * n) (sum_by-cons (weight ps) e es),
      weight-scaled m (edge_d2 ps e),
      lo-scaled ps m es,
    )

sum_down_up : (ps : List Point) (m k : ℕ) (es : List (ℕ × ℕ)) → sum_by (length_down ps (m * k)) es ≤ k * sum_by (length_up ps m) es
sum_down_up ps m k [] = omega arith
sum_down_up ps m k (e ∷ es) =
    omega (
      arith,
      sum_by-cons (length_down ps (m * k)) e es,
      ap (λ n. k * n) (sum_by-cons (length_up ps m) e es),
      down_up m k (edge_d2 ps e),
      sum_down_up ps m k es,
    )

-- what holds at a scale that is fine enough, up to a length of n, holds exactly
fine_enough : (m b l u n : ℕ) → b ≤ l → (m * suc n) * l ≤ suc n * u + n → m * b ≤ u
fine_enough m b l u n below h =
    ⊎_elim
    (λ k. absurd (omega (arith, h, scale-le (m * suc n) b l below, scale-le (suc n) (suc u) (m * b) k)))
    (λ k. k)
    (cases_lt u (m * b))

-- the integer bound
at_scale : (m l u n : ℕ) (b : ℤ) → b ≤ℤ pos l → (m * suc n) * l ≤ suc n * u + n → (pos m *ℤ b) ≤ℤ pos u
at_scale m l u n (pos b) below h =
    let fine : m * b ≤ u = fine_enough m b l u n (omega (arith, ints, below)) h in
    omega (arith, ints)
at_scale m l u n (negsuc b) below h = omega (arith, ints)

-- the anchored edges are edges of each triangulation with live edges
anchored_in : (ps : List Point) (hull : List ℕ) (diamond : Diamond) (anchored : List Edge) (prices : List Priced) (tris : List Tri)
    → IsSplit ps hull diamond anchored prices → IsTriangulation ps hull tris → HasEdgesIn hull tris (priced_edges prices) → All (IsEdgeOf hull tris) anchored
anchored_in ps hull diamond anchored prices tris s t live =
    All-from_members (IsEdgeOf hull tris) anchored
    (λ e has. triangulation_law ps hull diamond (priced_edges prices) tris s.hull_is s.live.closed.candidates t live e
    (All-contains (IsSkeletonEdge ps (priced_edges prices)) anchored e s.skeleton has))

pub below_split_law : BoundIsBelow
below_split_law ps hull diamond anchored prices tris s t live =
    below_law ps hull anchored prices tris s.prices_are s.feasible s.hull_is t live (anchored_in ps hull diamond anchored prices tris s t live)

pub bound_law : BoundHolds
bound_law ps hull diamond anchored prices s exclusion tris t m one =
    let found = exclusion tris t in
    let es = edges hull found.tris in
    let fs = edges hull tris in
    let n = length fs in
    let live = live_law ps hull diamond found.tris (priced_edges prices) found.flip_minimal found.candidates s.live in
    let below = below_split_law ps hull diamond anchored prices found.tris s found.flip_minimal.triangulation live in
    let fine : 1 ≤ m * suc n = mul-le 1 1 m (suc n) one (omega arith) in
    at_scale m (lo ps es) (sum_by (length_up ps m) fs) n (bound hull prices) below
    (omega (arith, lo-scaled ps (m * suc n) es, found.not_longer (m * suc n) fine, sum_down_up ps m (suc n) fs))

pub exclusion_off_law : ExclusionOff
exclusion_off_law ps hull h first t =
    let found = found_minimal ps hull first h t in
    record {
      tris = found.tris;
      flip_minimal = found.flip_minimal;
      candidates = candidates_law ps hull found.tris h found.flip_minimal.triangulation;
      not_longer = λ m one. omega (arith, found.not_longer.downs m one);
    }

pub exclusion_same_law : ExclusionWhereSame
exclusion_same_law ps hull diamond candidates h off on first t =
    let found = exclusion_off_law ps hull h first t in
    record {
      tris = found.tris;
      flip_minimal = found.flip_minimal;
      candidates = λ e is. All-contains (IsCandidate ps hull diamond) candidates e on.each (off.all e (found.candidates e is));
      not_longer = found.not_longer;
    }

pub bound_off_law : BoundHoldsOff
bound_off_law ps hull anchored prices s = bound_law ps hull Off anchored prices s (exclusion_off_law ps hull s.hull_is)
