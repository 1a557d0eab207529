-- What the steps of `solve` say of its triangulation and its bound.
use Rattle.std.proofs.Common.{◌≡◌, ℕ, ◌*◌, ◌≤◌, Bool, List, ℤ, pos, ◌≤ℤ◌, arith, refl, sym, subst}
use Rattle.std.proofs.lemmas.Int.{ints}
use Rattle.mwt_base.specs.Limits.{most_anchor, most_edges, most_length}
use Rattle.exact_predicates.specs.declared.diamond.Diamond.{Diamond}
use Rattle.exact_predicates.specs.declared.edge.Edge.{Edge}
use Rattle.exact_predicates.specs.declared.point.Point.{Point}
use Rattle.exact_predicates.specs.declared.tri.Tri.{Tri}
use Rattle.exact_predicates.specs.Triangulation.{edges}
use Rattle.length_enclosure.specs.Enclosure.{lo}
use Rattle.lmt_network.specs.Network.{NetworkParts}
use Rattle.lmt_network.specs.Prices.{bound}
use Rattle.price_ascent.specs.Belonging.{BelongTo}
use Rattle.price_ascent.specs.Entries.{prices_of}
use Rattle.cert_text.specs.declared.report.Method.{Method}
use Rattle.cert_text.specs.declared.report.Method.TheVariants.{Faces, Flips}
use Rattle.dual_checker.specs.Elimination.{IsNetworkOf}
use Rattle.mwt_tool.specs.declared.solution.Solution.{Solution}
use Rattle.mwt_tool.specs.Solution.{IsSolution}

-- what is said of the points and the hull of a network holds of those of which it is
pub of_points : {ps : List Point} {hull : List ℕ} {diamond : Diamond} {n : NetworkParts} (P : List Point → List ℕ → Type 0) → IsNetworkOf ps hull diamond n
    → P n.points n.hull → P ps hull
of_points {ps} {hull} {diamond} {n} P network h =
    subst (λ (xs : List Point). P xs hull) network.points_are (subst (λ (x : List ℕ). P n.points x) network.hull_is h)

-- and the other way round
pub to_network : {ps : List Point} {hull : List ℕ} {diamond : Diamond} {n : NetworkParts} (P : List Point → List ℕ → Type 0) → IsNetworkOf ps hull diamond n
    → P ps hull → P n.points n.hull
to_network {ps} {hull} {diamond} {n} P network h =
    subst (λ (xs : List Point). P xs n.hull) (sym network.points_are) (subst (λ (x : List ℕ). P ps x) (sym network.hull_is) h)

-- the bound of a solution is not negative, and not large: with the method flips because an ascent's is not
pub bound_range : {ps : List Point} {hull : List ℕ} {diamond : Diamond} {n : NetworkParts} {flags : List Bool} {skeleton : List Edge} {first : List Tri} {sweeps : ℕ} {s : Solution}
    → (b : ℤ) → IsNetworkOf ps hull diamond n → IsSolution n flags skeleton first sweeps s → lo ps (edges hull s.tris) ≤ most_length
    → b ≡ bound n.hull (prices_of n s.prices) → (BelongTo n s.prices → pos 0 ≤ℤ b) → (BelongTo n s.prices → b ≤ℤ pos (2 * most_anchor * most_edges))
    → (pos 0 ≤ℤ b) × (b ≤ℤ pos (2 * most_anchor * most_edges))
bound_range {ps} {hull} {diamond} {n} {flags} {skeleton} {first} {sweeps} {s} b network is small sum low high = by s.method refl
  where
    by : (m : Method) → s.method ≡ m → (pos 0 ≤ℤ b) × (b ≤ℤ pos (2 * most_anchor * most_edges))
    by Faces e =
        let met = (is.by_faces e).bound_is in
        let same : lo n.points (edges n.hull s.tris) ≡ lo ps (edges hull s.tris)
        = of_points (λ (xs : List Point) (x : List ℕ). lo n.points (edges n.hull s.tris) ≡ lo xs (edges x s.tris)) network refl in
        (omega (arith, ints, sum, met), omega (arith, ints, sum, met, same, small))
    by Flips e = let belong = (is.by_flips e).belong in (low belong, high belong)
