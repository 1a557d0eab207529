-- With the diamond test off the edges of triangulations are candidates.
use Rattle.std.proofs.Common.{◌≡◌, ◌≢◌, ℕ, ◌+◌, ◌<◌, ◌≤◌, List, length, flat_map, ap, sym, ◌∙◌, subst, ⊎_elim, arith, pos}
use Rattle.std.proofs.lemmas.Bool.{cases_lt}
use Rattle.std.proofs.lemmas.Int.{ints}
use Rattle.std.proofs.lemmas.List.Elements.{All-contains}
use Rattle.exact_predicates.specs.declared.diamond.Diamond.TheVariants.{Off}
use Rattle.exact_predicates.specs.declared.edge.Edge.{Edge}
use Rattle.exact_predicates.specs.declared.point.Point.{Point}
use Rattle.exact_predicates.specs.declared.tri.Tri.{Tri}
use Rattle.exact_predicates.specs.Hull.{IsHull, IsHullPair}
use Rattle.exact_predicates.specs.Plane.{orient, IsBetween}
use Rattle.exact_predicates.specs.PointSet.{point_at}
use Rattle.exact_predicates.specs.Triangulation.{HasCorners, IsEmpty, sides, is_inner}
use Rattle.exact_predicates.specs.Candidates.{Joins, IsCandidate}
use Rattle.exact_predicates.proofs.Between.{IsBetween-turned}
use Rattle.exact_predicates.proofs.Corners.{IsBare-corners}
use Rattle.exact_predicates.proofs.Rings.{place_of_pair}
use Rattle.lmt_network.proofs.Filters.{filter-from, side_from}
use Rattle.lmt_network.proofs.Segments.{between_inside, between_no_end}
use Rattle.lmt_network.proofs.SideEdges.{IsEnds, pair, inside, ends_of}
use Rattle.lmt_network.specs.FlipMinimal.{EdgesAreCandidates}

-- no point is between two corners of an empty triangle
none_between : (ps : List Point) (t : Tri) (u v w r : ℕ) → IsEmpty ps t → HasCorners t u v w → r < length ps → ¬ IsBetween (point_at ps u) (point_at ps v) (point_at ps r)
none_between ps t u v w r h corners r_in b =
    let bare = IsBare-corners ps t u v w corners h in
    let area = bare.turns_left in
    let at_u : r ≢ u = λ e. between_no_end (point_at ps u) (point_at ps v) (subst (λ (x : ℕ). IsBetween (point_at ps u) (point_at ps v) (point_at ps x)) e b) in
    let at_v : r ≢ v = λ e. between_no_end (point_at ps v) (point_at ps u) (IsBetween-turned (point_at ps u) (point_at ps v) (point_at ps v) (subst (λ (x : ℕ). IsBetween (point_at ps u) (point_at ps v) (point_at ps x)) e b)) in
    let at_w : r ≢ w = λ e. let line : orient (point_at ps u) (point_at ps v) (point_at ps w) ≡ pos 0 = ap (λ x. orient (point_at ps u) (point_at ps v) (point_at ps x)) (sym e) ∙ b.on_line in absurd (omega (arith, ints)) in
    ⊎_elim at_u (λ m. ⊎_elim at_v at_w m)
    (bare.bare r r_in (between_inside (point_at ps u) (point_at ps v) (point_at ps w) (point_at ps r) b area))

-- an edge is a candidate with the test off, by its ends
candidate_off : (ps : List Point) (hull : List ℕ) (e : Edge) (u v : ℕ) → Joins e u v → u < length ps → v < length ps
    → ((r : ℕ) → r < length ps → ¬ IsBetween (point_at ps u) (point_at ps v) (point_at ps r)) → IsCandidate ps hull Off e
candidate_off ps hull e u v joins u_in v_in none =
    let j0 = joins.0 in
    let j1 = joins.1 in
    record {
      b_in = omega arith;
      clear = λ r r_in b. ⊎_elim
          (λ (l : u < v).
          let a_is : e.a ≡ u = omega arith in let b_is : e.b ≡ v = omega arith in
          none r r_in (subst (λ (x : ℕ). IsBetween (point_at ps x) (point_at ps v) (point_at ps r)) a_is (subst (λ (y : ℕ). IsBetween (point_at ps e.a) (point_at ps y) (point_at ps r)) b_is b)))
          (λ (m : v ≤ u).
          let a_is : e.a ≡ v = omega arith in let b_is : e.b ≡ u = omega arith in
          none r r_in (IsBetween-turned (point_at ps v) (point_at ps u) (point_at ps r)
          (subst (λ (x : ℕ). IsBetween (point_at ps x) (point_at ps u) (point_at ps r)) a_is (subst (λ (y : ℕ). IsBetween (point_at ps e.a) (point_at ps y) (point_at ps r)) b_is b))))
          (cases_lt u v);
      passes = tt;
    }

-- an edge of the hull is a candidate
pub pair_candidate : (ps : List Point) (hull : List ℕ) (e : Edge) (u v : ℕ) → IsHull ps hull → Joins e u v → IsHullPair hull u v → IsCandidate ps hull Off e
pair_candidate ps hull e u v hull_is joins p =
    let (k, k_in, at_k, next) = place_of_pair hull u v p in
    let u_in : u < length ps = subst (λ (x : ℕ). x < length ps) at_k (hull_is.within k 0 k_in) in
    let v_in : v < length ps = ⊎_elim
    (λ n. subst (λ (x : ℕ). x < length ps) n.1 (hull_is.within (k + 1) 0 n.0))
    (λ n. subst (λ (x : ℕ). x < length ps) n.1 (hull_is.within 0 0 (omega (arith, n.0))))
    next in
    candidate_off ps hull e u v joins u_in v_in (λ r r_in. hull_is.none_between u v r p r_in)

pub candidates_law : EdgesAreCandidates
candidates_law ps hull tris hull_is are e h =
    let ends = ends_of hull tris e h in
    at ends.0 ends.1 ends.2 ends.3
  where
    at : (u v : ℕ) → Joins e u v → IsEnds hull tris u v → IsCandidate ps hull Off e
    at u v joins (pair p) = pair_candidate ps hull e u v hull_is joins p
    at u v joins (inside l none has) =
        let (k, t, k_in, at_k, side) = side_from tris u v (filter-from (is_inner hull) (flat_map sides tris) (u, v) has).0 in
        let w = side.0 in
        let empty = All-contains (IsEmpty ps) tris t are.empty (k, k_in, at_k) in
        let bare = IsBare-corners ps t u v w side.1 empty in
        candidate_off ps hull e u v joins bare.u_in bare.v_in (λ r r_in. none_between ps t u v w r empty side.1 r_in)
