-- What the parts of a network keep, from what a caller knows of them.
use Rattle.std.proofs.Common.{◌≢◌, ℕ, ◌+◌, ◌≤◌, List, length, get_or, All, sym, ◌∙◌, inl, ⊎_elim, arith}
use Rattle.std.proofs.lemmas.List.Elements.{Contains-get_or}
use Rattle.mwt_base.specs.Limits.{most_edges, most_triangles}
use Rattle.exact_predicates.specs.declared.diamond.Diamond.{Diamond}
use Rattle.exact_predicates.specs.declared.diamond.Diamond.TheVariants.{Off, On}
use Rattle.exact_predicates.specs.declared.edge.Edge.{Edge}
use Rattle.exact_predicates.specs.declared.point.Point.{Point}
use Rattle.exact_predicates.specs.declared.tri.Tri.{Tri}
use Rattle.exact_predicates.specs.Candidates.{Joins, HasEdge, IsCandidate, AreCandidates, AreTrianglesOver}
use Rattle.exact_predicates.specs.Hull.{IsHull, IsHullPair, ring_pairs}
use Rattle.exact_predicates.specs.PointSet.{IsPointSet}
use Rattle.exact_predicates.proofs.Equalities.{Joins-ends, Joins-comm, HasEdge-Contains}
use Rattle.exact_predicates.proofs.Rings.{place_of_pair}
use Rattle.lmt_network.specs.Live.{IsHullEdge}
use Rattle.lmt_network.specs.Network.{NetworkParts, IsNetwork}
use Rattle.lmt_network.specs.Tables.{HasSidesIn}
use Rattle.lmt_network.proofs.CandidateEdges.{pair_candidate}
use Rattle.lmt_network.proofs.SideEdges.{edge_between, hull_edge}

clear_candidate : (ps : List Point) (hull : List ℕ) (e : Edge) → IsHull ps hull → IsHullEdge hull e → IsCandidate ps hull Off e
clear_candidate ps hull e hull_is h =
    ⊎_elim
    (λ p. pair_candidate ps hull e e.a e.b hull_is (Joins-ends e) p)
    (λ p. pair_candidate ps hull e e.b e.a hull_is (Joins-comm e e.a e.b (Joins-ends e)) p)
    h

-- an edge of the hull is a candidate, whatever the test
pub hull_candidate : (ps : List Point) (hull : List ℕ) (diamond : Diamond) (e : Edge) → IsHull ps hull → IsHullEdge hull e → IsCandidate ps hull diamond e
hull_candidate ps hull Off e hull_is h = clear_candidate ps hull e hull_is h
hull_candidate ps hull On e hull_is h = let c = clear_candidate ps hull e hull_is h in record { b_in = c.b_in; clear = c.clear; passes = inl h }

-- the two members of a pair of the hull are two points
hull_apart : (ps : List Point) (hull : List ℕ) (u v : ℕ) → IsHull ps hull → IsHullPair hull u v → u ≢ v
hull_apart ps hull u v hull_is p same =
    let (k, k_in, at_k, next) = place_of_pair hull u v p in
    let three = hull_is.three in
    ⊎_elim
    (λ n. hull_is.distinct k (k + 1) 0 (omega arith) n.0 (at_k ∙ (same ∙ sym n.1)))
    (λ n. hull_is.distinct 0 k 0 (omega (arith, n.0)) k_in (n.1 ∙ (sym same ∙ sym at_k)))
    next

-- each pair of the hull is an edge among the candidates
pub hull_there : (ps : List Point) (hull : List ℕ) (diamond : Diamond) (es : List Edge) → IsHull ps hull → AreCandidates ps hull diamond es → All (λ s. HasEdge es s.0 s.1) (ring_pairs hull)
hull_there ps hull diamond es hull_is are k d k_in =
    let s = get_or (ring_pairs hull) k d in
    let p : IsHullPair hull s.0 s.1 = Contains-get_or (ring_pairs hull) k d k_in in
    let e = edge_between s.0 s.1 (hull_apart ps hull s.0 s.1 hull_is p) in
    HasEdge-Contains es e.0 s.0 s.1 e.1 (are.all e.0 (hull_candidate ps hull diamond e.0 hull_is (at e.0 s.0 s.1 e.1 p)))
  where
    at : (e : Edge) (u v : ℕ) → Joins e u v → IsHullPair hull u v → IsHullEdge hull e
    at e u v joins p = hull_edge hull e u v joins p

-- the sides of triangles over some edges
pub sides_there : (ps : List Point) (es : List Edge) (ts : List Tri) → AreTrianglesOver ps es ts → All (HasSidesIn es) ts
sides_there ps es ts are k d k_in =
    let t = are.each k d k_in in
    record { ab = t.ab; bc = t.bc; ca = t.ca }

-- so they make a network
pub network_of : (n : NetworkParts) (diamond : Diamond) → IsPointSet n.points → IsHull n.points n.hull → AreCandidates n.points n.hull diamond n.edges → AreTrianglesOver n.points n.edges n.tris
    → length n.edges ≤ most_edges → length n.tris ≤ most_triangles → IsNetwork n
network_of n diamond points_are hull_is candidates triangles few_edges few_tris =
    record {
      points_are = points_are;
      hull_is = hull_is;
      ascending = candidates.ascending;
      ends_in = λ k d k_in. (candidates.each k d k_in).b_in;
      clear = λ k d k_in. (candidates.each k d k_in).clear;
      hull_edges = λ e h. candidates.all e (hull_candidate n.points n.hull diamond e hull_is h);
      tris_are = triangles;
      few_edges = few_edges;
      few_tris = few_tris;
    }
