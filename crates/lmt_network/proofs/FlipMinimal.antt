-- The edges of flip-minimal triangulations are closed lists, so they are live.
use Rattle.std.proofs.Common.{◌≡◌, ◌⊎◌, ℕ, ◌<◌, List, filter, flat_map, Contains, subst, inl, inr, arith}
use Rattle.std.proofs.lemmas.List.Elements.{All-contains}
use Rattle.exact_predicates.specs.declared.edge.Edge.{Edge}
use Rattle.exact_predicates.specs.declared.point.Point.{Point}
use Rattle.exact_predicates.specs.declared.tri.Tri.{Tri}
use Rattle.exact_predicates.specs.Triangulation.{HasCorners, IsTriangulation, sides, is_inner}
use Rattle.exact_predicates.specs.Flip.{IsMinimalBetween, IsMinimalIn}
use Rattle.exact_predicates.specs.Candidates.{Joins, IsCandidate}
use Rattle.lmt_network.specs.Live.{IsHullEdge, HasSupport}
use Rattle.lmt_network.proofs.Picked.{All-from_members}
use Rattle.lmt_network.proofs.EdgeLists.{edges_of}
use Rattle.lmt_network.proofs.SideEdges.{IsEnds, pair, inside, ends_of, hull_edge, tri_over}
use Rattle.lmt_network.specs.Edges.{IsEdgeOf, AreEdgesOf}
use Rattle.lmt_network.specs.FlipMinimal.{FlipMinimalIsClosed, FlipMinimalIsLive}

-- the support of an inner edge of a flip-minimal triangulation
support : (ps : List Point) (hull : List ℕ) (tris : List Tri) (es : List Edge) (e : Edge) (u v : ℕ) → IsTriangulation ps hull tris → AreEdgesOf hull tris es → Joins e u v → u < v → IsMinimalIn ps tris u v → HasSupport ps es e
support ps hull tris es e u v are edges_are joins up m =
    let (i, left, i_in, at_i, left_is) = m.on_left in
    let (j, right, j_in, at_j, right_is) = m.on_right in
    let a_is : u ≡ e.a = let j0 = joins.0 in omega arith in
    let b_is : v ≡ e.b = let j1 = joins.1 in omega arith in
    record {
      left = left;
      right = right;
      a = m.a;
      b = m.b;
      left_is = subst (λ (x : ℕ). HasCorners left x e.b m.a) a_is (subst (λ (y : ℕ). HasCorners left u y m.a) b_is left_is);
      right_is = subst (λ (y : ℕ). HasCorners right y e.a m.b) b_is (subst (λ (x : ℕ). HasCorners right v x m.b) a_is right_is);
      left_over = tri_over ps hull tris es left are edges_are.all (i, i_in, at_i);
      right_over = tri_over ps hull tris es right are edges_are.all (j, j_in, at_j);
      minimal = subst (λ (x : ℕ). IsMinimalBetween ps x e.b m.a m.b) a_is (subst (λ (y : ℕ). IsMinimalBetween ps u y m.a m.b) b_is m.minimal);
    }

pub closed_law : FlipMinimalIsClosed
closed_law ps hull diamond tris es f candidates edges_are =
    record {
      ascending = edges_are.ascending;
      candidates = All-from_members (IsCandidate ps hull diamond) es (λ e has. candidates e (All-contains (IsEdgeOf hull tris) es e edges_are.each has));
      supported = All-from_members (λ e. IsHullEdge hull e ⊎ HasSupport ps es e) es
          (λ e has. let ends = ends_of hull tris e (All-contains (IsEdgeOf hull tris) es e edges_are.each has) in at e ends.0 ends.1 ends.2 ends.3);
    }
  where
    at : (e : Edge) (u v : ℕ) → Joins e u v → IsEnds hull tris u v → IsHullEdge hull e ⊎ HasSupport ps es e
    at e u v joins (pair p) = inl (hull_edge hull e u v joins p)
    at e u v joins (inside l none has) =
        inr (support ps hull tris es e u v f.triangulation edges_are joins l
        (All-contains (λ s. IsMinimalIn ps tris s.0 s.1) (filter (is_inner hull) (flat_map sides tris)) (u, v) f.minimal has))

pub live_law : FlipMinimalIsLive
live_law ps hull diamond tris live f candidates is_live e h =
    let (es, edges_are) = edges_of hull tris in
    All-contains (Contains live) es e (is_live.greatest es (closed_law ps hull diamond tris es f candidates edges_are)) (edges_are.all e h)
