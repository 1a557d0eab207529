-- The lists of a report, by its two parts.
use Rattle.std.proofs.Common.{◌≡◌, ℕ, ◌+◌, ◌<◌, ◌≤◌, ◌^◌, None, List, [], ◌∷◌, ◌++◌, length, Ok, refl, ap, subst, ◌∙◌, arith, codes}
use Rattle.std.specs.List.{AllByRecursion}
use Rattle.mwt_base.specs.Limits.{most_edges, most_points, most_tiles}
use Rattle.exact_predicates.specs.Candidates.{EdgePrecedes}
use Rattle.exact_predicates.specs.Plane.{Precedes}
use Rattle.cert_text.specs.declared.limits.Limits.{Limits}
use Rattle.cert_text.specs.declared.parts.EdgePart.{EdgePart}
use Rattle.cert_text.specs.declared.parts.PointPart.{PointPart}
use Rattle.cert_text.specs.Lines.{point_in, hull_in, edge_in, tri_in, live_in, count_in}
use Rattle.cert_text.specs.Reading.{Place, value_at, block_at}
use Rattle.cert_text.specs.Rows.{point_may_follow, hull_may_follow, edge_may_follow, live_may_follow, tri_may_follow}
use Rattle.cert_text.specs.Texts.{lines_text, count_line, block, point_fields, hull_fields, edge_fields, tri_fields, live_fields}
use Rattle.cert_text.specs.Whole.{points_at, edges_at}
use Rattle.cert_text.specs.Within.{IsFrom, IsPointRow, IsHullRow, IsEdgeRow, IsTriRow, IsLiveRow, LivePrecedes, TriFollows}
use Rattle.cert_text.proofs.Lists.{block_takes, block_found}
use Rattle.cert_text.proofs.Orders.{IsChain}
use Rattle.cert_text.proofs.RowOrders.{chain_from, chain_to, points_order, edges_order, live_order, tris_order, hull_order}
use Rattle.cert_text.proofs.LiveKinds.{live_kind}
use Rattle.cert_text.proofs.RowKinds.{points_kind, hull_kind, edges_kind, tris_kind}
use Rattle.cert_text.proofs.LineKinds.{bind_ok}
use Rattle.cert_text.proofs.Shapes.{value_is}
use Rattle.cert_text.proofs.Taking.{Took, took_then, text_then, text_first, value_takes, value_found, Reaches}
use Rattle.cert_text.proofs.WordKinds.{count_kind}

-- the counts of a report are small
few_points : most_points + 1 ≤ 2 ^ 32
few_points = omega arith

few_edges : most_edges + 1 ≤ 2 ^ 32
few_edges = omega arith

few_tris : most_tiles + 1 ≤ 2 ^ 32
few_tris = omega arith

pub points_few : (n : ℕ) → IsFrom 3 (most_points + 1) n → n ≤ 2 ^ 32
points_few n h = let below = h.most in omega arith

hull_few : (n : ℕ) → IsFrom 3 (most_points + 1) n → n + 1 ≤ 2 ^ 32
hull_few n h = let below = h.most in omega arith

-- up to a most is below the next number
pub at_most : (m n : ℕ) → IsFrom 0 (m + 1) n → n ≤ m
at_most m n h = let below = h.most in omega arith

pub from_most : (m n : ℕ) → n ≤ m → IsFrom 0 (m + 1) n
from_most m n h = record { least = omega arith; most = omega arith }

pub from_below : (end n : ℕ) → n < end → IsFrom 0 end n
from_below end n h = record { least = omega arith; most = h }

-- the points, the hull and the number of candidate edges
pub record IsPointPart (part : PointPart) : Type 0 where
  pub points_count : IsFrom 3 (most_points + 1) (length part.points)
  pub points : AllByRecursion IsPointRow part.points
  pub points_ascend : IsChain Precedes None part.points
  pub hull_count : IsFrom 3 (length part.points + 1) (length part.hull)
  pub hull : AllByRecursion (IsHullRow (length part.points)) part.hull
  pub candidates : IsFrom 0 (most_edges + 1) part.candidates

abbrev pub points_of : PointPart → List (List ℕ)
points_of part =
    block (codes "points") point_fields part.points
    ++ (block (codes "hull") hull_fields part.hull ++ count_line (codes "candidates") part.candidates ∷ [])

pub points_take : (version : ℕ) (p : Place) (x : PointPart × Place) → points_at version p ≡ Ok x → Took p.rest (points_of x.0) x.1.rest × IsPointPart x.0
unfolding points_at
points_take version p x e =
    let a = bind_ok (block_at (codes "points") 3 (most_points + 1) point_in point_may_follow p) _ x e in
    let count = length a.0.0 in
    let limits : Limits = record { version = version; points = count } in
    let u = bind_ok (block_at (codes "hull") 3 (count + 1) (hull_in limits) hull_may_follow a.0.1) _ x a.2 in
    let c = bind_ok (value_at (count_in (codes "candidates") 0 (most_edges + 1)) u.0.1) _ x u.2 in
    let points = block_takes points_kind point_may_follow (codes "points") 3 (most_points + 1) refl few_points p a.0 a.1 in
    let hull = block_takes (hull_kind limits (points_few count points.1)) hull_may_follow (codes "hull") 3 (count + 1) refl (hull_few count points.1) a.0.1 u.0 u.1 in
    let candidates = value_takes (count_kind (codes "candidates") 0 (most_edges + 1) refl few_edges) u.0.1 c.0 c.1 in
    let made : PointPart × Place = (record { points = a.0.0; hull = u.0.0; candidates = c.0.0 }, c.0.1) in
    subst (λ (y : PointPart × Place). Took p.rest (points_of y.0) y.1.rest × IsPointPart y.0) (value_is made x c.2) (
      took_then points.0 (took_then hull.0 candidates.0),
      record {
        points_count = points.1;
        points = points.2;
        points_ascend = chain_from points_order None a.0.0 points.3;
        hull_count = hull.1;
        hull = hull.2;
        candidates = candidates.1;
      },
    )

pub points_found : (version : ℕ) (part : PointPart) → IsPointPart part → (n : ℕ) (rest : List ℕ)
    → Reaches (points_at version (record { number = n; rest = lines_text (points_of part) ++ rest })) part rest
unfolding points_at
points_found version part is n rest =
    let points = block (codes "points") point_fields part.points in
    let hull = block (codes "hull") hull_fields part.hull in
    let candidates = count_line (codes "candidates") part.candidates in
    let behind_hull = candidates ++ 10 ∷ rest in
    let behind_points = lines_text hull ++ behind_hull in
    let text : lines_text (points ++ (hull ++ candidates ∷ [])) ++ rest ≡ lines_text points ++ behind_points =
    text_then points (hull ++ candidates ∷ []) rest
    ∙ ap (λ (x : List ℕ). lines_text points ++ x) (text_then hull (candidates ∷ []) rest ∙ ap (λ (x : List ℕ). lines_text hull ++ x) (text_first candidates [] rest)) in
    let limits : Limits = record { version = version; points = length part.points } in
    let p = block_found points_kind point_may_follow (codes "points") 3 (most_points + 1) refl few_points part.points is.points_count is.points
    (chain_to points_order None part.points is.points_ascend) n behind_points in
    let u = block_found (hull_kind limits (points_few (length part.points) is.points_count)) hull_may_follow (codes "hull") 3 (length part.points + 1) refl
    (hull_few (length part.points) is.points_count) part.hull is.hull_count is.hull (hull_order None part.hull) p.number behind_hull in
    let c = value_found (count_kind (codes "candidates") 0 (most_edges + 1) refl few_edges) part.candidates is.candidates u.number rest in
    record {
      number = u.number + 1;
      is = ap (λ (x : List ℕ). points_at version (record { number = n; rest = x })) text ∙ rw (p.is, u.is, c) refl;
    }

-- the live edges, the skeleton and the triangles
pub record IsEdgePart (version points : ℕ) (part : EdgePart) : Type 0 where
  pub live_count : IsFrom 0 (most_edges + 1) (length part.live)
  pub live : AllByRecursion (IsLiveRow version points) part.live
  pub live_ascend : IsChain LivePrecedes None part.live
  pub skeleton_count : IsFrom 0 (most_edges + 1) (length part.skeleton)
  pub skeleton : AllByRecursion (IsEdgeRow points) part.skeleton
  pub skeleton_ascends : IsChain EdgePrecedes None part.skeleton
  pub tris_count : IsFrom 0 (most_tiles + 1) (length part.tris)
  pub tris : AllByRecursion (IsTriRow points) part.tris
  pub tris_ascend : IsChain TriFollows None part.tris

abbrev pub edges_of : EdgePart → List (List ℕ)
edges_of part =
    block (codes "live") live_fields part.live
    ++ (block (codes "skeleton") edge_fields part.skeleton ++ block (codes "triangles") tri_fields part.tris)

pub edges_take : (limits : Limits) → limits.points ≤ 2 ^ 32 → (p : Place) (x : EdgePart × Place) → edges_at limits p ≡ Ok x
    → Took p.rest (edges_of x.0) x.1.rest × IsEdgePart limits.version limits.points x.0
unfolding edges_at
edges_take limits few p x e =
    let l = bind_ok (block_at (codes "live") 0 (most_edges + 1) (live_in limits) live_may_follow p) _ x e in
    let s = bind_ok (block_at (codes "skeleton") 0 (most_edges + 1) (edge_in limits) edge_may_follow l.0.1) _ x l.2 in
    let t = bind_ok (block_at (codes "triangles") 0 (most_tiles + 1) (tri_in limits) tri_may_follow s.0.1) _ x s.2 in
    let live = block_takes (live_kind limits few) live_may_follow (codes "live") 0 (most_edges + 1) refl few_edges p l.0 l.1 in
    let skeleton = block_takes (edges_kind limits few) edge_may_follow (codes "skeleton") 0 (most_edges + 1) refl few_edges l.0.1 s.0 s.1 in
    let tris = block_takes (tris_kind limits few) tri_may_follow (codes "triangles") 0 (most_tiles + 1) refl few_tris s.0.1 t.0 t.1 in
    let made : EdgePart × Place = (record { live = l.0.0; skeleton = s.0.0; tris = t.0.0 }, t.0.1) in
    subst (λ (y : EdgePart × Place). Took p.rest (edges_of y.0) y.1.rest × IsEdgePart limits.version limits.points y.0) (value_is made x t.2) (
      took_then live.0 (took_then skeleton.0 tris.0),
      record {
        live_count = live.1;
        live = live.2;
        live_ascend = chain_from live_order None l.0.0 live.3;
        skeleton_count = skeleton.1;
        skeleton = skeleton.2;
        skeleton_ascends = chain_from edges_order None s.0.0 skeleton.3;
        tris_count = tris.1;
        tris = tris.2;
        tris_ascend = chain_from tris_order None t.0.0 tris.3;
      },
    )

pub edges_found : (limits : Limits) → limits.points ≤ 2 ^ 32 → (part : EdgePart) → IsEdgePart limits.version limits.points part → (n : ℕ) (rest : List ℕ)
    → Reaches (edges_at limits (record { number = n; rest = lines_text (edges_of part) ++ rest })) part rest
unfolding edges_at
edges_found limits few part is n rest =
    let live = block (codes "live") live_fields part.live in
    let skeleton = block (codes "skeleton") edge_fields part.skeleton in
    let tris = block (codes "triangles") tri_fields part.tris in
    let behind_skeleton = lines_text tris ++ rest in
    let behind_live = lines_text skeleton ++ behind_skeleton in
    let text : lines_text (live ++ (skeleton ++ tris)) ++ rest ≡ lines_text live ++ behind_live =
    text_then live (skeleton ++ tris) rest ∙ ap (λ (x : List ℕ). lines_text live ++ x) (text_then skeleton tris rest) in
    let l = block_found (live_kind limits few) live_may_follow (codes "live") 0 (most_edges + 1) refl few_edges part.live is.live_count is.live
    (chain_to live_order None part.live is.live_ascend) n behind_live in
    let s = block_found (edges_kind limits few) edge_may_follow (codes "skeleton") 0 (most_edges + 1) refl few_edges part.skeleton is.skeleton_count is.skeleton
    (chain_to edges_order None part.skeleton is.skeleton_ascends) l.number behind_skeleton in
    let t = block_found (tris_kind limits few) tri_may_follow (codes "triangles") 0 (most_tiles + 1) refl few_tris part.tris is.tris_count is.tris
    (chain_to tris_order None part.tris is.tris_ascend) s.number rest in
    record {
      number = t.number;
      is = ap (λ (x : List ℕ). edges_at limits (record { number = n; rest = x })) text ∙ rw (l.is, s.is, t.is) refl;
    }
