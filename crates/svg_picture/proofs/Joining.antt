-- Each edge that is drawn joins two of the points.
use Rattle.std.proofs.Common.{◌≡◌, ℕ, ◌<◌, List, [], ◌∷◌, length, map, All, arith}
use Rattle.std.specs.Prelude.{flat_map}
use Rattle.std.proofs.lemmas.List.Elements.{All-append, All-cons, All-filter, All-head, All-map, All-nil, All-tail, All-weaker}
use Rattle.exact_predicates.specs.declared.edge.Edge.{Edge}
use Rattle.exact_predicates.specs.declared.tri.Tri.{Tri}
use Rattle.exact_predicates.specs.Triangulation.{sides}
use Rattle.cert_text.specs.declared.report.PriceLine.{PriceLine}
use Rattle.cert_text.specs.declared.report.Report.{Report}
use Rattle.cert_text.specs.Within.{IsEdgeRow, IsLiveRow, IsTriRow, IsWithin}
use Rattle.svg_picture.specs.Edges.{edges_once, ends, is_once, is_other, other_edges, skeleton_edges, tri_sides}

-- both ends are below n
abbrev pub Joins : ℕ → ℕ × ℕ → Type 0
Joins n s = (s.0 < n) × (s.1 < n)

edge_joins : (n : ℕ) (e : Edge) → IsEdgeRow n e → Joins n (ends e)
edge_joins n e h = let up = e.ascending in (omega (arith, up, h), h)

sides_join : (n : ℕ) (ts : List Tri) → All (IsTriRow n) ts → All (Joins n) (flat_map sides ts)
sides_join n [] h = All-nil (Joins n)
sides_join n (t ∷ ts) h =
    let row = All-head (IsTriRow n) t ts h in
    let b = row.b in
    let c = row.c in
    let up = t.below_b in
    let a : t.a < n = omega arith in
    All-append (Joins n) (sides t) (flat_map sides ts)
    (All-cons (Joins n) (t.a, t.b) ((t.b, t.c) ∷ (t.c, t.a) ∷ []) (a, b)
    (All-cons (Joins n) (t.b, t.c) ((t.c, t.a) ∷ []) (b, c) (All-cons (Joins n) (t.c, t.a) [] (c, a) (All-nil (Joins n)))))
    (sides_join n ts (All-tail (IsTriRow n) t ts h))

module _ (r : Report) (n : ℕ) (w : IsWithin r) (all : n ≡ length r.points) where
  pub others_join : All (Joins n) (other_edges r)
  others_join =
      rw all
      (All-filter (is_other (skeleton_edges r) (tri_sides r)) (Joins (length r.points)) (map (λ (l : PriceLine). ends l.edge) r.live)
      (All-map (Joins (length r.points)) (λ (l : PriceLine). ends l.edge) r.live
      (All-weaker (IsLiveRow r.version (length r.points)) (λ l. Joins (length r.points) (ends l.edge)) (λ l h. edge_joins (length r.points) l.edge h.edge) r.live w.live)))

  pub triangulation_joins : All (Joins n) (edges_once (tri_sides r))
  triangulation_joins = rw all (All-filter (is_once (tri_sides r)) (Joins (length r.points)) (tri_sides r) (sides_join (length r.points) r.tris w.tris))

  pub skeleton_joins : All (Joins n) (skeleton_edges r)
  skeleton_joins =
      rw all
      (All-map (Joins (length r.points)) ends r.skeleton
      (All-weaker (IsEdgeRow (length r.points)) (λ e. Joins (length r.points) (ends e)) (λ e h. edge_joins (length r.points) e h) r.skeleton w.skeleton))
