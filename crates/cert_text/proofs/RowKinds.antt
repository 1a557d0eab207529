-- The kinds of rows: points, points of the hull, edges, triangles.
use Rattle.std.proofs.Common.{◌≡◌, ℕ, ◌<◌, ◌≤◌, ◌^◌, true, List, [], ◌∷◌, Ok, refl, sym, ap, subst, ◌∙◌, arith, decimal}
use Rattle.std.proofs.lemmas.Bool.{and_from}
use Rattle.exact_predicates.specs.declared.edge.Edge.{Edge}
use Rattle.exact_predicates.specs.declared.point.Point.{Point}
use Rattle.exact_predicates.specs.declared.tri.Tri.{Tri}
use Rattle.cert_text.specs.declared.limits.Limits.{Limits}
use Rattle.cert_text.specs.Lines.{point_in, index_in, hull_in, ends_in, edge_in, tri_in}
use Rattle.cert_text.specs.Texts.{point_fields, hull_fields, edge_fields, tri_fields}
use Rattle.cert_text.specs.Within.{IsPointRow, IsHullRow, IsEdgeRow, IsTriRow}
use Rattle.cert_text.proofs.Cutting.{is_plain}
use Rattle.cert_text.proofs.FieldTexts.{number_takes, number_found, number_plain, coordinate_takes, coordinate_found, coordinate_plain}
use Rattle.cert_text.proofs.LineKinds.{IsKind, ◌∷≡◌, both_ok, bind_ok}
use Rattle.cert_text.proofs.Shapes.{value_is, edge_again, edge_takes, tri_again, tri_takes}

-- points
point_takes : (fs : List (List ℕ)) (p : Point) → point_in fs ≡ Ok p → (fs ≡ point_fields p) × IsPointRow p
unfolding point_in
point_takes (id ∷ x ∷ y ∷ []) p e =
    let w = bind_ok _ _ p e in
    let b = both_ok _ _ w.0 w.1 in
    let a = both_ok _ _ w.0.0 b.0 in
    let i = number_takes 0 (2 ^ 32) id w.0.0.0 (omega arith) a.0 in
    let j = coordinate_takes x w.0.0.1 a.1 in
    let k = coordinate_takes y w.0.1 b.1 in
    subst (λ (q : Point). (id ∷ x ∷ y ∷ [] ≡ point_fields q) × IsPointRow q) (value_is _ p w.2) (
      i.0 ∷≡ j.0 ∷≡ k.0 ∷≡ refl,
      record { id = i.1.most; place = record { left = j.1.least; right = j.1.most; low = k.1.least; high = k.1.most } },
    )
point_takes fs p e = absurd cc

point_found : (p : Point) → IsPointRow p → point_in (point_fields p) ≡ Ok p
unfolding point_in
point_found p h =
    rw (
      number_found 0 (2 ^ 32) p.id (omega arith) (record { least = omega arith; most = h.id }),
      coordinate_found p.x (record { least = h.place.left; most = h.place.right }),
      coordinate_found p.y (record { least = h.place.low; most = h.place.high }),
    ) refl

pub points_kind : IsKind point_in point_fields IsPointRow
points_kind = record {
  takes = point_takes;
  found = point_found;
  plain = λ p h. and_from _ _ (let i = h.id in number_plain p.id (omega arith))
      (and_from _ _ (coordinate_plain p.x (record { least = h.place.left; most = h.place.right }))
      (and_from _ _ (coordinate_plain p.y (record { least = h.place.low; most = h.place.high })) refl));
  some = λ p. omega arith;
}

-- numbers of points
index_takes : (limits : Limits) (t : List ℕ) (n : ℕ) → limits.points ≤ 2 ^ 32 → index_in limits t ≡ Ok n → (t ≡ decimal n) × (n < limits.points)
index_takes limits t n few e = let k = number_takes 0 limits.points t n few e in (k.0, k.1.most)

index_found : (limits : Limits) (n : ℕ) → limits.points ≤ 2 ^ 32 → n < limits.points → index_in limits (decimal n) ≡ Ok n
index_found limits n few h = number_found 0 limits.points n few (record { least = omega arith; most = h })

index_plain : (limits : Limits) (n : ℕ) → limits.points ≤ 2 ^ 32 → n < limits.points → is_plain (decimal n) ≡ true
index_plain limits n few h = number_plain n (omega arith)

hull_takes : (limits : Limits) → limits.points ≤ 2 ^ 32 → (fs : List (List ℕ)) (u : ℕ) → hull_in limits fs ≡ Ok u → (fs ≡ hull_fields u) × IsHullRow limits.points u
unfolding hull_in
hull_takes limits few (t ∷ []) u e = let k = index_takes limits t u few e in (k.0 ∷≡ refl, k.1)
hull_takes limits few fs u e = absurd cc

hull_found : (limits : Limits) → limits.points ≤ 2 ^ 32 → (u : ℕ) → IsHullRow limits.points u → hull_in limits (hull_fields u) ≡ Ok u
unfolding hull_in
hull_found limits few u h = index_found limits u few h

pub hull_kind : (limits : Limits) → limits.points ≤ 2 ^ 32 → IsKind (hull_in limits) hull_fields (IsHullRow limits.points)
hull_kind limits few = record {
  takes = hull_takes limits few;
  found = hull_found limits few;
  plain = λ u h. and_from _ _ (index_plain limits u few h) refl;
  some = λ u. omega arith;
}

-- edges by their ends
pub ends_takes : (limits : Limits) → limits.points ≤ 2 ^ 32 → (a b : List ℕ) (e : Edge) → ends_in limits a b ≡ Ok e
    → (a ≡ decimal e.a) × (b ≡ decimal e.b) × IsEdgeRow limits.points e
unfolding ends_in
ends_takes limits few a b e h =
    let w = bind_ok _ _ e h in
    let p = both_ok _ _ w.0 w.1 in
    let i = index_takes limits a w.0.0 few p.0 in
    let j = index_takes limits b w.0.1 few p.1 in
    let ends = edge_takes w.0.0 w.0.1 e w.2 in
    (i.0 ∙ ap decimal (sym ends.0), j.0 ∙ ap decimal (sym ends.1), rw ends.1 j.1)

pub ends_found : (limits : Limits) → limits.points ≤ 2 ^ 32 → (e : Edge) → IsEdgeRow limits.points e → ends_in limits (decimal e.a) (decimal e.b) ≡ Ok e
unfolding ends_in
ends_found limits few e h =
    let l = e.ascending in
    rw (index_found limits e.a few (omega arith), index_found limits e.b few h) (edge_again e)

pub ends_plain : (limits : Limits) → limits.points ≤ 2 ^ 32 → (e : Edge) → IsEdgeRow limits.points e → (is_plain (decimal e.a) ≡ true) × (is_plain (decimal e.b) ≡ true)
ends_plain limits few e h = let l = e.ascending in (index_plain limits e.a few (omega arith), index_plain limits e.b few h)

line_takes : (limits : Limits) → limits.points ≤ 2 ^ 32 → (fs : List (List ℕ)) (e : Edge) → edge_in limits fs ≡ Ok e → (fs ≡ edge_fields e) × IsEdgeRow limits.points e
unfolding edge_in
line_takes limits few (a ∷ b ∷ []) e h = let k = ends_takes limits few a b e h in (k.0 ∷≡ k.1 ∷≡ refl, k.2)
line_takes limits few fs e h = absurd cc

line_found : (limits : Limits) → limits.points ≤ 2 ^ 32 → (e : Edge) → IsEdgeRow limits.points e → edge_in limits (edge_fields e) ≡ Ok e
unfolding edge_in
line_found limits few e h = ends_found limits few e h

pub edges_kind : (limits : Limits) → limits.points ≤ 2 ^ 32 → IsKind (edge_in limits) edge_fields (IsEdgeRow limits.points)
edges_kind limits few = record {
  takes = line_takes limits few;
  found = line_found limits few;
  plain = λ e h. let k = ends_plain limits few e h in and_from _ _ k.0 (and_from _ _ k.1 refl);
  some = λ e. omega arith;
}

-- triangles
corners_take : (limits : Limits) → limits.points ≤ 2 ^ 32 → (fs : List (List ℕ)) (t : Tri) → tri_in limits fs ≡ Ok t → (fs ≡ tri_fields t) × IsTriRow limits.points t
unfolding tri_in
corners_take limits few (a ∷ b ∷ c ∷ []) t h =
    let w = bind_ok _ _ t h in
    let p = both_ok _ _ w.0 w.1 in
    let q = both_ok _ _ w.0.0 p.0 in
    let i = index_takes limits a w.0.0.0 few q.0 in
    let j = index_takes limits b w.0.0.1 few q.1 in
    let k = index_takes limits c w.0.1 few p.1 in
    let corners = tri_takes w.0.0.0 w.0.0.1 w.0.1 t w.2 in (
      (i.0 ∙ ap decimal (sym corners.0)) ∷≡ (j.0 ∙ ap decimal (sym corners.1)) ∷≡ (k.0 ∙ ap decimal (sym corners.2)) ∷≡ refl,
      record { b = rw corners.1 j.1; c = rw corners.2 k.1 },
    )
corners_take limits few fs t h = absurd cc

corners_found : (limits : Limits) → limits.points ≤ 2 ^ 32 → (t : Tri) → IsTriRow limits.points t → tri_in limits (tri_fields t) ≡ Ok t
unfolding tri_in
corners_found limits few t h =
    let l = t.below_b in
    let b = h.b in
    rw (index_found limits t.a few (omega arith), index_found limits t.b few h.b, index_found limits t.c few h.c) (tri_again t)

pub tris_kind : (limits : Limits) → limits.points ≤ 2 ^ 32 → IsKind (tri_in limits) tri_fields (IsTriRow limits.points)
tris_kind limits few = record {
  takes = corners_take limits few;
  found = corners_found limits few;
  plain = λ t h.
      let l = t.below_b in
      let b = h.b in
      and_from _ _ (index_plain limits t.a few (omega arith)) (and_from _ _ (index_plain limits t.b few h.b) (and_from _ _ (index_plain limits t.c few h.c) refl));
  some = λ t. omega arith;
}
