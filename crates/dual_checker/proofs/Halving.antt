-- What the half-edges of triangles say of the triangles.
use Rattle.std.proofs.Common.{◌≡◌, ℕ, Bool, zero, suc, ◌<◌, ◌≤◌, true, false, cond, List, [], ◌∷◌, length, get_or, filter, flat_map, count_by, sum_by, Any, Contains, IsPermutation, refl, sym, ap, subst, ◌∙◌, arith, inl, inr}
use Rattle.std.proofs.lemmas.List.Elements.{Contains-append_left, Contains-append_right, Contains-append_cases, All-filter, All-contains_itself, filter_passes}
use Rattle.std.proofs.lemmas.List.Sorted.{sum_by-IsPermutation, Contains-permutation, IsPermutation-sym}
use Rattle.std.proofs.lemmas.List.Sums.{sum_by-cons, get_or-le-sum_by}
use Rattle.exact_predicates.specs.declared.tri.Tri.{Tri}
use Rattle.exact_predicates.specs.Triangulation.{sides, hit, side_count, HasCorners}
use Rattle.exact_predicates.proofs.Elements.{sum_by-some}
use Rattle.exact_predicates.proofs.Pairs.{is_side_decides}
use Rattle.exact_predicates.proofs.Sides.{sum_by-flat_map}
use Rattle.lmt_network.proofs.Filters.{side_from, side_to}
use Rattle.dual_checker.specs.declared.half_edges.HalfEdge.{HalfEdge}
use Rattle.dual_checker.specs.declared.half_edges.Side.{Side}
use Rattle.dual_checker.specs.HalfEdges.{half_edge, half_edges_of, half_edges, side_of, is_on}

-- the sides of a triangle are counted alike
counted_one : (t : Tri) (s : Side) → count_by (is_on s) (half_edges_of t) ≡ sum_by (hit s.from s.to) (sides t)
unfolding hit
counted_one t s = refl

counted : (s : Side) (ts : List Tri) → sum_by (λ t. count_by (is_on s) (half_edges_of t)) ts ≡ sum_by (λ t. sum_by (hit s.from s.to) (sides t)) ts
counted s [] = refl
counted s (t ∷ ts) =
    omega (
      arith,
      sum_by-cons (λ u. count_by (is_on s) (half_edges_of u)) t ts,
      sum_by-cons (λ u. sum_by (hit s.from s.to) (sides u)) t ts,
      counted_one t s,
      counted s ts,
    )

-- and so are those of all triangles, in any order
pub count-half_edges : (tris : List Tri) (halves : List HalfEdge) (s : Side) → IsPermutation (half_edges tris) halves
    → count_by (is_on s) halves ≡ side_count tris s.from s.to
count-half_edges tris halves s p =
    let f : HalfEdge → ℕ = λ h. cond (is_on s h) 1 0 in
    sum_by-IsPermutation f (half_edges tris) halves p
    ∙ (sum_by-flat_map f half_edges_of tris ∙ (counted s tris ∙ sym (sum_by-flat_map (hit s.from s.to) sides tris)))

-- a part of a member is a part of the list
Contains-flat_map : {X Y : Type 0} (f : X → List Y) (xs : List X) (i : ℕ) (x : X) (y : Y) → i < length xs → get_or xs i x ≡ x → Contains (f x) y → Contains (flat_map f xs) y
Contains-flat_map f [] i x y inside at has = absurd (omega arith)
Contains-flat_map {X = X} f (z ∷ xs) zero x y inside at has =
    let here : Contains (f z) y = subst (λ (w : X). Contains (f w) y) (sym at) has in
    Contains-append_left (f z) (flat_map f xs) y here
Contains-flat_map f (z ∷ xs) (suc i) x y inside at has =
    Contains-append_right (f z) (flat_map f xs) y (Contains-flat_map f xs i x y (omega arith) at has)

-- a triangle's half-edges are its corners
half_edge_of : (t : Tri) (u v w : ℕ) → HasCorners t u v w → Contains (half_edges_of t) (half_edge u v w)
half_edge_of t u v w (inl e) = (0, omega arith, rw (e.0, e.1, e.2) refl)
half_edge_of t u v w (inr (inl e)) = (1, omega arith, rw (e.0, e.1, e.2) refl)
half_edge_of t u v w (inr (inr e)) = (2, omega arith, rw (e.0, e.1, e.2) refl)

corners_of : (t : Tri) (h : HalfEdge) → Contains (half_edges_of t) h → HasCorners t h.side.from h.side.to h.apex
corners_of t h (zero, inside, at) = inl (ap (λ (x : HalfEdge). x.side.from) at, ap (λ (x : HalfEdge). x.side.to) at, ap (λ (x : HalfEdge). x.apex) at)
corners_of t h (suc zero, inside, at) = inr (inl (ap (λ (x : HalfEdge). x.side.from) at, ap (λ (x : HalfEdge). x.side.to) at, ap (λ (x : HalfEdge). x.apex) at))
corners_of t h (suc (suc zero), inside, at) = inr (inr (ap (λ (x : HalfEdge). x.side.from) at, ap (λ (x : HalfEdge). x.side.to) at, ap (λ (x : HalfEdge). x.apex) at))
corners_of t h (suc (suc (suc k)), inside, at) = absurd (omega arith)

corners_in : (tris : List Tri) (h : HalfEdge) → Contains (half_edges tris) h → Any (λ t. HasCorners t h.side.from h.side.to h.apex) tris
corners_in [] h (k, inside, at) = absurd (omega arith)
corners_in (t ∷ ts) h has = elim (Contains-append_cases (half_edges_of t) (half_edges ts) h has) [
  | inl here ↦ (0, t, omega arith, refl, corners_of t h here)
  | inr there ↦ let (k, u, inside, at, is) = corners_in ts h there in (suc k, u, omega arith, at, is)
]

pub Contains-corners : (tris : List Tri) (halves : List HalfEdge) (u v w : ℕ) → IsPermutation (half_edges tris) halves
    → Any (λ t. HasCorners t u v w) tris → Contains halves (half_edge u v w)
Contains-corners tris halves u v w p (k, t, inside, at, is) =
    Contains-permutation (half_edges tris) halves (half_edge u v w) p
    (Contains-flat_map half_edges_of tris k t (half_edge u v w) inside at (half_edge_of t u v w is))

pub corners-Contains : (tris : List Tri) (halves : List HalfEdge) (h : HalfEdge) → IsPermutation (half_edges tris) halves
    → Contains halves h → Any (λ t. HasCorners t h.side.from h.side.to h.apex) tris
corners-Contains tris halves h p has =
    corners_in tris h (Contains-permutation halves (half_edges tris) h (IsPermutation-sym (half_edges tris) halves p) has)

-- a side that is counted has a half-edge
pub on_counted : (halves : List HalfEdge) (s : Side) → 1 ≤ count_by (is_on s) halves → (h : HalfEdge) × Contains halves h × (h.side ≡ s)
on_counted halves s some =
    let (k, h, inside, at, one) = sum_by-some (λ h. cond (is_on s h) 1 0) halves some in
    let on : is_on s h ≡ true = passes (is_on s h) one in
    let same = (is_side_decides s.from s.to h.side.from h.side.to).0 on in
    (h, (k, inside, at), ap (λ (u : ℕ). record { from = u; to = h.side.to }) same.0 ∙ ap (λ (v : ℕ). record { from = s.from; to = v }) same.1) where
      passes : (b : Bool) → 1 ≤ cond b 1 0 → b ≡ true
      passes true one = refl
      passes false one = absurd (omega arith)

-- and a side with a half-edge is counted
pub counted_on : (halves : List HalfEdge) (h : HalfEdge) → Contains halves h → 1 ≤ count_by (is_on h.side) halves
counted_on halves h (k, inside, at) =
    let f : HalfEdge → ℕ = λ g. cond (is_on h.side g) 1 0 in
    let on : is_on h.side h ≡ true = (is_side_decides h.side.from h.side.to h.side.from h.side.to).1 (refl, refl) in
    omega (arith, get_or-le-sum_by f halves k h inside, ap f at, ap {B = ℕ} (λ (b : Bool). cond b 1 0) on)

-- members of what a filter keeps
pub filter-Contains : {X : Type 0} (p : X → Bool) (xs : List X) (x : X) → Contains (filter p xs) x → Contains xs x × (p x ≡ true)
filter-Contains {X = X} p xs x (k, inside, at) =
    let P : X → Type 0 = λ y. Contains xs y × (p y ≡ true) in
    subst P at (
      All-filter p (Contains xs) xs (All-contains_itself xs) k x inside,
      filter_passes p xs k x inside,
    )

pub Contains-filter : {X : Type 0} (p : X → Bool) (xs : List X) (x : X) → Contains xs x → p x ≡ true → Contains (filter p xs) x
Contains-filter p [] x (k, inside, at) passes = absurd (omega arith)
Contains-filter {X = X} p (y ∷ ys) x (zero, inside, at) passes =
    let here : p y ≡ true = ap p at ∙ passes in
    subst (λ (b : Bool). Contains (cond b (y ∷ filter p ys) (filter p ys)) x) (sym here) (0, omega arith, at)
Contains-filter p (y ∷ ys) x (suc k, inside, at) passes = later (p y) (Contains-filter p ys x (k, omega arith, at) passes) where
  later : (b : Bool) → Contains (filter p ys) x → Contains (cond b (y ∷ filter p ys) (filter p ys)) x
  later true (j, j_in, at_j) = (suc j, omega arith, at_j)
  later false has = has

-- the sides of triangles are those of their half-edges
pub side_halved : (tris : List Tri) (halves : List HalfEdge) (e : ℕ × ℕ) → IsPermutation (half_edges tris) halves → Contains (flat_map sides tris) e
    → (h : HalfEdge) × Contains halves h × (h.side ≡ side_of e)
side_halved tris halves e p has =
    let (k, t, inside, at, (w, corners)) = side_from tris e.0 e.1 has in
    (half_edge e.0 e.1 w, Contains-corners tris halves e.0 e.1 w p (k, t, inside, at, corners), refl)

pub halved_side : (tris : List Tri) (halves : List HalfEdge) (h : HalfEdge) → IsPermutation (half_edges tris) halves → Contains halves h → Contains (flat_map sides tris) (h.side.from, h.side.to)
halved_side tris halves h p has =
    let (k, t, inside, at, corners) = corners-Contains tris halves h p has in
    side_to tris h.side.from h.side.to (k, t, inside, at, (h.apex, corners))
