-- Locally minimal pairs, by the points of their quadrilateral.
use Rattle.std.proofs.Common.{◌≡◌, ◌⊎◌, ◌↔◌, ℕ, ◌<◌, ◌≤◌, Bool, List, length, IsTrue, sym, ◌∙◌, subst, ⊎_elim, inl, inr, arith, not, ap}
use Rattle.std.proofs.lemmas.Bool.{false≢true, cases_Bool}
use Rattle.exact_predicates.specs.declared.edge.Edge.{Edge}
use Rattle.exact_predicates.specs.declared.point.Point.{Point}
use Rattle.exact_predicates.specs.declared.tri.Tri.{Tri}
use Rattle.exact_predicates.specs.Plane.{d2, Crosses}
use Rattle.exact_predicates.specs.PointSet.{point_at}
use Rattle.exact_predicates.specs.Triangulation.{HasCorners}
use Rattle.exact_predicates.specs.Flip.{IsMinimalBetween}
use Rattle.exact_predicates.proofs.Corners.{corner_once}
use Rattle.lmt_network.specs.Network.{NetworkParts, edge_at, tri_at}
use Rattle.lmt_network.specs.Numbers.{HasSide, IsMinimalPair}

-- The points of a pair: of the edge and of the two apexes.
pub record IsPairOf (n : NetworkParts) (e l r : ℕ) (edge : Edge) (left right : Tri) (a b : ℕ) : Type 0 where
  pub edge_is : edge ≡ edge_at n e
  pub left_is : left ≡ tri_at n l
  pub right_is : right ≡ tri_at n r
  pub l_in : l < length n.tris
  pub r_in : r < length n.tris
  pub a_is : HasCorners left edge.a edge.b a
  pub b_is : HasCorners right edge.b edge.a b

-- a pair is minimal exactly where it is between its apexes
pub pair_is : (n : NetworkParts) (e l r : ℕ) (edge : Edge) (left right : Tri) (a b : ℕ) → IsPairOf n e l r edge left right a b
    → IsMinimalBetween n.points edge.a edge.b a b ↔ IsMinimalPair n e l r
pair_is n e l r edge left right a b h =
    let a_is : HasCorners (tri_at n l) (edge_at n e).a (edge_at n e).b a =
    subst (λ (t : Tri). HasCorners t (edge_at n e).a (edge_at n e).b a) h.left_is (subst (λ (x : Edge). HasCorners left x.a x.b a) h.edge_is h.a_is) in
    let b_is : HasCorners (tri_at n r) (edge_at n e).b (edge_at n e).a b =
    subst (λ (t : Tri). HasCorners t (edge_at n e).b (edge_at n e).a b) h.right_is (subst (λ (x : Edge). HasCorners right x.b x.a b) h.edge_is h.b_is) in (
      λ minimal. record {
        l_in = h.l_in;
        r_in = h.r_in;
        a = a;
        b = b;
        left_is = a_is;
        right_is = b_is;
        minimal = subst (λ (x : Edge). IsMinimalBetween n.points x.a x.b a b) h.edge_is minimal;
      },
      λ pair.
          let same_a = corner_once (tri_at n l) (edge_at n e).a (edge_at n e).b pair.a a pair.left_is a_is in
          let same_b = corner_once (tri_at n r) (edge_at n e).b (edge_at n e).a pair.b b pair.right_is b_is in
          subst (λ (x : Edge). IsMinimalBetween n.points x.a x.b a b) (sym h.edge_is)
          (subst (λ (x : ℕ). IsMinimalBetween n.points (edge_at n e).a (edge_at n e).b x b) same_a
          (subst (λ (y : ℕ). IsMinimalBetween n.points (edge_at n e).a (edge_at n e).b pair.a y) same_b pair.minimal)),
    )

-- the two tests, over points
abbrev Minimal : Point → Point → Point → Point → Type 0
Minimal p q x y = (¬ Crosses p q x y) ⊎ (d2 p q ≤ d2 x y)

same_points : {p q x y p' q' x' y' : Point} → p ≡ p' → q ≡ q' → x ≡ x' → y ≡ y' → Minimal p q x y → Minimal p' q' x' y'
same_points {p} {q} {x} {y} {p'} {q'} {x'} {y'} ep eq ex ey m =
    subst (λ (z : Point). Minimal z q' x' y') ep
    (subst (λ (z : Point). Minimal p z x' y') eq
    (subst (λ (z : Point). Minimal p q z y') ex
    (subst (λ (z : Point). Minimal p q x z) ey m)))

-- the points of an edge and of the two apexes
pub record HasPoints (ps : List Point) (u v a b : ℕ) (p q x y : Point) : Type 0 where
  pub p_is : p ≡ point_at ps u
  pub q_is : q ≡ point_at ps v
  pub x_is : x ≡ point_at ps a
  pub y_is : y ≡ point_at ps b

-- where the other diagonal is not shorter the pair is minimal
pub short_minimal : (n : NetworkParts) (e l r : ℕ) (edge : Edge) (left right : Tri) (a b : ℕ) (p q x y : Point) → IsPairOf n e l r edge left right a b
    → HasPoints n.points edge.a edge.b a b p q x y → d2 p q ≤ d2 x y → IsMinimalPair n e l r
short_minimal n e l r edge left right a b p q x y pair at low =
    (pair_is n e l r edge left right a b pair).0 (same_points at.p_is at.q_is at.x_is at.y_is (inr low))

-- else the test of convexity tells
pub long_minimal : (n : NetworkParts) (e l r : ℕ) (edge : Edge) (left right : Tri) (a b : ℕ) (p q x y : Point) (convex : Bool) → IsPairOf n e l r edge left right a b
    → HasPoints n.points edge.a edge.b a b p q x y → (IsTrue convex ↔ Crosses p q x y) → d2 x y < d2 p q → IsTrue (not convex) ↔ IsMinimalPair n e l r
long_minimal n e l r edge left right a b p q x y convex pair at h long =
    let is = pair_is n e l r edge left right a b pair in (
      λ flat. is.0 (same_points at.p_is at.q_is at.x_is at.y_is (inl (λ crosses. absurd (false≢true (ap not (sym (h.1 crosses)) ∙ flat))))),
      λ minimal. ⊎_elim
          (λ none. ⊎_elim (λ bent. absurd (none (h.0 bent))) (λ flat. ap not flat) (cases_Bool convex))
          (λ low. absurd (omega (arith, low, long)))
          (same_points (sym at.p_is) (sym at.q_is) (sym at.x_is) (sym at.y_is) (is.1 minimal)),
    )

-- a triangle's side by equal values
pub side_left : (n : NetworkParts) (e l : ℕ) (edge : Edge) (t : Tri) → edge ≡ edge_at n e → t ≡ tri_at n l → HasSide (tri_at n l) (edge_at n e).a (edge_at n e).b → HasSide t edge.a edge.b
side_left n e l edge t edge_is t_is h =
    subst (λ (x : Edge). HasSide t x.a x.b) (sym edge_is) (subst (λ (x : Tri). HasSide x (edge_at n e).a (edge_at n e).b) (sym t_is) h)

pub side_right : (n : NetworkParts) (e r : ℕ) (edge : Edge) (t : Tri) → edge ≡ edge_at n e → t ≡ tri_at n r → HasSide (tri_at n r) (edge_at n e).b (edge_at n e).a → HasSide t edge.b edge.a
side_right n e r edge t edge_is t_is h =
    subst (λ (x : Edge). HasSide t x.b x.a) (sym edge_is) (subst (λ (x : Tri). HasSide x (edge_at n e).b (edge_at n e).a) (sym t_is) h)
