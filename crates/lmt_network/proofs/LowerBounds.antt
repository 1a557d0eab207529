-- The bound is not above the length of a triangulation with live edges.
use Rattle.std.proofs.Common.{◌≡◌, ◌⊎◌, ℕ, ◌<◌, ◌≤◌, Bool, true, false, cond, List, map, All, Contains, ℤ, pos, ◌+ℤ◌, ◌≤ℤ◌, arith, refl, ap, ◌∙◌, subst, ⊎_elim, inl, inr}
use Rattle.std.proofs.lemmas.Bool.{cases_Bool}
use Rattle.std.proofs.lemmas.Int.{ints}
use Rattle.std.proofs.lemmas.List.Elements.{All-contains}
use Rattle.exact_predicates.specs.declared.edge.Edge.{Edge}
use Rattle.exact_predicates.specs.declared.point.Point.{Point}
use Rattle.exact_predicates.specs.declared.tri.Tri.{Tri}
use Rattle.exact_predicates.specs.Hull.{IsHull}
use Rattle.exact_predicates.specs.Triangulation.{IsTriangulation, edges}
use Rattle.length_enclosure.specs.Enclosure.{lo}
use Rattle.lmt_network.specs.Edges.{IsEdgeOf, HasEdgesIn}
use Rattle.lmt_network.specs.Prices.{ArePrices, IsFeasible, Priced, anchors_of, bound, find_priced, is_on_hull, priced_edges, unpriced}
use Rattle.lmt_network.proofs.Anchors.{edge_counted, ends, entry_once, hull_once, up}
use Rattle.exact_predicates.proofs.SidesCounted.{count}
use Rattle.lmt_network.proofs.CountedSums.{AreCovered, sum_covered}
use Rattle.lmt_network.proofs.Entries.{IsEntry, find_priced-cases, find_priced-own}
use Rattle.lmt_network.proofs.IntSums.{int_sum_by-map, int_sum_by-same}
use Rattle.lmt_network.proofs.Slacks.{anchors_below}

-- the anchors of an edge by its ends
abbrev anchors_at : List ℕ → List Priced → ℕ × ℕ → ℤ
anchors_at hull prices s = anchors_of hull (find_priced prices s.0 s.1)

cond_same : (b : Bool) (x y : ℤ) → x ≡ y → cond b x y ≡ y
cond_same true x y e = e
cond_same false x y e = refl

-- what is not priced has none
unpriced-none : (hull : List ℕ) (p : Priced) → p ≡ unpriced → anchors_of hull p ≡ pos 0
unpriced-none hull p e = ap (anchors_of hull) e ∙ cond_same (is_on_hull hull 0 1) (pos 0) (pos 0 +ℤ pos 0) refl

-- what a counted edge is: priced once, and on the hull or anchored
record IsCounted (hull : List ℕ) (anchored : List Edge) (prices : List Priced) (x y : ℕ) : Type 0 where
  p : Priced
  entry : IsEntry prices x y p
  place : (is_on_hull hull x y ≡ true) ⊎ ((is_on_hull hull x y ≡ false) × Contains anchored p.edge × (pos 0 ≤ℤ anchors_of hull p))
  found : find_priced prices x y ≡ p

counted : (hull : List ℕ) (anchored : List Edge) (prices : List Priced) (x y : ℕ) → ArePrices anchored prices → ¬ (anchors_at hull prices (x, y) ≡ pos 0) → IsCounted hull anchored prices x y
counted hull anchored prices x y are some =
    ⊎_elim
    (λ (h : IsEntry prices x y (find_priced prices x y)). record { p = find_priced prices x y; entry = h; place = placed (find_priced prices x y) h some; found = refl })
    (λ none. absurd (some (unpriced-none hull (find_priced prices x y) none)))
    (find_priced-cases prices x y)
  where
    placed : (p : Priced) → IsEntry prices x y p → ¬ (anchors_of hull p ≡ pos 0)
        → (is_on_hull hull x y ≡ true) ⊎ ((is_on_hull hull x y ≡ false) × Contains anchored p.edge × (pos 0 ≤ℤ anchors_of hull p))
    placed p h more =
        let at_ends : is_on_hull hull p.edge.a p.edge.b ≡ is_on_hull hull x y = ap (λ a. is_on_hull hull a p.edge.b) h.a_is ∙ ap (λ b. is_on_hull hull x b) h.b_is in
        ⊎_elim
        (λ on. inl on)
        (λ off.
        let is : anchors_of hull p ≡ p.left +ℤ p.right = ap (λ t. cond t p.value (p.left +ℤ p.right)) (at_ends ∙ off) in
        let least = All-contains (λ q. (pos 0 ≤ℤ q.left) × (pos 0 ≤ℤ q.right)) prices p are.not_negative h.has in
        let where_is = All-contains (λ q. Contains anchored q.edge ⊎ ((q.left ≡ pos 0) × (q.right ≡ pos 0))) prices p are.elsewhere h.has in
        ⊎_elim
        (λ (in_list : Contains anchored p.edge). inr (off, in_list, omega (arith, ints, is, least.0, least.1)))
        (λ zero. absurd (more (omega (arith, ints, is, zero.0, zero.1))))
        where_is)
        (cases_Bool (is_on_hull hull x y))

-- the edges of the triangulation cover the priced ones, as far as these have anchors
covered : (ps : List Point) (hull : List ℕ) (anchored : List Edge) (prices : List Priced) (tris : List Tri) → ArePrices anchored prices → IsHull ps hull → IsTriangulation ps hull tris
    → All (IsEdgeOf hull tris) anchored → AreCovered (anchors_at hull prices) (map ends prices) (map up (edges hull tris))
covered ps hull anchored prices tris are h t each =
    record {
      negative = λ x y l.
          let c = counted hull anchored prices x y are (λ e. absurd (omega (arith, ints, e, l))) in
          ⊎_elim
          (λ on. same x y c on)
          (λ off. absurd (omega (arith, ints, l, off.2, ap (anchors_of hull) c.found)))
          c.place;
      positive = λ x y l.
          let c = counted hull anchored prices x y are (λ e. absurd (omega (arith, ints, e, l))) in
          ⊎_elim
          (λ on. omega (arith, same x y c on))
          (λ off. omega (arith, once x y c, there x y c off.1))
          c.place;
    }
  where
    once : (x y : ℕ) (c : IsCounted hull anchored prices x y) → count (map ends prices) x y ≡ 1
    once x y c = entry_once prices x y c.p are.ascending c.entry

    same : (x y : ℕ) (c : IsCounted hull anchored prices x y) → is_on_hull hull x y ≡ true → count (map ends prices) x y ≡ count (map up (edges hull tris)) x y
    same x y c on =
        let rise : x < y = omega (arith, c.p.edge.ascending, c.entry.a_is, c.entry.b_is) in
        omega (arith, once x y c, hull_once ps hull tris x y h t rise on)

    there : (x y : ℕ) (c : IsCounted hull anchored prices x y) → Contains anchored c.p.edge → 1 ≤ count (map up (edges hull tris)) x y
    there x y c has =
        let edge = All-contains (IsEdgeOf hull tris) anchored c.p.edge each has in
        subst (λ b. 1 ≤ count (map up (edges hull tris)) x b) c.entry.b_is
        (subst (λ a. 1 ≤ count (map up (edges hull tris)) a c.p.edge.b) c.entry.a_is (edge_counted hull tris c.p.edge edge))

-- A triangulation that has priced edges alone, and all anchored ones, is at least as long as the bound.
pub below_law : (ps : List Point) (hull : List ℕ) (anchored : List Edge) (prices : List Priced) (tris : List Tri) → ArePrices anchored prices → IsFeasible ps hull prices
    → IsHull ps hull → IsTriangulation ps hull tris → HasEdgesIn hull tris (priced_edges prices) → All (IsEdgeOf hull tris) anchored
    → bound hull prices ≤ℤ pos (lo ps (edges hull tris))
below_law ps hull anchored prices tris are feasible h t live each =
    let es = edges hull tris in
    let a = anchors_at hull prices in
    omega (
      arith,
      ints,
      anchors_below ps hull prices tris feasible h t live,
      sum_covered a (map ends prices) (map up es) (covered ps hull anchored prices tris are h t each),
      int_sum_by-map a up es,
      int_sum_by-map a ends prices,
      int_sum_by-same (λ p. a (ends p)) (anchors_of hull) prices (λ p m. ap (anchors_of hull) (find_priced-own prices p are.ascending m)),
    )
