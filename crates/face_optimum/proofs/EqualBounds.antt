-- Where each triangle of a triangulation has the slack 0, and each anchored edge is one of its edges once, the bound is its
-- length in whole millionths.
use Rattle.std.proofs.Common.{◌≡◌, ◌⊎◌, ℕ, ◌<◌, Bool, true, false, cond, List, [], ◌∷◌, map, Contains, ℤ, pos, ◌+ℤ◌, arith, refl, ap, sym, ◌∙◌, subst, ⊎_elim, inl, inr}
use Rattle.std.proofs.lemmas.Bool.{cases_Bool}
use Rattle.std.proofs.lemmas.Int.{ints}
use Rattle.std.proofs.lemmas.List.Elements.{All-contains}
use Rattle.exact_predicates.specs.declared.edge.Edge.{Edge}
use Rattle.exact_predicates.specs.declared.point.Point.{Point}
use Rattle.exact_predicates.specs.declared.tri.Tri.{Tri}
use Rattle.exact_predicates.specs.Hull.{IsHull}
use Rattle.exact_predicates.specs.Triangulation.{IsTriangulation, edges}
use Rattle.exact_predicates.proofs.SidesCounted.{count}
use Rattle.length_enclosure.specs.Enclosure.{lo, weight}
use Rattle.lmt_network.specs.Prices.{ArePrices, Priced, anchors_of, bound, find_priced, int_sum_by, is_on_hull, priced, slack, unpriced}
use Rattle.lmt_network.proofs.Anchors.{ends, entry_once, hull_once, up}
use Rattle.lmt_network.proofs.CountedSums.{AreCovered, sum_covered}
use Rattle.lmt_network.proofs.Entries.{IsEntry, find_priced-cases, find_priced-own}
use Rattle.lmt_network.proofs.IntSums.{int_sum_by-map, int_sum_by-plus, int_sum_by-pos, int_sum_by-same}
use Rattle.lmt_network.proofs.Slacks.{given, slacks_given}

-- the anchors of an edge by its ends
abbrev anchors_at : List ℕ → List Priced → ℕ × ℕ → ℤ
anchors_at hull prices s = anchors_of hull (find_priced prices s.0 s.1)

cond_same : (b : Bool) (x y : ℤ) → x ≡ y → cond b x y ≡ y
cond_same true x y e = e
cond_same false x y e = refl

sum_zero : {X : Type 0} (xs : List X) → int_sum_by (λ x. pos 0) xs ≡ pos 0
sum_zero [] = refl
sum_zero (x ∷ xs) = sum_zero xs

-- where an edge has anchors it is priced, and is on the hull or anchored
record IsHeld (hull : List ℕ) (anchored : List Edge) (prices : List Priced) (x y : ℕ) : Type 0 where
  p : Priced
  entry : IsEntry prices x y p
  place : (is_on_hull hull x y ≡ true) ⊎ Contains anchored p.edge

held : (hull : List ℕ) (anchored : List Edge) (prices : List Priced) (x y : ℕ) → ArePrices anchored prices → ¬ (anchors_at hull prices (x, y) ≡ pos 0) → IsHeld hull anchored prices x y
held hull anchored prices x y are some =
    ⊎_elim
    (λ (h : IsEntry prices x y (find_priced prices x y)). record { p = find_priced prices x y; entry = h; place = placed (find_priced prices x y) h some })
    (λ (none : find_priced prices x y ≡ unpriced). absurd (some (ap (anchors_of hull) none ∙ cond_same (is_on_hull hull 0 1) (pos 0) (pos 0 +ℤ pos 0) refl)))
    (find_priced-cases prices x y)
  where
    placed : (p : Priced) → IsEntry prices x y p → ¬ (anchors_of hull p ≡ pos 0) → (is_on_hull hull x y ≡ true) ⊎ Contains anchored p.edge
    placed p h more =
        let at_ends : is_on_hull hull p.edge.a p.edge.b ≡ is_on_hull hull x y = ap (λ a. is_on_hull hull a p.edge.b) h.a_is ∙ ap (λ b. is_on_hull hull x b) h.b_is in
        ⊎_elim
        (λ on. inl on)
        (λ off.
        let is : anchors_of hull p ≡ p.left +ℤ p.right = ap (λ t. cond t p.value (p.left +ℤ p.right)) (at_ends ∙ off) in
        ⊎_elim
        (λ (in_list : Contains anchored p.edge). inr in_list)
        (λ zero. absurd (more (omega (arith, ints, is, zero.0, zero.1))))
        (All-contains (λ q. Contains anchored q.edge ⊎ ((q.left ≡ pos 0) × (q.right ≡ pos 0))) prices p are.elsewhere h.has))
        (cases_Bool (is_on_hull hull x y))

module _ (ps : List Point) (hull : List ℕ) (anchored : List Edge) (prices : List Priced) (tris : List Tri)
    (are : ArePrices anchored prices) (h : IsHull ps hull) (t : IsTriangulation ps hull tris)
    (once : (e : Edge) → Contains anchored e → count (map up (edges hull tris)) e.a e.b ≡ 1) where
  -- each edge with anchors is priced once, and once an edge of the triangulation
  same_count : (x y : ℕ) → ¬ (anchors_at hull prices (x, y) ≡ pos 0) → count (map up (edges hull tris)) x y ≡ count (map ends prices) x y
  same_count x y some =
      let c = held hull anchored prices x y are some in
      let one = entry_once prices x y c.p are.ascending c.entry in
      let rise : x < y = omega (arith, c.p.edge.ascending, c.entry.a_is, c.entry.b_is) in
      ⊎_elim
      (λ (on : is_on_hull hull x y ≡ true). omega (arith, one, hull_once ps hull tris x y h t rise on))
      (λ (in_list : Contains anchored c.p.edge).
      let is = subst (λ (b : ℕ). count (map up (edges hull tris)) x b ≡ 1) c.entry.b_is
      (subst (λ (a : ℕ). count (map up (edges hull tris)) a c.p.edge.b ≡ 1) c.entry.a_is (once c.p.edge in_list)) in
      omega (arith, one, is))
      c.place

  covered_back : AreCovered (anchors_at hull prices) (map up (edges hull tris)) (map ends prices)
  covered_back =
      record {
        negative = λ x y l. same_count x y (λ e. absurd (omega (arith, ints, e, l)));
        positive = λ x y l. let same = same_count x y (λ e. absurd (omega (arith, ints, e, l))) in omega (arith, same);
      }

  covered_forth : AreCovered (anchors_at hull prices) (map ends prices) (map up (edges hull tris))
  covered_forth =
      record {
        negative = λ x y l. sym (same_count x y (λ e. absurd (omega (arith, ints, e, l))));
        positive = λ x y l. let same = same_count x y (λ e. absurd (omega (arith, ints, e, l))) in omega (arith, same);
      }

  pub equal_bound : ((x : Tri) → Contains tris x → slack ps hull prices x ≡ pos 0) → bound hull prices ≡ pos (lo ps (edges hull tris))
  equal_bound none =
      let es = edges hull tris in
      let a = anchors_at hull prices in
      let b : ℕ × ℕ → ℤ = λ s. anchors_of hull (priced prices s.0 s.1) in
      let g = given ps hull prices in
      omega (
        arith,
        ints,
        int_sum_by-same (slack ps hull prices) (λ x. pos 0) tris none,
        sum_zero tris,
        slacks_given ps hull prices tris h t,
        int_sum_by-plus g b es,
        int_sum_by-same (λ s. g s +ℤ b s) (λ s. pos (weight ps s)) es (λ s m. omega (arith, ints)),
        int_sum_by-pos (weight ps) es,
        sum_covered a (map up es) (map ends prices) covered_back,
        sum_covered a (map ends prices) (map up es) covered_forth,
        int_sum_by-map a up es,
        int_sum_by-map a ends prices,
        int_sum_by-same (λ p. a (ends p)) (anchors_of hull) prices (λ p m. ap (anchors_of hull) (find_priced-own prices p are.ascending m)),
      )
