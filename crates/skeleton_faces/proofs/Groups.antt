-- Groups of points by their parents.
use Rattle.std.proofs.Common.{◌≡◌, ◌≢◌, ℕ, zero, suc, ◌+◌, ◌<◌, ◌≤◌, cond, eqb, List, length, set, slice_index, get_or-set_other, get_or-set_same, refl, sym, ◌∙◌, ap, eq-eqb, below_more, min, max, subst, ⊎_elim, arith}
use Rattle.std.proofs.lemmas.Bool.{cases_eq, cases_lt, ne_eqb}
use Rattle.std.proofs.lemmas.List.{length-set, get_or_default}
use Rattle.std.proofs.lemmas.List.Elements.{Contains-get_or}
use Rattle.exact_predicates.specs.declared.edge.Edge.{Edge}
use Rattle.exact_predicates.specs.declared.point.Point.{Point}
use Rattle.exact_predicates.specs.Candidates.{HasEdge}
use Rattle.exact_predicates.proofs.Equalities.{HasEdge-Contains, Joins-ends}
use Rattle.skeleton_faces.specs.Groups.{AreLesser, AreJoinedParents, IsNaming, IsCoarser}
use Rattle.skeleton_faces.specs.Marks.{nth_edge}
use Rattle.skeleton_faces.specs.Walks.{AreJoined, IsConnected}
use Rattle.skeleton_faces.proofs.Walks.{joined_itself, joined_on, joined_back, joined_name}

-- after a write each fact of a place and its parent holds at the other places
at_each : (R : ℕ → ℕ → Type 0) (parents : List ℕ) (q x : ℕ) → q < length parents → ((p : ℕ) → p < length parents → p ≢ q → R p (slice_index parents p)) → R q x
    → (p : ℕ) → p < length parents → R p (slice_index (set parents q x) p)
at_each R parents q x q_in others here p p_in =
    ⊎_elim
    (λ (e : p ≡ q). let At : ℕ → Type 0 = λ z. R z (slice_index (set parents q x) z) in
    subst At (sym e) (subst (λ (z : ℕ). R q z) (sym (get_or-set_same parents q x 0 q_in)) here))
    (λ ne. subst (λ (z : ℕ). R p z) (sym (get_or-set_other parents q p x 0 ne)) (others p p_in ne))
    (cases_eq p q)

-- The way from p up to `at`, on which some points got the parents of their parents.
pub record IsOnWay (old : List ℕ) (p : ℕ) (parents : List ℕ) (place : ℕ) : Type 0 where
  pub bound : place ≤ p
  pub lesser : AreLesser parents
  pub joined : (es : List Edge) → AreJoinedParents es old → AreJoinedParents es parents × AreJoined es p place
  pub named : (name : ℕ → ℕ) → IsNaming old name → IsNaming parents name × (name p ≡ name place)

-- two steps further
pub on_way_next : (old : List ℕ) (p : ℕ) (parents : List ℕ) (q up next : ℕ) → IsOnWay old p parents q → q < length parents → up ≡ slice_index parents q → up < q
    → next ≡ slice_index parents up → IsOnWay old p (set parents q next) next
on_way_next old p parents q up next h q_in up_is below next_is =
    let lesser = h.lesser up (omega arith) in
    let bound = h.bound in
    record {
      bound = omega arith;
      lesser = λ k k_in. at_each (λ x y. y ≤ x) parents q next q_in (λ x x_in ne. h.lesser x x_in) (omega arith) k (omega (arith, length-set parents q next));
      joined = λ es old_joined.
          let (all, here) = h.joined es old_joined in
          let on = joined_on es q up next (subst (AreJoined es q) (sym up_is) (all q q_in)) (subst (AreJoined es up) (sym next_is) (all up (omega arith))) in
          (λ k k_in. at_each (AreJoined es) parents q next q_in (λ x x_in ne. all x x_in) on k (omega (arith, length-set parents q next)), joined_on es p q next here on);
      named = λ name old_named.
          let (all, here) = h.named name old_named in
          let on : name q ≡ name next = all.same q q_in ∙ (ap name (sym up_is) ∙ (all.same up (omega arith) ∙ ap name (sym next_is))) in (
            record {
              same = λ k k_in. at_each (λ x y. name x ≡ name y) parents q next q_in (λ x x_in ne. all.same x x_in) on k (omega (arith, length-set parents q next));
              own = λ k k_in. at_each (λ x y. y ≡ x → name x ≡ x) parents q next q_in (λ x x_in ne. all.own x x_in) (λ e. absurd (omega arith)) k (omega (arith, length-set parents q next));
            },
            here ∙ on,
          );
    }

-- the names where the group named `high` takes the name `low`
abbrev pub linked : ℕ → ℕ → (ℕ → ℕ) → ℕ → ℕ
linked low high name p = cond (eqb (name p) high) low (name p)

module _ (low high : ℕ) (name : ℕ → ℕ) where
  linked-at : (p : ℕ) → name p ≡ high → linked low high name p ≡ low
  linked-at p e = rw e (rw (eq-eqb high high refl) refl)

  linked-other : (p : ℕ) → name p ≢ high → linked low high name p ≡ name p
  linked-other p e = rw (ne_eqb (name p) high e) refl

  pub linked-coarser : IsCoarser name (linked low high name)
  linked-coarser p q e = ap (λ n. cond (eqb n high) low n) e

  linked-low : name low ≡ low → linked low high name low ≡ low
  linked-low at_low = ⊎_elim (λ e. linked-at low e) (λ ne. linked-other low ne ∙ at_low) (cases_eq (name low) high)

  pub linked-both : name low ≡ low → name high ≡ high → linked low high name high ≡ linked low high name low
  linked-both at_low at_high = linked-at high at_high ∙ sym (linked-low at_low)

-- two groups become one: the greater of their least points gets the lesser as its parent
module _ (parents : List ℕ) (low high : ℕ) (below : low ≤ high) (high_in : high < length parents) where
  pub AreLesser-link : AreLesser parents → AreLesser (set parents high low)
  AreLesser-link h k k_in = at_each (λ x y. y ≤ x) parents high low high_in (λ x x_in ne. h x x_in) below k (omega (arith, length-set parents high low))

  pub AreJoinedParents-link : (es : List Edge) → AreJoined es high low → AreJoinedParents es parents → AreJoinedParents es (set parents high low)
  AreJoinedParents-link es on h k k_in = at_each (AreJoined es) parents high low high_in (λ x x_in ne. h x x_in) on k (omega (arith, length-set parents high low))

  pub IsNaming-link : (name : ℕ → ℕ) → name low ≡ low → name high ≡ high → IsNaming parents name → IsNaming (set parents high low) (linked low high name)
  IsNaming-link name at_low at_high h = record {
    same = λ k k_in. at_each (λ x y. linked low high name x ≡ linked low high name y) parents high low high_in
        (λ x x_in ne. linked-coarser low high name x (slice_index parents x) (h.same x x_in))
        (linked-both low high name at_low at_high) k (omega (arith, length-set parents high low));
    own = λ k k_in. at_each (λ x y. y ≡ x → linked low high name x ≡ x) parents high low high_in
        (λ x x_in ne e. let is = h.own x x_in e in linked-other low high name x (λ f. ne (sym is ∙ f)) ∙ is)
        (λ e. linked-at low high name high at_high ∙ e) k (omega (arith, length-set parents high low));
  }

-- a fact of two numbers in both orders holds of the greater and the lesser
pub by_size : (P : ℕ → ℕ → Type 0) (a b : ℕ) → P a b → P b a → P (max a b) (min a b)
by_size P a b ab ba =
    ⊎_elim
    (λ (l : a < b). let high : max a b ≡ b = omega arith in let low : min a b ≡ a = omega arith in rw (high, low) ba)
    (λ (m : b ≤ a). let high : max a b ≡ a = omega arith in let low : min a b ≡ b = omega arith in rw (high, low) ab)
    (cases_lt a b)

-- The groups after the first k edges of the list.
pub record AreGrouped (n : ℕ) (es : List Edge) (k : ℕ) (parents : List ℕ) : Type 0 where
  pub one_each : length parents ≡ n
  pub lesser : AreLesser parents
  pub joined : AreJoinedParents es parents
  pub name : ℕ → ℕ
  pub named : IsNaming parents name
  pub edges : (j : ℕ) → j < k → name (nth_edge es j).a ≡ name (nth_edge es j).b

-- at first each point is its own parent
pub AreGrouped-start : (n : ℕ) (es : List Edge) (parents : List ℕ) → length parents ≡ n → ((p : ℕ) → p < n → slice_index parents p ≡ p) → AreGrouped n es 0 parents
AreGrouped-start n es parents count own = record {
  one_each = count;
  lesser = λ p p_in. let e = own p (omega arith) in omega arith;
  joined = λ p p_in. joined_itself es p (slice_index parents p) (sym (own p (omega arith)));
  name = λ p. p;
  named = record { same = λ p p_in. sym (own p (omega arith)); own = λ p p_in e. refl };
  edges = λ j l. absurd (omega arith);
}

-- one edge more
pub AreGrouped-next : (n : ℕ) (es : List Edge) (k : ℕ) (old new : List ℕ) → AreGrouped n es k old → k < length es → length new ≡ length old → AreLesser new
    → (HasEdge es (nth_edge es k).a (nth_edge es k).b → AreJoinedParents es old → AreJoinedParents es new)
    → ((name : ℕ → ℕ) → IsNaming old name → (coarser : ℕ → ℕ) × IsNaming new coarser × IsCoarser name coarser × (coarser (nth_edge es k).a ≡ coarser (nth_edge es k).b))
    → AreGrouped n es (k + 1) new
AreGrouped-next n es k old new h k_in same lesser joined named =
    let (coarser, naming, keeps, last) = named h.name h.named in
    record {
      one_each = same ∙ h.one_each;
      lesser = lesser;
      joined = joined (HasEdge-Contains es (nth_edge es k) _ _ (Joins-ends (nth_edge es k)) (Contains-get_or es k _ k_in)) h.joined;
      name = coarser;
      named = naming;
      edges = below_more _ k (λ j l. keeps _ _ (h.edges j l)) last;
    }

-- all are in one group exactly where walks join all
pub AreGrouped-one : (ps : List Point) (es : List Edge) (parents : List ℕ) → 0 < length ps → AreGrouped (length ps) es (length es) parents
    → (((p : ℕ) → 0 < p → p < length parents → slice_index parents p < p) → IsConnected ps es) × (IsConnected ps es → (p : ℕ) → 0 < p → p < length parents → slice_index parents p < p)
AreGrouped-one ps es parents some h = (
  λ down u v u_in v_in. joined_on es u 0 v (to_first down (suc u) u (omega arith) (omega (arith, h.one_each))) (joined_back es v 0 (to_first down (suc v) v (omega arith) (omega (arith, h.one_each)))),
  λ all p l p_in.
      let lesser = h.lesser p p_in in
      ⊎_elim
      (λ (below : slice_index parents p < p). below)
      (λ (own : p ≤ slice_index parents p).
      let first_below = h.lesser 0 (omega (arith, h.one_each)) in
      let first = h.named.own 0 (omega (arith, h.one_each)) (omega arith) in
      let last = h.named.own p p_in (omega arith) in
      let one = joined_name es h.name 0 p (λ x y edge. named_edge x y edge) (all 0 p some (omega (arith, h.one_each))) in
      absurd (omega arith))
      (cases_lt (slice_index parents p) p),
)
  where
    to_first : ((p : ℕ) → 0 < p → p < length parents → slice_index parents p < p) → (steps p : ℕ) → p < steps → p < length parents → AreJoined es p 0
    to_first down zero p l p_in = absurd (omega arith)
    to_first down (suc steps) p l p_in =
        ⊎_elim
        (λ (m : 0 < p). let d = down p m p_in in joined_on es p (slice_index parents p) 0 (h.joined p p_in) (to_first down steps (slice_index parents p) (omega arith) (omega arith)))
        (λ (z : p ≤ 0). joined_itself es p 0 (omega arith))
        (cases_lt 0 p)

    named_edge : (x y : ℕ) → HasEdge es x y → h.name x ≡ h.name y
    named_edge x y (k, e, k_in, at_k, j) =
        let both = h.edges k k_in in
        let is : nth_edge es k ≡ e = get_or_default es k _ e k_in ∙ at_k in
        let here : h.name e.a ≡ h.name e.b = subst (λ (f : Edge). h.name f.a ≡ h.name f.b) is both in
        let j0 = j.0 in
        let j1 = j.1 in
        ⊎_elim
        (λ (l : x < y). let ea : e.a ≡ x = omega arith in let eb : e.b ≡ y = omega arith in ap h.name (sym ea) ∙ (here ∙ ap h.name eb))
        (λ (m : y ≤ x). let ea : e.a ≡ y = omega arith in let eb : e.b ≡ x = omega arith in ap h.name (sym eb) ∙ (sym here ∙ ap h.name ea))
        (cases_lt x y)
