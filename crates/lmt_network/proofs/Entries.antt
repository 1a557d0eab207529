-- What a price list says of an edge.
use Rattle.std.proofs.Common.{◌≡◌, ◌⊎◌, ℕ, min, max, Bool, true, false, ◌||◌, cond, List, [], ◌∷◌, map, AllPairs, Contains, pos, ◌+ℤ◌, arith, refl, ap, sym, ◌∙◌, subst, ⊎_elim, inl, inr}
use Rattle.std.specs.Bool.{Decides}
use Rattle.std.specs.List.{list_any}
use Rattle.std.proofs.lemmas.Bool.{false≢true, cases_lt}
use Rattle.std.proofs.lemmas.Bool.Decides.{Decides-or}
use Rattle.std.proofs.lemmas.List.Elements.{All-contains}
use Rattle.exact_predicates.specs.Candidates.{EdgePrecedes}
use Rattle.exact_predicates.specs.Hull.{IsHullPair, ring_pairs}
use Rattle.exact_predicates.specs.Triangulation.{is_side}
use Rattle.exact_predicates.proofs.Equalities.{Edge-equal}
use Rattle.exact_predicates.proofs.ListFacts.{AllPairs-head, AllPairs-tail}
use Rattle.exact_predicates.proofs.Pairs.{is_pair_decides, is_side_decides, is_side_same}
use Rattle.lmt_network.specs.Prices.{Priced, priced_edges, unpriced, find_priced, priced, is_on_hull, anchors_of}
use Rattle.exact_predicates.proofs.ListOrder.{EdgePrecedes-irreflexive}
use Rattle.lmt_network.proofs.Picked.{Contains-cases, Contains-here, Contains-later, Contains-nil}

-- members of a mapped list
pub contains_map : {X Y : Type 0} (g : X → Y) (xs : List X) (x : X) → Contains xs x → Contains (map g xs) (g x)
contains_map g [] x h = absurd (Contains-nil x h)
contains_map g (y ∷ ys) x h =
    ⊎_elim
    (λ (e : y ≡ x). subst (λ z. Contains (map g (y ∷ ys)) (g z)) e (Contains-here (g y) (map g ys)))
    (λ (later : Contains ys x). Contains-later (g y) (g x) (map g ys) (contains_map g ys x later))
    (Contains-cases y x ys h)

pub map_contains : {X Y : Type 0} (g : X → Y) (xs : List X) (y : Y) → Contains (map g xs) y → (x : X) × Contains xs x × (g x ≡ y)
map_contains g [] y h = absurd (Contains-nil y h)
map_contains g (x ∷ xs) y h =
    ⊎_elim
    (λ (e : g x ≡ y). (x, Contains-here x xs, e))
    (λ (later : Contains (map g xs) y). let r = map_contains g xs y later in (r.0, Contains-later x r.0 xs r.1, r.2))
    (Contains-cases (g x) y (map g xs) h)

-- an entry of the edge from a to b
pub record IsEntry (prices : List Priced) (a b : ℕ) (p : Priced) : Type 0 where
  pub has : Contains prices p
  pub a_is : p.edge.a ≡ a
  pub b_is : p.edge.b ≡ b

-- what is found is such an entry, or nothing
pub find_priced-cases : (prices : List Priced) (a b : ℕ) → IsEntry prices a b (find_priced prices a b) ⊎ (find_priced prices a b ≡ unpriced)
find_priced-cases [] a b = inr refl
find_priced-cases (p ∷ prices) a b = at (is_side a b (p.edge.a, p.edge.b)) refl (find_priced-cases prices a b)
  where
    at : (t : Bool) → is_side a b (p.edge.a, p.edge.b) ≡ t → IsEntry prices a b (find_priced prices a b) ⊎ (find_priced prices a b ≡ unpriced)
        → IsEntry (p ∷ prices) a b (cond t p (find_priced prices a b)) ⊎ (cond t p (find_priced prices a b) ≡ unpriced)
    at true e rest = let ends = (is_side_decides a b p.edge.a p.edge.b).0 e in inl (record { has = Contains-here p prices; a_is = ends.0; b_is = ends.1 })
    at false e rest =
        ⊎_elim
        (λ (h : IsEntry prices a b (find_priced prices a b)). inl (record { has = Contains-later p (find_priced prices a b) prices h.has; a_is = h.a_is; b_is = h.b_is }))
        (λ (none : find_priced prices a b ≡ unpriced). inr none)
        rest

-- where there is an entry, one is found
pub find_priced-entry : (prices : List Priced) (p : Priced) → Contains prices p → IsEntry prices p.edge.a p.edge.b (find_priced prices p.edge.a p.edge.b)
find_priced-entry [] p h = absurd (Contains-nil p h)
find_priced-entry (q ∷ prices) p h = at (is_side p.edge.a p.edge.b (q.edge.a, q.edge.b)) refl (find_priced-entry prices p)
  where
    at : (t : Bool) → is_side p.edge.a p.edge.b (q.edge.a, q.edge.b) ≡ t → (Contains prices p → IsEntry prices p.edge.a p.edge.b (find_priced prices p.edge.a p.edge.b))
        → IsEntry (q ∷ prices) p.edge.a p.edge.b (cond t q (find_priced prices p.edge.a p.edge.b))
    at true e rest = let ends = (is_side_decides p.edge.a p.edge.b q.edge.a q.edge.b).0 e in record { has = Contains-here q prices; a_is = ends.0; b_is = ends.1 }
    at false e rest =
        ⊎_elim
        (λ (is : q ≡ p). absurd (false≢true (sym e ∙ (ap (λ r. is_side p.edge.a p.edge.b (r.edge.a, r.edge.b)) is ∙ is_side_same p.edge.a p.edge.b))))
        (λ (later : Contains prices p).
        let k = rest later in
        record { has = Contains-later q (find_priced prices p.edge.a p.edge.b) prices k.has; a_is = k.a_is; b_is = k.b_is })
        (Contains-cases q p prices h)

-- each entry of an ascending list is found by its ends
pub find_priced-own : (prices : List Priced) (p : Priced) → AllPairs EdgePrecedes (priced_edges prices) → Contains prices p → find_priced prices p.edge.a p.edge.b ≡ p
find_priced-own [] p up h = absurd (Contains-nil p h)
find_priced-own (q ∷ prices) p up h =
    at (is_side p.edge.a p.edge.b (q.edge.a, q.edge.b)) refl
    (find_priced-own prices p (AllPairs-tail EdgePrecedes q.edge (priced_edges prices) up))
  where
    at : (t : Bool) → is_side p.edge.a p.edge.b (q.edge.a, q.edge.b) ≡ t → (Contains prices p → find_priced prices p.edge.a p.edge.b ≡ p)
        → cond t q (find_priced prices p.edge.a p.edge.b) ≡ p
    at true e rest =
        let ends = (is_side_decides p.edge.a p.edge.b q.edge.a q.edge.b).0 e in
        let same = Edge-equal q.edge p.edge ends.0 ends.1 in
        ⊎_elim
        (λ (is : q ≡ p). is)
        (λ (later : Contains prices p).
        let before = All-contains (EdgePrecedes q.edge) (priced_edges prices) p.edge (AllPairs-head EdgePrecedes q.edge (priced_edges prices) up) (contains_map (λ r. r.edge) prices p later) in
        absurd (EdgePrecedes-irreflexive p.edge (subst (λ e. EdgePrecedes e p.edge) same before)))
        (Contains-cases q p prices h)
    at false e rest =
        ⊎_elim
        (λ (is : q ≡ p). absurd (false≢true (sym e ∙ (ap (λ r. is_side p.edge.a p.edge.b (r.edge.a, r.edge.b)) is ∙ is_side_same p.edge.a p.edge.b))))
        (λ (later : Contains prices p). rest later)
        (Contains-cases q p prices h)

-- the ends come in either order
pub priced-comm : (prices : List Priced) (u v : ℕ) → priced prices v u ≡ priced prices u v
priced-comm prices u v =
    let low : min v u ≡ min u v = omega arith in
    let high : max v u ≡ max u v = omega arith in
    ap (λ a. find_priced prices a (max v u)) low ∙ ap (λ b. find_priced prices (min u v) b) high

pub is_on_hull_decides : (hull : List ℕ) (u v : ℕ) → Decides (is_on_hull hull u v) (IsHullPair hull u v ⊎ IsHullPair hull v u)
is_on_hull_decides hull u v = Decides-or _ _ (is_pair_decides hull u v) (is_pair_decides hull v u)

or_comm : (a b : Bool) → (a || b) ≡ (b || a)
or_comm true true = refl
or_comm true false = refl
or_comm false true = refl
or_comm false false = refl

pub is_on_hull-comm : (hull : List ℕ) (u v : ℕ) → is_on_hull hull v u ≡ is_on_hull hull u v
is_on_hull-comm hull u v = or_comm (list_any (is_side v u) (ring_pairs hull)) (list_any (is_side u v) (ring_pairs hull))

is_on_hull-up : (hull : List ℕ) (u v : ℕ) → is_on_hull hull (min u v) (max u v) ≡ is_on_hull hull u v
is_on_hull-up hull u v =
    ⊎_elim
    (λ l.
    let low : min u v ≡ u = omega arith in
    let high : max u v ≡ v = omega arith in
    ap (λ a. is_on_hull hull a (max u v)) low ∙ ap (λ b. is_on_hull hull u b) high)
    (λ l.
    let low : min u v ≡ v = omega arith in
    let high : max u v ≡ u = omega arith in
    ap (λ a. is_on_hull hull a (max u v)) low ∙ (ap (λ b. is_on_hull hull v b) high ∙ is_on_hull-comm hull u v))
    (cases_lt u v)

-- what is anchored of an edge, by where it lies
pub anchors_of-is : (hull : List ℕ) (prices : List Priced) (u v : ℕ)
    → anchors_of hull (priced prices u v) ≡ cond (is_on_hull hull u v) (priced prices u v).value ((priced prices u v).left +ℤ (priced prices u v).right)
anchors_of-is hull prices u v =
    ⊎_elim
    (λ (h : IsEntry prices (min u v) (max u v) (priced prices u v)).
    let p = priced prices u v in
    let same : is_on_hull hull p.edge.a p.edge.b ≡ is_on_hull hull u v
    = ap (λ a. is_on_hull hull a p.edge.b) h.a_is ∙ (ap (λ b. is_on_hull hull (min u v) b) h.b_is ∙ is_on_hull-up hull u v) in
    ap (λ t. cond t p.value (p.left +ℤ p.right)) same)
    (λ (none : priced prices u v ≡ unpriced).
    subst (λ p. anchors_of hull p ≡ cond (is_on_hull hull u v) p.value (p.left +ℤ p.right)) (sym none)
    (zero (is_on_hull hull 0 1) ∙ sym (zero (is_on_hull hull u v))))
    (find_priced-cases prices (min u v) (max u v))
  where
    zero : (t : Bool) → cond t (pos 0) (pos 0 +ℤ pos 0) ≡ pos 0
    zero true = refl
    zero false = refl
