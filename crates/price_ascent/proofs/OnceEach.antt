-- Each side with an anchor stands once in the list of these sides.
use Rattle.std.proofs.Common.{◌≡◌, ◌⊎◌, ℕ, ◌+◌, ◌<◌, ◌≤◌, true, List, [], ◌∷◌, ◌++◌, length, slice_index, flat_map, AllPairs, Contains, ap, sym, ◌∙◌, subst, arith, ⊎_elim, inl, inr}
use Rattle.std.proofs.lemmas.Bool.{cases_eq, cases_lt}
use Rattle.std.proofs.lemmas.List.Elements.{All-contains, Contains-append_cases}
use Rattle.std.proofs.lemmas.List.Sums.{get_or-le-sum_by, sum_by-append, sum_by-cons}
use Rattle.exact_predicates.specs.declared.edge.Edge.{Edge}
use Rattle.exact_predicates.specs.declared.point.Point.{Point}
use Rattle.exact_predicates.specs.Candidates.{EdgePrecedes, Joins}
use Rattle.exact_predicates.specs.Hull.{IsHull, IsHullPair, ring_pairs}
use Rattle.exact_predicates.specs.Triangulation.{hit}
use Rattle.exact_predicates.proofs.Equalities.{Joins-comm, Joins-ends, Joins-only}
use Rattle.exact_predicates.proofs.HullPairs.{pair_none, pair_once}
use Rattle.exact_predicates.proofs.ListFacts.{AllPairs-head, AllPairs-tail}
use Rattle.exact_predicates.proofs.ListOrder.{EdgePrecedes-irreflexive}
use Rattle.exact_predicates.proofs.Pairs.{hit_none, hit_same, pair_or_not}
use Rattle.exact_predicates.proofs.Rings.{IsNext, place_of_pair}
use Rattle.exact_predicates.proofs.SidesCounted.{count}
use Rattle.lmt_network.specs.Live.{IsHullEdge}
use Rattle.lmt_network.specs.Prices.{is_on_hull}
use Rattle.lmt_network.proofs.Entries.{is_on_hull_decides}
use Rattle.lmt_network.proofs.Picked.{Contains-cases, Contains-here, Contains-later, Contains-nil}
use Rattle.price_ascent.specs.Ascent.{anchored_sides, both_sides}

-- Each side stands once, and none of the hull has its other direction beside it.
pub record AreOnce (hull : List ℕ) (sides : List (ℕ × ℕ)) : Type 0 where
  pub once : (u v : ℕ) → count sides u v ≤ 1
  pub one_way : (u v : ℕ) → is_on_hull hull u v ≡ true → Contains sides (u, v) → ¬ Contains sides (v, u)

contains_counted : (xs : List (ℕ × ℕ)) (u v : ℕ) → Contains xs (u, v) → 1 ≤ count xs u v
contains_counted xs u v (k, k_in, at_k) = omega (arith, get_or-le-sum_by (hit u v) xs k (u, v) k_in, ap (hit u v) at_k, hit_same u v)

-- so what stands in one part stands in no other
pub apart : (hull : List ℕ) (xs ys : List (ℕ × ℕ)) (u v : ℕ) → AreOnce hull (xs ++ ys) → Contains xs (u, v) → ¬ Contains ys (u, v)
apart hull xs ys u v h in_xs in_ys =
    absurd (omega (arith, h.once u v, sum_by-append (hit u v) xs ys, contains_counted xs u v in_xs, contains_counted ys u v in_ys))

-- the edge that one of these is a side of
pub edge_of_side : (es : List Edge) (u v : ℕ) → Contains (flat_map both_sides es) (u, v) → (f : Edge) × Contains es f × Joins f u v
edge_of_side [] u v h = absurd (Contains-nil (u, v) h)
edge_of_side (e ∷ es) u v h =
    let rest = flat_map both_sides es in
    ⊎_elim
    (λ (is : (e.a, e.b) ≡ (u, v)). (e, Contains-here e es, subst (λ (p : ℕ × ℕ). Joins e p.0 p.1) is (Joins-ends e)))
    (λ more. ⊎_elim
    (λ (is : (e.b, e.a) ≡ (u, v)). (e, Contains-here e es, subst (λ (p : ℕ × ℕ). Joins e p.0 p.1) is (Joins-comm e e.a e.b (Joins-ends e))))
    (λ later. let (f, has, joins) = edge_of_side es u v later in (f, Contains-later e f es has, joins))
    (Contains-cases (e.b, e.a) (u, v) rest more))
    (Contains-cases (e.a, e.b) (u, v) ((e.b, e.a) ∷ rest) h)

-- what is counted is there
counted : (xs : List (ℕ × ℕ)) (u v : ℕ) → 1 ≤ count xs u v → Contains xs (u, v)
counted [] u v h = absurd (omega (arith, h))
counted (x ∷ xs) u v h =
    ⊎_elim
    (λ is. subst (Contains (x ∷ xs)) (ap (λ z. (z, x.1)) is.0 ∙ ap (λ z. (u, z)) is.1) (Contains-here x xs))
    (λ away. Contains-later x (u, v) xs (counted xs u v (omega (arith, h, sum_by-cons (hit u v) x xs, hit_none u v x.0 x.1 away))))
    (same_or_not x.0 u x.1 v)
  where
    same_or_not : (p q r s : ℕ) → ((p ≡ q) × (r ≡ s)) ⊎ (¬ ((p ≡ q) × (r ≡ s)))
    same_or_not p q r s =
        ⊎_elim
        (λ e. ⊎_elim (λ f. inl (e, f)) (λ ne. inr (λ (h : (p ≡ q) × (r ≡ s)). ne h.1)) (cases_eq r s))
        (λ ne. inr (λ (h : (p ≡ q) × (r ≡ s)). ne h.0))
        (cases_eq p q)

-- the two sides of an edge differ
two_sides : (e : Edge) (u v : ℕ) → hit u v (e.a, e.b) + hit u v (e.b, e.a) ≤ 1
two_sides e u v =
    let up = e.ascending in
    ⊎_elim
    (λ l. let none = hit_none u v e.b e.a (λ (is : (e.b ≡ u) × (e.a ≡ v)). let p = is.0 in let q = is.1 in absurd (omega (arith, l, up, p, q))) in omega (arith, none, at_most_one (e.a, e.b)))
    (λ le. let none = hit_none u v e.a e.b (λ (is : (e.a ≡ u) × (e.b ≡ v)). let p = is.0 in let q = is.1 in absurd (omega (arith, le, up, p, q))) in omega (arith, none, at_most_one (e.b, e.a)))
    (cases_lt u v)
  where
    at_least : (k : ℕ) → (1 ≤ k) ⊎ (k < 1)
    at_least k = ⊎_elim (λ l. inr l) (λ l. inl l) (cases_lt k 1)

    at_most_one : (s : ℕ × ℕ) → hit u v s ≤ 1
    at_most_one s =
        ⊎_elim
        (λ (is : 1 ≤ count (s ∷ []) u v).
        let here = counted (s ∷ []) u v is in
        ⊎_elim
        (λ (same : s ≡ (u, v)). let one = ap (hit u v) same in omega (arith, one, hit_same u v))
        (λ none. absurd (Contains-nil (u, v) none))
        (Contains-cases s (u, v) [] here))
        (λ (none : count (s ∷ []) u v < 1). omega (arith, none, sum_by-cons (hit u v) s []))
        (at_least (count (s ∷ []) u v))

-- sides of distinct edges
inner_once : (es : List Edge) (u v : ℕ) → AllPairs EdgePrecedes es → count (flat_map both_sides es) u v ≤ 1
inner_once [] u v h = omega arith
inner_once (e ∷ es) u v h =
    let rest = flat_map both_sides es in
    let sum : count (flat_map both_sides (e ∷ es)) u v ≡ hit u v (e.a, e.b) + (hit u v (e.b, e.a) + count rest u v)
    = sum_by-cons (hit u v) (e.a, e.b) ((e.b, e.a) ∷ rest) ∙ ap (λ k. hit u v (e.a, e.b) + k) (sum_by-cons (hit u v) (e.b, e.a) rest) in
    ⊎_elim
    (λ (none : count rest u v < 1). omega (arith, sum, none, two_sides e u v))
    (λ (some : 1 ≤ count rest u v).
    let (f, has, joins) = edge_of_side es u v (counted rest u v some) in
    let later : EdgePrecedes e f = All-contains (EdgePrecedes e) es f (AllPairs-head EdgePrecedes e es h) has in
    let far : ¬ Joins e u v = λ is. EdgePrecedes-irreflexive f (subst (λ (x : Edge). EdgePrecedes x f) (Joins-only e f u v is joins) later) in
    let up = hit_none u v e.a e.b (λ (is : (e.a ≡ u) × (e.b ≡ v)). far (subst (λ (x : ℕ). Joins e x v) is.0 (subst (λ (y : ℕ). Joins e e.a y) is.1 (Joins-ends e)))) in
    let down = hit_none u v e.b e.a (λ (is : (e.b ≡ u) × (e.a ≡ v)).
    far (subst (λ (x : ℕ). Joins e x v) is.0 (subst (λ (y : ℕ). Joins e e.b y) is.1 (Joins-comm e e.a e.b (Joins-ends e))))) in
    omega (arith, sum, up, down, inner_once es u v (AllPairs-tail EdgePrecedes e es h)))
    (cases_lt (count rest u v) 1)

-- no pair of the hull is one in both directions
pub one_direction : (ps : List Point) (hull : List ℕ) (u v : ℕ) → IsHull ps hull → IsHullPair hull u v → ¬ IsHullPair hull v u
one_direction ps hull u v h there back =
    let (i, i_in, at_i, next_i) = place_of_pair hull u v there in
    let (j, j_in, at_j, next_j) = place_of_pair hull v u back in
    let three = h.three in
    let follows : (k l y : ℕ) → k < length hull → l < length hull → slice_index hull l ≡ y → IsNext hull k y → (k + 1 ≡ l) ⊎ ((k + 1 ≡ length hull) × (l ≡ 0))
    = λ k l y k_in l_in at_l next. ⊎_elim
    (λ n. inl (place_once (k + 1) l n.0 l_in (n.1 ∙ sym at_l)))
    (λ n. inr (n.0, place_once l 0 l_in (omega (arith, three)) (at_l ∙ sym n.1)))
    next in
    absurd (⊎_elim
    (λ e. ⊎_elim (λ f. omega (arith, e, f)) (λ f. let p = f.0 in let q = f.1 in omega (arith, e, p, q, three)) (follows j i u j_in i_in at_i next_j))
    (λ e. let p = e.0 in let q = e.1 in ⊎_elim (λ f. omega (arith, p, q, f, three)) (λ f. let r = f.0 in omega (arith, q, r, three)) (follows j i u j_in i_in at_i next_j))
    (follows i j v i_in j_in at_j next_i))
  where
    place_once : (k l : ℕ) → k < length hull → l < length hull → slice_index hull k ≡ slice_index hull l → k ≡ l
    place_once k l k_in l_in same =
        ⊎_elim
        (λ less. absurd (h.distinct k l 0 less l_in same))
        (λ le. ⊎_elim (λ e. e) (λ ne. let less : l < k = omega arith in absurd (h.distinct l k 0 less k_in (sym same))) (cases_eq k l))
        (cases_lt k l)

-- no edge of these is on the hull
abbrev pub AreOffHull : List ℕ → List Edge → Type 0
AreOffHull hull es = (f : Edge) → Contains es f → ¬ IsHullEdge hull f

off_ring : (hull : List ℕ) (es : List Edge) (u v : ℕ) → AreOffHull hull es → Contains (flat_map both_sides es) (u, v) → ¬ (IsHullPair hull u v ⊎ IsHullPair hull v u)
off_ring hull es u v off has on =
    let (f, f_in, joins) = edge_of_side es u v has in
    off f f_in (⊎_elim
    (λ l. let low : f.a ≡ u = joins.0 ∙ omega arith in let high : f.b ≡ v = joins.1 ∙ omega arith in
    subst (λ (x : ℕ). IsHullPair hull x f.b ⊎ IsHullPair hull f.b x) (sym low) (subst (λ (y : ℕ). IsHullPair hull u y ⊎ IsHullPair hull y u) (sym high) on))
    (λ le. let low : f.a ≡ v = joins.0 ∙ omega arith in let high : f.b ≡ u = joins.1 ∙ omega arith in
    subst (λ (x : ℕ). IsHullPair hull x f.b ⊎ IsHullPair hull f.b x) (sym low)
    (subst (λ (y : ℕ). IsHullPair hull v y ⊎ IsHullPair hull y v) (sym high) (⊎_elim (λ p. inr p) (λ p. inl p) on)))
    (cases_lt u v))

-- all sides with an anchor
pub anchored_sides-once : (ps : List Point) (hull : List ℕ) (es : List Edge) → IsHull ps hull → AllPairs EdgePrecedes es → AreOffHull hull es → AreOnce hull (anchored_sides hull es)
anchored_sides-once ps hull es h up off =
    record {
      once = λ u v. let sum = sum_by-append (hit u v) (ring_pairs hull) (flat_map both_sides es) in
          ⊎_elim
          (λ (yes : IsHullPair hull u v).
          let one = pair_once hull u v h.distinct yes in
          ⊎_elim
          (λ (none : count (flat_map both_sides es) u v < 1). omega (arith, sum, one, none))
          (λ (some : 1 ≤ count (flat_map both_sides es) u v). absurd (off_ring hull es u v off (counted (flat_map both_sides es) u v some) (inl yes)))
          (cases_lt (count (flat_map both_sides es) u v) 1))
          (λ (no : ¬ IsHullPair hull u v). omega (arith, sum, pair_none hull u v no, inner_once es u v up))
          (pair_or_not hull u v);
      one_way = λ u v on has back. ⊎_elim
          (λ (there : IsHullPair hull u v). ⊎_elim
          (λ (turned : IsHullPair hull v u). one_direction ps hull u v h there turned)
          (λ inner. off_ring hull es v u off inner (inr there))
          (Contains-append_cases (ring_pairs hull) (flat_map both_sides es) (v, u) back))
          (λ inner. off_ring hull es u v off inner ((is_on_hull_decides hull u v).0 on))
          (Contains-append_cases (ring_pairs hull) (flat_map both_sides es) (u, v) has);
    }
