-- Where the edges of each lesser end stand in an ascending list.
use Rattle.std.proofs.Common.{◌≡◌, ℕ, ◌+◌, ◌-◌, ◌<◌, ◌≤◌, ◌↔◌, IsTrue, min, Option, Some, None, IfSome, is_some, List, [], ◌∷◌, ◌++◌, length, get_or, slice_index, take, drop, AllPairs, ⊎_elim, arith, refl, sym, ap, ◌∙◌, subst}
use Rattle.std.proofs.lemmas.Bool.{cases_lt}
use Rattle.std.proofs.lemmas.List.{get_or_default, get_or-take, get_or-drop, get_or_append_left, get_or_push, length-take, length-drop, length_push}
use Rattle.std.specs.List.{HoldsAt}
use Rattle.exact_predicates.specs.declared.edge.Edge.{Edge}
use Rattle.exact_predicates.specs.Candidates.{EdgePrecedes, Joins, HasEdge}
use Rattle.empty_triangles.specs.Enumeration.{IsStartOf, IsRow}

-- where one edge has the lesser end a or a greater one, so have all after it
pub IsStartOf-here : (es : List Edge) (place a : ℕ) → AllPairs EdgePrecedes es → place ≤ length es → ((i : ℕ) (d : Edge) → i < place → (get_or es i d).a < a) → (place < length es → (d : Edge) → a ≤ (get_or es place d).a) → IsStartOf es a place
IsStartOf-here es place a up within before here = record {
  within = within;
  before = before;
  after = λ i d low i_in.
      ⊎_elim
      (λ (l : place < i). let least = here (omega arith) d in ⊎_elim (λ m. omega (arith, least, m)) (λ m. omega (arith, least, m.0)) (up place i d l i_in))
      (λ (l : i ≤ place). let same : place ≡ i = omega arith in subst (λ (j : ℕ). a ≤ (get_or es j d).a) same (here (omega arith) d))
      (cases_lt place i);
}

-- the starts of the numbers below a, and a place before which all edges have such a lesser end
pub record AreStartsBelow (es : List Edge) (a place : ℕ) (starts : List ℕ) : Type 0 where
  pub place_in : place ≤ length es
  pub below : (i : ℕ) (d : Edge) → i < place → (get_or es i d).a < a
  pub count : length starts ≡ a
  pub each : (k : ℕ) → k < length starts → IsStartOf es k (slice_index starts k)

-- one more start
pub AreStartsBelow-push : (es : List Edge) (a place next : ℕ) (starts : List ℕ) → AreStartsBelow es a place starts → IsStartOf es a next → AreStartsBelow es (a + 1) next (starts ++ next ∷ [])
AreStartsBelow-push es a place next starts h s =
    let n = h.count in
    let long = length_push starts next in
    record {
      place_in = s.within;
      below = λ i d l. let m = s.before i d l in omega arith;
      count = omega arith;
      each = λ k k_in. ⊎_elim
          (λ (low : k < a). subst (λ (x : ℕ). IsStartOf es k x) (sym (get_or_append_left starts (next ∷ []) 0 k (omega arith))) (h.each k (omega arith)))
          (λ (high : a ≤ k).
          let same : a ≡ k = omega arith in
          subst (λ (x : ℕ). IsStartOf es k x) (sym (get_or_push starts next 0 k (omega arith))) (subst (λ (b : ℕ). IsStartOf es b next) same s))
          (cases_lt k a);
    }

-- the edges with one lesser end stand together
module _ (es : List Edge) (a from to : ℕ) (p : IsStartOf es a from) (q : IsStartOf es (a + 1) to) where
  pub row_rises : from ≤ to
  row_rises =
      let some : Edge = record { a = 0; b = 1; ascending = omega arith } in
      let m = p.within in
      ⊎_elim (λ l. let below = p.before to some l in let above = q.after to some (omega arith) (omega arith) in absurd (omega arith)) (λ l. l) (cases_lt to from)

  lesser_end : (k : ℕ) (d : Edge) → from ≤ k → k < to → (get_or es k d).a ≡ a
  lesser_end k d low high =
      let m = q.within in
      let least = p.after k d low (omega arith) in
      let most = q.before k d high in
      omega arith

  placed : (k : ℕ) (e : Edge) → k < length es → get_or es k e ≡ e → e.a ≡ a → (from ≤ k) × (k < to)
  placed k e k_in at_k is =
      let here : (get_or es k e).a ≡ a = ap (λ (x : Edge). x.a) at_k ∙ is in (
        ⊎_elim (λ l. let below = p.before k e l in absurd (omega arith)) (λ l. l) (cases_lt k from),
        ⊎_elim (λ l. l) (λ l. let above = q.after k e l k_in in absurd (omega arith)) (cases_lt k to),
      )

  -- their greater ends, in this order, are the row
  pub IsRow-read : (row : List ℕ) → AllPairs EdgePrecedes es → length row + from ≡ to → ((k c : ℕ) (d : Edge) → k < length row → get_or row k c ≡ (get_or es (from + k) d).b) → IsRow es a row
  IsRow-read row up count read =
      let m = q.within in
      let some : Edge = record { a = 0; b = 1; ascending = omega arith } in
      record {
        ascending = λ i j c l j_in.
            let fi = lesser_end (from + i) some (omega arith) (omega arith) in
            let fj = lesser_end (from + j) some (omega arith) (omega arith) in
            rw (read i c some (omega arith), read j c some j_in) (⊎_elim (λ h. absurd (omega arith)) (λ r. r.1) (up (from + i) (from + j) some (omega arith) (omega arith)));
        each = λ k c k_in.
            let e = get_or es (from + k) some in
            let f = lesser_end (from + k) some (omega arith) (omega arith) in
            let rises = e.ascending in
            rw (read k c some k_in)
            (omega arith, (from + k, e, omega arith, get_or_default es (from + k) e some (omega arith), (omega arith, omega arith)));
        all = λ b l (k, e, k_in, at_k, j).
            let ea : e.a ≡ a = omega (arith, j.0) in
            let eb : e.b ≡ b = omega (arith, j.1) in
            let here = placed k e k_in at_k ea in
            let low = here.0 in
            let high = here.1 in
            let back : from + (k - from) ≡ k = omega arith in
            (k - from, omega arith, read (k - from) b e (omega arith) ∙ (ap (λ i. (get_or es i e).b) back ∙ (ap (λ (x : Edge). x.b) at_k ∙ eb)));
      }

  -- the part of the list between them
  abbrev part : List Edge
  part = take (to - from) (drop from es)

  length_part : from + length part ≡ to
  length_part = let m = q.within in let r = row_rises in omega (arith, length-take (to - from) (drop from es), length-drop from es)

  read_part : (k : ℕ) (d : Edge) → from + k < to → get_or part k d ≡ get_or es (from + k) d
  read_part k d l = get_or-take (to - from) (drop from es) k d (omega arith) ∙ get_or-drop from es k d

  pub AllPairs-part : AllPairs EdgePrecedes es → AllPairs EdgePrecedes part
  AllPairs-part up = λ i j d l j_in.
      let long = length_part in
      let m = q.within in
      rw (read_part i d (omega arith), read_part j d (omega arith)) (up (from + i) (from + j) d (omega arith) (omega arith))

  -- an edge with this lesser end is listed where it stands in the part
  pub HasEdge-found : (u v : ℕ) (r : Option ℕ) → a ≡ min u v → IfSome r (λ k. k < length part) → IfSome r (HoldsAt (λ e. Joins e u v) part) → (r ≡ None → ¬ HasEdge part u v) → IsTrue (is_some r) ↔ HasEdge es u v
  HasEdge-found u v None lesser within joins none = (
    λ t. absurd (cc),
    λ (k, e, k_in, at_k, j).
        let here = placed k e k_in at_k (j.0 ∙ sym lesser) in
        let low = here.0 in
        let high = here.1 in
        let long = length_part in
        let back : from + (k - from) ≡ k = omega arith in
        absurd (none refl (k - from, e, omega arith, read_part (k - from) e (omega arith) ∙ (ap (λ i. get_or es i e) back ∙ at_k), j)),
  )
  HasEdge-found u v (Some k) lesser within joins none =
      let some : Edge = record { a = 0; b = 1; ascending = omega arith } in
      let long = length_part in
      let m = q.within in
      let e = get_or es (from + k) some in
      (λ _. (from + k, e, omega arith, get_or_default es (from + k) e some (omega arith), subst (λ (x : Edge). Joins x u v) (read_part k some (omega arith)) (joins some)), λ _. refl)
