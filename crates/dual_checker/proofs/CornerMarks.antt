-- Corners of triangles, and marks of them.
use Rattle.std.proofs.Common.{◌≡◌, ◌⊎◌, ℕ, zero, suc, ◌+◌, ◌<◌, ◌≤◌, Bool, true, false, ◌↔◌, List, [], ◌∷◌, ◌++◌, length, get_or, set, take, Any, refl, sym, ap, subst, ◌∙◌, arith, inl, inr}
use Rattle.std.proofs.lemmas.Bool.{cases_eq}
use Rattle.std.proofs.lemmas.List.{length-set, get_or-set_same, get_or-set_other, take_more, take_all}
use Rattle.exact_predicates.specs.declared.tri.Tri.{Tri}
use Rattle.exact_predicates.specs.Triangulation.{IsCorner}
use Rattle.exact_predicates.proofs.Elements.{Any-append_left, Any-append_right, Any-append_cases}
use Rattle.dual_checker.specs.Corners.{IsCornerIn, AreCornerMarks}

-- a mark stays where one is set, and is set where one is asked for
marked-set : (marks : List Bool) (i x : ℕ) → i < length marks → get_or (set marks i true) x false ≡ true → (x ≡ i) ⊎ (get_or marks x false ≡ true)
marked-set marks i x inside is = elim (cases_eq x i) [
  | inl same ↦ inl same
  | inr apart ↦ inr (sym (get_or-set_other marks i x true false apart) ∙ is)
]

set-marked : (marks : List Bool) (i x : ℕ) → i < length marks → (x ≡ i) ⊎ (get_or marks x false ≡ true) → get_or (set marks i true) x false ≡ true
set-marked marks i x inside h = elim (cases_eq x i) [
  | inl same ↦ ap (λ (y : ℕ). get_or (set marks i true) y false) same ∙ get_or-set_same marks i true false inside
  | inr apart ↦ elim h [
    | inl same ↦ absurd (apart same)
    | inr is ↦ get_or-set_other marks i x true false apart ∙ is
  ]
]

-- the corners of one more triangle are marked
pub AreCornerMarks-more : (count : ℕ) (tris : List Tri) (i : ℕ) (t : Tri) (marks : List Bool) → i < length tris → t ≡ get_or tris i t → t.b < count → t.c < count
    → AreCornerMarks count (take i tris) marks → AreCornerMarks count (take (i + 1) tris) (set (set (set marks t.a true) t.b true) t.c true)
AreCornerMarks-more count tris i t marks inside at b_in c_in h =
    let below = t.below_b in
    let one = length-set marks t.a true in
    let two = length-set (set marks t.a true) t.b true in
    let all = h.one_each in
    let more : take (i + 1) tris ≡ take i tris ++ t ∷ [] = take_more tris i t inside ∙ ap (λ (u : Tri). take i tris ++ u ∷ []) (sym at) in
    record {
      one_each = omega (arith, length-set (set (set marks t.a true) t.b true) t.c true, one, two, all);
      each = λ x x_in. subst (λ (ts : List Tri). (get_or (set (set (set marks t.a true) t.b true) t.c true) x false ≡ true) ↔ IsCornerIn ts x) (sym more) (
        λ is. elim (marked-set (set (set marks t.a true) t.b true) t.c x (omega arith) is) [
          | inl c ↦ here x (inr (inr c))
          | inr r ↦ elim (marked-set (set marks t.a true) t.b x (omega arith) r) [
            | inl b ↦ here x (inr (inl b))
            | inr s ↦ elim (marked-set marks t.a x (omega arith) s) [
              | inl a ↦ here x (inl a)
              | inr old ↦ Any-append_left (λ u. IsCorner u x) (take i tris) (t ∷ []) ((h.each x x_in).0 old)
            ]
          ]
        ],
        λ has. elim (Any-append_cases (λ u. IsCorner u x) (take i tris) (t ∷ []) has) [
          | inl old ↦ set-marked (set (set marks t.a true) t.b true) t.c x (omega arith) (inr (set-marked (set marks t.a true) t.b x (omega arith) (inr (set-marked marks t.a x (omega arith) (inr ((h.each x x_in).1 old))))))
          | inr new ↦ elim (one_of x new) [
            | inl a ↦ set-marked (set (set marks t.a true) t.b true) t.c x (omega arith) (inr (set-marked (set marks t.a true) t.b x (omega arith) (inr (set-marked marks t.a x (omega arith) (inl a)))))
            | inr r ↦ elim r [
              | inl b ↦ set-marked (set (set marks t.a true) t.b true) t.c x (omega arith) (inr (set-marked (set marks t.a true) t.b x (omega arith) (inl b)))
              | inr c ↦ set-marked (set (set marks t.a true) t.b true) t.c x (omega arith) (inl c)
            ]
          ]
        ],
      );
    } where
      here : (x : ℕ) → IsCorner t x → IsCornerIn (take i tris ++ t ∷ []) x
      here x is = Any-append_right (λ u. IsCorner u x) (take i tris) (t ∷ []) (0, t, omega arith, refl, is)

      one_of : (x : ℕ) → Any (λ u. IsCorner u x) (t ∷ []) → IsCorner t x
      one_of x (zero, u, k_in, same, is) = subst (λ (v : Tri). IsCorner v x) (sym same) is
      one_of x (suc k, u, k_in, same, is) = absurd (omega arith)

-- all triangles are gone through
pub AreCornerMarks-all : (count : ℕ) (tris : List Tri) (i : ℕ) (marks : List Bool) → length tris ≤ i → AreCornerMarks count (take i tris) marks → AreCornerMarks count tris marks
AreCornerMarks-all count tris i marks past h = subst (λ (ts : List Tri). AreCornerMarks count ts marks) (take_all i tris past) h
