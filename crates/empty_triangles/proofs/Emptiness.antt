-- When a triangle over a list of edges is empty.
use Rattle.std.proofs.Common.{◌≡◌, ◌↔◌, ℕ, ◌<◌, ◌≤◌, Bool, IsTrue, List, length, slice_index, Contains, Result, Ok, Err, is_ok, nat_cmp, ⊎_elim, sym, ◌∙◌, arith}
use Rattle.std.proofs.lemmas.Bool.{cases_lt}
use Rattle.std.proofs.lemmas.List.{get_or_default}
use Rattle.std.proofs.lemmas.List.Sorted.{searched}
use Rattle.std.specs.List.Sorted.{IsBinarySearchResult}
use Rattle.exact_predicates.specs.declared.edge.Edge.{Edge}
use Rattle.exact_predicates.specs.declared.point.Point.{Point}
use Rattle.exact_predicates.specs.declared.tri.Tri.{Tri}
use Rattle.exact_predicates.specs.Candidates.{HasEdge, IsEmptyOver}
use Rattle.exact_predicates.proofs.Equalities.{HasEdge-comm}
use Rattle.empty_triangles.specs.Enumeration.{IsBare, IsThird}

-- whether a number is in an ascending list
pub Contains-searched : (xs : List ℕ) (x : ℕ) (r : Result ℕ ℕ) (found : Bool) → IsBinarySearchResult (λ y. nat_cmp y x) xs r → ((j k : ℕ) → j ≤ k → k < length xs → slice_index xs j ≤ slice_index xs k)
    → found ≡ is_ok r → IsTrue found ↔ Contains xs x
Contains-searched xs x (Ok k) found h sorted is =
    let at = searched xs x (Ok k) h sorted in
    (λ _. (k, at.0, get_or_default xs k x 0 at.0 ∙ at.1), λ _. is)
Contains-searched xs x (Err k) found h sorted is =
    let (k_in, below, above) = searched xs x (Err k) h sorted in (
      λ yes. absurd (let no = sym is ∙ yes in cc),
      λ (m, m_in, at_m).
          let here = get_or_default xs m 0 x m_in ∙ at_m in
          absurd (⊎_elim (λ l. omega (arith, below m l)) (λ l. omega (arith, above m l m_in)) (cases_lt m k)),
    )

-- three corners by their numbers make an empty triangle
IsEmptyOver-bare : (ps : List Point) (es : List Edge) (t : Tri) → t.b < length ps → IsBare ps t.a t.b t.c → HasEdge es t.a t.b → HasEdge es t.b t.c → HasEdge es t.a t.c → IsEmptyOver ps es t
IsEmptyOver-bare ps es t b_in h ab bc ac =
    let up = t.below_b in record {
      empty = record { a_in = omega arith; b_in = b_in; c_in = h.c_in; turns_left = h.turns_left; bare = h.bare };
      ab = ab;
      bc = bc;
      ca = HasEdge-comm es t.a t.c ac;
    }

-- a third corner makes one
pub IsEmptyOver-third : (ps : List Point) (es : List Edge) (a b c : ℕ) (t : Tri) → b < length ps → HasEdge es a b → IsThird ps es a b c → t.a ≡ a → t.b ≡ b → t.c ≡ c → IsEmptyOver ps es t
IsEmptyOver-third ps es a b c t b_in ab h ea eb ec =
    IsEmptyOver-bare ps es t (omega arith)
    (rw (ea, eb, ec) h.bare)
    (rw (ea, eb) ab)
    (rw (eb, ec) h.bc)
    (rw (ea, ec) h.ac)

-- and each one has a third corner
pub IsThird-empty : (ps : List Point) (es : List Edge) (t : Tri) → IsEmptyOver ps es t → IsThird ps es t.a t.b t.c
IsThird-empty ps es t e = record {
  bare = record { after = t.below_c; c_in = e.empty.c_in; turns_left = e.empty.turns_left; bare = e.empty.bare };
  ac = HasEdge-comm es t.c t.a e.ca;
  bc = e.bc;
}
