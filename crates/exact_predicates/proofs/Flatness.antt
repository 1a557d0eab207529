-- The test whether all points of a list lie on one line, and three points that do not.
use Rattle.std.proofs.Common.{◌≤◌, AllPairs, arith, ◌≡◌, ◌≢◌, ℕ, ◌<◌, Bool, true, false, refl, Decides, List, length, All, Contains, IsPermutation, pos, ap, sym, ◌∙◌}
use Rattle.std.specs.List.{list_all}
use Rattle.std.specs.Ordering.{int_eq}
use Rattle.std.proofs.lemmas.Bool.{both_ways, false_from_ne_true}
use Rattle.std.proofs.lemmas.Bool.Decides.{same_from_decides, Decides-like, Decides-int_eq}
use Rattle.std.proofs.lemmas.List.{get_or_default}
use Rattle.std.proofs.lemmas.List.Elements.{Contains-get_or}
use Rattle.std.proofs.lemmas.List.Sorted.{Contains-permutation, IsPermutation-sym}
use Rattle.exact_predicates.specs.declared.point.Point.{Point}
use Rattle.exact_predicates.specs.Plane.{orient, Precedes}
use Rattle.exact_predicates.specs.PointSet.{HasTurn, point_at}
use Rattle.exact_predicates.specs.Merging.{is_flat}
use Rattle.exact_predicates.proofs.Line.{orient-on_line}
use Rattle.exact_predicates.proofs.ListFacts.{Decides-list_all, list_all-fails}

-- each three of the points lie on one line
abbrev pub IsFlat : List Point → Type 0
IsFlat ps = All (λ p. All (λ q. All (λ r. orient p q r ≡ pos 0) ps) ps) ps

-- the test finds whether a list is flat
pub Decides-is_flat : (ps : List Point) → Decides (is_flat ps) (IsFlat ps)
Decides-is_flat ps =
    Decides-list_all _ (λ p. All (λ q. All (λ r. orient p q r ≡ pos 0) ps) ps)
    (λ p. Decides-list_all _ (λ q. All (λ r. orient p q r ≡ pos 0) ps)
    (λ q. Decides-list_all _ (λ r. orient p q r ≡ pos 0) (λ r. Decides-int_eq (orient p q r) (pos 0)) ps) ps) ps

-- a list with a turn is not flat
pub is_flat-HasTurn : (ps : List Point) → HasTurn ps → is_flat ps ≡ false
is_flat-HasTurn ps h = false_from_ne_true (is_flat ps) (λ e. h.turn ((Decides-is_flat ps).0 e h.i _ h.i_in h.j _ h.j_in h.k _ h.k_in))

-- three points of the list
pub HasTurn-from_contains : (ps : List Point) (p q r : Point) → Contains ps p → Contains ps q → Contains ps r → orient p q r ≢ pos 0 → HasTurn ps
HasTurn-from_contains ps p q r cp cq cr turn =
    record {
      i = cp.0;
      j = cq.0;
      k = cr.0;
      i_in = cp.1;
      j_in = cq.1;
      k_in = cr.1;
      turn = λ e. turn (ap (λ x. orient x q r) (sym (at p cp)) ∙ (ap (λ y. orient (point_at ps cp.0) y r) (sym (at q cq)) ∙ (ap (λ z. orient (point_at ps cp.0) (point_at ps cq.0) z) (sym (at r cr)) ∙ e)));
    }
  where
    at : (x : Point) (c : Contains ps x) → point_at ps c.0 ≡ x
    at x c = get_or_default ps c.0 _ x c.1 ∙ c.2

-- a turn does not depend on the order of the points
pub HasTurn-IsPermutation : (ps qs : List Point) → IsPermutation ps qs → HasTurn ps → HasTurn qs
HasTurn-IsPermutation ps qs moved h =
    HasTurn-from_contains qs (point_at ps h.i) (point_at ps h.j) (point_at ps h.k)
    (at h.i h.i_in) (at h.j h.j_in) (at h.k h.k_in) h.turn
  where
    at : (i : ℕ) → i < length ps → Contains qs (point_at ps i)
    at i l = Contains-permutation ps qs (point_at ps i) moved (Contains-get_or ps i _ l)

-- a list that is not flat has a turn
pub HasTurn-from_is_flat : (ps : List Point) → is_flat ps ≡ false → HasTurn ps
HasTurn-from_is_flat ps h =
    let a = list_all-fails _ ps h in
    let b = list_all-fails _ ps (a.2 _) in
    let c = list_all-fails _ ps (b.2 _) in
    record {
      i = a.0;
      j = b.0;
      k = c.0;
      i_in = a.1;
      j_in = b.1;
      k_in = c.1;
      turn = λ e. both_ways _ (c.2 _) ((Decides-int_eq _ (pos 0)).1 e);
    }

-- a list is flat where all points lie on the line of its first two
pub is_flat-scan : (ps : List Point) → 2 ≤ length ps → AllPairs Precedes ps → list_all (λ r. int_eq (orient (point_at ps 0) (point_at ps 1) r) (pos 0)) ps ≡ is_flat ps
is_flat-scan ps some ascending =
    let a = point_at ps 0 in
    let b = point_at ps 1 in
    let OnLine : Point → Type 0 = λ r. orient a b r ≡ pos 0 in
    let up : Precedes a b = ascending 0 1 _ (omega arith) (omega arith) in
    same_from_decides _ (is_flat ps)
    (Decides-list_all _ OnLine (λ r. Decides-int_eq (orient a b r) (pos 0)) ps)
    (Decides-like {P = IsFlat ps} {Q = All OnLine ps} (is_flat ps)
    (λ h. h 0 _ (omega arith) 1 _ (omega arith))
    (λ h i d i_in j e j_in k f k_in. orient-on_line a b _ _ _ up (h i d i_in) (h j e j_in) (h k f k_in))
    (Decides-is_flat ps))

-- the order of the points does not matter
pub is_flat-IsPermutation : (ps qs : List Point) → IsPermutation ps qs → is_flat qs ≡ is_flat ps
is_flat-IsPermutation ps qs moved = at (is_flat qs) (is_flat ps) refl refl
  where
    at : (a b : Bool) → is_flat qs ≡ a → is_flat ps ≡ b → a ≡ b
    at true true e f = refl
    at false false e f = refl
    at true false e f = absurd (both_ways _ (is_flat-HasTurn qs (HasTurn-IsPermutation ps qs moved (HasTurn-from_is_flat ps f))) e)
    at false true e f = absurd (both_ways _ (is_flat-HasTurn ps (HasTurn-IsPermutation qs ps (IsPermutation-sym ps qs moved) (HasTurn-from_is_flat qs e))) f)
