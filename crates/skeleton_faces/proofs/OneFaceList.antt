-- Two faces with a side in common are one, so that edges have one list of faces.
use Rattle.std.proofs.Common.{◌≡◌, ℕ, ◌+◌, ◌%◌, ◌<◌, ◌≤◌, List, length, get_or, Contains, sym, ap, ◌∙◌, subst, ⊎_elim, arith}
use Rattle.std.proofs.Math.Nat.{mod-eq_of_lt}
use Rattle.std.proofs.lemmas.Bool.{cases_lt}
use Rattle.std.proofs.lemmas.List.{ext_get_or}
use Rattle.std.proofs.lemmas.List.Elements.{All-contains}
use Rattle.exact_predicates.specs.declared.edge.Edge.{Edge}
use Rattle.exact_predicates.specs.declared.point.Point.{Point}
use Rattle.exact_predicates.proofs.Ascending.{ascending-only}
use Rattle.skeleton_faces.specs.Faces.{AreFaces, IsFace, IsSameSide, SidePrecedes, round_at}
use Rattle.skeleton_faces.specs.Uniqueness.{OneFaceList}
use Rattle.skeleton_faces.proofs.Once.{IsLedCycle, begins_alike, end_place, not_before_each_other, same_sym, same_trans, together}

module _ (ps : List Point) (es : List Edge) where
  IsLedCycle-face : (c : List ℕ) → IsFace ps es c → IsLedCycle ps es c
  IsLedCycle-face c f = record { some = f.some; follows = f.follows; least = f.least }

  -- of two faces that begin with one side neither has fewer sides
  no_shorter : (c d : List ℕ) → IsFace ps es c → IsFace ps es d → IsSameSide c 0 d 0 → length d ≤ length c
  no_shorter c d f g same =
      ⊎_elim
      (λ (l : length c < length d).
      let on = together ps es c d (IsLedCycle-face c f) (IsLedCycle-face d g) 0 0 (length c) same in
      let from_none : 0 + length c ≡ length c = omega arith in
      let at_end = subst (λ (i : ℕ). IsSameSide c i d i) from_none on in
      let back = same_trans d c c 0 0 (length c) (same_sym c d 0 0 same) (same_sym c c (length c) 0 (end_place c)) in
      absurd (g.once 0 (length c) f.some l (same_trans d c d 0 (length c) (length c) back at_end)))
      (λ m. m)
      (cases_lt (length c) (length d))

  round_at-here : (c : List ℕ) (i : ℕ) → i < length c → round_at c (0 + i) ≡ get_or c i 0
  round_at-here c i l = let none : 0 + i ≡ i = omega arith in ap (λ k. get_or c k 0) (ap (λ k. k % length c) none ∙ mod-eq_of_lt l)

  -- two faces with a side in common are one
  same_face : (c d : List ℕ) → IsFace ps es c → IsFace ps es d → (k m : ℕ) → k < length c → m < length d → IsSameSide c k d m → c ≡ d
  same_face c d f g k m k_in m_in same =
      let first = begins_alike ps es c d (IsLedCycle-face c f) (IsLedCycle-face d g) k m k_in m_in same in
      let fewer = no_shorter c d f g first in
      let more = no_shorter d c g f (same_sym c d 0 0 first) in
      ext_get_or 0 c d (omega arith)
      (λ i l. sym (round_at-here c i l)
      ∙ ((together ps es c d (IsLedCycle-face c f) (IsLedCycle-face d g) 0 0 i first).0 ∙ round_at-here d i (omega arith)))

  -- a face of the one list is one of the other
  there : (cycles other : List (List ℕ)) → AreFaces ps es cycles → AreFaces ps es other → (c : List ℕ) → Contains cycles c → Contains other c
  there cycles other h k c has =
      let f = All-contains (IsFace ps es) cycles c h.each has in
      let (j, d, j_in, at_j, (m, m_in, from, to)) = k.all (round_at c 0) (round_at c 1) (f.follows 0 f.some).side in
      let d_in : Contains other d = (j, j_in, at_j) in
      let same = same_face c d f (All-contains (IsFace ps es) other d k.each d_in) 0 m f.some m_in (sym from, sym to) in
      subst (Contains other) (sym same) d_in

pub one_face_list : OneFaceList
one_face_list ps es cycles other h k =
    ascending-only (λ c d. SidePrecedes (round_at c 0) (round_at c 1) (round_at d 0) (round_at d 1)) (λ c d. not_before_each_other _ _ _ _) cycles other h.ascending k.ascending
    (there ps es cycles other h k) (there ps es other cycles k h)
