-- Of a sleeve with corners a step at the farthest corner can be flipped: the inner edges of the fan there are steps.
use Rattle.std.proofs.Common.{◌≡◌, ℕ, List, [], ◌∷◌, ◌++◌, length, All, pos, ◌≤ℤ◌, ◌<ℤ◌, arith, ap, refl, sym, subst, inl, ◌⊎◌}
use Rattle.std.specs.Bool.{⊤}
use Rattle.std.proofs.lemmas.Int.{ints}
use Rattle.std.proofs.lemmas.List.{length-append}
use Rattle.std.proofs.lemmas.List.Elements.{All-cons, All-head, All-nil, All-tail}
use Rattle.exact_predicates.specs.declared.point.Point.{Point}
use Rattle.exact_predicates.specs.Plane.{Crosses, orient}
use Rattle.exact_predicates.proofs.Orientation.{orient_last_twice, orient_turned}
use Rattle.diamond_theorem.specs.Fans.{IsFan, IsInward, last_of}
use Rattle.diamond_theorem.specs.Sleeves.{AreTriangles, IsFlippable, end_left, first_or, step_after}
use Rattle.diamond_theorem.specs.Walks.{Corner, on_left, on_right, next_step, number_of}
use Rattle.diamond_theorem.proofs.Fans.{fans_flip}

-- from the step s on: a step to one of these corners, with the end z, that can be flipped
pub record HasFlipFrom (at : ℕ → Point) (s : ℕ × ℕ) (corners : List Corner) (q z : ℕ) : Type 0 where
  pub before : List Corner
  pub corner : Corner
  pub after : List Corner
  pub split : corners ≡ before ++ corner ∷ after
  pub flippable : IsFlippable at (step_after s before) corner (first_or after q)
  pub at_z : (z ≡ (next_step (step_after s before) corner).0) ⊎ (z ≡ (next_step (step_after s before) corner).1)

module _ (at : ℕ → Point) (q z : ℕ) where
  -- the fan at the corner z, on the left, after the right end of the step there
  fan : List Corner → List Point
  fan [] = at q ∷ []
  fan (on_left w ∷ cs) = at w ∷ []
  fan (on_right r ∷ cs) = at r ∷ fan cs

  fan_is : (r : ℕ) (cs : List Corner) → AreTriangles at (z, r) cs q → IsFan (at z) (at r) (fan cs)
  unfolding fan
  fan_is r [] h = (h, tt)
  fan_is r (on_left w ∷ cs) h = (h.0, tt)
  fan_is r (on_right y ∷ cs) h = (h.0, fan_is y cs h.1)

  fan_all : (P : Point → Type 0) (cs : List Corner) → All (λ c. P (at (number_of c))) cs → P (at q) → All P (fan cs)
  unfolding fan
  fan_all P [] h hq = All-cons P (at q) [] hq (All-nil P)
  fan_all P (on_left w ∷ cs) h hq = All-cons P (at w) [] (All-head (λ c. P (at (number_of c))) (on_left w) cs h) (All-nil P)
  fan_all P (on_right y ∷ cs) h hq =
      All-cons P (at y) (fan cs) (All-head (λ c. P (at (number_of c))) (on_right y) cs h)
      (fan_all P cs (All-tail (λ c. P (at (number_of c))) (on_right y) cs h) hq)

  -- of corners on the left
  abbrev pub OnLeft : (Point → Type 0) → Corner → Type 0
  OnLeft P (on_left w) = P (at w)
  OnLeft P (on_right y) = ⊤

  -- it ends with a corner on the left, or with q
  fan_end : (P : Point → Type 0) (r : Point) (cs : List Corner) → All (OnLeft P) cs → P (at q) → P (last_of r (fan cs))
  unfolding fan
  fan_end P r [] h hq = hq
  fan_end P r (on_left w ∷ cs) h hq = All-head (OnLeft P) (on_left w) cs h
  fan_end P r (on_right y ∷ cs) h hq = fan_end P (at y) cs (All-tail (OnLeft P) (on_right y) cs h) hq

  -- and begins with the next corner
  fan_first : (cs : List Corner) → (rest : List Point) × (fan cs ≡ at (first_or cs q) ∷ rest)
  unfolding fan
  fan_first [] = ([], refl)
  fan_first (on_left w ∷ cs) = ([], refl)
  fan_first (on_right y ∷ cs) = (fan cs, refl)

  -- the first inner edge
  here : (s : ℕ × ℕ) (c : Corner) (cs : List Corner) (x y : ℕ) → next_step s c ≡ (z, y) → end_left s c ≡ x → (v w t : Point) (after : List Point)
      → at x ∷ at y ∷ fan cs ≡ v ∷ w ∷ t ∷ after → Crosses (at z) w v t → HasFlipFrom at s (c ∷ cs) q z
  here s c cs x y next left v w t after same crosses =
      let (rest, begins) = fan_first cs in
      let e1 : v ≡ at x = cc in
      let e2 : w ≡ at y = cc in
      let e3 : t ≡ at (first_or cs q) = cc in
      let moved = subst (λ p. Crosses (at z) (at y) (at x) p) e3 (subst (λ p. Crosses (at z) (at y) p t) e1 (subst (λ p. Crosses (at z) p v t) e2 crosses)) in
      record {
        before = [];
        corner = c;
        after = cs;
        split = refl;
        flippable = subst (λ (u : ℕ × ℕ). Crosses (at u.0) (at u.1) (at (end_left s c)) (at (first_or cs q))) (sym next)
            (subst (λ n. Crosses (at z) (at y) (at n) (at (first_or cs q))) (sym left) moved);
        at_z = inl (sym (ap (λ (u : ℕ × ℕ). u.0) next));
      }

  -- one corner more before a flip
  later : (s : ℕ × ℕ) (c : Corner) (cs : List Corner) → HasFlipFrom at (next_step s c) cs q z → HasFlipFrom at s (c ∷ cs) q z
  later s c cs f = record { before = c ∷ f.before; corner = f.corner; after = f.after; split = ap (λ l. c ∷ l) f.split; flippable = f.flippable; at_z = f.at_z }

  -- the inner edges of the fan are the steps that have the end z
  locate : (s : ℕ × ℕ) (c : Corner) (cs : List Corner) (x y : ℕ) → next_step s c ≡ (z, y) → end_left s c ≡ x → (before : List Point) (v w t : Point) (after : List Point)
      → at x ∷ at y ∷ fan cs ≡ before ++ v ∷ w ∷ t ∷ after → Crosses (at z) w v t → HasFlipFrom at s (c ∷ cs) q z
  unfolding fan
  locate s c cs x y next left [] v w t after same crosses = here s c cs x y next left v w t after same crosses
  locate s c [] x y next left (p ∷ before) v w t after same crosses =
      absurd (omega (arith, ap (λ (l : List Point). length l) same, length-append before (v ∷ w ∷ t ∷ after)))
  locate s c (on_left n ∷ cs) x y next left (p ∷ before) v w t after same crosses =
      absurd (omega (arith, ap (λ (l : List Point). length l) same, length-append before (v ∷ w ∷ t ∷ after)))
  locate s c (on_right r ∷ cs) x y next left (p ∷ before) v w t after same crosses =
      later s c (on_right r ∷ cs)
      (locate (next_step s c) (on_right r) cs y r (ap (λ (u : ℕ × ℕ). (u.0, r)) next) (ap (λ (u : ℕ × ℕ). u.1) next) before v w t after (cc) crosses)

  -- the fan at a corner z on the left, that is not nearer to the middle of ab than any other
  pub left_flip : (a b e : Point) (s : ℕ × ℕ) (cs : List Corner) → AreTriangles at s (on_left z ∷ cs) q
      → IsInward a b (at z) (at s.0) → IsInward a b (at z) (at s.1) → All (λ c. IsInward a b (at z) (at (number_of c))) cs → IsInward a b (at z) (at q)
      → pos 0 ≤ℤ orient e (at q) (at s.0) → orient e (at q) (at s.1) <ℤ pos 0 → pos 0 <ℤ orient e (at q) (at z) → All (OnLeft (λ p. pos 0 ≤ℤ orient e (at q) p)) cs
      → HasFlipFrom at s (on_left z ∷ cs) q z
  left_flip a b e s cs h near_u near_r near near_q u r v lefts =
      let turn = h.0 in
      let whole = All-cons (IsInward a b (at z)) (at s.0) (at s.1 ∷ fan cs) near_u
      (All-cons (IsInward a b (at z)) (at s.1) (fan cs) near_r (fan_all (IsInward a b (at z)) cs near near_q)) in
      let f = fans_flip a b e (at q) (at z) (at s.0) (at s.1) (fan cs)
      (omega (arith, ints, orient_turned (at z) (at s.0) (at s.1)), fan_is s.1 cs h.1)
      whole u (fan_end (λ p. pos 0 ≤ℤ orient e (at q) p) (at s.1) cs lefts (omega (arith, ints, orient_last_twice e (at q)))) v r in
      locate s (on_left z) cs s.0 s.1 refl refl f.before f.x f.y f.z f.after f.follow f.crosses
