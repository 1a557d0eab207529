-- Of a sleeve with corners a step at the farthest corner can be flipped.
use Rattle.std.proofs.Common.{◌≡◌, ◌⊎◌, ℕ, ℤ, List, [], ◌∷◌, ◌++◌, All, map, pos, ◌≤ℤ◌, ◌<ℤ◌, arith, ap, refl, sym, ◌∙◌, subst, append_assoc}
use Rattle.std.proofs.lemmas.Int.{ints, by_lt_z}
use Rattle.std.proofs.lemmas.List.Elements.{All-cons, All-head, All-nil, All-tail, All-weaker}
use Rattle.exact_predicates.specs.declared.point.Point.{Point}
use Rattle.exact_predicates.specs.Plane.{orient}
use Rattle.exact_predicates.proofs.Orientation.{orient_return, orient_swapped, orient_swapped_last, orient_turned}
use Rattle.diamond_theorem.specs.Discs.{IsInDisc, power}
use Rattle.diamond_theorem.specs.Fans.{IsInward}
use Rattle.diamond_theorem.specs.Laws.{SleevesFlip}
use Rattle.diamond_theorem.specs.Sleeves.{AreTriangles, HasFarthestFlip, IsFlippable, IsOnItsSide, IsSleeve, first_or, step_after}
use Rattle.diamond_theorem.specs.Walks.{Corner, on_left, on_right, next_step, number_of}
use Rattle.diamond_theorem.proofs.Discs.{power_end, power_start}
use Rattle.diamond_theorem.proofs.Mirror.{mirror, orient_mirror, dot_mirror}
use Rattle.diamond_theorem.proofs.SleeveFlips.{HasFlipFrom, OnLeft, left_flip}
use Rattle.diamond_theorem.proofs.SleeveMirror.{HasFlipFrom-mirror, AreTriangles-mirror, other_side, turned}

-- a greatest of some corners by a measure
record Top (measure : Corner → ℤ) (corners : List Corner) : Type 0 where
  before : List Corner
  corner : Corner
  after : List Corner
  split : corners ≡ before ++ corner ∷ after
  top : All (λ c. measure c ≤ℤ measure corner) corners

top_of : (measure : Corner → ℤ) (c : Corner) (cs : List Corner) → Top measure (c ∷ cs)
top_of measure c [] =
    record { before = []; corner = c; after = []; split = refl; top = All-cons (λ d. measure d ≤ℤ measure c) c [] (omega (arith, ints)) (All-nil (λ d. measure d ≤ℤ measure c)) }
top_of measure c (d ∷ ds) =
    let t = top_of measure d ds in
    by_lt_z (measure t.corner) (measure c)
    (λ above. record {
      before = [];
      corner = c;
      after = d ∷ ds;
      split = refl;
      top = All-cons (λ x. measure x ≤ℤ measure c) c (d ∷ ds) (omega (arith, ints))
          (All-weaker (λ x. measure x ≤ℤ measure t.corner) (λ x. measure x ≤ℤ measure c) (λ x h. omega (arith, ints)) (d ∷ ds) t.top);
    })
    (λ not_above. record {
      before = c ∷ t.before;
      corner = t.corner;
      after = t.after;
      split = ap (λ l. c ∷ l) t.split;
      top = All-cons (λ x. measure x ≤ℤ measure t.corner) c (d ∷ ds) not_above t.top;
    })

-- of two lists end to end
all_before : (P : Corner → Type 0) (xs ys : List Corner) → All P (xs ++ ys) → All P xs
all_before P [] ys h = All-nil P
all_before P (x ∷ xs) ys h = All-cons P x xs (All-head P x (xs ++ ys) h) (all_before P xs ys (All-tail P x (xs ++ ys) h))

all_after : (P : Corner → Type 0) (xs ys : List Corner) → All P (xs ++ ys) → All P ys
all_after P [] ys h = h
all_after P (x ∷ xs) ys h = all_after P xs ys (All-tail P x (xs ++ ys) h)

triangles_after : (at : ℕ → Point) (q : ℕ) (s : ℕ × ℕ) (xs ys : List Corner) → AreTriangles at s (xs ++ ys) q → AreTriangles at (step_after s xs) ys q
triangles_after at q s [] ys h = h
triangles_after at q s (x ∷ xs) ys h = triangles_after at q (next_step s x) xs ys h.1

step_after-append : (s : ℕ × ℕ) (xs ys : List Corner) → step_after s (xs ++ ys) ≡ step_after (step_after s xs) ys
step_after-append s [] ys = refl
step_after-append s (x ∷ xs) ys = step_after-append (next_step s x) xs ys

inward_mirror : (a b v y : Point) → IsInward a b v y → IsInward (mirror a) (mirror b) (mirror v) (mirror y)
inward_mirror a b v y h = omega (arith, ints, dot_mirror v a b, dot_mirror y a b)

-- what the corners of a list keep, the images of their points keep
all_mirror : (at : ℕ → Point) (P Q : Point → Type 0) → ((p : Point) → P p → Q (mirror p)) → (cs : List Corner)
    → All (λ c. P (at (number_of c))) cs → All (λ c. Q (mirror (at (number_of c)))) (map other_side cs)
all_mirror at P Q moved [] h = All-nil (λ c. Q (mirror (at (number_of c))))
all_mirror at P Q moved (on_left z ∷ cs) h =
    All-cons (λ c. Q (mirror (at (number_of c)))) (on_right z) (map other_side cs)
    (moved (at z) (All-head (λ c. P (at (number_of c))) (on_left z) cs h))
    (all_mirror at P Q moved cs (All-tail (λ c. P (at (number_of c))) (on_left z) cs h))
all_mirror at P Q moved (on_right z ∷ cs) h =
    All-cons (λ c. Q (mirror (at (number_of c)))) (on_left z) (map other_side cs)
    (moved (at z) (All-head (λ c. P (at (number_of c))) (on_right z) cs h))
    (all_mirror at P Q moved cs (All-tail (λ c. P (at (number_of c))) (on_right z) cs h))

module _ (at : ℕ → Point) (a b q z : ℕ) where
  abbrev Near : ℕ → Type 0
  Near y = IsInward (at a) (at b) (at z) (at y)

  -- the left end of a step: not to the right of the line from a to q, and to the left of that from b
  record IsLeftEnd (y : ℕ) : Type 0 where
    from_a : pos 0 ≤ℤ orient (at a) (at q) (at y)
    from_b : pos 0 <ℤ orient (at b) (at q) (at y)
    near : Near y

  record IsRightEnd (y : ℕ) : Type 0 where
    from_a : orient (at a) (at q) (at y) <ℤ pos 0
    from_b : orient (at b) (at q) (at y) ≤ℤ pos 0
    near : Near y

  record HasEnds (s : ℕ × ℕ) : Type 0 where
    left : IsLeftEnd s.0
    right : IsRightEnd s.1

  abbrev OnItsSide : Corner → Type 0
  OnItsSide = IsOnItsSide (at a) (at b) (at q) at

  -- so with each step of the sleeve
  ends_after : (s : ℕ × ℕ) (cs : List Corner) → HasEnds s → All OnItsSide cs → All (λ c. Near (number_of c)) cs → HasEnds (step_after s cs)
  ends_after s [] e sides near = e
  ends_after s (on_left y ∷ cs) e sides near =
      let side = All-head OnItsSide (on_left y) cs sides in
      let side0 = side.0 in
      ends_after (y, s.1) cs
      (record { left = record { from_a = omega (arith, ints); from_b = side.1; near = All-head (λ c. Near (number_of c)) (on_left y) cs near }; right = e.right })
      (All-tail OnItsSide (on_left y) cs sides) (All-tail (λ c. Near (number_of c)) (on_left y) cs near)
  ends_after s (on_right y ∷ cs) e sides near =
      let side = All-head OnItsSide (on_right y) cs sides in
      let side1 = side.1 in
      ends_after (s.0, y) cs
      (record { left = e.left; right = record { from_a = side.0; from_b = omega (arith, ints); near = All-head (λ c. Near (number_of c)) (on_right y) cs near } })
      (All-tail OnItsSide (on_right y) cs sides) (All-tail (λ c. Near (number_of c)) (on_right y) cs near)

  -- of corners that lie on their sides, those on the left do
  left_ones : (cs : List Corner) → All OnItsSide cs → All (OnLeft at q z (λ p. pos 0 ≤ℤ orient (at a) (at q) p)) cs
  left_ones cs h = All-weaker OnItsSide (OnLeft at q z (λ p. pos 0 ≤ℤ orient (at a) (at q) p)) at_corner cs h
    where
      at_corner : (c : Corner) → OnItsSide c → OnLeft at q z (λ p. pos 0 ≤ℤ orient (at a) (at q) p) c
      at_corner (on_left y) k = let k0 = k.0 in omega (arith, ints)
      at_corner (on_right y) k = tt

  -- and those on the right, in the mirror
  right_ones : (cs : List Corner) → All OnItsSide cs → All (OnLeft (λ n. mirror (at n)) q z (λ p. pos 0 ≤ℤ orient (mirror (at b)) (mirror (at q)) p)) (map other_side cs)
  right_ones [] h = All-nil (OnLeft (λ n. mirror (at n)) q z (λ p. pos 0 ≤ℤ orient (mirror (at b)) (mirror (at q)) p))
  right_ones (on_left y ∷ cs) h =
      All-cons (OnLeft (λ n. mirror (at n)) q z (λ p. pos 0 ≤ℤ orient (mirror (at b)) (mirror (at q)) p)) (on_right y) (map other_side cs) tt
      (right_ones cs (All-tail OnItsSide (on_left y) cs h))
  right_ones (on_right y ∷ cs) h =
      let side = All-head OnItsSide (on_right y) cs h in
      let side1 = side.1 in
      All-cons (OnLeft (λ n. mirror (at n)) q z (λ p. pos 0 ≤ℤ orient (mirror (at b)) (mirror (at q)) p)) (on_left y) (map other_side cs)
      (omega (arith, ints, orient_mirror (at q) (at b) (at y), orient_swapped (at b) (at q) (at y)))
      (right_ones cs (All-tail OnItsSide (on_right y) cs h))

  -- the flip at a farthest corner on the left, from the step before it on
  flip_left : (s : ℕ × ℕ) (cs : List Corner) → HasEnds s → AreTriangles at s (on_left z ∷ cs) q → All OnItsSide (on_left z ∷ cs) → All (λ d. Near (number_of d)) cs → Near q
      → HasFlipFrom at s (on_left z ∷ cs) q z
  flip_left s cs e h sides near near_q =
      let left = e.left in
      let right = e.right in
      let own = All-head OnItsSide (on_left z) cs sides in
      left_flip at q z (at a) (at b) (at a) s cs h left.near right.near near near_q left.from_a right.from_a own.0
      (left_ones cs (All-tail OnItsSide (on_left z) cs sides))

  -- and on the right, in the mirror
  flip_right : (s : ℕ × ℕ) (cs : List Corner) → HasEnds s → AreTriangles at s (on_right z ∷ cs) q → All OnItsSide (on_right z ∷ cs) → All (λ d. Near (number_of d)) cs → Near q
      → HasFlipFrom at s (on_right z ∷ cs) q z
  flip_right s cs e h sides near near_q =
      let left = e.left in
      let right = e.right in
      let from_left = left.from_b in
      let from_right = right.from_b in
      let own = All-head OnItsSide (on_right z) cs sides in
      let own1 = own.1 in
      HasFlipFrom-mirror at s (on_right z ∷ cs) q z
      (left_flip (λ n. mirror (at n)) q z (mirror (at a)) (mirror (at b)) (mirror (at b)) (turned s) (map other_side cs) (AreTriangles-mirror at s (on_right z ∷ cs) q h)
      (inward_mirror (at a) (at b) (at z) (at s.1) right.near)
      (inward_mirror (at a) (at b) (at z) (at s.0) left.near)
      (all_mirror at (IsInward (at a) (at b) (at z)) (IsInward (mirror (at a)) (mirror (at b)) (mirror (at z))) (inward_mirror (at a) (at b) (at z)) cs near)
      (inward_mirror (at a) (at b) (at z) (at q) near_q)
      (omega (arith, ints, orient_mirror (at q) (at b) (at s.1), orient_swapped (at b) (at q) (at s.1)))
      (omega (arith, ints, orient_mirror (at q) (at b) (at s.0), orient_swapped (at b) (at q) (at s.0)))
      (omega (arith, ints, orient_mirror (at q) (at b) (at z), orient_swapped (at b) (at q) (at z)))
      (right_ones cs (All-tail OnItsSide (on_right z) cs sides)))

flip_at : (at : ℕ → Point) (a b q : ℕ) (s : ℕ × ℕ) (c : Corner) (cs : List Corner) → HasEnds at a b q (number_of c) s → AreTriangles at s (c ∷ cs) q
    → All (IsOnItsSide (at a) (at b) (at q) at) (c ∷ cs) → All (λ d. IsInward (at a) (at b) (at (number_of c)) (at (number_of d))) cs
    → IsInward (at a) (at b) (at (number_of c)) (at q) → HasFlipFrom at s (c ∷ cs) q (number_of c)
flip_at at a b q s (on_left z) cs e h sides near near_q = flip_left at a b q z s cs e h sides near near_q
flip_at at a b q s (on_right z) cs e h sides near near_q = flip_right at a b q z s cs e h sides near near_q

-- a flip from a step of the sleeve on is one of the sleeve
from_start : (at : ℕ → Point) (a b q : ℕ) (xs ys : List Corner) (z : ℕ) → All (λ c. power (at a) (at b) (at (number_of c)) ≤ℤ power (at a) (at b) (at z)) (xs ++ ys)
    → HasFlipFrom at (step_after (a, b) xs) ys q z → HasFarthestFlip at a b (xs ++ ys) q
from_start at a b q xs ys z top f =
    let same = sym (step_after-append (a, b) xs f.before) in
    record {
      before = xs ++ f.before;
      corner = f.corner;
      after = f.after;
      split = ap (λ l. xs ++ l) f.split ∙ sym (append_assoc xs f.before (f.corner ∷ f.after));
      flippable = subst (λ t. IsFlippable at t f.corner (first_or f.after q)) same f.flippable;
      far = z;
      is_end = subst (λ t. (z ≡ (next_step t f.corner).0) ⊎ (z ≡ (next_step t f.corner).1)) same f.at_z;
      farthest = top;
    }

some_flip : (at : ℕ → Point) (a b q : ℕ) (xs : List Corner) (c : Corner) (ys : List Corner) → IsSleeve at a b (xs ++ c ∷ ys) q
    → All (λ d. power (at a) (at b) (at (number_of d)) ≤ℤ power (at a) (at b) (at (number_of c))) (xs ++ c ∷ ys) → HasFarthestFlip at a b (xs ++ c ∷ ys) q
some_flip at a b q xs c ys sleeve top =
    let Near : Corner → Type 0 = λ d. power (at a) (at b) (at (number_of d)) ≤ℤ power (at a) (at b) (at (number_of c)) in
    let Side : Corner → Type 0 = IsOnItsSide (at a) (at b) (at q) at in
    let Out : Corner → Type 0 = λ d. ¬ IsInDisc (at a) (at b) (at (number_of d)) in
    let base = sleeve.base in
    let in_disc = sleeve.in_disc in
    let out = All-head Out c ys (all_after Out xs (c ∷ ys) sleeve.outside) in
    let far : pos 0 ≤ℤ power (at a) (at b) (at (number_of c)) = by_lt_z (power (at a) (at b) (at (number_of c))) (pos 0) (λ h. absurd (out h)) (λ h. h) in
    let first : HasEnds at a b q (number_of c) (a, b) = record {
      left = record { from_a = omega (arith, ints, orient_return (at a) (at q)); from_b = omega (arith, ints, orient_turned (at a) (at b) (at q)); near = omega (arith, ints, power_start (at a) (at b)) };
      right = record { from_a = omega (arith, ints, orient_swapped_last (at a) (at b) (at q)); from_b = omega (arith, ints, orient_return (at b) (at q)); near = omega (arith, ints, power_end (at a) (at b)) };
    } in
    let ends = ends_after at a b q (number_of c) (a, b) xs first (all_before Side xs (c ∷ ys) sleeve.sides) (all_before Near xs (c ∷ ys) top) in
    from_start at a b q xs (c ∷ ys) (number_of c) top
    (flip_at at a b q (step_after (a, b) xs) c ys ends (triangles_after at q (a, b) xs (c ∷ ys) sleeve.triangles)
    (all_after Side xs (c ∷ ys) sleeve.sides) (All-tail Near c ys (all_after Near xs (c ∷ ys) top)) (omega (arith, ints)))

pub sleeves_flip : SleevesFlip
sleeves_flip at a b q [] sleeve some = absurd (some refl)
sleeves_flip at a b q (x ∷ xs) sleeve some =
    let t = top_of (λ d. power (at a) (at b) (at (number_of d))) x xs in
    subst (λ cs. HasFarthestFlip at a b cs q) (sym t.split)
    (some_flip at a b q t.before t.corner t.after
    (subst (λ cs. IsSleeve at a b cs q) t.split sleeve)
    (subst (λ cs. All (λ d. power (at a) (at b) (at (number_of d)) ≤ℤ power (at a) (at b) (at (number_of t.corner))) cs) t.split t.top))
