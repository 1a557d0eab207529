-- The points of the first nodes of a file, in the unit of the file.
use Rattle.std.proofs.Common.{◌≡◌, ℕ, zero, suc, ◌+◌, ◌<◌, ◌≤◌, Bool, true, false, cond, List, [], ◌∷◌, ◌++◌, length, get_or, take, drop, map, find, Option, Some, None, refl, sym, ap, ◌∙◌, arith}
use Rattle.std.specs.List.{AllZip}
use Rattle.std.specs.Option.{option_map}
use Rattle.std.proofs.Math.Seq.{drop-cons}
use Rattle.std.proofs.lemmas.List.{take_more, take_all, take-append-drop, map-append}
use Rattle.std.proofs.lemmas.List.Folds.{find-append}
use Rattle.std.proofs.lemmas.Slice.Zip.{AllZip-long}
use Rattle.exact_predicates.specs.declared.point.Point.{Point}
use Rattle.tsplib_points.specs.declared.node.KeptNode.{KeptNode}
use Rattle.tsplib_points.specs.declared.reason.Reason.TheVariants.{TooLarge}
use Rattle.tsplib_points.specs.Real.{Real}
use Rattle.tsplib_points.specs.Nodes.{Node}
use Rattle.tsplib_points.specs.Reasons.{refused_at}
use Rattle.tsplib_points.specs.Gathering.{KeepsNode}
use Rattle.tsplib_points.specs.Refusals.{scaled, is_large}

-- a node that stands where there is none
pub nothing : Real
nothing = record { negative = false; digits = 0; places = 0; right = 0; left = 0 }

pub nowhere : Node
nowhere = record { line = 0; number = 0; x = nothing; y = nothing }

-- what is known of the two items at a place
at_place : {A B : Type 0} (R : A → B → Type 0) (xs : List A) (ys : List B) (i : ℕ) (a : A) (b : B)
    → AllZip R xs ys → i < length xs → R (get_or xs i a) (get_or ys i b)
at_place R [] ys i a b z h = absurd (omega arith)
at_place R (x ∷ xs) [] i a b z h = absurd z
at_place R (x ∷ xs) (y ∷ ys) zero a b z h = z.0
at_place R (x ∷ xs) (y ∷ ys) (suc i) a b z h = at_place R xs ys i a b z.1 (omega arith)

-- The first i nodes have these points, and none of them has a coordinate that is too large.
pub record AreScaled (k i : ℕ) (kept : List KeptNode) (points : List Point) : Type 0 where
  pub are : (ns : List Node) → AllZip KeepsNode kept ns → points ≡ map (scaled k) (take i ns)
  pub fine : (ns : List Node) → AllZip KeepsNode kept ns → find (is_large k) (take i ns) ≡ None

-- what is answered for a node, by whether it is too large
abbrev pub point_or_none : ℕ → Node → Option Point
point_or_none k n = cond (is_large k n) None (Some (scaled k n))

record IsPoint (large : Bool) (p q : Point) : Type 0 where
  small : large ≡ false
  same : p ≡ q

is_point : (large : Bool) (p q : Point) → Some p ≡ cond large None (Some q) → IsPoint large p q
is_point true p q e = cc
is_point false p q e = record { small = refl; same = cc }

is_none : (large : Bool) (q : Point) → None ≡ cond large None (Some q) → large ≡ true
is_none true q e = refl
is_none false q e = cc

-- the next node, and those after it
next_first : (ns : List Node) (i : ℕ) → i < length ns → drop i ns ≡ get_or ns i nowhere ∷ drop (i + 1) ns
next_first ns i h = let one : i + 1 ≡ suc i = omega arith in rw one (drop-cons ns i nowhere h)

-- what was answered for the node at a place
record IsAnswered (k i : ℕ) (ns : List Node) (answer : Option Point) : Type 0 where
  within : i < length ns
  is : answer ≡ point_or_none k (get_or ns i nowhere)

answered : (k i : ℕ) (kept items : List KeptNode) (ns : List Node) (answer : Option Point) (d : KeptNode) → items ≡ kept → i < length items
    → ((n : Node) → KeepsNode (get_or items i d) n → answer ≡ point_or_none k n) → AllZip KeepsNode kept ns → IsAnswered k i ns answer
answered k i kept items ns answer d e h is z =
    let zipped : AllZip KeepsNode items ns = rw e z in
    record {
      within = let long = AllZip-long KeepsNode items ns zipped in omega arith;
      is = is (get_or ns i nowhere) (at_place KeepsNode items ns i d nowhere zipped h);
    }

-- One more node has a point.
pub AreScaled-more : (k i : ℕ) (kept items : List KeptNode) (points : List Point) (p : Point) (d : KeptNode) → items ≡ kept → i < length items
    → ((n : Node) → KeepsNode (get_or items i d) n → Some p ≡ point_or_none k n) → AreScaled k i kept points → AreScaled k (i + 1) kept (points ++ p ∷ [])
AreScaled-more k i kept items points p d e h is before = record {
  are = λ ns z.
      let a = answered k i kept items ns (Some p) d e h is z in
      let q = is_point (is_large k (get_or ns i nowhere)) p (scaled k (get_or ns i nowhere)) a.is in
      rw (take_more ns i nowhere a.within, map-append (scaled k) (take i ns) (get_or ns i nowhere ∷ []), before.are ns z, q.same) refl;
  fine = λ ns z.
      let a = answered k i kept items ns (Some p) d e h is z in
      let q = is_point (is_large k (get_or ns i nowhere)) p (scaled k (get_or ns i nowhere)) a.is in
      rw (take_more ns i nowhere a.within, find-append (is_large k) (take i ns) (get_or ns i nowhere ∷ []), before.fine ns z, q.small) refl;
}

-- All nodes have points.
pub AreScaled-all : (k i : ℕ) (kept items : List KeptNode) (points : List Point) → items ≡ kept → length items ≤ i → AreScaled k i kept points
    → (ns : List Node) → AllZip KeepsNode kept ns → (points ≡ map (scaled k) ns) × (find (is_large k) ns ≡ None)
AreScaled-all k i kept items points e h all ns z =
    let long = AllZip-long KeepsNode kept ns z in
    let whole : take i ns ≡ ns = take_all i ns (rw long (rw e at h)) in
    (all.are ns z ∙ ap (map (scaled k)) whole, ap (find (is_large k)) (sym whole) ∙ all.fine ns z)

-- The next node has none: it is the first that is too large.
pub AreScaled-refused : (k i : ℕ) (kept items : List KeptNode) (points : List Point) (d : KeptNode) → items ≡ kept → i < length items
    → ((n : Node) → KeepsNode (get_or items i d) n → None ≡ point_or_none k n) → AreScaled k i kept points
    → (ns : List Node) → AllZip KeepsNode kept ns
    → option_map (λ n. refused_at n.line TooLarge) (find (is_large k) ns) ≡ Some (refused_at (get_or items i d).line TooLarge)
AreScaled-refused k i kept items points d e h is before ns z =
    let n = get_or ns i nowhere in
    let a = answered k i kept items ns None d e h is z in
    let large = is_none (is_large k n) (scaled k n) a.is in
    let parts : ns ≡ take i ns ++ n ∷ drop (i + 1) ns =
    sym (take-append-drop i ns) ∙ ap (λ s. take i ns ++ s) (next_first ns i a.within) in
    let found : find (is_large k) ns ≡ Some n =
    ap (find (is_large k)) parts ∙ rw (find-append (is_large k) (take i ns) (n ∷ drop (i + 1) ns), before.fine ns z, large) refl in
    let zipped : AllZip KeepsNode items ns = rw e z in
    let line : n.line ≡ (get_or items i d).line = sym (at_place KeepsNode items ns i d nowhere zipped h).line in
    ap (option_map (λ m. refused_at m.line TooLarge)) found ∙ ap (λ l. Some (refused_at l TooLarge)) line
