-- Lists cut into pieces.
use Rattle.std.proofs.Common.{◌≡◌, ℕ, zero, suc, ◌+◌, ◌-◌, ◌<◌, ◌≤◌, List, [], ◌∷◌, ◌++◌, length, get_or, slice_index, slice_range, take, drop, refl, ap, ◌∙◌, subst, arith, add-one}
use Rattle.std.proofs.lemmas.List.{length-append, length-drop, take-append-le, take_all}
use Rattle.skeleton_faces.specs.Tables.{AreBounds, cut, pieces}

drop_on : (n : ℕ) (xs ys : List ℕ) → n ≤ length xs → drop n (xs ++ ys) ≡ drop n xs ++ ys
drop_on zero xs ys l = refl
drop_on (suc n) [] ys l = absurd (omega arith)
drop_on (suc n) (x ∷ xs) ys l = drop_on n xs ys (omega arith)

drop_all : (xs : List ℕ) → drop (length xs) xs ≡ []
drop_all [] = refl
drop_all (x ∷ xs) = drop_all xs

-- a piece of the list stays when more is appended
piece_append : (xs ys : List ℕ) (a b : ℕ) → a ≤ b → b ≤ length xs → slice_range (xs ++ ys) a b ≡ slice_range xs a b
piece_append xs ys a b l m =
    ap (take (b - a)) (drop_on a xs ys (omega arith)) ∙ take-append-le (b - a) (drop a xs) ys (omega (arith, length-drop a xs))

-- and what is appended is the last piece
piece_last : (xs ys : List ℕ) → slice_range (xs ++ ys) (length xs) (length (xs ++ ys)) ≡ ys
piece_last xs ys =
    ap (take (length (xs ++ ys) - length xs)) (drop_on (length xs) xs ys (omega arith) ∙ ap (λ zs. zs ++ ys) (drop_all xs))
    ∙ take_all (length (xs ++ ys) - length xs) ys (omega (arith, length-append xs ys))

-- how many pieces there are, and each of them
pub length-cut : (xs : List ℕ) (from : ℕ) (bounds : List ℕ) → length (cut xs from bounds) ≡ length bounds
length-cut xs from [] = refl
length-cut xs from (to ∷ bounds) = ap suc (length-cut xs to bounds)

pub get_or-cut : (xs : List ℕ) (from : ℕ) (bounds : List ℕ) (i : ℕ) → i < length bounds → get_or (cut xs from bounds) i [] ≡ slice_range xs (slice_index (from ∷ bounds) i) (slice_index bounds i)
get_or-cut xs from [] i l = absurd (omega arith)
get_or-cut xs from (to ∷ bounds) zero l = refl
get_or-cut xs from (to ∷ bounds) (suc i) l = get_or-cut xs to bounds i (omega arith)

-- a piece more at the end
cut-append : (xs ys : List ℕ) (from : ℕ) (bounds : List ℕ) → ((k : ℕ) → k < length bounds → slice_index (from ∷ bounds) k ≤ slice_index bounds k) → slice_index (from ∷ bounds) (length bounds) ≡ length xs
    → cut (xs ++ ys) from (bounds ++ length (xs ++ ys) ∷ []) ≡ cut xs from bounds ++ ys ∷ []
cut-append xs ys from [] rise last = ap (λ z. z ∷ []) (ap (λ a. slice_range (xs ++ ys) a (length (xs ++ ys))) last ∙ piece_last xs ys)
cut-append xs ys from (to ∷ bounds) rise last =
    let first = rise 0 (omega arith) in
    let rest = cut-append xs ys to bounds (λ k l. rise (suc k) (omega arith)) last in
    let to_in : to ≤ length xs = subst (λ n. to ≤ n) last (top (length bounds) (omega arith)) in
    ap (λ z. z ∷ cut (xs ++ ys) to (bounds ++ length (xs ++ ys) ∷ [])) (piece_append xs ys from to first to_in) ∙ ap (λ zs. slice_range xs from to ∷ zs) rest
  where
    top : (k : ℕ) → k ≤ length bounds → to ≤ slice_index (to ∷ bounds) k
    top zero l = omega arith
    top (suc k) l = let h = top k (omega arith) in let r = rise (suc k) (omega arith) in omega arith

-- the same for all pieces
pub pieces-append : (xs ys bounds : List ℕ) → AreBounds xs bounds → slice_index bounds (length bounds - 1) ≡ length xs → pieces (xs ++ ys) (bounds ++ length (xs ++ ys) ∷ []) ≡ pieces xs bounds ++ ys ∷ []
pieces-append xs ys [] h last = let s = h.some in absurd (omega arith)
pieces-append xs ys (from ∷ bounds) h last =
    cut-append xs ys from bounds (λ k l. rw add-one at (h.rise k (omega arith))) (ap (slice_index (from ∷ bounds)) (omega arith) ∙ last)

pub length-pieces : (xs bounds : List ℕ) → length (pieces xs bounds) ≡ length bounds - 1
length-pieces xs [] = refl
length-pieces xs (from ∷ bounds) = omega (arith, length-cut xs from bounds)

pub get_or-pieces : (xs bounds : List ℕ) (i : ℕ) → i + 1 < length bounds → get_or (pieces xs bounds) i [] ≡ slice_range xs (slice_index bounds i) (slice_index bounds (i + 1))
get_or-pieces xs [] i l = absurd (omega arith)
get_or-pieces xs (from ∷ bounds) i l = rw add-one (get_or-cut xs from bounds i (omega arith))
