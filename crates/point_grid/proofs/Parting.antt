-- How a tree grows by parts of a list of spots.
use Rattle.std.proofs.Common.{◌≡◌, ◌⊎◌, ℕ, zero, suc, ◌+◌, ◌-◌, ◌<◌, List, [], ◌∷◌, ◌++◌, length, get_or, drop, Contains, arith, inl, inr, ⊎_elim, sym, ap, ◌∙◌, length-append, length-drop}
use Rattle.std.proofs.lemmas.Bool.{cases_lt}
use Rattle.std.proofs.lemmas.Grind.{get_or_after_one}
use Rattle.std.proofs.lemmas.List.{get_or_default}
use Rattle.std.proofs.lemmas.List.Elements.{Contains-append_cases, Contains-append_left, Contains-append_right}
use Rattle.std.proofs.lemmas.List.Sorted.{Contains-permutation, IsPermutation-sym, length_permutation}
use Rattle.std.specs.List.Sorted.{IsPermutation}
use Rattle.point_grid.specs.declared.spot.Entry.{Entry}
use Rattle.point_grid.specs.declared.spot.Entry.TheVariants.{Leaf}
use Rattle.point_grid.specs.declared.spot.Spot.{Spot}
use Rattle.point_grid.specs.Tree.{AreFramed, Grows, IsHeadOrAmong}
use Rattle.point_grid.proofs.Growing.{Grows-leaf, Grows-trans}

-- the members of a list that is parted at s
parted : (near far : List Spot) (s : Spot) (others : List Spot) → IsPermutation others (near ++ s ∷ far) → (t : Spot) → Contains others t → Contains near t ⊎ IsHeadOrAmong s far t
parted near far s others moved t p =
    ⊎_elim
    (λ l. inl l)
    (λ r. inr (⊎_elim (λ e. inl (first t e)) (λ k. inr k) (Contains-append_cases (s ∷ []) far t r)))
    (Contains-append_cases near (s ∷ far) t (Contains-permutation others _ t moved p))
  where
    first : (t : Spot) → Contains (s ∷ []) t → s ≡ t
    first t (zero, l, at) = at
    first t (suc k, l, at) = absurd (omega arith)

whole : (near far : List Spot) (s : Spot) (others : List Spot) → IsPermutation others (near ++ s ∷ far) → (t : Spot) → Contains near t ⊎ IsHeadOrAmong s far t → Contains others t
whole near far s others moved t p =
    Contains-permutation _ others t (IsPermutation-sym others _ moved)
    (⊎_elim
    (λ l. Contains-append_left near (s ∷ far) t l)
    (⊎_elim
    (λ e. Contains-append_right near (s ∷ far) t (Contains-append_left (s ∷ []) far t (0, omega arith, e)))
    (λ r. Contains-append_right near (s ∷ far) t (Contains-append_right (s ∷ []) far t r)))
    p)

-- the spot `head` and others more
pub Grows-leaves : (a b : List Entry) (head : Spot) (others : List Spot) → AreFramed a → Grows (a ++ Leaf head ∷ []) b (Contains others) → Grows a b (IsHeadOrAmong head others)
Grows-leaves a b head others framed h =
    Grows-trans (λ t. head ≡ t) (Contains others) (IsHeadOrAmong head others) a (a ++ Leaf head ∷ []) b (Grows-leaf a head framed) h (λ t p. p) (λ t p. p)

-- two parts more
pub Grows-parted : (a b c : List Entry) (head s : Spot) (others near far : List Spot) → IsPermutation others (near ++ s ∷ far)
    → Grows a b (IsHeadOrAmong head near) → Grows b c (IsHeadOrAmong s far) → Grows a c (IsHeadOrAmong head others)
Grows-parted a b c head s others near far moved h g =
    Grows-trans (IsHeadOrAmong head near) (IsHeadOrAmong s far) (IsHeadOrAmong head others) a b c h g (there near far s others head moved) (back near far s others head moved)
  where
    there : (near far : List Spot) (s : Spot) (others : List Spot) (head : Spot) → IsPermutation others (near ++ s ∷ far) → (t : Spot) → IsHeadOrAmong head others t → IsHeadOrAmong head near t ⊎ IsHeadOrAmong s far t
    there near far s others head moved t =
        ⊎_elim
        (λ e. inl (inl e))
        (λ p. ⊎_elim (λ l. inl (inr l)) (λ r. inr r) (parted near far s others moved t p))

    back : (near far : List Spot) (s : Spot) (others : List Spot) (head : Spot) → IsPermutation others (near ++ s ∷ far) → (t : Spot) → IsHeadOrAmong head near t ⊎ IsHeadOrAmong s far t → IsHeadOrAmong head others t
    back near far s others head moved t =
        ⊎_elim
        (⊎_elim (λ e. inl e) (λ l. inr (whole near far s others moved t (inl l))))
        (λ r. inr (whole near far s others moved t (inr r)))

-- the same, where the heads have changed places
pub Grows-parted_back : (a b c : List Entry) (head s : Spot) (others near far : List Spot) → IsPermutation others (near ++ s ∷ far)
    → Grows a b (IsHeadOrAmong s near) → Grows b c (IsHeadOrAmong head far) → Grows a c (IsHeadOrAmong head others)
Grows-parted_back a b c head s others near far moved h g =
    Grows-trans (IsHeadOrAmong s near) (IsHeadOrAmong head far) (IsHeadOrAmong head others) a b c h g
    (λ t. ⊎_elim
    (λ e. inr (inl e))
    (λ p. ⊎_elim (λ l. inl (inr l)) (⊎_elim (λ e. inl (inl e)) (λ r. inr (inr r))) (parted near far s others moved t p)))
    (λ t. ⊎_elim
    (⊎_elim (λ e. inr (whole near far s others moved t (inr (inl e)))) (λ l. inr (whole near far s others moved t (inl l))))
    (⊎_elim (λ e. inl e) (λ r. inr (whole near far s others moved t (inr (inr r))))))

-- the first spot of a list is its head
pub Contains-first : (spots : List Spot) (d t : Spot) → 0 < length spots → IsHeadOrAmong (get_or spots 0 d) (drop 1 spots) t → Contains spots t
Contains-first spots d t some =
    ⊎_elim
    (λ e. (0, some, get_or_default spots 0 t d some ∙ e))
    (λ (k, l, at). (1 + k, omega (arith, length-drop 1 spots), sym (get_or_after_one spots k t) ∙ at))

pub first-Contains : (spots : List Spot) (d t : Spot) → Contains spots t → IsHeadOrAmong (get_or spots 0 d) (drop 1 spots) t
first-Contains spots d t (k, l, at) =
    ⊎_elim
    (λ low. let same : k ≡ 0 = omega arith in inl (get_or_default spots 0 d t (omega arith) ∙ (ap (λ (i : ℕ). get_or spots i t) (sym same) ∙ at)))
    (λ high. let same : 1 + (k - 1) ≡ k = omega arith in
    inr (k - 1, omega (arith, length-drop 1 spots), get_or_after_one spots (k - 1) t ∙ (ap (λ (i : ℕ). get_or spots i t) same ∙ at)))
    (cases_lt k 1)

-- how many spots the parts have
pub length_parted : (spots near far : List Spot) (s : Spot) → IsPermutation spots (near ++ s ∷ far) → length near + (length far + 1) ≡ length spots
length_parted spots near far s moved = omega (arith, length_permutation spots _ moved, length-append near (s ∷ far))

-- the first spot of a list and then the others
pub Grows-first : (a b : List Entry) (spots : List Spot) (d : Spot) → 0 < length spots → Grows a b (IsHeadOrAmong (get_or spots 0 d) (drop 1 spots)) → Grows a b (Contains spots)
Grows-first a b spots d some h = record {
  longer = h.longer;
  kept = h.kept;
  framed = h.framed;
  each = λ k t l leaf. Contains-first spots d t some (h.each k t l leaf);
  all = λ t c. h.all t (first-Contains spots d t c);
}
