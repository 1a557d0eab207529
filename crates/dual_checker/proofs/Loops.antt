-- What a loop finds that looks for an item of a list.
use Rattle.std.proofs.Common.{◌≡◌, ℕ, ◌+◌, ◌<◌, ◌≤◌, Bool, true, false, IsTrue, ◌↔◌, List, length, get_or, All, Any, refl, sym, ap, subst, ◌∙◌, arith}
use Rattle.std.specs.List.{AllWithin}
use Rattle.std.proofs.lemmas.Bool.{false≢true}
use Rattle.std.proofs.lemmas.List.{get_or_default}
use Rattle.std.proofs.lemmas.List.Elements.{AllWithin-more}

-- an item that is P
pub found_one : {X : Type 0} (d : X) (P : X → Type 0) (xs : List X) (i : ℕ) (r : Bool) → i < length xs → (IsTrue r ↔ P (get_or xs i d)) → r ≡ true → IsTrue true ↔ Any P xs
found_one d P xs i r inside says passes = (λ _. (i, get_or xs i d, inside, get_or_default xs i (get_or xs i d) d inside, says.0 passes), λ _. refl)

-- one more item that is not P
pub one_fewer : {X : Type 0} (d : X) (P : X → Type 0) (xs : List X) (i : ℕ) (r : Bool) → i < length xs → (IsTrue r ↔ P (get_or xs i d)) → r ≡ false
    → AllWithin (λ y. ¬ P y) xs 0 i → AllWithin (λ y. ¬ P y) xs 0 (i + 1)
one_fewer d P xs i r inside says fails before =
    AllWithin-more (λ y. ¬ P y) xs 0 i before (λ e p. false≢true (sym fails ∙ says.1 (subst P (get_or_default xs i e d inside) p)))

-- no item is P
pub none_found : {X : Type 0} (P : X → Type 0) (xs : List X) (i : ℕ) → length xs ≤ i → AllWithin (λ y. ¬ P y) xs 0 i → IsTrue false ↔ Any P xs
none_found P xs i past before = (
  λ f. absurd (false≢true f),
  λ (k, x, inside, at, is). absurd (before k x (omega arith) (omega arith) (subst P (sym at) is)),
)

-- an item of the list that was read, which is the one that is meant, is not P
pub all_fails : {X : Type 0} (d : X) (P : X → Type 0) (xs ys : List X) (i : ℕ) (r : Bool) → xs ≡ ys → i < length xs → (IsTrue r ↔ P (get_or xs i d)) → r ≡ false
    → IsTrue false ↔ All P ys
all_fails {X = X} d P xs ys i r same inside says fails =
    subst (λ (zs : List X). IsTrue false ↔ All P zs) same (λ f. absurd (false≢true f), λ all. absurd (false≢true (sym fails ∙ says.1 (all i d inside))))

-- one more item that is P
pub all_more : {X : Type 0} (d : X) (P : X → Type 0) (xs ys : List X) (i : ℕ) (r : Bool) → xs ≡ ys → i < length xs → (IsTrue r ↔ P (get_or xs i d)) → r ≡ true
    → AllWithin P ys 0 i → AllWithin P ys 0 (i + 1)
all_more {X = X} d P xs ys i r same inside says holds before =
    AllWithin-more P ys 0 i before (λ e. subst P (get_or_default xs i d e inside ∙ ap (λ (zs : List X). get_or zs i e) same) (says.0 holds))

-- every item is P
pub all_hold : {X : Type 0} (P : X → Type 0) (xs ys : List X) (i : ℕ) → xs ≡ ys → length xs ≤ i → AllWithin P ys 0 i → IsTrue true ↔ All P ys
all_hold {X = X} P xs ys i same past before =
    let size : length xs ≡ length ys = ap length same in
    (λ t k d inside. before k d (omega arith) (omega arith), λ all. refl)
