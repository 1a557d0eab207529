-- Reading rows one after the other, as a loop does.
use Rattle.std.proofs.Common.{◌≡◌, ℕ, suc, ◌-◌, ◌+◌, ◌≤◌, ◌<◌, Bool, List, [], ◌∷◌, ◌++◌, Option, Some, Result, Ok, Err, refl, sym, ap, ◌∙◌, append_assoc, arith}
use Rattle.std.proofs.lemmas.List.{append-nil}
use Rattle.cert_text.specs.declared.refusal.Refusal2.{Refusal2}
use Rattle.cert_text.specs.declared.refusal.ReportStop.{ReportStop}
use Rattle.cert_text.specs.declared.refusal.ReportStop.TheVariants as stop
use Rattle.cert_text.specs.Found.{◌>>=◌, Found}
use Rattle.cert_text.specs.Reading.{Fails, Place, row_at, rows_at}

-- what was read before, and what is still read
abbrev pub with_front : {X : Type 0} → List X → Result (List X × Place) Refusal2 → Result (List X × Place) Refusal2
with_front front read = read >>= λ x. Ok (front ++ x.0, x.1)

regroup : {X : Type 0} (front : List X) (row : X) (read : Result (List X × Place) Refusal2)
    → with_front front (read >>= λ x. Ok (row ∷ x.0, x.1)) ≡ with_front (front ++ row ∷ []) read
regroup {X = X} front row (Ok x) = ap (λ (rows : List X). Ok (rows, x.1)) (simp append_assoc)
regroup front row (Err why) = refl

pub goes_on : {X : Type 0} (says : List (List ℕ) → Found X) (may_follow : X → X → Bool) (front : List X) (last : Option X) (count i : ℕ) (p after : Place) (row : X)
    (total : Result (List X × Place) Refusal2) → i < count → row_at says may_follow last p ≡ Ok (row, after)
    → with_front front (rows_at says may_follow last (count - i) p) ≡ total
    → with_front (front ++ row ∷ []) (rows_at says may_follow (Some row) (count - (i + 1)) after) ≡ total
unfolding rows_at
goes_on says may_follow front last count i p after row total lt h so_far =
    let k : count - i ≡ suc (count - (i + 1)) = omega arith in
    let one : with_front front (rows_at says may_follow last (count - i) p) ≡ with_front (front ++ row ∷ []) (rows_at says may_follow (Some row) (count - (i + 1)) after) =
    rw (k, h) (regroup front row (rows_at says may_follow (Some row) (count - (i + 1)) after)) in
    sym one ∙ so_far

pub ends : {X : Type 0} (says : List (List ℕ) → Found X) (may_follow : X → X → Bool) (e : ReportStop) (front : List X) (last : Option X) (count i : ℕ) (p : Place)
    (total : Result (List X × Place) Refusal2) → i < count → Fails e (row_at says may_follow last p)
    → with_front front (rows_at says may_follow last (count - i) p) ≡ total → Fails e total
unfolding rows_at
ends says may_follow stop.NoMemory front last count i p total lt h so_far = tt
ends says may_follow (stop.Refused why) front last count i p total lt h so_far =
    let k : count - i ≡ suc (count - (i + 1)) = omega arith in
    let one : with_front front (rows_at says may_follow last (count - i) p) ≡ Err why = rw (k, h) refl in
    sym so_far ∙ one

pub is_done : {X : Type 0} (says : List (List ℕ) → Found X) (may_follow : X → X → Bool) (front : List X) (last : Option X) (count i : ℕ) (p : Place)
    (total : Result (List X × Place) Refusal2) → count ≤ i → with_front front (rows_at says may_follow last (count - i) p) ≡ total → total ≡ Ok (front, p)
unfolding rows_at
is_done {X = X} says may_follow front last count i p total le so_far =
    let k : count - i ≡ 0 = omega arith in
    let one : with_front front (rows_at says may_follow last (count - i) p) ≡ Ok (front, p) = rw k (ap (λ (rows : List X). Ok (rows, p)) (append-nil front)) in
    sym so_far ∙ one

-- nothing was read before
pub begins : {X : Type 0} (says : List (List ℕ) → Found X) (may_follow : X → X → Bool) (last : Option X) (count : ℕ) (p : Place)
    → with_front [] (rows_at says may_follow last (count - 0) p) ≡ rows_at says may_follow last count p
begins {X = X} says may_follow last count p = let all : count - 0 ≡ count = omega arith in rw all (nothing (rows_at says may_follow last count p)) where
  nothing : (read : Result (List X × Place) Refusal2) → with_front [] read ≡ read
  nothing (Ok x) = refl
  nothing (Err why) = refl
