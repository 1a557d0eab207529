-- Reading a report line by line, with the first line that fails.
use Rattle.std.specs.Prelude.{◌≡◌, ℕ, ◌+◌, Bool, true, List, [], ◌∷◌, zero, suc, Option, Some, None, Result, Ok, Err, bytes_eq, codes, if◌then◌else◌}
use Rattle.cert_text.specs.declared.found.Flaw.TheVariants.{NotSpelled, Outside}
use Rattle.cert_text.specs.declared.refusal.Refusal2.{Refusal2}
use Rattle.cert_text.specs.declared.refusal.Reason.TheVariants.{Version, Line, Order, Range, Truncated}
use Rattle.cert_text.specs.declared.refusal.ReportStop.{ReportStop}
use Rattle.cert_text.specs.declared.refusal.ReportStop.TheVariants as stop
use Rattle.cert_text.specs.Reasons.{refused}
use Rattle.cert_text.specs.Cuts.{cut, fields}
use Rattle.cert_text.specs.Found.{◌>>=◌, Found}
use Rattle.cert_text.specs.Lines.{count_in}

-- What a function returned, seen by view, is what reading gives, unless memory ran out.
abbrev pub Fails : {Y : Type 0} → ReportStop → Result Y Refusal2 → Type 0
Fails stop.NoMemory read = Unit {0}
Fails (stop.Refused why) read = read ≡ Err why

abbrev pub Gives : {X Y : Type 0} → (X → Y) → Result X ReportStop → Result Y Refusal2 → Type 0
Gives view (Ok x) read = read ≡ Ok (view x)
Gives view (Err e) read = Fails e read

-- what is left of a text, and the number of the line that begins there
pub record Place : Type 0 where
  pub number : ℕ
  pub rest : List ℕ

-- the next line, without its LF, and the place after it
abbrev pub line_by : ℕ → Option (List ℕ × List ℕ) → Result (List ℕ × Place) Refusal2
line_by number None = Err (refused number Truncated)
line_by number (Some parts) = Ok (parts.0, record { number = number + 1; rest = parts.1 })

unfoldable pub line_at : Place → Result (List ℕ × Place) Refusal2
line_at p = line_by p.number (cut 10 p.rest)

-- what is found in a line, or why the line fails
abbrev pub judged : {X : Type 0} → ℕ → Found X → Result X Refusal2
judged number (Err NotSpelled) = Err (refused number Line)
judged number (Err Outside) = Err (refused number Range)
judged number (Ok x) = Ok x

-- what the next line says
unfoldable pub value_at : {X : Type 0} → (List (List ℕ) → Found X) → Place → Result (X × Place) Refusal2
value_at says p = do
  line ← line_at p
  x ← judged p.number (says (fields line.0))
  Ok (x, line.1)

-- a row comes after the last one
abbrev pub is_behind : {X : Type 0} → (X → X → Bool) → Option X → X → Bool
is_behind may_follow None x = true
is_behind may_follow (Some last) x = may_follow last x

-- the next row of a list
unfoldable pub row_at : {X : Type 0} → (List (List ℕ) → Found X) → (X → X → Bool) → Option X → Place → Result (X × Place) Refusal2
row_at says may_follow last p = do
  x ← value_at says p
  if is_behind may_follow last x.0 then Ok x else Err (refused p.number Order)

-- so many rows of a list, after the last one
unfoldable pub rows_at : {X : Type 0} → (List (List ℕ) → Found X) → (X → X → Bool) → Option X → ℕ → Place → Result (List X × Place) Refusal2
rows_at says may_follow last zero p = Ok ([], p)
rows_at says may_follow last (suc n) p = do
  first ← row_at says may_follow last p
  others ← rows_at says may_follow (Some first.0) n first.1
  Ok (first.0 ∷ others.0, others.1)

-- a list: how many rows it has, and these
unfoldable pub block_at : {X : Type 0} → List ℕ → ℕ → ℕ → (List (List ℕ) → Found X) → (X → X → Bool) → Place → Result (List X × Place) Refusal2
block_at word low end says may_follow p = do
  count ← value_at (count_in word low end) p
  rows_at says may_follow None count.0 count.1

-- the version that the first line says
abbrev pub version_by : List ℕ → Result ℕ Refusal2
version_by line =
    if bytes_eq line (codes "mwt 1") then Ok 1
    else if bytes_eq line (codes "mwt 2") then Ok 2
    else Err (refused 1 Version)

unfoldable pub version_at : List ℕ → Result (ℕ × Place) Refusal2
version_at bytes = do
  line ← line_at (record { number = 1; rest = bytes })
  version ← version_by line.0
  Ok (version, line.1)
