-- Lists of a report with their counts.
use Rattle.std.proofs.Common.{◌≡◌, ℕ, ◌+◌, ◌≤◌, ◌^◌, Bool, true, List, [], ◌∷◌, ◌++◌, length, None, Ok, refl, sym, ap, subst, ◌∙◌}
use Rattle.std.specs.List.{AllByRecursion}
use Rattle.cert_text.specs.Found.{Found}
use Rattle.cert_text.specs.Lines.{count_in}
use Rattle.cert_text.specs.Reading.{Place, value_at, rows_at, block_at}
use Rattle.cert_text.specs.Texts.{lines_text, count_line, block}
use Rattle.cert_text.specs.Within.{IsFrom}
use Rattle.cert_text.proofs.Cutting.{is_plain}
use Rattle.cert_text.proofs.LineKinds.{IsKind, bind_ok}
use Rattle.cert_text.proofs.Taking.{Took, took_then, value_takes, value_found, rows_take, rows_found, IsFollowed, row_lines, Reaches, text_first}
use Rattle.cert_text.proofs.WordKinds.{count_kind}

-- a list that is read
pub block_takes : {X : Type 0} {says : List (List ℕ) → Found X} {spell : X → List (List ℕ)} {In : X → Type 0} → IsKind says spell In
    → (may_follow : X → X → Bool) (word : List ℕ) (low end : ℕ) → is_plain word ≡ true → end ≤ 2 ^ 32
    → (p : Place) (x : List X × Place) → block_at word low end says may_follow p ≡ Ok x
    → Took p.rest (block word spell x.0) x.1.rest × IsFrom low end (length x.0) × AllByRecursion In x.0 × IsFollowed may_follow None x.0
unfolding block_at
block_takes {says = says} {spell = spell} k may_follow word low end plain few p x e =
    let a = bind_ok (value_at (count_in word low end) p) (λ n. rows_at says may_follow None n.0 n.1) x e in
    let count = value_takes (count_kind word low end plain few) p a.0 a.1 in
    let rows = rows_take k may_follow None a.0.0 a.0.1 x a.2 in
    let text = subst (λ (n : ℕ). Took p.rest (count_line word n ∷ []) a.0.1.rest) (sym rows.1) count.0 in
    (took_then text rows.0, subst (λ (n : ℕ). IsFrom low end n) (sym rows.1) count.1, rows.2, rows.3)

-- a list that is spelled
pub block_found : {X : Type 0} {says : List (List ℕ) → Found X} {spell : X → List (List ℕ)} {In : X → Type 0} → IsKind says spell In
    → (may_follow : X → X → Bool) (word : List ℕ) (low end : ℕ) → is_plain word ≡ true → end ≤ 2 ^ 32
    → (xs : List X) → IsFrom low end (length xs) → AllByRecursion In xs → IsFollowed may_follow None xs → (n : ℕ) (rest : List ℕ)
    → Reaches (block_at word low end says may_follow (record { number = n; rest = lines_text (block word spell xs) ++ rest })) xs rest
unfolding block_at
block_found {says = says} {spell = spell} k may_follow word low end plain few xs count all follows n rest =
    let behind = lines_text (row_lines spell xs) ++ rest in
    let first = value_found (count_kind word low end plain few) (length xs) count n behind in
    let rows = rows_found k may_follow None xs all follows (n + 1) rest in
    record {
      number = rows.number;
      is = ap (λ (t : List ℕ). block_at word low end says may_follow (record { number = n; rest = t })) (text_first (count_line word (length xs)) (row_lines spell xs) rest)
          ∙ rw (first, rows.is) refl;
    }
