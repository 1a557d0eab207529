-- The lines of the live edges: one for each number at which a list of truth values is true.
use Rattle.std.proofs.Common.{◌≡◌, ℕ, zero, suc, ◌+◌, ◌<◌, ◌≤◌, List, [], ◌∷◌, ◌++◌, length, get_or, take, Bool, true, false, cond, map, arith, refl, ap, sym, ◌∙◌, add-one, length-append}
use Rattle.std.specs.List.{items_where_true, range_with_len}
use Rattle.std.proofs.lemmas.List.{map-append, append-nil, take_all}
use Rattle.std.proofs.lemmas.List.FromFn.{get_or-range_with_len, length-range_with_len}
use Rattle.cert_text.specs.declared.report.PriceLine.{PriceLine}
use Rattle.lmt_network.specs.Network.{NetworkParts}
use Rattle.price_ascent.specs.declared.entry.PriceEntry.{PriceEntry}
use Rattle.price_ascent.specs.Entries.{live_of}
use Rattle.mwt_tool.specs.PriceLines.{line_at, price_lines}

-- the item at a place, if it is picked
abbrev picked : {X : Type 0} → Bool → X → List X
picked b x = cond b (x ∷ []) []

more_picked : {X : Type 0} (bs : List Bool) (xs : List X) (k : ℕ) (d : X) → k < length bs → k < length xs
    → items_where_true (take (suc k) bs) (take (suc k) xs) ≡ items_where_true (take k bs) (take k xs) ++ picked (get_or bs k false) (get_or xs k d)
more_picked [] xs k d l m = absurd (omega arith)
more_picked (b ∷ bs) [] k d l m = absurd (omega arith)
more_picked (true ∷ bs) (x ∷ xs) zero d l m = refl
more_picked (false ∷ bs) (x ∷ xs) zero d l m = refl
more_picked (true ∷ bs) (x ∷ xs) (suc k) d l m = ap (λ ys. x ∷ ys) (more_picked bs xs k d (omega arith) (omega arith))
more_picked (false ∷ bs) (x ∷ xs) (suc k) d l m = more_picked bs xs k d (omega arith) (omega arith)

-- the numbers of the live edges among the first k
abbrev pub live_before : List Bool → ℕ → List ℕ
live_before flags k = items_where_true (take k flags) (take k (range_with_len 0 (length flags)))

-- one place further
live_before-next : (flags : List Bool) (k : ℕ) → k < length flags → live_before flags (k + 1) ≡ live_before flags k ++ picked (get_or flags k false) k
live_before-next flags k l =
    let numbers = range_with_len 0 (length flags) in
    let there : k < length numbers = omega (arith, length-range_with_len 0 (length flags)) in
    let is : get_or numbers k 0 ≡ k = omega (arith, get_or-range_with_len 0 (length flags) k 0 l) in
    let next : live_before flags (k + 1) ≡ live_before flags k ++ picked (get_or flags k false) (get_or numbers k 0) = rw add-one (more_picked flags numbers k 0 l there) in
    next ∙ ap (λ (n : ℕ). live_before flags k ++ picked (get_or flags k false) n) is

-- the lines of the live edges among the first e
pub record AreLinesUpto (n : NetworkParts) (es : List PriceEntry) (lines : List PriceLine) (e : ℕ) : Type 0 where
  pub few : length lines ≤ e
  pub are : lines ≡ map (line_at n es) (live_before (live_of es) e)

-- with the line of the next edge, which is live
pub lines_next_live : (n : NetworkParts) (es : List PriceEntry) (lines : List PriceLine) (line : PriceLine) (e : ℕ)
    → AreLinesUpto n es lines e → e < length (live_of es) → get_or (live_of es) e false ≡ true → line ≡ line_at n es e
    → AreLinesUpto n es (lines ++ line ∷ []) (e + 1)
lines_next_live n es lines line e h l live is = record {
  few = omega (arith, length-append lines (line ∷ []), h.few);
  are = ap (λ ls. ls ++ line ∷ []) h.are
      ∙ (ap (λ (m : PriceLine). map (line_at n es) (live_before (live_of es) e) ++ m ∷ []) is
      ∙ (sym (map-append (line_at n es) (live_before (live_of es) e) (e ∷ []))
      ∙ (ap (λ b. map (line_at n es) (live_before (live_of es) e ++ picked b e)) (sym live)
      ∙ ap (map (line_at n es)) (sym (live_before-next (live_of es) e l)))));
}

-- where the next edge is not live
pub lines_next_dead : (n : NetworkParts) (es : List PriceEntry) (lines : List PriceLine) (e : ℕ)
    → AreLinesUpto n es lines e → e < length (live_of es) → get_or (live_of es) e false ≡ false → AreLinesUpto n es lines (e + 1)
lines_next_dead n es lines e h l dead = record {
  few = omega (arith, h.few);
  are = h.are
      ∙ ap (map (line_at n es)) (sym (append-nil (live_before (live_of es) e))
      ∙ (ap (λ b. live_before (live_of es) e ++ picked b e) (sym dead) ∙ sym (live_before-next (live_of es) e l)));
}

-- at the end they are the lines of all live edges
pub lines_all : (n : NetworkParts) (es : List PriceEntry) (lines : List PriceLine) (e : ℕ) → AreLinesUpto n es lines e → length (live_of es) ≤ e → lines ≡ price_lines n es
lines_all n es lines e h past =
    let flags = live_of es in
    let numbers = range_with_len 0 (length flags) in
    h.are ∙ (ap (λ bs. map (line_at n es) (items_where_true bs (take e numbers))) (take_all e flags past)
    ∙ ap (λ ns. map (line_at n es) (items_where_true flags ns)) (take_all e numbers (omega (arith, length-range_with_len 0 (length flags), past))))
