-- The lines before the lists of a report and after them.
use Rattle.std.proofs.Common.{◌≡◌, ◌⊎◌, ℕ, pos, ◌+◌, ◌*◌, ◌<◌, ◌≤◌, ◌^◌, Bool, true, false, cond, eqb, List, [], ◌∷◌, ◌++◌, Result, Ok, Err, inl, inr, refl, sym, ap, subst, ◌∙◌, arith, codes, bytes_eq}
use Rattle.std.proofs.lemmas.Fmt.{decimal_digit}
use Rattle.mwt_base.specs.Limits.{most_amount, most_unit}
use Rattle.length_enclosure.specs.Amount.{amount}
use Rattle.cert_text.specs.declared.parts.Head.{Head}
use Rattle.cert_text.specs.declared.parts.Tail.{Tail}
use Rattle.cert_text.specs.declared.refusal.Refusal2.{Refusal2}
use Rattle.cert_text.specs.declared.refusal.Reason.TheVariants.{Version}
use Rattle.cert_text.specs.Reasons.{refused}
use Rattle.cert_text.specs.Lines.{count_in, diamond_in, method_in, length_in, amount_line_in, end_in, most_bound}
use Rattle.cert_text.specs.Found.{◌>>=◌}
use Rattle.cert_text.specs.Reading.{Place, line_at, version_by, version_at, value_at}
use Rattle.cert_text.specs.Texts.{spaced, lines_text, count_line, diamond_word, method_word}
use Rattle.cert_text.specs.Whole.{head_at, tail_at}
use Rattle.cert_text.specs.Within.{IsFrom, IsUpto}
use Rattle.cert_text.proofs.Cutting.{cut_again}
use Rattle.cert_text.proofs.LineKinds.{chosen, word_is, bind_ok}
use Rattle.cert_text.proofs.Shapes.{value_is}
use Rattle.cert_text.proofs.Taking.{Took, took_then, text_first, line_takes, value_takes, value_found, Reaches}
use Rattle.cert_text.proofs.WordKinds.{count_kind, diamond_kind, HasMethod, method_kind, length_kind, AreEnds, amount_kind, end_kind}

-- the version line
version_line : (v : ℕ) → v < 10 → count_line (codes "mwt") v ≡ codes "mwt " ++ (48 + v) ∷ []
version_line v small = ap (λ (d : List ℕ). codes "mwt " ++ d) (decimal_digit v small)

version_ok : (l : List ℕ) (v : ℕ) → version_by l ≡ Ok v → (l ≡ count_line (codes "mwt") v) × ((v ≡ 1) ⊎ (v ≡ 2))
version_ok l v e =
    let one : Result ℕ Refusal2 = Ok 1 in
    let two : Result ℕ Refusal2 = Ok 2 in
    let none : Result ℕ Refusal2 = Err (refused 1 Version) in
    let test = bytes_eq l (codes "mwt 2") in
    elim (chosen (bytes_eq l (codes "mwt 1")) one (cond test two none) (Ok v) e) [
      | inl h ↦
          let same = value_is 1 v h.1 in
          (word_is l (codes "mwt 1") h.0 ∙ sym (version_line 1 (omega arith)) ∙ ap (count_line (codes "mwt")) same, inl (sym same))
      | inr other ↦ elim (chosen test two none (Ok v) other.1) [
        | inl h ↦
            let same = value_is 2 v h.1 in
            (word_is l (codes "mwt 2") h.0 ∙ sym (version_line 2 (omega arith)) ∙ ap (count_line (codes "mwt")) same, inr (sym same))
        | inr last ↦ absurd (let wrong = last.1 in cc)
      ]
    ]

version_takes : (bytes : List ℕ) (x : ℕ × Place) → version_at bytes ≡ Ok x
    → Took bytes (count_line (codes "mwt") x.0 ∷ []) x.1.rest × ((x.0 ≡ 1) ⊎ (x.0 ≡ 2))
unfolding version_at
version_takes bytes x e =
    let begin : Place = record { number = 1; rest = bytes } in
    let a = bind_ok (line_at begin) (λ l. version_by l.0 >>= λ v. Ok (v, l.1)) x e in
    let b = bind_ok (version_by a.0.0) (λ v. Ok (v, a.0.1)) x a.2 in
    let t = version_ok a.0.0 b.0 b.1 in
    let made : ℕ × Place = (b.0, a.0.1) in
    subst (λ (y : ℕ × Place). Took bytes (count_line (codes "mwt") y.0 ∷ []) y.1.rest × ((y.0 ≡ 1) ⊎ (y.0 ≡ 2))) (value_is made x b.2)
    (subst (λ (l : List ℕ). Took bytes (l ∷ []) a.0.1.rest) t.0 (line_takes begin a.0 a.1), t.1)

version_found : (v : ℕ) → (v ≡ 1) ⊎ (v ≡ 2) → (rest : List ℕ) → Reaches (version_at (count_line (codes "mwt") v ++ 10 ∷ rest)) v rest
unfolding version_at line_at
version_found v (inl one) rest = record {
  number = 2;
  is = ap (λ (l : List ℕ). version_at (l ++ 10 ∷ rest)) (ap (count_line (codes "mwt")) one ∙ version_line 1 (omega arith))
      ∙ rw (cut_again 10 (codes "mwt 1") rest refl, one) refl;
}
version_found v (inr two) rest = record {
  number = 2;
  is = ap (λ (l : List ℕ). version_at (l ++ 10 ∷ rest)) (ap (count_line (codes "mwt")) two ∙ version_line 2 (omega arith))
      ∙ rw (cut_again 10 (codes "mwt 2") rest refl, two) refl;
}

abbrev pub head_of : Head → List (List ℕ)
head_of h =
    count_line (codes "mwt") h.version ∷ spaced (codes "diamond" ∷ diamond_word h.diamond ∷ [])
    ∷ count_line (codes "unit") h.unit ∷ count_line (codes "merged") h.merged ∷ []

pub record IsHead (h : Head) : Type 0 where
  pub version : (h.version ≡ 1) ⊎ (h.version ≡ 2)
  pub unit : IsFrom 0 (most_unit + 1) h.unit
  pub merged : IsFrom 0 (2 ^ 32) h.merged

pub head_takes : (bytes : List ℕ) (x : Head × Place) → head_at bytes ≡ Ok x → Took bytes (head_of x.0) x.1.rest × IsHead x.0
unfolding head_at
head_takes bytes x e =
    let a = bind_ok (version_at bytes) _ x e in
    let b = bind_ok (value_at diamond_in a.0.1) _ x a.2 in
    let c = bind_ok (value_at (count_in (codes "unit") 0 (most_unit + 1)) b.0.1) _ x b.2 in
    let d = bind_ok (value_at (count_in (codes "merged") 0 (2 ^ 32)) c.0.1) _ x c.2 in
    let version = version_takes bytes a.0 a.1 in
    let diamond = value_takes diamond_kind a.0.1 b.0 b.1 in
    let unit = value_takes (count_kind (codes "unit") 0 (most_unit + 1) refl (omega arith)) b.0.1 c.0 c.1 in
    let merged = value_takes (count_kind (codes "merged") 0 (2 ^ 32) refl (omega arith)) c.0.1 d.0 d.1 in
    let made : Head × Place = (record { version = a.0.0; diamond = b.0.0; unit = c.0.0; merged = d.0.0 }, d.0.1) in
    subst (λ (y : Head × Place). Took bytes (head_of y.0) y.1.rest × IsHead y.0) (value_is made x d.2)
    (took_then version.0 (took_then diamond.0 (took_then unit.0 merged.0)), record { version = version.1; unit = unit.1; merged = merged.1 })

pub head_found : (h : Head) → IsHead h → (rest : List ℕ) → Reaches (head_at (lines_text (head_of h) ++ rest)) h rest
unfolding head_at
head_found h is rest =
    let merged_line = count_line (codes "merged") h.merged in
    let unit_line = count_line (codes "unit") h.unit in
    let diamond_line = spaced (codes "diamond" ∷ diamond_word h.diamond ∷ []) in
    let behind_unit = merged_line ++ 10 ∷ rest in
    let behind_diamond = unit_line ++ 10 ∷ behind_unit in
    let behind_version = diamond_line ++ 10 ∷ behind_diamond in
    let text : lines_text (head_of h) ++ rest ≡ count_line (codes "mwt") h.version ++ 10 ∷ behind_version =
    four_lines (count_line (codes "mwt") h.version) diamond_line unit_line merged_line rest in
    let version = version_found h.version is.version behind_version in
    let n = version.number in
    let diamond = value_found diamond_kind h.diamond tt n behind_diamond in
    let unit = value_found (count_kind (codes "unit") 0 (most_unit + 1) refl (omega arith)) h.unit is.unit (n + 1) behind_unit in
    let merged = value_found (count_kind (codes "merged") 0 (2 ^ 32) refl (omega arith)) h.merged is.merged (n + 1 + 1) rest in
    record { number = n + 1 + 1 + 1; is = ap head_at text ∙ rw (version.is, diamond, unit, merged) refl } where
      four_lines : (a b c d rest : List ℕ) → lines_text (a ∷ b ∷ c ∷ d ∷ []) ++ rest ≡ a ++ 10 ∷ (b ++ 10 ∷ (c ++ 10 ∷ (d ++ 10 ∷ rest)))
      four_lines a b c d rest =
          text_first a (b ∷ c ∷ d ∷ []) rest ∙ ap (λ (t : List ℕ). a ++ 10 ∷ t) (text_first b (c ∷ d ∷ []) rest
          ∙ ap (λ (t : List ℕ). b ++ 10 ∷ t) (text_first c (d ∷ []) rest ∙ ap (λ (t : List ℕ). c ++ 10 ∷ t) (text_first d [] rest)))

abbrev pub tail_of : Tail → List (List ℕ)
tail_of t =
    spaced (codes "method" ∷ method_word t.method ∷ [])
    ∷ spaced (codes "length" ∷ amount (pos t.lo) ∷ amount (pos t.hi) ∷ [])
    ∷ spaced (codes "bound" ∷ amount t.bound ∷ [])
    ∷ spaced (codes "gap" ∷ amount t.gap ∷ [])
    ∷ codes "end" ∷ []

pub record IsTail (version : ℕ) (t : Tail) : Type 0 where
  pub method : HasMethod version t.method
  pub ends : AreEnds (t.lo, t.hi)
  pub bound : IsUpto (most_bound version) t.bound
  pub gap : IsUpto (most_bound version) t.gap

pub bound_small : (version : ℕ) → most_bound version ≤ most_amount
bound_small version = go (eqb version 1) where
  go : (b : Bool) → cond b (2 * 10 ^ 22) (10 ^ 24) ≤ most_amount
  go true = omega arith
  go false = omega arith

pub tail_takes : (version : ℕ) (p : Place) (x : Tail × Place) → tail_at version p ≡ Ok x → Took p.rest (tail_of x.0) x.1.rest × IsTail version x.0
unfolding tail_at
tail_takes version p x e =
    let most = most_bound version in
    let small = bound_small version in
    let a = bind_ok (value_at (method_in version) p) _ x e in
    let b = bind_ok (value_at length_in a.0.1) _ x a.2 in
    let c = bind_ok (value_at (amount_line_in (codes "bound") most) b.0.1) _ x b.2 in
    let d = bind_ok (value_at (amount_line_in (codes "gap") most) c.0.1) _ x c.2 in
    let f = bind_ok (value_at end_in d.0.1) _ x d.2 in
    let method = value_takes (method_kind version) p a.0 a.1 in
    let ends = value_takes length_kind a.0.1 b.0 b.1 in
    let bound = value_takes (amount_kind (codes "bound") most refl small) b.0.1 c.0 c.1 in
    let gap = value_takes (amount_kind (codes "gap") most refl small) c.0.1 d.0 d.1 in
    let last = value_takes end_kind d.0.1 f.0 f.1 in
    let made : Tail × Place = (record { method = a.0.0; lo = b.0.0.0; hi = b.0.0.1; bound = c.0.0; gap = d.0.0 }, f.0.1) in
    subst (λ (y : Tail × Place). Took p.rest (tail_of y.0) y.1.rest × IsTail version y.0) (value_is made x f.2)
    (took_then method.0 (took_then ends.0 (took_then bound.0 (took_then gap.0 last.0))), record { method = method.1; ends = ends.1; bound = bound.1; gap = gap.1 })

pub tail_found : (version : ℕ) (t : Tail) → IsTail version t → (n : ℕ) (rest : List ℕ)
    → Reaches (tail_at version (record { number = n; rest = lines_text (tail_of t) ++ rest })) t rest
unfolding tail_at
tail_found version t is n rest =
    let most = most_bound version in
    let small = bound_small version in
    let method_line = spaced (codes "method" ∷ method_word t.method ∷ []) in
    let length_line = spaced (codes "length" ∷ amount (pos t.lo) ∷ amount (pos t.hi) ∷ []) in
    let bound_line = spaced (codes "bound" ∷ amount t.bound ∷ []) in
    let gap_line = spaced (codes "gap" ∷ amount t.gap ∷ []) in
    let behind_gap = codes "end" ++ 10 ∷ rest in
    let behind_bound = gap_line ++ 10 ∷ behind_gap in
    let behind_length = bound_line ++ 10 ∷ behind_bound in
    let behind_method = length_line ++ 10 ∷ behind_length in
    let text : lines_text (tail_of t) ++ rest ≡ method_line ++ 10 ∷ behind_method =
    five_lines method_line length_line bound_line gap_line (codes "end") rest in
    let method = value_found (method_kind version) t.method is.method n behind_method in
    let ends = value_found length_kind (t.lo, t.hi) is.ends (n + 1) behind_length in
    let bound = value_found (amount_kind (codes "bound") most refl small) t.bound is.bound (n + 1 + 1) behind_bound in
    let gap = value_found (amount_kind (codes "gap") most refl small) t.gap is.gap (n + 1 + 1 + 1) behind_gap in
    let last = value_found end_kind tt tt (n + 1 + 1 + 1 + 1) rest in
    record {
      number = n + 1 + 1 + 1 + 1 + 1;
      is = ap (λ (x : List ℕ). tail_at version (record { number = n; rest = x })) text ∙ rw (method, ends, bound, gap, last) refl;
    } where
      five_lines : (a b c d e rest : List ℕ) → lines_text (a ∷ b ∷ c ∷ d ∷ e ∷ []) ++ rest ≡ a ++ 10 ∷ (b ++ 10 ∷ (c ++ 10 ∷ (d ++ 10 ∷ (e ++ 10 ∷ rest))))
      five_lines a b c d e rest =
          text_first a (b ∷ c ∷ d ∷ e ∷ []) rest ∙ ap (λ (t : List ℕ). a ++ 10 ∷ t) (text_first b (c ∷ d ∷ e ∷ []) rest
          ∙ ap (λ (t : List ℕ). b ++ 10 ∷ t) (text_first c (d ∷ e ∷ []) rest ∙ ap (λ (t : List ℕ). c ++ 10 ∷ t) (text_first d (e ∷ []) rest
          ∙ ap (λ (t : List ℕ). d ++ 10 ∷ t) (text_first e [] rest))))
