-- Reading lines takes their text from the front, and what is spelled is read.
use Rattle.std.proofs.Common.{◌≡◌, ℕ, zero, suc, ◌+◌, ◌<◌, Bool, true, false, cond, List, [], ◌∷◌, ◌++◌, length, map, Option, Some, None, Result, Ok, Err, refl, sym, ap, subst, ◌∙◌, append_assoc, arith}
use Rattle.std.specs.List.{list_all, AllByRecursion}
use Rattle.std.proofs.lemmas.Grind.{flat_map-append}
use Rattle.std.proofs.lemmas.List.Concat.{flat_map-cons}
use Rattle.mwt_base.specs.Line.{line}
use Rattle.cert_text.specs.declared.found.Flaw.TheVariants.{NotSpelled, Outside}
use Rattle.cert_text.specs.declared.refusal.Refusal2.{Refusal2}
use Rattle.cert_text.specs.declared.refusal.Reason.TheVariants.{Order}
use Rattle.cert_text.specs.Reasons.{refused}
use Rattle.cert_text.specs.Cuts.{fields}
use Rattle.cert_text.specs.Found.{◌>>=◌, Found}
use Rattle.cert_text.specs.Reading.{Place, line_by, line_at, judged, value_at, is_behind, row_at, rows_at}
use Rattle.cert_text.specs.Texts.{spaced, lines_text}
use Rattle.cert_text.proofs.Cutting.{is_plain, cut_takes, cut_again, fields_joined, fields_again, line_free}
use Rattle.cert_text.proofs.LineKinds.{IsKind, bind_ok}
use Rattle.cert_text.proofs.Shapes.{value_is}

-- these lines were taken from the front of a text
pub record Took (text : List ℕ) (lines : List (List ℕ)) (rest : List ℕ) : Type 0 where
  pub is : text ≡ lines_text lines ++ rest

-- the text of lines after lines
pub text_then : (xs ys : List (List ℕ)) (rest : List ℕ) → lines_text (xs ++ ys) ++ rest ≡ lines_text xs ++ (lines_text ys ++ rest)
text_then xs ys rest = ap (λ (t : List ℕ). t ++ rest) (flat_map-append line xs ys) ∙ append_assoc (lines_text xs) (lines_text ys) rest

pub text_first : (x : List ℕ) (xs : List (List ℕ)) (rest : List ℕ) → lines_text (x ∷ xs) ++ rest ≡ x ++ 10 ∷ (lines_text xs ++ rest)
text_first x xs rest =
    ap (λ (t : List ℕ). t ++ rest) (flat_map-cons line x xs) ∙ append_assoc (line x) (lines_text xs) rest ∙ append_assoc x (10 ∷ []) (lines_text xs ++ rest)

pub took_then : {a b c : List ℕ} {xs ys : List (List ℕ)} → Took a xs b → Took b ys c → Took a (xs ++ ys) c
took_then {c = c} {xs = xs} {ys = ys} p q = record { is = p.is ∙ ap (λ (t : List ℕ). lines_text xs ++ t) q.is ∙ sym (text_then xs ys c) }

pub took_none : (a : List ℕ) → Took a [] a
took_none a = record { is = refl }

judged_ok : {X : Type 0} (n : ℕ) (f : Found X) (x : X) → judged n f ≡ Ok x → f ≡ Ok x
judged_ok n (Err NotSpelled) x e = absurd cc
judged_ok n (Err Outside) x e = absurd cc
judged_ok {X = X} n (Ok y) x e = ap (λ (z : X). Ok z) (value_is y x e)

-- a line
by_ok : (n : ℕ) (o : Option (List ℕ × List ℕ)) (l : List ℕ × Place) → line_by n o ≡ Ok l → o ≡ Some (l.0, l.1.rest)
by_ok n None l e = absurd cc
by_ok n (Some parts) l e =
    let same = value_is (parts.0, record { number = n + 1; rest = parts.1 }) l e in
    ap (λ (m : List ℕ × Place). Some (m.0, m.1.rest)) same

pub line_takes : (p : Place) (l : List ℕ × Place) → line_at p ≡ Ok l → Took p.rest (l.0 ∷ []) l.1.rest
unfolding line_at
line_takes p l e = record { is = cut_takes 10 p.rest (l.0, l.1.rest) (by_ok p.number _ l e) ∙ sym (text_first l.0 [] l.1.rest) }

-- a list of plain fields is read again
fields_back : (fs : List (List ℕ)) → 0 < length fs → list_all is_plain fs ≡ true → fields (spaced fs) ≡ fs
fields_back [] some h = absurd (omega arith)
fields_back (f ∷ fs) some h = fields_again f fs h

-- a value
pub value_takes : {X : Type 0} {says : List (List ℕ) → Found X} {spell : X → List (List ℕ)} {In : X → Type 0} → IsKind says spell In
    → (p : Place) (x : X × Place) → value_at says p ≡ Ok x → Took p.rest (spaced (spell x.0) ∷ []) x.1.rest × In x.0
unfolding value_at
value_takes {X = X} {says = says} {spell = spell} {In = In} k p x e =
    let a = bind_ok (line_at p) (λ l. judged p.number (says (fields l.0)) >>= λ y. Ok (y, l.1)) x e in
    let b = bind_ok (judged p.number (says (fields a.0.0))) (λ y. Ok (y, a.0.1)) x a.2 in
    let t = k.takes (fields a.0.0) b.0 (judged_ok p.number _ b.0 b.1) in
    let text : a.0.0 ≡ spaced (spell b.0) = sym (fields_joined a.0.0) ∙ ap spaced t.0 in
    let made : X × Place = (b.0, a.0.1) in
    subst (λ (y : X × Place). Took p.rest (spaced (spell y.0) ∷ []) y.1.rest × In y.0) (value_is made x b.2)
    (subst (λ (t : List ℕ). Took p.rest (t ∷ []) a.0.1.rest) text (line_takes p a.0 a.1), t.1)

pub value_found : {X : Type 0} {says : List (List ℕ) → Found X} {spell : X → List (List ℕ)} {In : X → Type 0} → IsKind says spell In
    → (x : X) → In x → (n : ℕ) (rest : List ℕ)
    → value_at says (record { number = n; rest = spaced (spell x) ++ 10 ∷ rest }) ≡ Ok (x, record { number = n + 1; rest = rest })
unfolding value_at line_at
value_found {spell = spell} k x h n rest =
    let plain = k.plain x h in
    rw (cut_again 10 (spaced (spell x)) rest (line_free (spell x) plain), fields_back (spell x) (k.some x) plain, k.found x h) refl

-- each row comes after the one before it, by the test
abbrev pub IsFollowed : {X : Type 0} → (X → X → Bool) → Option X → List X → Type 0
IsFollowed may_follow last [] = Unit {0}
IsFollowed may_follow last (x ∷ xs) = (is_behind may_follow last x ≡ true) × IsFollowed may_follow (Some x) xs

abbrev pub row_lines : {X : Type 0} → (X → List (List ℕ)) → List X → List (List ℕ)
row_lines spell xs = map (λ x. spaced (spell x)) xs

guard_ok : {A : Type 0} (b : Bool) (d : Refusal2) (x y : A) → cond b (Ok x) (Err d) ≡ Ok y → (b ≡ true) × (x ≡ y)
guard_ok true d x y e = (refl, value_is x y e)
guard_ok false d x y e = absurd cc

row_takes : {X : Type 0} {says : List (List ℕ) → Found X} {spell : X → List (List ℕ)} {In : X → Type 0} → IsKind says spell In
    → (may_follow : X → X → Bool) (last : Option X) (p : Place) (x : X × Place) → row_at says may_follow last p ≡ Ok x
    → Took p.rest (spaced (spell x.0) ∷ []) x.1.rest × In x.0 × (is_behind may_follow last x.0 ≡ true)
unfolding row_at
row_takes {X = X} {says = says} {spell = spell} {In = In} k may_follow last p x e =
    let a = bind_ok (value_at says p) (λ y. cond (is_behind may_follow last y.0) (Ok y) (Err (refused p.number Order))) x e in
    let g = guard_ok (is_behind may_follow last a.0.0) _ a.0 x a.2 in
    let t = value_takes k p a.0 a.1 in
    subst (λ (y : X × Place). Took p.rest (spaced (spell y.0) ∷ []) y.1.rest × In y.0 × (is_behind may_follow last y.0 ≡ true)) g.1 (t.0, t.1, g.0)

pub rows_take : {X : Type 0} {says : List (List ℕ) → Found X} {spell : X → List (List ℕ)} {In : X → Type 0} → IsKind says spell In
    → (may_follow : X → X → Bool) (last : Option X) (n : ℕ) (p : Place) (x : List X × Place) → rows_at says may_follow last n p ≡ Ok x
    → Took p.rest (row_lines spell x.0) x.1.rest × (length x.0 ≡ n) × AllByRecursion In x.0 × IsFollowed may_follow last x.0
unfolding rows_at
rows_take {X = X} {says = says} {spell = spell} {In = In} k may_follow last zero p x e =
    let none : List X × Place = ([], p) in
    subst (λ (y : List X × Place). Took p.rest (row_lines spell y.0) y.1.rest × (length y.0 ≡ 0) × AllByRecursion In y.0 × IsFollowed may_follow last y.0) (value_is none x e)
    (took_none p.rest, refl, tt, tt)
rows_take {X = X} {says = says} {spell = spell} {In = In} k may_follow last (suc n) p x e =
    let a = bind_ok (row_at says may_follow last p) (λ y. rows_at says may_follow (Some y.0) n y.1 >>= λ z. Ok (y.0 ∷ z.0, z.1)) x e in
    let b = bind_ok (rows_at says may_follow (Some a.0.0) n a.0.1) (λ z. Ok (a.0.0 ∷ z.0, z.1)) x a.2 in
    let first = row_takes k may_follow last p a.0 a.1 in
    let others = rows_take k may_follow (Some a.0.0) n a.0.1 b.0 b.1 in
    let made : List X × Place = (a.0.0 ∷ b.0.0, b.0.1) in
    subst (λ (y : List X × Place). Took p.rest (row_lines spell y.0) y.1.rest × (length y.0 ≡ suc n) × AllByRecursion In y.0 × IsFollowed may_follow last y.0) (value_is made x b.2)
    (took_then first.0 others.0, ap suc others.1, (first.1, others.2), (first.2, others.3))

-- a step reads this and leaves the rest
pub record Reaches {X : Type 0} (r : Result (X × Place) Refusal2) (x : X) (rest : List ℕ) : Type 0 where
  pub number : ℕ
  pub is : r ≡ Ok (x, record { number = number; rest = rest })

row_found : {X : Type 0} {says : List (List ℕ) → Found X} {spell : X → List (List ℕ)} {In : X → Type 0} → IsKind says spell In
    → (may_follow : X → X → Bool) (last : Option X) (x : X) → In x → is_behind may_follow last x ≡ true → (n : ℕ) (rest : List ℕ)
    → row_at says may_follow last (record { number = n; rest = spaced (spell x) ++ 10 ∷ rest }) ≡ Ok (x, record { number = n + 1; rest = rest })
unfolding row_at
row_found k may_follow last x h behind n rest = rw (value_found k x h n rest, behind) refl

pub rows_found : {X : Type 0} {says : List (List ℕ) → Found X} {spell : X → List (List ℕ)} {In : X → Type 0} → IsKind says spell In
    → (may_follow : X → X → Bool) (last : Option X) (xs : List X) → AllByRecursion In xs → IsFollowed may_follow last xs → (n : ℕ) (rest : List ℕ)
    → Reaches (rows_at says may_follow last (length xs) (record { number = n; rest = lines_text (row_lines spell xs) ++ rest })) xs rest
unfolding rows_at
rows_found k may_follow last [] all follows n rest = record { number = n; is = refl }
rows_found {X = X} {says = says} {spell = spell} k may_follow last (x ∷ xs) all follows n rest =
    let behind = lines_text (row_lines spell xs) ++ rest in
    let others = rows_found k may_follow (Some x) xs all.1 follows.1 (n + 1) rest in
    let first = row_found k may_follow last x all.0 follows.0 n behind in
    record {
      number = others.number;
      is = ap (λ (t : List ℕ). rows_at says may_follow last (suc (length xs)) (record { number = n; rest = t })) (text_first (spaced (spell x)) (row_lines spell xs) rest)
          ∙ rw (first, others.is) refl;
    }
