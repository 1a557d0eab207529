-- A text that grows piece by piece.
use Rattle.std.proofs.Common.{◌≡◌, ℕ, List, [], ◌∷◌, ◌++◌, sym, ap, ◌∙◌, append_assoc}
use Rattle.std.proofs.lemmas.List.{append-nil}
use Rattle.mwt_base.specs.Line.{line}
use Rattle.cert_text.specs.Texts.{Grows}

-- one more piece
pub piece_then : (a b c x y : List ℕ) → b ≡ a ++ x → c ≡ b ++ y → c ≡ a ++ (x ++ y)
piece_then a b c x y p q = q ∙ ap (λ (t : List ℕ). t ++ y) p ∙ append_assoc a x y

-- the last piece of a line
pub line_ends : (a b c x y : List ℕ) → b ≡ a ++ x → c ≡ b ++ (y ++ 10 ∷ []) → Grows a c ((x ++ y) ∷ [])
line_ends a b c x y p q =
    piece_then a b c x (y ++ 10 ∷ []) p q
    ∙ ap (λ (t : List ℕ). a ++ t) (sym (append_assoc x y (10 ∷ [])) ∙ sym (append-nil (line (x ++ y))))
