-- Lines of a text.
use Rattle.std.specs.Prelude.{ℕ, List, [], ◌∷◌, ◌++◌}

-- a text as a line, which a line feed ends
abbrev pub line : List ℕ → List ℕ
line text = text ++ 10 ∷ []
