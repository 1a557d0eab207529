-- The words of a node line.
use Rattle.std.proofs.Common.{◌≡◌, ℕ, List, [], ◌∷◌, None, refl}
use Rattle.tsplib_points.specs.Lines.{words}
use Rattle.tsplib_points.specs.Numbers.{small_number}
use Rattle.tsplib_points.specs.Real.{real_of}
use Rattle.tsplib_points.specs.Nodes.{node_of, node_from}

-- a line of no words is no node line, nor is one of fewer than three
pub none_of_none : (line : ℕ) (t : List ℕ) → words t ≡ [] → node_of (record { number = line; text = t }) ≡ None
unfolding node_of
none_of_none line t e = rw e refl

-- of one word
pub none_of_one : (line : ℕ) (t a u : List ℕ) → words t ≡ a ∷ words u → words u ≡ [] → node_of (record { number = line; text = t }) ≡ None
unfolding node_of
none_of_one line t a u e f = rw (e, f) refl

-- of two
pub none_of_two : (line : ℕ) (t a u b v : List ℕ) → words t ≡ a ∷ words u → words u ≡ b ∷ words v → words v ≡ [] → node_of (record { number = line; text = t }) ≡ None
unfolding node_of
none_of_two line t a u b v e f g = rw (e, f, g) refl

-- nor is one of four words or more
pub none_of_four : (line : ℕ) (t a u b v c w d x : List ℕ) → words t ≡ a ∷ words u → words u ≡ b ∷ words v → words v ≡ c ∷ words w → words w ≡ d ∷ words x
    → node_of (record { number = line; text = t }) ≡ None
unfolding node_of
none_of_four line t a u b v c w d x e f g h = rw (e, f, g, h) refl

-- a line of three words is judged by them
pub of_three : (line : ℕ) (t a u b v c w : List ℕ) → words t ≡ a ∷ words u → words u ≡ b ∷ words v → words v ≡ c ∷ words w → words w ≡ []
    → node_of (record { number = line; text = t }) ≡ node_from line (small_number a) (real_of b) (real_of c)
unfolding node_of
of_three line t a u b v c w e f g h = rw (e, f, g, h) refl
