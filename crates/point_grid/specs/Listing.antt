-- Lists of all things of a kind, in order, made in rows.
use Rattle.std.specs.Prelude.{◌≡◌, ℕ, ◌+◌, ◌<◌, List, length, slice_index_or, All, AllPairs, Contains}
use Rattle.std.specs.declared.alloc.Global.{Global}
use Rattle.std.specs.declared.vec.Vec.{Vec}

-- the things of the kind K that are P, each once, in the order of Before
pub record IsListing {X : Type 0} (Before : X → X → Type 0) (K P : X → Type 0) (xs : List X) : Type 0 where
  pub ascending : AllPairs Before xs
  pub are : All P xs
  pub each : All K xs
  pub all : (x : X) → P x → K x → Contains xs x

-- row after row, those with each first number from a to before n
pub record AreRows {X : Type 0} (Before : X → X → Type 0) (K : X → Type 0) (first : X → ℕ) (a n : ℕ) (rows : List (Vec X Global)) : Type 0 where
  pub count : length rows + a ≡ n
  pub each : (k : ℕ) (d : Vec X Global) → k < length rows → IsListing Before K (λ x. first x ≡ a + k) (slice_index_or rows k d).items
