-- How much of a real a reader keeps.
use Rattle.std.specs.Prelude.{◌≡◌, ◌⊎◌, ℕ, ◌+◌, ◌*◌, ◌%◌, ◌^◌, ◌<◌, ◌≤◌, min, Bool, true, false}
use Rattle.mwt_base.specs.Limits.{most_coordinate, most_unit}
use Rattle.tsplib_points.specs.Real.{Real, is_whole, size_times}

-- n is a number that ends with no zero, and then these zeros; of a number above the limit of a coordinate no more is kept than
-- that it is
pub record Holds (head zeros n : ℕ) : Type 0 where
  pub full : ℕ
  pub is : n ≡ full * 10 ^ zeros
  pub head_is : head ≡ min full (most_coordinate + 1)
  pub last : full % 10 ≡ 0 → full ≡ 0

-- what is read of a real: its sign, its digits, how many of them stand after the point, and how far its exponent moves the
-- point to the right and to the left, up to 2^40
pub record IsRead (negative : Bool) (head zeros places right left : ℕ) (r : Real) : Type 0 where
  pub sign : negative ≡ r.negative
  pub digits : Holds head zeros r.digits
  pub places_are : places ≡ r.places
  pub right_is : right ≡ min r.right (2 ^ 40)
  pub left_is : left ≡ min r.left (2 ^ 40)
  pub one_way : (r.right ≡ 0) ⊎ (r.left ≡ 0)

-- unit is the least k, within the limit, for which r times 10^k is whole, and size is its size times 10^unit; of a size
-- above the limit of a coordinate no more is kept than that it is
pub record Keeps (negative : Bool) (unit size : ℕ) (r : Real) : Type 0 where
  pub sign : negative ≡ r.negative
  pub small : unit ≤ most_unit
  pub whole : (k : ℕ) → unit ≤ k → is_whole k r ≡ true
  pub least : (k : ℕ) → k < unit → is_whole k r ≡ false
  pub size_is : size ≡ min (size_times unit r) (most_coordinate + 1)
