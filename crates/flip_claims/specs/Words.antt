-- The words of the claims: one for each triangle, and one more, so that there is a first word in any mesh.
use Rattle.std.specs.Prelude.{ℕ, ◌+◌, length}
use Rattle.flip_finish.specs.Mesh.{Parts}

-- the word of a triangle that no slot has claimed, which is 2 to the 32nd
abbrev pub unclaimed : ℕ
unclaimed = 4294967296

-- how many words there are in all
abbrev pub word_count : Parts → ℕ
word_count m = length m.tris + 1

-- the most seats: one for each of 64 workers, and one more
abbrev pub most_seats : ℕ
most_seats = 65
