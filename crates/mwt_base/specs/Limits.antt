-- The limits of the program, each once. Contracts cite these names; a constant of the code has no say in them.
use Rattle.std.specs.Prelude.{ℕ, ◌^◌, ◌*◌}

-- the most bytes of input: 64 MiB
abbrev pub most_bytes : ℕ
most_bytes = 67108864

-- the most points after merging
abbrev pub most_points : ℕ
most_points = 10000

-- the most decimals that a coordinate may need
abbrev pub most_unit : ℕ
most_unit = 6

-- the greatest size of a coordinate, in scaled units
abbrev pub most_coordinate : ℕ
most_coordinate = 10 ^ 9

-- the most candidate edges
abbrev pub most_edges : ℕ
most_edges = 400000

-- the most empty triangles between candidate edges
abbrev pub most_triangles : ℕ
most_triangles = 4000000

-- the most triangles of a triangulation, rounded up
abbrev pub most_tiles : ℕ
most_tiles = 20000

-- the greatest length of a triangulation, rounded up, in millionths of the scaled unit
abbrev pub most_length : ℕ
most_length = 10 ^ 20

-- the greatest size of a price, in millionths of the scaled unit
abbrev pub most_price : ℕ
most_price = 4 * 10 ^ 17

-- the greatest size of an anchor, in millionths of the scaled unit
abbrev pub most_anchor : ℕ
most_anchor = 10 ^ 18

-- the greatest size of an amount that is written or read, in millionths
abbrev pub most_amount : ℕ
most_amount = 10 ^ 25

-- the most workers
abbrev pub most_workers : ℕ
most_workers = 64
