-- Edges have one list of faces.
use Rattle.std.specs.Prelude.{◌≡◌, ℕ, List}
use Rattle.exact_predicates.specs.declared.edge.Edge.{Edge}
use Rattle.exact_predicates.specs.declared.point.Point.{Point}
use Rattle.skeleton_faces.specs.Faces.{AreFaces}

-- Two lists of the faces of the same edges are equal, member by member.
abbrev pub OneFaceList : Type 0
OneFaceList =
    (ps : List Point) (es : List Edge) (cycles other : List (List ℕ))
    → AreFaces ps es cycles → AreFaces ps es other → cycles ≡ other
