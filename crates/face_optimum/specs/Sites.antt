-- Live edges with a skeleton that decomposes, and what sits where.
use Rattle.std.specs.Prelude.{◌≡◌, ℕ, List, length, AllPairs, All, Contains}
use Rattle.exact_predicates.specs.Candidates.{EdgePrecedes, HasEdge}
use Rattle.exact_predicates.specs.Hull.{IsHullPair}
use Rattle.lmt_network.specs.Flags.{live_edges}
use Rattle.lmt_network.specs.Network.{IsNetwork}
use Rattle.skeleton_faces.specs.Faces.{AreFaces}
use Rattle.face_optimum.specs.declared.site.Site.{Site}
use Rattle.face_optimum.specs.Decomposition.{AreFilled, IsCut, bounded_faces}
use Rattle.face_optimum.specs.Seats.{AreOff, HaveEdgeSeats, HaveTriSeats}

-- a face has at most so many places
abbrev pub most_places : ℕ
most_places = 128

-- the bounded faces
abbrev pub faces_of : Site → List (List ℕ)
faces_of s = s.rings.now

-- What is known of a site: the skeleton of its edges decomposes into faces of at most that many places.
pub record IsSite (s : Site) : Type 0 where
  pub network : IsNetwork s.net.now
  pub one_each : length s.flags.now ≡ length s.net.now.edges
  pub ascending : AllPairs EdgePrecedes s.skeleton.now
  pub live_skeleton : All (Contains (live_edges s.net.now s.flags.now)) s.skeleton.now
  pub on_hull : (u v : ℕ) → IsHullPair s.net.now.hull u v → HasEdge s.skeleton.now u v
  pub cycles : List (List ℕ)
  pub faces_are : AreFaces s.net.now.points s.skeleton.now cycles
  pub cut : IsCut s.net.now.points s.net.now.hull s.skeleton.now cycles most_places
  pub rings_are : s.rings.now ≡ bounded_faces s.net.now.hull cycles
  pub filled : AreFilled s.net.now.points (live_edges s.net.now s.flags.now) s.skeleton.now s.rings.now
  pub off_are : AreOff s.net.now s.flags.now s.skeleton.now s.off.now
  pub edges_are : HaveEdgeSeats s.net.now s.flags.now s.skeleton.now s.rings.now s.edge_seats.now
  pub tris_are : HaveTriSeats s.net.now s.flags.now s.skeleton.now s.rings.now s.tri_seats.now
