-- Where the skeleton decomposes, what is known of its faces is what the optimum asks for.
use Rattle.std.proofs.Common.{◌≡◌, ℕ, ◌≤◌, List, Bool, Option, None, Some, length, slice_index_or, unwrap_or, arith, ap, sym, ◌∙◌, subst}
use Rattle.std.proofs.lemmas.List.Elements.{All-weaker}
use Rattle.exact_predicates.specs.declared.edge.Edge.{Edge}
use Rattle.lmt_network.specs.Flags.{live_edges}
use Rattle.lmt_network.specs.Network.{IsNetwork, NetworkParts, tri_at}
use Rattle.lmt_network.specs.Skeleton.{AreSkeleton}
use Rattle.skeleton_faces.specs.Faces.{AreFaces}
use Rattle.face_optimum.specs.declared.seat.EdgeSeat.{EdgeSeat}
use Rattle.face_optimum.specs.declared.seat.TriSeat.{TriSeat}
use Rattle.face_optimum.specs.declared.site.Site.{Site}
use Rattle.face_optimum.specs.Decomposition.{AreFilled, Decomposes, IsCut, IsSized, bounded_faces}
use Rattle.face_optimum.specs.SeatTables as tables
use Rattle.face_optimum.specs.Sites.{IsSite, most_places}
use Rattle.face_optimum.specs.Seats.{AreOff, HaveEdgeSeats, HaveTriSeats, IsLiveTri, IsOff, edge_seat, tri_seat}
use Rattle.face_optimum.proofs.RimEdges.{hull_in_skeleton}
use Rattle.face_optimum.proofs.SkeletonFacts.{skeleton_live}
use Rattle.face_optimum.proofs.TriPlaces.{linked_at}

module _ (n : NetworkParts) (flags : List Bool) (skeleton : List Edge) (faces : List (List ℕ)) (off : List Bool) (net : IsNetwork n) (one_each : length flags ≡ length n.edges)
    (are : AreOff n flags skeleton off) where
  number_known : (e : ℕ) → IsOff n flags skeleton e → tables.IsOffNumber n off e
  number_known e is = (is.0, (are.each e).1 is)

  edges_known : (seats : List (Option EdgeSeat)) → tables.AreEdgeSeats n faces off seats → HaveEdgeSeats n flags skeleton faces seats
  edges_known seats known =
      record {
        one_each = known.seats_are.one_each;
        there = λ e is. there e is;
        face_in = λ e is. (known.seats_are.sound e (edge_seat seats e) (there e is)).0;
        sits = λ e is. (known.seats_are.sound e (edge_seat seats e) (there e is)).1;
      }
    where
      there : (e : ℕ) → IsOff n flags skeleton e → slice_index_or seats e None ≡ Some (edge_seat seats e)
      there e is =
          let (s, s_is) = known.some e (number_known e is) in
          s_is ∙ ap (λ (o : Option EdgeSeat). Some (unwrap_or o (record { face = 0; first = 0; last = 0 }))) (sym s_is)

  tris_known : (seats : List TriSeat) → tables.AreTriSeats n flags faces off (length n.tris) seats → HaveTriSeats n flags skeleton faces seats
  tris_known seats known =
      record {
        one_each = known.one_each;
        face_in = λ t is. (linked_at n flags skeleton faces off net one_each are (tri_at n t) (tri_seat seats t) (linked t is)).0;
        sits = λ t is. (linked_at n flags skeleton faces off net one_each are (tri_at n t) (tri_seat seats t) (linked t is)).1;
      }
    where
      linked : (t : ℕ) → IsLiveTri n flags t → tables.IsTriLinked n faces off (tri_at n t) (tri_seat seats t)
      linked t is = known.each t is.0 is

-- with less places to a face allowed the skeleton decomposes with more allowed too
cut_most : (n : NetworkParts) (skeleton : List Edge) (cycles : List (List ℕ)) (most : ℕ) → most ≤ most_places → IsCut n.points n.hull skeleton cycles most → IsCut n.points n.hull skeleton cycles most_places
cut_most n skeleton cycles most few cut =
    record {
      connected = cut.connected;
      outer = cut.outer;
      sizes = All-weaker (IsSized most) (IsSized most_places) (λ c h. let at_least = h.0 in let at_most = h.1 in (at_least, omega arith)) (bounded_faces n.hull cycles) cut.sizes;
      count = cut.count;
    }

-- the site of these tables
pub site_known : (s : Site) (cycles : List (List ℕ)) (most : ℕ) → most ≤ most_places → IsNetwork s.net.now → length s.flags.now ≡ length s.net.now.edges
    → AreSkeleton s.net.now.points (live_edges s.net.now s.flags.now) s.skeleton.now
    → AreFaces s.net.now.points s.skeleton.now cycles → Decomposes s.net.now.points s.net.now.hull (live_edges s.net.now s.flags.now) s.skeleton.now cycles most
    → s.rings.now ≡ bounded_faces s.net.now.hull cycles → AreOff s.net.now s.flags.now s.skeleton.now s.off.now
    → tables.AreEdgeSeats s.net.now (bounded_faces s.net.now.hull cycles) s.off.now s.edge_seats.now
    → tables.AreTriSeats s.net.now s.flags.now (bounded_faces s.net.now.hull cycles) s.off.now (length s.net.now.tris) s.tri_seats.now → IsSite s
site_known s cycles most few net one_each are faces d rings off edges tris =
    record {
      network = net;
      one_each = one_each;
      ascending = are.ascending;
      live_skeleton = skeleton_live s.net.now.points (live_edges s.net.now s.flags.now) s.skeleton.now are;
      on_hull = λ u v pair. hull_in_skeleton s.net.now.points s.net.now.hull s.skeleton.now cycles u v faces d.cut.outer pair;
      cycles = cycles;
      faces_are = faces;
      cut = cut_most s.net.now s.skeleton.now cycles most few d.cut;
      rings_are = rings;
      filled = subst (λ (fs : List (List ℕ)). AreFilled s.net.now.points (live_edges s.net.now s.flags.now) s.skeleton.now fs) (sym rings) d.filled;
      off_are = off;
      edges_are = subst (λ (fs : List (List ℕ)). HaveEdgeSeats s.net.now s.flags.now s.skeleton.now fs s.edge_seats.now) (sym rings)
          (edges_known s.net.now s.flags.now s.skeleton.now (bounded_faces s.net.now.hull cycles) s.off.now net one_each off s.edge_seats.now edges);
      tris_are = subst (λ (fs : List (List ℕ)). HaveTriSeats s.net.now s.flags.now s.skeleton.now fs s.tri_seats.now) (sym rings)
          (tris_known s.net.now s.flags.now s.skeleton.now (bounded_faces s.net.now.hull cycles) s.off.now net one_each off s.tri_seats.now tris);
    }
