use Rattle.std.proofs.Common.{◌≡◌, ℕ, List, Bool, Option, length, ap, sym, ◌∙◌, subst}
use Rattle.exact_predicates.specs.declared.point.Point.{Point}
use Rattle.lmt_network.specs.Flags.{live_edges}
use Rattle.face_optimum.specs.declared.seat.EdgeSeat.{EdgeSeat}
use Rattle.face_optimum.specs.declared.seat.TriSeat.{TriSeat}
use Rattle.face_optimum.specs.Decomposition.{Decomposes, bounded_faces}
use Rattle.face_optimum.specs.Known.{AreKnown}
use Rattle.face_optimum.specs.Seats.{AreOff}
use Rattle.face_optimum.specs.SeatTables.{AreEdgeSeats, AreTriSeats}
use Rattle.face_optimum.proofs.Joining.{site_known}
use Rattle.face_optimum.proofs.solve.solve_faces.Goals as goal

pub optimum-requires-clause-site : goal.optimum-requires-clause-site
optimum-requires-clause-site c =
    let n = c.args.net.now in
    let flags = c.args.flags.now in
    let skeleton = c.args.skeleton.now in
    let cycles = c.args.faces.now in
    let both : AreKnown n flags skeleton (bounded_faces c.args.hull.now cycles) c.in-Some.seats × Decomposes c.args.points.now.points c.args.hull.now (live_edges n flags) skeleton cycles c.args.most
    = rw c.in-Some.is at c.in_ok-seats.ensures.some in
    let known = both.0 in
    let d : Decomposes n.points n.hull (live_edges n flags) skeleton cycles c.args.most =
    subst (λ (ps : List Point). Decomposes ps n.hull (live_edges n flags) skeleton cycles c.args.most) (sym c.requires.same_points)
    (subst (λ (hull : List ℕ). Decomposes c.args.points.now.points hull (live_edges n flags) skeleton cycles c.args.most) (sym c.requires.same_hull) both.1) in
    let faces : bounded_faces c.args.hull.now cycles ≡ bounded_faces n.hull cycles = ap (λ (hull : List ℕ). bounded_faces hull cycles) (sym c.requires.same_hull) in
    let off = c.deref.ensures.value in
    site_known _ cycles c.args.most c.requires.most_in c.edges-edges.ensures.valid c.requires.one_each c.requires.skeleton_is c.requires.faces_are d
    (known.rings ∙ faces)
    (subst (λ (xs : List Bool). AreOff n flags skeleton xs) (sym off) known.off)
    (subst (λ (fs : List (List ℕ)). AreEdgeSeats n fs c.deref.result.now c.deref-2.result.now) faces
    (subst (λ (xs : List Bool). AreEdgeSeats n (bounded_faces c.args.hull.now cycles) xs c.deref-2.result.now) (sym off)
    (subst (λ (xs : List (Option EdgeSeat)). AreEdgeSeats n (bounded_faces c.args.hull.now cycles) c.in-Some.seats.off.items xs) (sym c.deref-2.ensures.value) known.edges)))
    (subst (λ (fs : List (List ℕ)). AreTriSeats n flags fs c.deref.result.now (length n.tris) c.deref-3.result.now) faces
    (subst (λ (xs : List Bool). AreTriSeats n flags (bounded_faces c.args.hull.now cycles) xs (length n.tris) c.deref-3.result.now) (sym off)
    (subst (λ (xs : List TriSeat). AreTriSeats n flags (bounded_faces c.args.hull.now cycles) c.in-Some.seats.off.items (length n.tris) xs) (sym c.deref-3.ensures.value) known.tris)))
