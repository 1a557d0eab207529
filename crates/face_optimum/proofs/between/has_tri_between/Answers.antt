-- The triangle is in the row of its side.
use Rattle.std.proofs.Common.{ℕ, List, slice_index, sym, subst}
use Rattle.std.proofs.lemmas.List.Elements.{Contains-get_or}
use Rattle.exact_predicates.specs.Candidates.{HasEdge}
use Rattle.lmt_network.specs.Network.{tri_at}
use Rattle.lmt_network.specs.Numbers.{HasSide}
use Rattle.face_optimum.specs.Seats.{tri_seat}
use Rattle.face_optimum.proofs.TriTables.{has_side, on_left, on_right}
use Rattle.face_optimum.proofs.between.has_tri_between.Goals as goal

pub number-e-requires : goal.number-e-requires
number-e-requires c =
    subst (λ (r : List ℕ). HasEdge c.args.net.now.edges (slice_index r c.args.seat.last) (slice_index r c.args.seat.first)) (sym c.ring-ring.ensures.value) c.requires.joined

pub has_between-requires-clause-row_in : goal.has_between-requires-clause-row_in
has_between-requires-clause-row_in c = λ k d k_in. ((c.left.ensures.members _).0 (Contains-get_or c.left.result.now k d k_in)).0

pub has_between-requires-else-from-to-clause-row_in : goal.has_between-requires-else-from-to-clause-row_in
has_between-requires-else-from-to-clause-row_in c = λ k d k_in. ((c.right.ensures.members _).0 (Contains-get_or c.right.result.now k d k_in)).0

pub returns-then-from-to : goal.returns-then-from-to
returns-then-from-to c =
    let n = c.args.net.now in
    let tris = c.args.tris.now in
    let seat = c.args.seat in (
      λ found. let (t, has, live) = c.has_between.ensures.0 found in (t, ((c.left.ensures.members t).0 has).0, live),
      λ (t, t_in, live).
          let side = has_side n c.args.rings.now c.args.off.now (tri_at n t) (tri_seat tris t) seat.face seat.first seat.last (c.requires.tris_are.each t t_in live.0) live.1.0 live.1.1 live.1.2 in
          let here = subst (λ (r : List ℕ). HasSide (tri_at n t) (slice_index r seat.last) (slice_index r seat.first)) (sym c.ring-ring.ensures.value) side in
          c.has_between.ensures.1 (t, (c.left.ensures.members t).1 (on_left n c.number-e.result t _ _ c.number-e.ensures c.if-from-to.true t_in here), live),
    )

pub returns-else-from-to : goal.returns-else-from-to
returns-else-from-to c =
    let n = c.args.net.now in
    let tris = c.args.tris.now in
    let seat = c.args.seat in (
      λ found. let (t, has, live) = c.has_between-else-from-to.ensures.0 found in (t, ((c.right.ensures.members t).0 has).0, live),
      λ (t, t_in, live).
          let side = has_side n c.args.rings.now c.args.off.now (tri_at n t) (tri_seat tris t) seat.face seat.first seat.last (c.requires.tris_are.each t t_in live.0) live.1.0 live.1.1 live.1.2 in
          let here = subst (λ (r : List ℕ). HasSide (tri_at n t) (slice_index r seat.last) (slice_index r seat.first)) (sym c.ring-ring.ensures.value) side in
          c.has_between-else-from-to.ensures.1 (t, (c.right.ensures.members t).1 (on_right n c.number-e.result t _ _ c.number-e.ensures c.if-from-to.false t_in here), live),
    )
