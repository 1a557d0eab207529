-- A face is the piece of the table between two bounds.
use Rattle.std.proofs.Common.{◌+◌, ℕ, List, [], get_or, length, sym, ap, ◌∙◌, arith}
use Rattle.skeleton_faces.proofs.Cuts.{length-pieces, get_or-pieces}
use Rattle.skeleton_faces.proofs.face_list.Faces.cycle.Goals as goal

pub piece-requires-clause-i_in : goal.piece-requires-clause-i_in
piece-requires-clause-i_in c =
    let i = c.self.inside in
    omega (arith, length-pieces i.starts.items i.bounds.items, ap length c.self.view_is, c.requires, ap length c.deref-2.ensures.value)

pub piece-requires-clause-rising : goal.piece-requires-clause-rising
piece-requires-clause-rising c =
    let i = c.self.inside in
    rw c.deref-2.ensures.value (c.self.invariant.rise c.args.i (omega (arith, length-pieces i.starts.items i.bounds.items, ap length c.self.view_is, c.requires)))

pub piece-requires-clause-within : goal.piece-requires-clause-within
piece-requires-clause-within c =
    let i = c.self.inside in
    rw (c.deref-2.ensures.value, c.deref.ensures.value) (c.self.invariant.within (c.args.i + 1) (omega (arith, length-pieces i.starts.items i.bounds.items, ap length c.self.view_is, c.requires)))

pub returns : goal.returns
returns c =
    let i = c.self.inside in
    let at = get_or-pieces i.starts.items i.bounds.items c.args.i (omega (arith, length-pieces i.starts.items i.bounds.items, ap length c.self.view_is, c.requires)) in
    let read = rw (c.deref-2.ensures.value, c.deref.ensures.value) at c.piece.ensures in
    let nth : List (List ℕ) → List ℕ = λ cs. get_or cs c.args.i [] in
    read ∙ (sym at ∙ ap nth c.self.view_is)
