-- The slots of a face are those that have it.
use Rattle.std.proofs.Common.{sym, arith}
use Rattle.std.proofs.lemmas.List.{length-map}
use Rattle.flip_finish.proofs.Pairing.{sided}
use Rattle.flip_finish.proofs.mesh.Mesh.sides.Goals as goal

pub returns : goal.returns
returns c slot =
    let inside = rw (← c.self.view_is) at c.requires in
    rw (← c.self.view_is)
    (sided _ _ c.args.t slot c.index-face.result.now c.self.invariant
    (record { inside = omega (arith, length-map c.self.inside.faces.items (λ f. f.tri), inside); is = sym c.index-face.ensures }))
