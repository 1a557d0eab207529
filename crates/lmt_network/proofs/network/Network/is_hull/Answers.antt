use Rattle.std.proofs.Common.{◌↔◌, ◌<◌, length, IsTrue, subst, sym}
use Rattle.lmt_network.specs.Inside.{parts_of}
use Rattle.lmt_network.specs.Network.{NetworkParts}
use Rattle.lmt_network.specs.Numbers.{IsHullNumber}
use Rattle.lmt_network.proofs.HullFlags.{flag_read}
use Rattle.lmt_network.proofs.network.Network.is_hull.Goals as goal

pub returns : goal.returns
returns c =
    let e_in = subst (λ (n : NetworkParts). c.args.e < length n.edges) (sym c.self.view_is) c.requires in
    subst (λ (n : NetworkParts). IsTrue c.index.result.now ↔ IsHullNumber n c.args.e) c.self.view_is
    (flag_read (parts_of c.self.inside) c.self.inside.on_hull.items c.args.e c.index.result.now c.self.invariant.flags e_in c.index.ensures)
