use Rattle.std.proofs.Common.{◌/◌, ◌<◌, length, subst, sym}
use Rattle.lmt_network.specs.Inside.{parts_of}
use Rattle.lmt_network.specs.Network.{NetworkParts}
use Rattle.lmt_network.proofs.TriangleSides.{AreSidesOf, sides_read}
use Rattle.lmt_network.proofs.network.Network.sides.Goals as goal

pub returns-clause-ab : goal.returns-clause-ab
returns-clause-ab c =
    let i = c.self.inside in
    let t_in = subst (λ (n : NetworkParts). c.args.t < length n.tris) (sym c.self.view_is) c.requires in
    (subst (λ (n : NetworkParts). AreSidesOf n c.args.t (c.index.result.now / 2) (c.index-2.result.now / 2) (c.index-3.result.now / 2)) c.self.view_is
    (sides_read (parts_of i) i.keys.items c.args.t c.index.result.now c.index-2.result.now c.index-3.result.now c.self.invariant.network.ascending c.self.invariant.keys t_in c.index.ensures c.index-2.ensures c.index-3.ensures)).ab

pub returns-clause-bc : goal.returns-clause-bc
returns-clause-bc c =
    let i = c.self.inside in
    let t_in = subst (λ (n : NetworkParts). c.args.t < length n.tris) (sym c.self.view_is) c.requires in
    (subst (λ (n : NetworkParts). AreSidesOf n c.args.t (c.index.result.now / 2) (c.index-2.result.now / 2) (c.index-3.result.now / 2)) c.self.view_is
    (sides_read (parts_of i) i.keys.items c.args.t c.index.result.now c.index-2.result.now c.index-3.result.now c.self.invariant.network.ascending c.self.invariant.keys t_in c.index.ensures c.index-2.ensures c.index-3.ensures)).bc

pub returns-clause-ca : goal.returns-clause-ca
returns-clause-ca c =
    let i = c.self.inside in
    let t_in = subst (λ (n : NetworkParts). c.args.t < length n.tris) (sym c.self.view_is) c.requires in
    (subst (λ (n : NetworkParts). AreSidesOf n c.args.t (c.index.result.now / 2) (c.index-2.result.now / 2) (c.index-3.result.now / 2)) c.self.view_is
    (sides_read (parts_of i) i.keys.items c.args.t c.index.result.now c.index-2.result.now c.index-3.result.now c.self.invariant.network.ascending c.self.invariant.keys t_in c.index.ensures c.index-2.ensures c.index-3.ensures)).ca

pub returns-clause-only : goal.returns-clause-only
returns-clause-only c =
    let i = c.self.inside in
    let t_in = subst (λ (n : NetworkParts). c.args.t < length n.tris) (sym c.self.view_is) c.requires in
    (subst (λ (n : NetworkParts). AreSidesOf n c.args.t (c.index.result.now / 2) (c.index-2.result.now / 2) (c.index-3.result.now / 2)) c.self.view_is
    (sides_read (parts_of i) i.keys.items c.args.t c.index.result.now c.index-2.result.now c.index-3.result.now c.self.invariant.network.ascending c.self.invariant.keys t_in c.index.ensures c.index-2.ensures c.index-3.ensures)).only
