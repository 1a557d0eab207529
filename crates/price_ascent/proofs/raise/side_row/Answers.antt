use Rattle.std.proofs.Common.{◌↔◌, ℕ, ◌<◌, length, Contains, subst}
use Rattle.lmt_network.specs.Network.{edge_at, tri_at}
use Rattle.lmt_network.specs.Numbers.{HasSide}
use Rattle.price_ascent.proofs.Ends.{ends_down, ends_up}
use Rattle.price_ascent.proofs.raise.side_row.Goals as goal

pub returns-then-u-v : goal.returns-then-u-v
returns-then-u-v c =
    let n = c.args.net.now in
    let ends = ends_up n c.args.e c.args.u c.args.v c.requires c.if-u-v.true in
    subst (λ (a : ℕ). (t : ℕ) → Contains c.left.result.now t ↔ ((t < length n.tris) × HasSide (tri_at n t) a c.args.v)) ends.0
    (subst (λ (b : ℕ). (t : ℕ) → Contains c.left.result.now t ↔ ((t < length n.tris) × HasSide (tri_at n t) (edge_at n c.args.e).a b)) ends.1 c.left.ensures.members)

pub returns-else-u-v : goal.returns-else-u-v
returns-else-u-v c =
    let n = c.args.net.now in
    let ends = ends_down n c.args.e c.args.u c.args.v c.requires c.if-u-v.false in
    subst (λ (a : ℕ). (t : ℕ) → Contains c.right.result.now t ↔ ((t < length n.tris) × HasSide (tri_at n t) a c.args.v)) ends.0
    (subst (λ (b : ℕ). (t : ℕ) → Contains c.right.result.now t ↔ ((t < length n.tris) × HasSide (tri_at n t) (edge_at n c.args.e).b b)) ends.1 c.right.ensures.members)
