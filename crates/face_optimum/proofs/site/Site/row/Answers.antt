use Rattle.std.proofs.Common.{◌≡◌, ◌↔◌, ℕ, ◌<◌, length, Contains, ◌∙◌, subst, arith}
use Rattle.lmt_network.specs.Network.{edge_at, tri_at}
use Rattle.lmt_network.specs.Numbers.{HasSide}
use Rattle.face_optimum.proofs.site.Site.row.Goals as goal

pub returns-then-u-v : goal.returns-then-u-v
returns-then-u-v c =
    let n = c.args.self.now.net.now in
    let is = c.requires in
    let l = c.if-u-v.true in
    let low : (edge_at n c.args.e).a ≡ c.args.u = is.1.0 ∙ omega arith in
    let high : (edge_at n c.args.e).b ≡ c.args.v = is.1.1 ∙ omega arith in
    subst (λ (a : ℕ). (t : ℕ) → Contains c.left.result.now t ↔ ((t < length n.tris) × HasSide (tri_at n t) a c.args.v)) low
    (subst (λ (b : ℕ). (t : ℕ) → Contains c.left.result.now t ↔ ((t < length n.tris) × HasSide (tri_at n t) (edge_at n c.args.e).a b)) high c.left.ensures.members)

pub returns-else-u-v : goal.returns-else-u-v
returns-else-u-v c =
    let n = c.args.self.now.net.now in
    let is = c.requires in
    let l = c.if-u-v.false in
    let low : (edge_at n c.args.e).a ≡ c.args.v = is.1.0 ∙ omega arith in
    let high : (edge_at n c.args.e).b ≡ c.args.u = is.1.1 ∙ omega arith in
    subst (λ (a : ℕ). (t : ℕ) → Contains c.right.result.now t ↔ ((t < length n.tris) × HasSide (tri_at n t) a c.args.v)) high
    (subst (λ (b : ℕ). (t : ℕ) → Contains c.right.result.now t ↔ ((t < length n.tris) × HasSide (tri_at n t) (edge_at n c.args.e).b b)) low c.right.ensures.members)
