-- Two groups become one, and nothing else is joined.
use Rattle.std.proofs.Common.{◌≡◌, ℕ, ◌<◌, ◌≤◌, length, sym, ◌∙◌, arith}
use Rattle.skeleton_faces.specs.Walks.{AreJoined}
use Rattle.skeleton_faces.proofs.Groups.{AreJoinedParents-link, IsNaming-link, by_size, linked, linked-coarser, linked-both}
use Rattle.skeleton_faces.proofs.Walks.{joined_edge, joined_on, joined_back}
use Rattle.skeleton_faces.proofs.union.join.Goals as goal

pub returns-clause-joined : goal.returns-clause-joined
returns-clause-joined c = λ es edge h.
    let u = c.args.u in
    let v = c.args.v in
    let a = c.least-a.result in
    let b = c.least-b.result in
    let (h1, ua) = c.least-a.ensures.joined es h in
    let (h2, vb) = c.least-b.ensures.joined es h1 in
    let ab = joined_on es a u b (joined_back es u a ua) (joined_on es u v b (joined_edge es u v edge) vb) in
    let At : ℕ → ℕ → Type 0 = AreJoined es in
    let on = by_size At a b ab (joined_back es a b ab) in
    let on_are : AreJoined es c.max.result c.min.result = rw (c.max.ensures, c.min.ensures) on in
    let l = c.least-b.ensures.bound in
    let m = c.least-a.ensures.bound in
    AreJoinedParents-link c.least-b.new.parents c.min.result c.max.result (omega (arith, c.max.ensures, c.min.ensures))
    (omega (arith, c.max.ensures, c.least-a.auto.parents, c.least-b.auto.parents, c.requires.u_in, c.requires.v_in)) es on_are h2

pub returns-clause-named : goal.returns-clause-named
returns-clause-named c = λ name h.
    let a = c.least-a.result in
    let b = c.least-b.result in
    let (h1, ua) = c.least-a.ensures.named name h in
    let (h2, vb) = c.least-b.ensures.named name h1 in
    let l = c.least-a.ensures.bound in
    let m = c.least-b.ensures.bound in
    let own_a = h1.own a (omega (arith, c.least-a.auto.parents, c.requires.u_in)) c.least-a.ensures.own in
    let own_b = h2.own b (omega (arith, c.least-a.auto.parents, c.least-b.auto.parents, c.requires.v_in)) c.least-b.ensures.own in
    let Own : ℕ → ℕ → Type 0 = λ high low. (name low ≡ low) × (name high ≡ high) in
    let own : (name c.min.result ≡ c.min.result) × (name c.max.result ≡ c.max.result) = rw (c.max.ensures, c.min.ensures) (by_size Own a b (own_b, own_a) (own_a, own_b)) in
    let One : ℕ → ℕ → Type 0 = λ high low. linked low high name a ≡ linked low high name b in
    let one : linked c.min.result c.max.result name a ≡ linked c.min.result c.max.result name b =
    rw (c.max.ensures, c.min.ensures) (by_size One a b (linked-both b a name own_b own_a) (sym (linked-both a b name own_a own_b))) in
    let below : c.min.result ≤ c.max.result = omega (arith, c.max.ensures, c.min.ensures) in
    let high_in : c.max.result < length c.least-b.new.parents = omega (arith, c.max.ensures, c.least-a.auto.parents, c.least-b.auto.parents, c.requires.u_in, c.requires.v_in) in
    let coarser = linked-coarser c.min.result c.max.result name in (
      linked c.min.result c.max.result name,
      IsNaming-link c.least-b.new.parents c.min.result c.max.result below high_in name own.0 own.1 h2,
      coarser,
      coarser c.args.u a (ua ∙ sym own_a) ∙ (one ∙ sym (coarser c.args.v b (vb ∙ sym own_b))),
    )
