use Rattle.std.proofs.Common.{refl, arith}
use Rattle.empty_triangles.proofs.Seen.{ahead_last, IsNext-some, IsNext-none}
use Rattle.empty_triangles.proofs.sights.next_seen.Goals as goal

pub first_ahead-at-requires-clause-rising : goal.first_ahead-at-requires-clause-rising
first_ahead-at-requires-clause-rising c = λ s t l t_in ahead.
    let p = c.requires.places in
    ahead_last _ _ _ c.requires.heads c.args.j c.args.k _ _ c.requires.j_in c.requires.k_seen.before (p.each s 0 (omega arith)) (p.each t 0 t_in) (p.falling s t 0 l t_in) ahead

pub returns-then-at-places : goal.returns-then-at-places
returns-then-at-places c =
    let f = c.first_ahead-at.ensures in
    IsNext-some _ _ _ c.requires.heads c.args.j c.args.k _ c.first_ahead-at.result c.requires.j_in c.requires.k_seen c.requires.places f.before f.after _ c.if-at-places.true refl

pub returns-else-at-places : goal.returns-else-at-places
returns-else-at-places c =
    let f = c.first_ahead-at.ensures in
    IsNext-none _ _ _ c.requires.heads c.args.j c.args.k _ c.first_ahead-at.result c.requires.j_in c.requires.k_seen c.requires.places f.before f.after c.if-at-places.false
