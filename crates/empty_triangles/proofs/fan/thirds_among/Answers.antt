use Rattle.std.proofs.Common.{◌≡◌, ◌<◌, slice_index, length, refl, arith, sym, ◌∙◌}
use Rattle.std.proofs.lemmas.List.{get_or_default}
use Rattle.empty_triangles.proofs.Fans.{heads_apart}
use Rattle.empty_triangles.proofs.Thirds.{AreThirdsTo-push, AreThirdsTo-skip, AreThirds-all}
use Rattle.empty_triangles.proofs.fan.thirds_among.Goals as goal
use Rattle.empty_triangles.proofs.fan.thirds_among.Goals.{then-joins+in_ok-push, else-joins}

pub joins-requires-clause-apart : goal.joins-requires-clause-apart
joins-requires-clause-apart c = λ same.
    let heads = c.args.corner.now.heads.items in
    let place = slice_index c.args.places.now c.loop-t.t in
    let seen = (c.requires.seen.each c.loop-t.t 0 (omega arith)).before in
    let b : c.index-b.result.now ≡ slice_index heads c.args.j = c.index-b.ensures ∙ get_or_default heads c.args.j _ 0 c.requires.j_in in
    heads_apart _ c.requires.points _ c.requires.a_in heads c.requires.corner.around place c.args.j seen c.requires.j_in (sym same ∙ b)

pub loop-t-preserved : goal.loop-t-preserved
loop-t-preserved c =
    let heads = c.args.corner.now.heads.items in
    let places = c.args.places.now in
    let place = slice_index places c.loop-t.t in
    let p = c.requires.seen in
    let t_in : c.loop-t.t < length places = omega arith in
    let seen = (p.each c.loop-t.t 0 t_in).before in
    let place_in : place < length heads = omega (arith, seen, c.requires.j_in) in
    let b : c.index-b.result.now ≡ slice_index heads c.args.j = c.index-b.ensures ∙ get_or_default heads c.args.j _ 0 c.requires.j_in in
    elim c.if-joins.branch [
      | then-joins+in_ok-push w ↦
          let head : w.index.result.now ≡ slice_index heads place = w.index.ensures ∙ get_or_default heads place _ 0 place_in in
          rw (w.thirds-is, w.in_ok-push.ensures.items, head)
          (AreThirdsTo-push _ _ _ _ heads c.requires.points c.requires.a_in c.requires.corner c.args.j c.requires.j_in c.requires.neighbor places p c.loop-t.t _ _ refl t_in
          (rw b at (w.if-joins.ensures.0 refl)) c.loop-t.invariant)
      | else-joins w ↦
          rw w.thirds-is
          (AreThirdsTo-skip _ _ _ _ heads c.requires.points c.requires.a_in c.requires.corner c.args.j c.requires.j_in c.requires.neighbor places p c.loop-t.t _ _ refl
          (λ h. let joined = (rw b at w.if-joins.ensures).1 h in cc) c.loop-t.invariant)
    ]

pub returns-clause-are : goal.returns-clause-are
returns-clause-are c =
    let p = c.requires.seen in
    AreThirds-all _ _ _ _ _ c.requires.points c.requires.a_in c.requires.corner c.args.j c.requires.j_in c.requires.neighbor c.args.places.now p c.loop-t.t _ (omega arith) c.loop-t.invariant
