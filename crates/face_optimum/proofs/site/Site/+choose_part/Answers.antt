use Rattle.std.proofs.Common.{◌≡◌, ◌∷◌, [], ◌++◌, slice_index, ap, sym, ◌∙◌, arith}
use Rattle.std.proofs.lemmas.List.{get_or_default}
use Rattle.exact_predicates.specs.declared.tri.Tri.{Tri}
use Rattle.lmt_network.specs.Network.{tri_at}
use Rattle.face_optimum.proofs.Depths.{choice_in, choice_of}
use Rattle.face_optimum.proofs.Choosing.{no_part, one_part}
use Rattle.face_optimum.proofs.site.Site.+choose_part.Goals as goal

pub tri-requires : goal.tri-requires
tri-requires t c =
    let k = c.requires.costs in
    let many = k.choice_each in
    let e_in = c.requires.e_in in
    let is : c.index-t.result.now ≡ slice_index c.args.parts.now.choices.items c.args.e = c.index-t.ensures ∙ get_or_default c.args.parts.now.choices.items c.args.e _ 0 (omega arith) in
    omega (arith, is, choice_in c.args.self.now c.requires.site _ _ k c.args.e c.if-self-e.true)

pub legs-x-requires-clause-t_in : goal.legs-x-requires-clause-t_in
legs-x-requires-clause-t_in t c =
    let k = c.requires.costs in
    let many = k.choice_each in
    let e_in = c.requires.e_in in
    let is : c.index-t.result.now ≡ slice_index c.args.parts.now.choices.items c.args.e = c.index-t.ensures ∙ get_or_default c.args.parts.now.choices.items c.args.e _ 0 (omega arith) in
    omega (arith, is, choice_in c.args.self.now c.requires.site _ _ k c.args.e c.if-self-e.true)

pub choose_part-requires : goal.choose_part-requires
choose_part-requires t c =
    let k = c.requires.costs in
    let many = k.choice_each in
    let e_in = c.requires.e_in in
    let is : c.index-t.result.now ≡ slice_index c.args.parts.now.choices.items c.args.e = c.index-t.ensures ∙ get_or_default c.args.parts.now.choices.items c.args.e _ 0 (omega arith) in
    let choice = choice_of c.args.self.now c.requires.site _ _ k c.args.e _ c.legs-x.result.0 c.legs-x.result.1 c.if-self-e.true is c.legs-x.ensures.legs in
    let less = choice.first_falls in
    (omega (arith, c.decreases, less), (c.requires.site, (k, c.legs-x.ensures.first_in)))

pub choose_part-requires-then-self-e : goal.choose_part-requires-then-self-e
choose_part-requires-then-self-e t c =
    let k = c.requires.costs in
    let many = k.choice_each in
    let e_in = c.requires.e_in in
    let is : c.index-t.result.now ≡ slice_index c.args.parts.now.choices.items c.args.e = c.index-t.ensures ∙ get_or_default c.args.parts.now.choices.items c.args.e _ 0 (omega arith) in
    let choice = choice_of c.args.self.now c.requires.site _ _ k c.args.e _ c.legs-x.result.0 c.legs-x.result.1 c.if-self-e.true is c.legs-x.ensures.legs in
    let less = choice.second_falls in
    (omega (arith, c.decreases, less), (c.requires.site, (k, c.legs-x.ensures.second_in)))

pub returns-in_ok-choose_part-2 : goal.returns-in_ok-choose_part-2
returns-in_ok-choose_part-2 t c =
    let s = c.args.self.now in
    let k = c.requires.costs in
    let many = k.choice_each in
    let e_in = c.requires.e_in in
    let is : c.index-t.result.now ≡ slice_index c.args.parts.now.choices.items c.args.e = c.index-t.ensures ∙ get_or_default c.args.parts.now.choices.items c.args.e _ 0 (omega arith) in
    let choice = choice_of s c.requires.site _ _ k c.args.e _ c.legs-x.result.0 c.legs-x.result.1 c.if-self-e.true is c.legs-x.ensures.legs in
    let tri : c.tri.result ≡ tri_at s.net.now choice.cut.tri = c.tri.ensures.value ∙ ap (tri_at s.net.now) (sym choice.tri_is) in
    let pushed : c.push.new.self.items ≡ c.args.tris.now.items ++ tri_at s.net.now choice.cut.tri ∷ [] = c.in_ok-push.ensures.items ∙ ap (λ (x : Tri). c.args.tris.now.items ++ x ∷ []) tri in
    one_part s c.requires.site c.args.parts.now.costs.items c.args.e c.legs-x.result.0 c.legs-x.result.1 choice.cut c.args.tris.now.items c.push.new.self.items c.choose_part.new.tris.items
    c.choose_part-then-self-e.new.tris.items choice.part_cut choice.legs pushed c.in_ok-choose_part.ensures c.in_ok-choose_part-2.ensures

pub returns-else-self-e : goal.returns-else-self-e
returns-else-self-e t c = no_part c.args.self.now c.requires.site c.args.parts.now.costs.items c.args.e c.args.tris.now.items c.if-self-e.false
