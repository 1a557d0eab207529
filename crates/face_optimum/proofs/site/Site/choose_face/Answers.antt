use Rattle.std.proofs.Common.{◌≡◌, ℕ, ◌+◌, ◌≤◌, ◌∷◌, [], ◌++◌, List, set, All, ap, sym, ◌∙◌, subst}
use Rattle.exact_predicates.specs.declared.tri.Tri.{Tri}
use Rattle.lmt_network.specs.Network.{tri_at}
use Rattle.face_optimum.specs.Chosen.{AreChosenUpto, place_point}
use Rattle.face_optimum.specs.Cuts.{IsBestCut, most_cost}
use Rattle.face_optimum.specs.Seats.{HasLiveTriOn}
use Rattle.face_optimum.proofs.Choosing.{face_chosen}
use Rattle.face_optimum.proofs.Pricing.{root_there}
use Rattle.face_optimum.proofs.Small.{small_costs}
use Rattle.face_optimum.proofs.site.Site.choose_face.Goals as goal

pub cut_on-cut-requires-clause-small : goal.cut_on-cut-requires-clause-small
cut_on-cut-requires-clause-small c =
    subst (λ (xs : List ℕ). All (λ (x : ℕ). x ≤ most_cost) xs) (sym c.deref.ensures.value) (small_costs c.args.self.now c.args.parts.now.costs.items c.requires.site c.requires.costs.small)

pub cut_on-cut-requires-clause-there : goal.cut_on-cut-requires-clause-there
cut_on-cut-requires-clause-there c =
    let s = c.args.self.now in
    let (last, last_is, from, to) = c.last_side-u.ensures.side in
    subst (λ (u : ℕ). HasLiveTriOn s.net.now s.flags.now u c.last_side-u.result.1) from
    (subst (λ (v : ℕ). HasLiveTriOn s.net.now s.flags.now (place_point s c.args.f last) v) to (root_there s c.requires.site c.args.f last c.requires.f_in last_is))

pub returns : goal.returns
returns c =
    let s = c.args.self.now in
    let cut = c.cut_on-cut.result in
    let costs = c.args.parts.now.costs.items in
    let best : IsBestCut s.net.now s.flags.now s.tri_seats.now costs c.last_side-u.result.0 c.last_side-u.result.1 cut =
    subst (λ (xs : List ℕ). IsBestCut s.net.now s.flags.now s.tri_seats.now xs c.last_side-u.result.0 c.last_side-u.result.1 cut) c.deref.ensures.value c.cut_on-cut.ensures.best in
    let pushed : c.push.new.self.items ≡ c.args.tris.now.items ++ tri_at s.net.now cut.tri ∷ [] = c.in_ok-push.ensures.items ∙ ap (λ (x : Tri). c.args.tris.now.items ++ x ∷ []) c.tri.ensures.value in
    subst (λ (k : ℕ). AreChosenUpto s costs (c.args.f + 1) c.choose_part-2.new.tris.items (set c.args.root_costs.now k cut.sum)) (sym c.side_number.ensures.key)
    (face_chosen s c.requires.site costs c.args.f c.last_side-u.result.0 c.last_side-u.result.1 c.last_side-u.result.2 c.legs-x.result.0 c.legs-x.result.1 cut c.args.tris.now.items c.push.new.self.items
    c.choose_part.new.tris.items c.choose_part-2.new.tris.items c.args.root_costs.now c.requires.f_in c.last_side-u.ensures.side c.last_side-u.ensures.number best c.legs-x.ensures.legs c.requires.costs.small pushed
    c.in_ok-choose_part.ensures c.in_ok-choose_part-2.ensures c.requires.chosen)
