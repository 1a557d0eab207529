use Rattle.std.proofs.Common.{◌≡◌, ℕ, ◌+◌, ◌*◌, ◌^◌, ◌<◌, ◌≤◌, List, length, set, slice_index, replicate, All, ap, sym, ◌∙◌, subst, rules, arith}
use Rattle.std.proofs.lemmas.List.{length-replicate}
use Rattle.face_optimum.specs.Cuts.{AreCostedUpto, IsBestCut, IsOrder, most_cost, weight_of}
use Rattle.face_optimum.specs.Seats.{HasLiveTriOn, first_point, last_point}
use Rattle.face_optimum.specs.Sites.{faces_of}
use Rattle.face_optimum.proofs.Choosing.{seating_of}
use Rattle.face_optimum.proofs.Costing.{costed_all, costed_more}
use Rattle.face_optimum.proofs.Pricing.{none_costed, part_there, zero_at}
use Rattle.face_optimum.proofs.Small.{small_costs}
use Rattle.face_optimum.proofs.site.Site.costs.Goals as goal

pub loop-e-init : goal.loop-e-init
loop-e-init c =
    let many = c.edges-edges.result in
    let costs : c.in_ok-costs.costs.items ≡ replicate c.edges-edges.result 0 = search rules in
    let choices : c.in_ok-choices.choices.items ≡ replicate c.edges-edges.result 0 = search rules in
    none_costed c.args.self.now c.deref-e-items.result.now c.in_ok-costs.costs.items c.in_ok-choices.choices.items
    (ap (λ (xs : List ℕ). length xs) costs ∙ (length-replicate many 0 ∙ c.edges-edges.ensures.value))
    (ap (λ (xs : List ℕ). length xs) choices ∙ (length-replicate many 0 ∙ c.edges-edges.ensures.value))
    (λ e. ap (λ (xs : List ℕ). slice_index xs e) costs ∙ zero_at many e)

pub base-from-requires-clause-off : goal.base-from-requires-clause-off
base-from-requires-clause-off c =
    let s = c.args.self.now in
    let o : IsOrder s.net.now s.flags.now s.skeleton.now s.edge_seats.now c.deref-e-items.result.now =
    subst (λ (xs : List ℕ). IsOrder s.net.now s.flags.now s.skeleton.now s.edge_seats.now xs) (sym c.deref-e-items.ensures.value) c.in_ok-order.ensures in
    o.each c.loop-e.e-index 0 c.loop-e-test.true

pub cut_on-cut-requires-clause-small : goal.cut_on-cut-requires-clause-small
cut_on-cut-requires-clause-small c =
    subst (λ (xs : List ℕ). All (λ (x : ℕ). x ≤ most_cost) xs) (sym c.deref.ensures.value) (small_costs c.args.self.now c.loop-e.costs.items c.requires c.loop-e.invariant.small)

pub cut_on-cut-requires-clause-there : goal.cut_on-cut-requires-clause-there
cut_on-cut-requires-clause-there c =
    let s = c.args.self.now in
    let e = slice_index c.deref-e-items.result.now c.loop-e.e-index in
    let o : IsOrder s.net.now s.flags.now s.skeleton.now s.edge_seats.now c.deref-e-items.result.now =
    subst (λ (xs : List ℕ). IsOrder s.net.now s.flags.now s.skeleton.now s.edge_seats.now xs) (sym c.deref-e-items.ensures.value) c.in_ok-order.ensures in
    let off = o.each c.loop-e.e-index 0 c.loop-e-test.true in
    subst (λ (u : ℕ). HasLiveTriOn s.net.now s.flags.now u c.base-from.result.1) (sym c.base-from.ensures.from)
    (subst (λ (v : ℕ). HasLiveTriOn s.net.now s.flags.now (last_point (faces_of s) s.edge_seats.now e) v) (sym c.base-from.ensures.to) (part_there s c.requires e off))

pub index_mut-requires-in-loop-e : goal.index_mut-requires-in-loop-e
index_mut-requires-in-loop-e c =
    let s = c.args.self.now in
    let o : IsOrder s.net.now s.flags.now s.skeleton.now s.edge_seats.now c.deref-e-items.result.now =
    subst (λ (xs : List ℕ). IsOrder s.net.now s.flags.now s.skeleton.now s.edge_seats.now xs) (sym c.deref-e-items.ensures.value) c.in_ok-order.ensures in
    let off = o.each c.loop-e.e-index 0 c.loop-e-test.true in
    let e_in = off.0 in
    let many = c.loop-e.invariant.choice_each in
    let long = c.loop-e.choices.ok.0 in
    omega (arith, e_in, many, long)

pub loop-e-preserved : goal.loop-e-preserved
loop-e-preserved c =
    let s = c.args.self.now in
    let n = s.net.now in
    let order = c.deref-e-items.result.now in
    let k = c.loop-e.e-index in
    let e = slice_index order k in
    let cut = c.cut_on-cut.result in
    let costs = c.loop-e.costs.items in
    let o : IsOrder n s.flags.now s.skeleton.now s.edge_seats.now order =
    subst (λ (xs : List ℕ). IsOrder s.net.now s.flags.now s.skeleton.now s.edge_seats.now xs) (sym c.deref-e-items.ensures.value) c.in_ok-order.ensures in
    let best : IsBestCut n s.flags.now s.tri_seats.now costs (last_point (faces_of s) s.edge_seats.now e) (first_point (faces_of s) s.edge_seats.now e) cut =
    subst (λ (xs : List ℕ). IsBestCut n s.flags.now s.tri_seats.now xs (last_point (faces_of s) s.edge_seats.now e) (first_point (faces_of s) s.edge_seats.now e) cut) c.deref.ensures.value
    (subst (λ (u : ℕ). IsBestCut n s.flags.now s.tri_seats.now c.deref.result.now u (first_point (faces_of s) s.edge_seats.now e) cut) c.base-from.ensures.from
    (subst (λ (v : ℕ). IsBestCut n s.flags.now s.tri_seats.now c.deref.result.now c.base-from.result.0 v cut) c.base-from.ensures.to c.cut_on-cut.ensures.best)) in
    let w : c.weight.result ≡ weight_of n e = c.weight.ensures.value in
    let light : weight_of n e < 3 * 10 ^ 15 = let bound = c.weight.ensures.bound in omega (arith, w, bound) in
    subst (λ (x : ℕ). AreCostedUpto n s.flags.now s.skeleton.now (faces_of s) s.edge_seats.now s.tri_seats.now order (k + 1) (set costs e (x + cut.sum)) (set c.loop-e.choices.items e cut.tri)) (sym w)
    (costed_more n s.flags.now s.skeleton.now (faces_of s) s.edge_seats.now s.tri_seats.now (seating_of s c.requires) c.requires.edges_are order k costs c.loop-e.choices.items cut o c.loop-e-test.true
    c.loop-e.invariant light best)

pub returns : goal.returns
returns c =
    let s = c.args.self.now in
    let o : IsOrder s.net.now s.flags.now s.skeleton.now s.edge_seats.now c.deref-e-items.result.now =
    subst (λ (xs : List ℕ). IsOrder s.net.now s.flags.now s.skeleton.now s.edge_seats.now xs) (sym c.deref-e-items.ensures.value) c.in_ok-order.ensures in
    costed_all s.net.now s.flags.now s.skeleton.now (faces_of s) s.edge_seats.now s.tri_seats.now (seating_of s c.requires) c.requires.edges_are c.deref-e-items.result.now c.loop-e.e-index
    c.loop-e.costs.items c.loop-e.choices.items o c.loop-e-test.false c.loop-e.invariant
