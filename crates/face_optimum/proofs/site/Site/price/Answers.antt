-- The amounts of a live edge are in their ranges.
use Rattle.std.proofs.Common.{◌≡◌, ◌⊎◌, true, false, Contains, slice_index_or, ℤ, pos, of_z, to_z, w64, sym, ◌∙◌, ap, subst, arith}
use Rattle.std.proofs.lemmas.Int.{ints}
use Rattle.lmt_network.specs.Network.{edge_at}
use Rattle.lmt_network.specs.PriceTables.{entry_at}
use Rattle.price_ascent.specs.Belonging.{IsWithinRanges}
use Rattle.price_ascent.specs.Entries.{anchored_edges, table_of, with_amounts}
use Rattle.face_optimum.proofs.Putting.{elsewhere_of, put_more, put_none, ranges_of}
use Rattle.face_optimum.proofs.site.Site.price.Goals as goal

pub put-requires-clause-ranges : goal.put-requires-clause-ranges
put-requires-clause-ranges c =
    let s = c.args.self.now in
    let n = s.net.now in
    let e = c.args.e in
    let a = c.amounts-amounts.result in
    let value : to_z w64 (of_z w64 a.value) ≡ a.value = omega (arith, ints) in
    let left : to_z w64 (of_z w64 a.left) ≡ a.left = omega (arith, ints) in
    let right : to_z w64 (of_z w64 a.right) ≡ a.right = omega (arith, ints) in
    let flag : slice_index_or s.flags.now e false ≡ true = sym c.live.ensures ∙ c.if-live.true in
    let r = ranges_of s c.requires.site c.args.costs.now c.args.root_costs.now e a c.requires.e_in c.requires.one_each c.requires.two_each c.requires.small_costs c.requires.small_root_costs flag c.amounts-amounts.ensures.light c.amounts-amounts.ensures.amounts in
    subst (λ (x : ℤ). IsWithinRanges n.hull (with_amounts n e x (to_z w64 (of_z w64 a.left)) (to_z w64 (of_z w64 a.right)))) (sym value)
    (subst (λ (x : ℤ). IsWithinRanges n.hull (with_amounts n e a.value x (to_z w64 (of_z w64 a.right)))) (sym left)
    (subst (λ (x : ℤ). IsWithinRanges n.hull (with_amounts n e a.value a.left x)) (sym right) r))

pub put-requires-clause-elsewhere : goal.put-requires-clause-elsewhere
put-requires-clause-elsewhere c =
    let s = c.args.self.now in
    let n = s.net.now in
    let e = c.args.e in
    let a = c.amounts-amounts.result in
    let left : to_z w64 (of_z w64 a.left) ≡ a.left = omega (arith, ints) in
    let right : to_z w64 (of_z w64 a.right) ≡ a.right = omega (arith, ints) in
    let flag : slice_index_or s.flags.now e false ≡ true = sym c.live.ensures ∙ c.if-live.true in
    let anchored = anchored_edges n c.args.prices.now in
    let r = elsewhere_of s c.requires.site c.args.costs.now c.args.root_costs.now e a anchored c.requires.e_in c.requires.put.anchored flag c.amounts-amounts.ensures.amounts in
    subst (λ (x : ℤ). Contains anchored (edge_at n e) ⊎ ((x ≡ pos 0) × (to_z w64 (of_z w64 a.right) ≡ pos 0))) (sym left)
    (subst (λ (x : ℤ). Contains anchored (edge_at n e) ⊎ ((a.left ≡ pos 0) × (x ≡ pos 0))) (sym right) r)

pub returns-then-live : goal.returns-then-live
returns-then-live c =
    let s = c.args.self.now in
    let n = s.net.now in
    let e = c.args.e in
    let a = c.amounts-amounts.result in
    let put = c.put.ensures in
    let flag : slice_index_or s.flags.now e false ≡ true = sym c.live.ensures ∙ c.if-live.true in
    let in_range = ranges_of s c.requires.site c.args.costs.now c.args.root_costs.now e a c.requires.e_in c.requires.one_each c.requires.two_each c.requires.small_costs c.requires.small_root_costs flag c.amounts-amounts.ensures.light c.amounts-amounts.ensures.amounts in
    let value : to_z w64 (of_z w64 a.value) ≡ a.value = omega (arith, ints) in
    let left : to_z w64 (of_z w64 a.left) ≡ a.left = omega (arith, ints) in
    let right : to_z w64 (of_z w64 a.right) ≡ a.right = omega (arith, ints) in
    let edge : entry_at n (table_of c.put.new.self) e ≡ with_amounts n e a.value a.left a.right =
    put.edge
    ∙ (ap (λ (x : ℤ). with_amounts n e x (to_z w64 (of_z w64 a.left)) (to_z w64 (of_z w64 a.right))) value
    ∙ (ap (λ (x : ℤ). with_amounts n e a.value x (to_z w64 (of_z w64 a.right))) left ∙ ap (λ (x : ℤ). with_amounts n e a.value a.left x) right)) in
    put_more s c.requires.site c.args.costs.now c.args.root_costs.now e a c.args.prices.now c.put.new.self c.requires.put c.amounts-amounts.ensures.amounts in_range put.entries edge put.others put.live put.anchored

pub returns-else-live : goal.returns-else-live
returns-else-live c =
    put_none c.args.self.now c.requires.site c.args.costs.now c.args.root_costs.now c.args.e c.args.prices.now c.requires.e_in (sym c.live.ensures ∙ c.if-live.false) c.requires.put
