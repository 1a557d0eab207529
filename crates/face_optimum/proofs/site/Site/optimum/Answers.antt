use Rattle.std.proofs.Common.{ℕ, ◌≤◌, List, length, All, sym, subst}
use Rattle.std.proofs.lemmas.List.Elements.{All-from_get_or}
use Rattle.exact_predicates.specs.declared.tri.Tri.{Tri}
use Rattle.face_optimum.specs.Cuts.{most_cost}
use Rattle.face_optimum.specs.Optimum.{IsFaceOptimum}
use Rattle.face_optimum.specs.Priced.{ArePutUpto}
use Rattle.face_optimum.specs.Sites.{faces_of}
use Rattle.face_optimum.proofs.Small.{small_costs}
use Rattle.face_optimum.proofs.Whole.{whole}
use Rattle.face_optimum.proofs.site.Site.optimum.Goals as goal

pub prices-requires-clause-small_costs : goal.prices-requires-clause-small_costs
prices-requires-clause-small_costs c =
    let costs = c.in_ok-parts.ensures in
    subst (λ (xs : List ℕ). All (λ (x : ℕ). x ≤ most_cost) xs) (sym c.deref.ensures.value) (small_costs c.args.self.now c.in_ok-parts.parts.costs.items c.requires.site costs.small)

pub prices-requires-clause-small_root_costs : goal.prices-requires-clause-small_root_costs
prices-requires-clause-small_root_costs c =
    let chosen = c.in_ok-chosen.ensures in
    subst (λ (xs : List ℕ). All (λ (x : ℕ). x ≤ most_cost) xs) (sym c.deref-2.ensures.value)
    (All-from_get_or (λ (x : ℕ). x ≤ most_cost) c.in_ok-chosen.chosen.root_costs.items 0 (λ k k_in. chosen.root_costs_are.small k))

pub returns : goal.returns
returns c =
    let s = c.args.self.now in
    let n = s.net.now in
    let costs = c.in_ok-parts.parts.costs.items in
    let root_costs = c.in_ok-chosen.chosen.root_costs.items in
    let put : ArePutUpto s costs root_costs (length n.edges) c.in_ok-prices.prices =
    subst (λ (xs : List ℕ). ArePutUpto s xs root_costs (length n.edges) c.in_ok-prices.prices) c.deref.ensures.value
    (subst (λ (xs : List ℕ). ArePutUpto s c.deref.result.now xs (length n.edges) c.in_ok-prices.prices) c.deref-2.ensures.value c.in_ok-prices.ensures) in
    subst (λ (ts : List Tri). IsFaceOptimum n s.flags.now s.skeleton.now (faces_of s) ts c.in_ok-prices.prices) (sym c.of.ensures)
    (whole s c.requires.site costs c.in_ok-parts.parts.choices.items c.in_ok-parts.ensures root_costs c.in_ok-chosen.chosen.tris.items c.sort_unstable.new.self.items c.in_ok-chosen.ensures
    c.sort_unstable.ensures.permutation c.sort_unstable.ensures.sorted c.in_ok-prices.prices put)
