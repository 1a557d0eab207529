use Rattle.std.proofs.Common.{◌≡◌, ◌↔◌, ℕ, ◌<◌, List, length, refl, subst}
use Rattle.std.specs.List.{HoldsAt}
use Rattle.std.specs.Option.{IfSome, IsNone}
use Rattle.std.specs.declared.option.Option.{Option}
use Rattle.std.specs.declared.option.Option.TheVariants.{None, Some}
use Rattle.std.proofs.lemmas.Bool.{true≢false}
use Rattle.exact_predicates.specs.declared.edge.Edge.{Edge}
use Rattle.exact_predicates.specs.Candidates.{HasEdge, Joins}
use Rattle.lmt_network.specs.Network.{NetworkParts}
use Rattle.lmt_network.proofs.SideKeys.{HasEdge-at}
use Rattle.lmt_network.proofs.network.Network.edge_number.Goals as goal

-- nothing is found exactly where there is no such edge
none_exactly : (es : List Edge) (u v : ℕ) (found : Option ℕ) → IfSome found (λ e. e < length es) → IfSome found (HoldsAt (λ x. Joins x u v) es) → (found ≡ None → ¬ HasEdge es u v)
    → IsNone found ↔ (¬ HasEdge es u v)
none_exactly es u v None in_range joins none = (λ _. none refl, λ _. refl)
none_exactly es u v (Some e) in_range joins none = (λ no_way. absurd (true≢false no_way), λ no. absurd (no (HasEdge-at es u v e in_range joins)))

pub returns-clause-none : goal.returns-clause-none
returns-clause-none c =
    subst (λ (n : NetworkParts). IsNone c.find_edge.result ↔ (¬ HasEdge n.edges c.args.u c.args.v)) c.self.view_is
    (rw c.as_slice.ensures.is at (none_exactly c.as_slice.result.now c.args.u c.args.v c.find_edge.result c.find_edge.ensures.in_range c.find_edge.ensures.joins c.find_edge.ensures.none))
