use Rattle.std.proofs.Common.{◌↔◌, ℕ, Option, None, Some, refl, subst}
use Rattle.std.specs.Option.{IfSome, IsNone, IsSome}
use Rattle.std.proofs.lemmas.List.{get_or_default}
use Rattle.exact_predicates.specs.Candidates.{HasEdge}
use Rattle.lmt_network.specs.Network.{NetworkParts, edge_at}
use Rattle.lmt_network.specs.Numbers.{IsNumberOf}
use Rattle.price_ascent.proofs.number.number.Goals as goal

-- the edge is found
is_found : (n : NetworkParts) (found : Option ℕ) (u v e : ℕ) → (IsNone found ↔ (¬ HasEdge n.edges u v)) → IsNumberOf n u v e → IsSome found
is_found n (Some k) u v e none is = refl
is_found n None u v e none is = absurd (none.0 refl (e, edge_at n e, is.0, get_or_default n.edges e _ _ is.0, is.1))

pub unwrap-requires : goal.unwrap-requires
unwrap-requires c = is_found c.args.net.now c.edge_number.result c.args.u c.args.v c.requires.0 c.edge_number.ensures.none c.requires.1

pub returns : goal.returns
returns c = subst (λ (found : Option ℕ). IfSome found (IsNumberOf c.args.net.now c.args.u c.args.v)) c.unwrap.ensures c.edge_number.ensures.some
