use Rattle.std.proofs.Common.{◌≡◌, ◌↔◌, ℕ, ◌<◌, IsTrue, Contains, Option, Some, None, IfSome, is_some, List, length, get_or, refl, subst, arith}
use Rattle.std.proofs.lemmas.List.{get_or_default}
use Rattle.std.specs.List.{HoldsAt}
use Rattle.exact_predicates.specs.declared.edge.Edge.{Edge}
use Rattle.exact_predicates.specs.Candidates.{Joins, HasEdge}
use Rattle.exact_predicates.proofs.Equalities.{HasEdge-Contains, Contains-HasEdge}
use Rattle.dual_checker.proofs.OwnPrices.{joins_up}
use Rattle.dual_checker.proofs.marks.is_listed.Goals as goal

-- where a place is answered an edge with these ends is listed, and else there is none
HasEdge-place : (es : List Edge) (u v : ℕ) (r : Option ℕ) → IfSome r (λ k. k < length es) → IfSome r (HoldsAt (λ e. Joins e u v) es) → (r ≡ None → ¬ HasEdge es u v) → IsTrue (is_some r) ↔ HasEdge es u v
HasEdge-place es u v None within joins none = (λ t. absurd (cc), λ h. absurd (none refl h))
HasEdge-place es u v (Some k) within joins none =
    let any : Edge = record { a = 0; b = 1; ascending = omega arith } in
    (λ _. (k, get_or es k any, within, get_or_default es k (get_or es k any) any within, joins any), λ _. refl)

pub returns : goal.returns
returns c =
    let e = c.args.edge in
    let says : IsTrue c.is_some.result ↔ HasEdge c.as_slice.result.now c.args.edge.a c.args.edge.b =
    rw c.is_some.ensures (HasEdge-place _ _ _ _ c.place_of_edge.ensures.within c.place_of_edge.ensures.joins c.place_of_edge.ensures.none) in
    subst (λ (es : List Edge). IsTrue c.is_some.result ↔ Contains es c.args.edge) c.as_slice.ensures.is
    (λ t. Contains-HasEdge c.as_slice.result.now e e.a e.b (joins_up e) (says.0 t), λ has. says.1 (HasEdge-Contains c.as_slice.result.now e e.a e.b (joins_up e) has))
