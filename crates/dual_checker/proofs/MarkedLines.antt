-- When a live line is marked by what its edge is, by its kind.
use Rattle.std.proofs.Common.{◌≡◌, ◌⊎◌, ℕ, true, false, Bool, List, IsTrue, ◌↔◌, Contains, pos, refl, sym, subst}
use Rattle.std.proofs.lemmas.Bool.{false≢true}
use Rattle.exact_predicates.specs.declared.edge.Edge.{Edge}
use Rattle.lmt_network.specs.Live.{IsHullEdge}
use Rattle.lmt_network.specs.Network.{NetworkParts, edge_at}
use Rattle.cert_text.specs.declared.report.LineKind.TheVariants.{Hull, Inner, Skeleton}
use Rattle.cert_text.specs.declared.report.PriceLine.{PriceLine}
use Rattle.cert_text.specs.declared.report.Report.{Report}
use Rattle.dual_checker.specs.GoodReport.{IsMarked, HasLiveTriangle}
use Rattle.dual_checker.specs.LiveLines.{HasNumbers}

-- one of the hull
pub marked_hull : (r : Report) (l : PriceLine) (rest : Bool) → l.kind ≡ Hull → IsHullEdge r.hull l.edge → (IsTrue rest ↔ (HasLiveTriangle r l.edge ⊎ (l.value ≡ pos 0))) → IsTrue rest ↔ IsMarked r l
marked_hull r l rest kind is says = (
  λ t. record {
    hull = (λ k. is, λ h. kind);
    skeleton = λ two. (λ k. absurd cc, λ away. absurd (away.1 is));
    bare = λ k. says.0 t;
  },
  λ m. says.1 (m.bare kind),
)

-- one that is not on the hull and has no anchors of its own
pub marked_inner : (r : Report) (l : PriceLine) (rest : Bool) → l.kind ≡ Inner → ¬ IsHullEdge r.hull l.edge → (IsTrue rest ↔ (r.version ≡ 2 → (IsTrue false ↔ Contains r.skeleton l.edge))) → IsTrue rest ↔ IsMarked r l
marked_inner r l rest kind away says = (
  λ t. record {
    hull = (λ k. absurd cc, λ h. absurd (away h));
    skeleton = λ two. (λ k. absurd cc, λ there. absurd (false≢true ((says.0 t two).1 there.0)));
    bare = λ k. absurd cc;
  },
  λ m. says.1 (λ two. (λ f. absurd (false≢true f), λ there. let k = (m.skeleton two).1 (there, away) in absurd cc)),
)

-- one of the skeleton
pub marked_skeleton : (r : Report) (l : PriceLine) (rest : Bool) → l.kind ≡ Skeleton → ¬ IsHullEdge r.hull l.edge → (IsTrue rest ↔ (r.version ≡ 2 → (IsTrue true ↔ Contains r.skeleton l.edge))) → IsTrue rest ↔ IsMarked r l
marked_skeleton r l rest kind away says = (
  λ t. record {
    hull = (λ k. absurd cc, λ h. absurd (away h));
    skeleton = λ two. (λ k. ((says.0 t two).0 refl, away), λ there. kind);
    bare = λ k. absurd cc;
  },
  λ m. says.1 (λ two. (λ yes_it_is. ((m.skeleton two).0 kind).0, λ there. refl)),
)

-- where hull and kind do not agree
pub unmarked_hull : (r : Report) (l : PriceLine) → l.kind ≡ Hull → ¬ IsHullEdge r.hull l.edge → IsTrue false ↔ IsMarked r l
unmarked_hull r l kind away = (λ f. absurd (false≢true f), λ m. absurd (away (m.hull.0 kind)))

pub unmarked_inner : (r : Report) (l : PriceLine) → ¬ (l.kind ≡ Hull) → IsHullEdge r.hull l.edge → IsTrue false ↔ IsMarked r l
unmarked_inner r l other is = (λ f. absurd (false≢true f), λ m. absurd (other (m.hull.1 is)))

-- what a network says of the edge of a line
pub hull_says : (r : Report) (net : NetworkParts) (flags : List Bool) (numbers : List ℕ) (e : ℕ) (l : PriceLine) (on : Bool) → HasNumbers r net flags numbers → l.edge ≡ edge_at net e
    → (IsTrue on ↔ IsHullEdge net.hull (edge_at net e)) → IsTrue on ↔ IsHullEdge r.hull l.edge
hull_says r net flags numbers e l on has at says =
    subst (λ (x : Edge). IsTrue on ↔ IsHullEdge r.hull x) (sym at) (subst (λ (hull : List ℕ). IsTrue on ↔ IsHullEdge hull (edge_at net e)) has.hull_is says)
