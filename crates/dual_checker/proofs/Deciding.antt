-- What tests in a row decide together.
use Rattle.std.proofs.Common.{◌≡◌, ◌<◌, Bool, true, false, not, IsTrue, ◌↔◌, List, All, Contains, filter, sym, ap, subst, ◌∙◌, arith, inl, inr}
use Rattle.std.proofs.lemmas.Bool.{false≢true}
use Rattle.exact_predicates.specs.declared.point.Point.{Point}
use Rattle.cert_text.specs.declared.report.Method.{Method}
use Rattle.cert_text.specs.declared.report.Method.TheVariants.{Flips}
use Rattle.dual_checker.specs.declared.half_edges.HalfEdge.{HalfEdge}
use Rattle.dual_checker.specs.declared.half_edges.Side.{Side}
use Rattle.dual_checker.specs.HalfEdges.{HasMinimal, IsMinimalAt, AreFitting, IsCoveredOnce, IsBalancedAt, is_on, reversed}

-- a side that goes up and is no pair of the hull is minimal where it is so between two triangles
pub minimal_decides : (ps : List Point) (halves lefts rights : List HalfEdge) (rim : List Side) (s t : Side) (has r : Bool) → s.from < s.to → (IsTrue has ↔ Contains rim s) → has ≡ false
    → t ≡ reversed s → lefts ≡ filter (is_on s) halves → rights ≡ filter (is_on t) halves → (IsTrue r ↔ HasMinimal ps s lefts rights) → IsTrue r ↔ IsMinimalAt ps halves rim s
minimal_decides ps halves lefts rights rim s t has r up says away turned is_left is_right decides =
    let right : rights ≡ filter (is_on (reversed s)) halves = is_right ∙ ap (λ (u : Side). filter (is_on u) halves) turned in
    let one = subst (λ (hs : List HalfEdge). IsTrue r ↔ HasMinimal ps s hs rights) is_left decides in
    let both = subst (λ (hs : List HalfEdge). IsTrue r ↔ HasMinimal ps s (filter (is_on s) halves) hs) right one in (
      λ q. inr (inr (both.0 q)),
      λ m. elim m [
        | inl down ↦ absurd (omega arith)
        | inr rest ↦ elim rest [ inl there ↦ absurd (false≢true (sym away ∙ says.1 there)) | inr found ↦ both.1 found ]
      ],
    )

-- three tests of half-edges, of which the last is made where the method is flips
pub fitting_decides : (ps : List Point) (halves : List HalfEdge) (rim : List Side) (method : Method) (r : Bool) → All (IsCoveredOnce halves) rim → All (λ h. IsBalancedAt halves rim h.side) halves
    → (IsTrue r ↔ (method ≡ Flips → All (λ h. IsMinimalAt ps halves rim h.side) halves)) → IsTrue r ↔ AreFitting ps halves rim method
fitting_decides ps halves rim method r covered balanced says = (
  λ q. record { covered = covered; balanced = balanced; minimal = says.0 q },
  λ fit. says.1 fit.minimal,
)

-- a part that fails
pub part_fails : (Whole Part : Type 0) (b : Bool) → (Whole → Part) → (IsTrue b ↔ Part) → b ≡ false → IsTrue false ↔ Whole
part_fails Whole Part b part says fails = (λ f. absurd (false≢true f), λ w. absurd (false≢true (sym fails ∙ says.1 (part w))))

-- the second of two tests, where the first holds
pub both_hold : (P Q : Type 0) (a b : Bool) → (IsTrue a ↔ P) → (IsTrue b ↔ Q) → a ≡ true → IsTrue b ↔ (P × Q)
both_hold P Q a b first second holds = (λ t. (first.0 holds, second.0 t), λ h. second.1 h.1)

-- the first of two tests fails
pub first_fails : (P Q : Type 0) (a : Bool) → (IsTrue a ↔ P) → a ≡ false → IsTrue a ↔ (P × Q)
first_fails P Q a first fails = (λ t. absurd (false≢true (sym fails ∙ t)), λ h. first.1 h.0)

-- what is asked only where Q holds: Q fails, or it holds
pub not_asked : (P Q T : Type 0) (b : Bool) → (IsTrue b ↔ P) → (P ↔ Q) → b ≡ false → IsTrue (not b) ↔ (Q → T)
not_asked P Q T b says same fails = (λ n q. absurd (false≢true (sym fails ∙ says.1 (same.1 q))), λ f. ap not fails)

pub asked : (P Q T : Type 0) (b r : Bool) → (IsTrue b ↔ P) → (P ↔ Q) → b ≡ true → (IsTrue r ↔ T) → IsTrue r ↔ (Q → T)
asked P Q T b r says same holds decides = (λ t q. decides.0 t, λ f. decides.1 (f (same.0 (says.0 holds))))
