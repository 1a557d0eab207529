-- Which edges are hull edges.
use Rattle.std.proofs.Common.{◌≡◌, ◌≢◌, ◌↔◌, ℕ, ◌+◌, ◌<◌, ◌≤◌, Bool, true, false, List, [], length, set, slice_index_or, AllPairs, IsTrue, ap, sym, ◌∙◌, subst, ⊎_elim, arith}
use Rattle.std.specs.List.{HoldsAt}
use Rattle.std.proofs.lemmas.Bool.{cases_lt, cases_eq}
use Rattle.std.proofs.lemmas.List.{get_or_default, length-set, get_or-set_same, get_or-set_other}
use Rattle.exact_predicates.specs.declared.edge.Edge.{Edge}
use Rattle.exact_predicates.specs.Candidates.{EdgePrecedes, Joins}
use Rattle.exact_predicates.specs.Hull.{IsHullPair, ring_pairs}
use Rattle.exact_predicates.proofs.Equalities.{Joins-only, Joins-ends, Joins-comm}
use Rattle.exact_predicates.proofs.Rings.{length-ring}
use Rattle.lmt_network.specs.Live.{IsHullEdge}
use Rattle.lmt_network.specs.Network.{NetworkParts, edge_at}
use Rattle.lmt_network.specs.Numbers.{IsHullNumber}
use Rattle.lmt_network.specs.Tables.{AreHullFlags}
use Rattle.lmt_network.proofs.SideEdges.{hull_edge}
use Rattle.lmt_network.proofs.Naming.{edge_at-once}

-- what a flag says
pub flag_read : (n : NetworkParts) (flags : List Bool) (e : ℕ) (r : Bool) → AreHullFlags n.hull n.edges flags → e < length n.edges → r ≡ slice_index_or flags e r → IsTrue r ↔ IsHullNumber n e
flag_read n flags e r are e_in is =
    let many = are.as_many in
    let same : slice_index_or flags e false ≡ r = get_or_default flags e false r (omega arith) ∙ sym is in
    let both = are.each e e_in _ in
    (λ set. both.0 (same ∙ set), λ hull. sym same ∙ both.1 hull)

-- the flags of the first i pairs of the hull
pub record AreFlagsUpto (hull : List ℕ) (es : List Edge) (i : ℕ) (flags : List Bool) : Type 0 where
  pub as_many : length flags ≡ length es
  pub only : (e : ℕ) → e < length es → slice_index_or flags e false ≡ true → HoldsAt (IsHullEdge hull) es e
  pub each : (k u v : ℕ) → k < i → HoldsAt (λ s. s ≡ (u, v)) (ring_pairs hull) k → (e : ℕ) → e < length es → HoldsAt (λ x. Joins x u v) es e → slice_index_or flags e false ≡ true

-- the edge with two ends has one number
joins_once : (es : List Edge) (u v i j : ℕ) → AllPairs EdgePrecedes es → i < length es → j < length es → HoldsAt (λ x. Joins x u v) es i → HoldsAt (λ x. Joins x u v) es j → i ≡ j
joins_once es u v i j up i_in j_in h k =
    let n : NetworkParts = record { points = []; hull = []; edges = es; tris = [] } in
    edge_at-once n i j up i_in j_in (Joins-only (edge_at n i) (edge_at n j) u v (h _) (k _))

pub flags_more : (hull : List ℕ) (es : List Edge) (i : ℕ) (flags : List Bool) (u v e : ℕ) → AllPairs EdgePrecedes es → AreFlagsUpto hull es i flags → i < length (ring_pairs hull)
    → HoldsAt (λ s. s ≡ (u, v)) (ring_pairs hull) i → e < length es → HoldsAt (λ x. Joins x u v) es e → AreFlagsUpto hull es (i + 1) (set flags e true)
flags_more hull es i flags u v e up are i_in pair e_in joins =
    let many = are.as_many in
    record {
      as_many = omega (arith, length-set flags e true, many);
      only = λ f f_in is_set. ⊎_elim
          (λ (same : f ≡ e).
          let here : HoldsAt (IsHullEdge hull) es e = λ d. hull_edge hull (slice_index_or es e d) u v (joins d) (i, i_in, pair (u, v)) in
          subst (HoldsAt (IsHullEdge hull) es) (sym same) here)
          (λ (other : f ≢ e). are.only f f_in (sym (get_or-set_other flags e f true false other) ∙ is_set))
          (cases_eq f e);
      each = λ k x y k_in at_k f f_in ends. ⊎_elim
          (λ (same : f ≡ e). ap (λ z. slice_index_or (set flags e true) z false) same ∙ get_or-set_same flags e true false (omega arith))
          (λ (other : f ≢ e). ⊎_elim
          (λ (low : k < i). get_or-set_other flags e f true false other ∙ are.each k x y low at_k f f_in ends)
          (λ (high : i ≤ k).
          let k_is : k ≡ i = omega arith in
          let same : (x, y) ≡ (u, v) = sym (at_k (u, v)) ∙ (ap (λ z. slice_index_or (ring_pairs hull) z (u, v)) k_is ∙ pair (u, v)) in
          let ends_f : HoldsAt (λ z. Joins z u v) es f = subst (λ (s : ℕ × ℕ). HoldsAt (λ z. Joins z s.0 s.1) es f) same ends in
          absurd (other (joins_once es u v f e up f_in e_in ends_f joins)))
          (cases_lt k i))
          (cases_eq f e);
    }

pub flags_all : (hull : List ℕ) (es : List Edge) (i : ℕ) (flags : List Bool) → AreFlagsUpto hull es i flags → length hull ≤ i → AreHullFlags hull es flags
flags_all hull es i flags are all =
    record {
      as_many = are.as_many;
      each = λ e e_in d.
          let edge = slice_index_or es e d in (
            λ is_set. are.only e e_in is_set d,
            λ h. ⊎_elim
                (λ pair. at edge.a edge.b e d e_in pair (Joins-ends edge))
                (λ pair. at edge.b edge.a e d e_in pair (Joins-comm edge edge.a edge.b (Joins-ends edge)))
                h,
          );
    }
  where
    at : (u v e : ℕ) (d : Edge) → e < length es → IsHullPair hull u v → Joins (slice_index_or es e d) u v → slice_index_or flags e false ≡ true
    at u v e d e_in (k, k_in, at_k) joins =
        are.each k u v (omega (arith, length-ring hull)) (λ s. get_or_default (ring_pairs hull) k s (u, v) k_in ∙ at_k) e e_in
        (λ x. subst (λ (y : Edge). Joins y u v) (get_or_default es e d x e_in) joins)
