-- A pass over the edges that tries those that are due, and drops those without a support.
use Rattle.std.proofs.Common.{◌≡◌, ◌≢◌, ◌⊎◌, ℕ, ◌+◌, ◌-◌, ◌<◌, ◌≤◌, Bool, true, false, cond, List, length, get_or, set, replicate, All, Contains, count_by, refl, ap, sym, ◌∙◌, subst, ⊎_elim, arith, below_more}
use Rattle.std.proofs.lemmas.Bool.{false≢true, cases_eq}
use Rattle.std.proofs.lemmas.List.{get_or-set_same, get_or-set_other, get_or-replicate}
use Rattle.std.proofs.lemmas.List.Elements.{All-contains}
use Rattle.lmt_network.specs.Network.{NetworkParts}
use Rattle.lmt_network.specs.Due.{AreSupportedUnlessDue}
use Rattle.lmt_network.specs.Flags.{live_numbers}
use Rattle.lmt_network.specs.Numbers.{IsHullNumber, IsSupported, AreClosed}
use Rattle.lmt_network.proofs.NumberLaws.{dead_if_unsupported}
use Rattle.lmt_network.proofs.Picked.{All-from_members, live_from_flag, flag_from_live, flag_in}

-- every closed edge is live
abbrev pub NoneLost : NetworkParts → List Bool → Type 0
NoneLost n flags = (es : List ℕ) → AreClosed n es → All (Contains (live_numbers flags)) es

-- the k-th of count numbers, upwards or downwards
abbrev pub in_turn : ℕ → ℕ → Bool → ℕ
in_turn count k downwards = cond downwards (count - 1 - k) k

-- The pass has come to the place i. Where none was dropped, no edge so far is due.
pub record IsPass (n : NetworkParts) (before live due : List Bool) (downwards : Bool) (i : ℕ) (dropped : Bool) : Type 0 where
  pub none_lost : NoneLost n live
  pub supported : AreSupportedUnlessDue n live due
  pub fewer : dropped ≡ true → count_by (λ l. l) live < count_by (λ l. l) before
  pub same : dropped ≡ false → live ≡ before
  pub tried : dropped ≡ false → (k : ℕ) → k < i → get_or due (in_turn (length n.edges) k downwards) false ≡ false

-- an edge that is not due
pub pass_skips : (n : NetworkParts) (before live due : List Bool) (downwards : Bool) (i e : ℕ) (dropped : Bool) → IsPass n before live due downwards i dropped
    → e ≡ in_turn (length n.edges) i downwards → get_or due e false ≡ false → IsPass n before live due downwards (i + 1) dropped
pass_skips n before live due downwards i e dropped p e_is not_due =
    record {
      none_lost = p.none_lost;
      supported = p.supported;
      fewer = p.fewer;
      same = p.same;
      tried = λ none. below_more _ i (p.tried none) (ap (λ (x : ℕ). get_or due x false) (sym e_is) ∙ not_due);
    }

-- an edge that is tried and stays
pub pass_keeps : (n : NetworkParts) (before live due now after : List Bool) (downwards : Bool) (i e : ℕ) (dropped : Bool) → IsPass n before live due downwards i dropped
    → e ≡ in_turn (length n.edges) i downwards → e < length due → now ≡ live → after ≡ set due e false → NoneLost n now → AreSupportedUnlessDue n now after → IsPass n before now after downwards (i + 1) dropped
pass_keeps n before live due now after downwards i e dropped p e_is e_in now_is after_is none_lost supported =
    record {
      none_lost = none_lost;
      supported = supported;
      fewer = λ some. subst (λ (fs : List Bool). count_by (λ l. l) fs < count_by (λ l. l) before) (sym now_is) (p.fewer some);
      same = λ none. now_is ∙ p.same none;
      tried = λ none. below_more _ i (λ k k_in. at (in_turn (length n.edges) k downwards) (p.tried none k k_in))
          (ap (λ (x : ℕ). get_or after x false) (sym e_is) ∙ (ap (λ (fs : List Bool). get_or fs e false) after_is ∙ get_or-set_same due e false false e_in));
    }
  where
    at : (x : ℕ) → get_or due x false ≡ false → get_or after x false ≡ false
    at x not_due = ⊎_elim
        (λ (same : x ≡ e). ap (λ (fs : List Bool). get_or fs x false) after_is ∙ (ap (λ (y : ℕ). get_or (set due e false) y false) same ∙ get_or-set_same due e false false e_in))
        (λ (other : x ≢ e). ap (λ (fs : List Bool). get_or fs x false) after_is ∙ (get_or-set_other due e x false false other ∙ not_due))
        (cases_eq x e)

-- an edge that goes
pub pass_drops : (n : NetworkParts) (before live due now after : List Bool) (downwards : Bool) (i : ℕ) (dropped : Bool) → IsPass n before live due downwards i dropped
    → NoneLost n now → AreSupportedUnlessDue n now after → count_by (λ l. l) now < count_by (λ l. l) live → IsPass n before now after downwards (i + 1) true
pass_drops n before live due now after downwards i dropped p none_lost supported less =
    record {
      none_lost = none_lost;
      supported = supported;
      fewer = λ _. at dropped refl;
      same = λ h. absurd (false≢true (sym h));
      tried = λ h. absurd (false≢true (sym h));
    }
  where
    at : (b : Bool) → dropped ≡ b → count_by (λ l. l) now < count_by (λ l. l) before
    at true h = omega (arith, less, p.fewer h)
    at false h = let same = ap (count_by (λ l. l)) (p.same h) in omega (arith, less, same)

-- no closed edge is lost with one that is no hull edge and has no support
pub none_lost_dropped : (n : NetworkParts) (flags : List Bool) (e : ℕ) → NoneLost n flags → ¬ IsHullNumber n e → ¬ IsSupported n (live_numbers flags) e → NoneLost n (set flags e false)
none_lost_dropped n flags e none inner unsupported es closed =
    All-from_members (Contains (live_numbers (set flags e false))) es
    (λ f has.
    let away : f ≢ e = λ same. dead_if_unsupported n (live_numbers flags) e none inner unsupported es closed (subst (Contains es) same has) in
    let flag = flag_from_live flags f (All-contains (Contains (live_numbers flags)) es f (none es closed) has) in
    live_from_flag (set flags e false) f (get_or-set_other flags e f false false away ∙ flag))

-- each number has its turn
pub turn_of : (count e : ℕ) (downwards : Bool) → e < count → (in_turn count e downwards < count) × (in_turn count (in_turn count e downwards) downwards ≡ e)
turn_of count e true l = (omega arith, omega arith)
turn_of count e false l = (l, refl)

-- a pass that dropped none leaves closed edges
pub pass_quiet : (n : NetworkParts) (before live due : List Bool) (downwards : Bool) (i : ℕ) → IsPass n before live due downwards i false → length live ≡ length n.edges → length n.edges ≤ i
    → AreClosed n (live_numbers live)
pass_quiet n before live due downwards i p one_each all =
    All-from_members (λ e. (e < length n.edges) × (IsHullNumber n e ⊎ IsSupported n (live_numbers live) e)) (live_numbers live)
    (λ e has.
    let flag = flag_from_live live e has in
    let e_in : e < length n.edges = omega (arith, flag_in live e flag, one_each) in
    let t = turn_of (length n.edges) e downwards e_in in
    let before_i = t.0 in
    let not_due : get_or due e false ≡ false = subst (λ (x : ℕ). get_or due x false ≡ false) t.1 (p.tried refl (in_turn (length n.edges) e downwards) (omega arith)) in
    (e_in, p.supported e flag not_due))

-- where all edges are live no closed one is lost
pub none_lost_all : (n : NetworkParts) (flags : List Bool) → flags ≡ replicate (length n.edges) true → NoneLost n flags
none_lost_all n flags is es closed =
    All-from_members (Contains (live_numbers flags)) es
    (λ e has.
    let e_in = (All-contains (λ x. (x < length n.edges) × (IsHullNumber n x ⊎ IsSupported n es x)) es e closed has).0 in
    live_from_flag flags e (ap (λ (fs : List Bool). get_or fs e false) is ∙ get_or-replicate (length n.edges) e true false e_in))
