-- The live edges outside the skeleton, as the edges of the skeleton are taken away one after the other.
use Rattle.std.proofs.Common.{◌≡◌, ◌≢◌, ◌⊎◌, ℕ, ◌+◌, ◌<◌, List, Bool, true, false, length, get_or, set, All, AllPairs, Contains, ◌≤◌, ap, sym, ◌∙◌, subst, ⊎_elim, inl, inr, arith}
use Rattle.std.proofs.lemmas.Bool.{cases_Bool, cases_eq, cases_lt, false≢true}
use Rattle.std.proofs.lemmas.List.{get_or-set_other, get_or_default, length-set}
use Rattle.std.proofs.lemmas.List.Elements.{Contains-get_or}
use Rattle.exact_predicates.specs.declared.edge.Edge.{Edge}
use Rattle.exact_predicates.specs.Candidates.{EdgePrecedes, HasEdge}
use Rattle.exact_predicates.proofs.Equalities.{HasEdge-Contains, Joins-ends, Joins-only}
use Rattle.lmt_network.specs.Flags.{live_edges}
use Rattle.lmt_network.specs.Network.{IsNetwork, NetworkParts, edge_at}
use Rattle.lmt_network.specs.Numbers.{IsNumberOf}
use Rattle.lmt_network.proofs.Naming.{edge_at-once, flags_named}
use Rattle.lmt_network.proofs.Picked.{flag_from_live, flag_in, picked_in}
use Rattle.skeleton_faces.specs.Marks.{nth_edge}
use Rattle.skeleton_faces.proofs.Flags.{is_down}
use Rattle.face_optimum.specs.Seats.{AreOff}

-- a flag that is down stays down where another falls
stays_down : (flags : List Bool) (i k : ℕ) → get_or flags k false ≡ false → get_or (set flags i false) k false ≡ false
stays_down flags i k h = ⊎_elim
    (λ (same : k ≡ i). ap (λ (j : ℕ). get_or (set flags i false) j false) same ∙ is_down flags i)
    (λ (other : k ≢ i). get_or-set_other flags i k false false other ∙ h)
    (cases_eq k i)

-- and no other falls
fell : (flags : List Bool) (i k : ℕ) → get_or (set flags i false) k false ≡ false → (k ≡ i) ⊎ (get_or flags k false ≡ false)
fell flags i k h = ⊎_elim
    (λ (same : k ≡ i). inl same)
    (λ (other : k ≢ i). inr (sym (get_or-set_other flags i k false false other) ∙ h))
    (cases_eq k i)

-- after the first i edges of the skeleton
pub record AreOffSoFar (n : NetworkParts) (flags : List Bool) (skeleton : List Edge) (i : ℕ) (off : List Bool) : Type 0 where
  pub one_each : length off ≡ length n.edges
  pub live : (e : ℕ) → get_or off e false ≡ true → get_or flags e false ≡ true
  pub gone : (k e : ℕ) → k < i → e < length n.edges → nth_edge skeleton k ≡ edge_at n e → get_or off e false ≡ false
  pub only : (e : ℕ) → get_or flags e false ≡ true → get_or off e false ≡ false → (k : ℕ) × (k < i) × (nth_edge skeleton k ≡ edge_at n e)

pub off_start : (n : NetworkParts) (flags : List Bool) (skeleton : List Edge) → length flags ≡ length n.edges → AreOffSoFar n flags skeleton 0 flags
off_start n flags skeleton one_each =
    record {
      one_each = one_each;
      live = λ e h. h;
      gone = λ k e l _ _. absurd (omega arith);
      only = λ e h no_more. absurd (false≢true (sym no_more ∙ h));
    }

pub off_more : (n : NetworkParts) (flags : List Bool) (skeleton : List Edge) (i : ℕ) (off : List Bool) (e : ℕ) → AllPairs EdgePrecedes n.edges
    → AreOffSoFar n flags skeleton i off → IsNumberOf n (nth_edge skeleton i).a (nth_edge skeleton i).b e → AreOffSoFar n flags skeleton (i + 1) (set off e false)
off_more n flags skeleton i off e ascending o number =
    let x = nth_edge skeleton i in
    let is : edge_at n e ≡ x = Joins-only (edge_at n e) x x.a x.b number.1 (Joins-ends x) in
    record {
      one_each = length-set off e false ∙ o.one_each;
      live = λ f h. o.live f (⊎_elim
          (λ (same : f ≡ e). absurd (false≢true (sym (ap (λ (k : ℕ). get_or (set off e false) k false) same ∙ is_down off e) ∙ h)))
          (λ (other : f ≢ e). sym (get_or-set_other off e f false false other) ∙ h)
          (cases_eq f e));
      gone = λ k f k_in f_in same. ⊎_elim
          (λ l. stays_down off e f (o.gone k f l f_in same))
          (λ l.
          let last : k ≡ i = omega arith in
          let f_is : f ≡ e = edge_at-once n f e ascending f_in number.0 (sym same ∙ (ap (nth_edge skeleton) last ∙ sym is)) in
          ap (λ (j : ℕ). get_or (set off e false) j false) f_is ∙ is_down off e)
          (cases_lt k i);
      only = λ f h fallen. ⊎_elim
          (λ (same : f ≡ e). (i, omega arith, sym is ∙ ap (edge_at n) (sym same)))
          (λ before. let r = o.only f h before in (r.0, omega (arith, r.1), r.2))
          (fell off e f fallen);
    }

pub off_end : (n : NetworkParts) (flags : List Bool) (skeleton : List Edge) (i : ℕ) (off : List Bool) → IsNetwork n → length flags ≡ length n.edges
    → length skeleton ≤ i → i ≤ length skeleton → AreOffSoFar n flags skeleton i off → AreOff n flags skeleton off
off_end n flags skeleton i off net one_each all within o =
    record {
      one_each = o.one_each;
      each = λ e. (
        λ is_off.
            let all_in = o.one_each in
            let low = flag_in off e is_off in
            let e_in : e < length n.edges = omega arith in (
              e_in,
              (
                picked_in flags n.edges e _ e_in (o.live e is_off),
                λ (k, k_in, at_k). false≢true (sym (o.gone k e (omega arith) e_in (get_or_default skeleton k _ (edge_at n e) k_in ∙ at_k)) ∙ is_off),
              ),
            ),
        λ (e_in, (live, outside)). ⊎_elim
            (λ is_off. is_off)
            (λ fallen.
            let r = o.only e (flag_from_live flags e ((flags_named n flags net.ascending one_each).back e e_in live)) fallen in
            let k_in : r.0 < length skeleton = omega (arith, r.1) in
            absurd (outside (subst (Contains skeleton) r.2 (Contains-get_or skeleton r.0 _ k_in))))
            (cases_Bool (get_or off e false)),
      );
    }

-- an edge of the skeleton has a number
pub has_number : (n : NetworkParts) (flags : List Bool) (skeleton : List Edge) (k : ℕ) (x : Edge) → IsNetwork n → length flags ≡ length n.edges → All (Contains (live_edges n flags)) skeleton
    → k < length skeleton → nth_edge skeleton k ≡ x → HasEdge n.edges x.a x.b
has_number n flags skeleton k x net one_each live k_in is =
    HasEdge-Contains n.edges x x.a x.b (Joins-ends x)
    ((flags_named n flags net.ascending one_each).known x (subst (Contains (live_edges n flags)) is (live k _ k_in)))
