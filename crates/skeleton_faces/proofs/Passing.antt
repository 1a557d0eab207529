-- One pass along the order of edges, with the farthest place that triangles reach from earlier ones.
use Rattle.std.proofs.Common.{◌≡◌, ◌≢◌, ◌⊎◌, ◌↔◌, ℕ, zero, suc, ◌+◌, ◌-◌, ◌<◌, ◌≤◌, max, Bool, true, false, not, List, length, get_or, set, slice_index, replicate, Contains, get_or-set_other, get_or-set_same, refl, sym, ap, ◌∙◌, subst, inl, inr, ⊎_elim, arith}
use Rattle.std.proofs.lemmas.Bool.{cases_eq, cases_lt, false≢true}
use Rattle.std.proofs.lemmas.List.{get_or_default, length-replicate, length-set}
use Rattle.lmt_network.specs.Flags.{live_edges}
use Rattle.lmt_network.specs.Network.{IsNetwork, NetworkParts, edge_at}
use Rattle.skeleton_faces.specs.declared.reaches.Reaches.{Reaches}
use Rattle.skeleton_faces.specs.Fans.{IsCovered}
use Rattle.skeleton_faces.specs.Reaches.{ArePlaces, AreReaches}
use Rattle.skeleton_faces.specs.Turning.{AreFannedOut}
use Rattle.skeleton_faces.proofs.Covering.{covered_from_places, places_from_covered}

-- After the first places of the order: the farthest place that is reached from them, and of their edges, whether they are
-- not covered.
pub record IsPassed (n : NetworkParts) (flags : List Bool) (order : List ℕ) (r : Reaches) (place far : ℕ) (left : List Bool) : Type 0 where
  pub one_each : length left ≡ length n.edges
  pub most : (i : ℕ) → i < place → slice_index r.spans.items i ≤ far
  pub from : (far ≡ 0) ⊎ ((i : ℕ) × (i < place) × (slice_index r.spans.items i ≡ far))
  pub live : (e : ℕ) → get_or left e false ≡ true → get_or flags e false ≡ true
  pub told : (k : ℕ) → k < place → (get_or left (slice_index order k) false ≡ true) ↔ (¬ IsCovered n.points (live_edges n flags) (edge_at n (slice_index order k)))

pub passed_none : (n : NetworkParts) (flags : List Bool) (order : List ℕ) (r : Reaches) (told : List Bool) → told ≡ replicate (length n.edges) false → IsPassed n flags order r 0 0 told
passed_none n flags order r told is =
    record {
      one_each = ap length is ∙ length-replicate (length n.edges) false;
      most = λ i l. absurd (omega arith);
      from = inl refl;
      live = λ e up. absurd (false≢true (sym (ap (λ bs. get_or bs e false) is ∙ down (length n.edges) e) ∙ up));
      told = λ k l. absurd (omega arith);
    }
  where
    down : (size e : ℕ) → get_or (replicate size false) e false ≡ false
    down zero e = refl
    down (suc size) zero = refl
    down (suc size) (suc e) = down size e

-- one edge more
pub passed_more : (n : NetworkParts) (flags : List Bool) (order : List ℕ) (r : Reaches) (place far farther : ℕ) (told after : List Bool) (b : Bool)
    → IsPassed n flags order r place far told → slice_index order place < length n.edges → get_or flags (slice_index order place) false ≡ true
    → ((b ≡ true) ↔ (¬ IsCovered n.points (live_edges n flags) (edge_at n (slice_index order place))))
    → farther ≡ max far (slice_index r.spans.items place) → after ≡ set told (slice_index order place) b → IsPassed n flags order r (place + 1) farther after
passed_more n flags order r place far farther told after b h e_in up decides far_is after_is =
    subst (IsPassed n flags order r (place + 1) farther) (sym after_is)
    (record {
      one_each = length-set told (slice_index order place) b ∙ h.one_each;
      most = λ i l. ⊎_elim (λ (k : i < place). let m = h.most i k in omega arith) (λ (k : place ≤ i). let e : i ≡ place = omega arith in let same = ap (slice_index r.spans.items) e in omega arith) (cases_lt i place);
      from = ⊎_elim
          (λ (l : far < slice_index r.spans.items place). inr (place, omega arith, omega arith))
          (λ (m : slice_index r.spans.items place ≤ far). let same : far ≡ farther = omega arith in ⊎_elim (λ none. inl (omega arith)) (λ (i, l, is). inr (i, omega arith, is ∙ same)) h.from)
          (cases_lt far (slice_index r.spans.items place));
      live = λ e on. ⊎_elim
          (λ (same : e ≡ slice_index order place). subst (λ (x : ℕ). get_or flags x false ≡ true) (sym same) up)
          (λ (other : e ≢ slice_index order place). h.live e (sym (get_or-set_other told (slice_index order place) e b false other) ∙ on))
          (cases_eq e (slice_index order place));
      told = λ k l. ⊎_elim (λ same. here k same) (λ other. elsewhere k other l) (cases_eq (slice_index order k) (slice_index order place));
    })
  where
    here : (k : ℕ) → slice_index order k ≡ slice_index order place
        → (get_or (set told (slice_index order place) b) (slice_index order k) false ≡ true) ↔ (¬ IsCovered n.points (live_edges n flags) (edge_at n (slice_index order k)))
    here k same =
        let is = get_or-set_same told (slice_index order place) b false (omega (arith, h.one_each)) in
        let at_place : (get_or (set told (slice_index order place) b) (slice_index order place) false ≡ true) ↔ (¬ IsCovered n.points (live_edges n flags) (edge_at n (slice_index order place))) =
        (λ on. decides.0 (sym is ∙ on), λ free. is ∙ decides.1 free) in
        subst (λ (e : ℕ). (get_or (set told (slice_index order place) b) e false ≡ true) ↔ (¬ IsCovered n.points (live_edges n flags) (edge_at n e))) (sym same) at_place

    elsewhere : (k : ℕ) → slice_index order k ≢ slice_index order place → k < place + 1
        → (get_or (set told (slice_index order place) b) (slice_index order k) false ≡ true) ↔ (¬ IsCovered n.points (live_edges n flags) (edge_at n (slice_index order k)))
    elsewhere k other l =
        let is = get_or-set_other told (slice_index order place) (slice_index order k) b false other in
        let not_here : k ≢ place = λ e. other (ap (slice_index order) e) in
        let old = h.told k (omega arith) in
        (λ on. old.0 (sym is ∙ on), λ free. is ∙ old.1 free)

module _ (n : NetworkParts) (flags : List Bool) (order places : List ℕ) (r : Reaches) (net : IsNetwork n) (one_each : length flags ≡ length n.edges)
    (fanned : AreFannedOut n.points n.edges flags order) (placed : ArePlaces flags order places) (h : AreReaches n flags places (length order) (length n.tris) r) where
  -- the test at a place tells whether its edge is covered
  pub test_covers : (place far : ℕ) (told : List Bool) (covers : Bool) → place < length order → IsPassed n flags order r place far told
      → ((covers ≡ true) ↔ ((place < far) ⊎ ((place < slice_index r.heads.items (edge_at n (slice_index order place)).a) ⊎ (length order - place < slice_index r.tails.items (edge_at n (slice_index order place)).a))))
      → (not covers ≡ true) ↔ (¬ IsCovered n.points (live_edges n flags) (edge_at n (slice_index order place)))
  test_covers place far told true place_in p test = (
    λ no. absurd (false≢true no),
    λ free. absurd (free (covered_from_places n flags order places r net one_each fanned placed h place place_in
        (⊎_elim
        (λ l. ⊎_elim (λ none. absurd (omega arith)) (λ (i, i_in, is). inl (i, i_in, omega arith)) p.from)
        (λ half. inr half)
        (test.0 refl)))),
  )
  test_covers place far told false place_in p test = (
    λ yes covered. false≢true (test.1 (⊎_elim
        (λ (i, i_in, l). let m = p.most i i_in in inl (omega arith))
        (λ half. inr half)
        (places_from_covered n flags order places r net one_each fanned placed h place place_in covered))),
    λ free. refl,
  )

-- after the last place it is told of each edge
pub passed_all : (n : NetworkParts) (flags : List Bool) (order : List ℕ) (r : Reaches) (far : ℕ) (told : List Bool) → AreFannedOut n.points n.edges flags order → IsPassed n flags order r (length order) far told
    → (e : ℕ) → (get_or told e false ≡ true) ↔ ((get_or flags e false ≡ true) × (¬ IsCovered n.points (live_edges n flags) (edge_at n e)))
passed_all n flags order r far told fanned h e = (
  λ on. (h.live e on, (at (fanned.all e (h.live e on))).0 on),
  λ (up, free). (at (fanned.all e up)).1 free,
)
  where
    at : Contains order e → (get_or told e false ≡ true) ↔ (¬ IsCovered n.points (live_edges n flags) (edge_at n e))
    at (k, k_in, at_k) =
        let is : slice_index order k ≡ e = get_or_default order k 0 e k_in ∙ at_k in
        subst (λ (x : ℕ). (get_or told x false ≡ true) ↔ (¬ IsCovered n.points (live_edges n flags) (edge_at n x))) is (h.told k k_in)

-- the places of the numbers of the order are those of the live edges
pub ArePlaces-fanned : (n : NetworkParts) (flags : List Bool) (order places : List ℕ) → length flags ≡ length n.edges → AreFannedOut n.points n.edges flags order → length places ≡ length n.edges
    → ((e : ℕ) → Contains order e → slice_index places e < length order) → ((e : ℕ) → Contains order e → slice_index order (slice_index places e) ≡ e) → ArePlaces flags order places
ArePlaces-fanned n flags order places one_each fanned as_many inside there =
    record { one_each = as_many ∙ sym one_each; inside = λ e up. inside e (fanned.all e up); there = λ e up. there e (fanned.all e up) }
