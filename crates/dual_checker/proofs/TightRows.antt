-- Tight sides, by the triangles of a network that are on them.
use Rattle.std.proofs.Common.{◌≡◌, ◌≢◌, ℕ, ◌+◌, ◌<◌, Bool, true, false, IsTrue, ◌↔◌, List, length, slice_index, Any, Contains, ℤ, pos, of_z, w64, eqb, refl, sym, ap, subst, ◌∙◌, arith, inl, inr}
use Rattle.std.proofs.lemmas.Bool.{false≢true, cases_lt, eqb-true, eq-eqb}
use Rattle.std.proofs.lemmas.Int.{ints}
use Rattle.std.proofs.lemmas.List.{get_or_default}
use Rattle.std.proofs.lemmas.List.Elements.{Contains-get_or}
use Rattle.exact_predicates.specs.declared.tri.Tri.{Tri}
use Rattle.lmt_network.specs.Flags.{live_numbers}
use Rattle.lmt_network.specs.Network.{NetworkParts, tri_at}
use Rattle.lmt_network.specs.Numbers.{HasSide, IsSideOf}
use Rattle.lmt_network.specs.Prices.{IsLiveTriangle, IsTightSide, slack}
use Rattle.cert_text.specs.declared.report.Report.{Report}
use Rattle.dual_checker.specs.GoodReport.{prices_of}
use Rattle.dual_checker.specs.LiveLines.{HasNumbers, IsRowOf}
use Rattle.dual_checker.proofs.Ledgers.{live_by_sides, live_in_network}
use mir.Val.{SFits}

-- the triangle t of the network has live sides
abbrev pub AreSidesLive : NetworkParts → List Bool → ℕ → Type 0
AreSidesLive net flags t = (f : ℕ) → IsSideOf net t f → Contains (live_numbers flags) f

abbrev pub slack_of : Report → NetworkParts → ℕ → ℤ
slack_of r net t = slack r.points r.hull (prices_of r) (tri_at net t)

-- of the first i triangles of a row no live one has the slack 0, and none is live where the row is bare so far
pub record IsSeen (r : Report) (net : NetworkParts) (flags : List Bool) (row : List ℕ) (i : ℕ) (bare : Bool) : Type 0 where
  pub loose : (k : ℕ) → k < i → AreSidesLive net flags (slice_index row k) → slack_of r net (slice_index row k) ≢ pos 0
  pub none : bare ≡ true → (k : ℕ) → k < i → ¬ AreSidesLive net flags (slice_index row k)
  pub some : bare ≡ false → (k : ℕ) × (k < i) × AreSidesLive net flags (slice_index row k)

-- one more that is not live
pub IsSeen-dead : (r : Report) (net : NetworkParts) (flags : List Bool) (row : List ℕ) (i : ℕ) (bare : Bool) → IsSeen r net flags row i bare → ¬ AreSidesLive net flags (slice_index row i)
    → IsSeen r net flags row (i + 1) bare
IsSeen-dead r net flags row i bare h dead = record {
  loose = λ k l live. elim (cases_lt k i) [ inl before ↦ h.loose k before live | inr last ↦ let here : k ≡ i = omega arith in absurd (dead (subst (λ (j : ℕ). AreSidesLive net flags (slice_index row j)) here live)) ];
  none = λ e k l live. elim (cases_lt k i) [ inl before ↦ h.none e k before live | inr last ↦ let here : k ≡ i = omega arith in dead (subst (λ (j : ℕ). AreSidesLive net flags (slice_index row j)) here live) ];
  some = λ e. let (k, l, live) = h.some e in (k, omega arith, live);
}

-- one more that is live, with a slack
pub IsSeen-live : (r : Report) (net : NetworkParts) (flags : List Bool) (row : List ℕ) (i : ℕ) (bare : Bool) → IsSeen r net flags row i bare → AreSidesLive net flags (slice_index row i)
    → slack_of r net (slice_index row i) ≢ pos 0 → IsSeen r net flags row (i + 1) false
IsSeen-live r net flags row i bare h live apart = record {
  loose = λ k l alive. elim (cases_lt k i) [ inl before ↦ h.loose k before alive | inr last ↦ let here : k ≡ i = omega arith in λ zero. apart (subst (λ (j : ℕ). slack_of r net (slice_index row j) ≡ pos 0) here zero) ];
  none = λ e. absurd (false≢true e);
  some = λ e. (i, omega arith, live);
}

-- what a row says of its side
pub record IsOnSide (r : Report) (net : NetworkParts) (flags : List Bool) (numbers : List ℕ) (row : List ℕ) (u v : ℕ) : Type 0 where
  pub numbers_are : HasNumbers r net flags numbers
  pub row_is : IsRowOf net row u v

-- a row has a triangle with live sides where some live triangle has its side
pub side_found : (r : Report) (net : NetworkParts) (flags : List Bool) (numbers row : List ℕ) (u v : ℕ) (t : Tri) → HasNumbers r net flags numbers → IsRowOf net row u v
    → HasSide t u v → IsLiveTriangle r.points (prices_of r) t → Any (AreSidesLive net flags) row
side_found r net flags numbers row u v t has is side live =
    let (i, i_in, at) = live_in_network r net flags numbers t has.network has live in
    let (k, k_in, same) = (is i).1 (i_in, subst (λ (s : Tri). HasSide s u v) (sym at) side) in
    (k, i, k_in, same, (live_by_sides r net flags numbers i has.network has i_in).0 (subst (λ (s : Tri). IsLiveTriangle r.points (prices_of r) s) (sym at) live))

-- and only there
pub side_live : (r : Report) (net : NetworkParts) (flags : List Bool) (numbers row : List ℕ) (u v : ℕ) → HasNumbers r net flags numbers → IsRowOf net row u v
    → Any (AreSidesLive net flags) row → (t : Tri) × HasSide t u v × IsLiveTriangle r.points (prices_of r) t
side_live r net flags numbers row u v has is (k, i, k_in, same, live) =
    let on = (is i).0 (k, k_in, same) in
    (tri_at net i, on.1, (live_by_sides r net flags numbers i has.network has on.0).1 live)

pub none_live : (r : Bool) (P : Type 0) → (IsTrue r ↔ P) → r ≡ false → P → ⊥
none_live r P says fails p = false≢true (sym fails ∙ says.1 p)

-- a live triangle without slack makes it tight
pub tight_found : (r : Report) (net : NetworkParts) (flags : List Bool) (numbers row : List ℕ) (u v : ℕ) (y : ℤ) (k : ℕ) → IsOnSide r net flags numbers row u v → k < length row
    → AreSidesLive net flags (slice_index row k) → slack_of r net (slice_index row k) ≡ pos 0 → IsTightSide r.points r.hull (prices_of r) u v y
tight_found r net flags numbers row u v y k on inside live zero =
    let is = (on.row_is (slice_index row k)).0 (Contains-get_or row k 0 inside) in
    inl (tri_at net (slice_index row k), is.1, (live_by_sides r net flags numbers (slice_index row k) on.numbers_are.network on.numbers_are is.0).1 live, zero)

-- where none is found, it is tight exactly where none is live and the anchor is 0
pub tight_or_bare : (r : Report) (net : NetworkParts) (flags : List Bool) (numbers row : List ℕ) (u v : ℕ) (y : ℤ) (bare : Bool) (zero : Bool) → IsOnSide r net flags numbers row u v
    → IsSeen r net flags row (length row) bare → (IsTrue zero ↔ (y ≡ pos 0)) → (IsTrue bare × IsTrue zero) ↔ IsTightSide r.points r.hull (prices_of r) u v y
tight_or_bare r net flags numbers row u v y bare zero on seen says = (
  λ (b, z). inr (
    λ t side live.
        let (k, k_in, sides) = placed t side live in
        seen.none b k k_in sides,
    says.0 z,
  ),
  λ tight. elim tight [
    | inl found ↦
        let (t, side, live, no_slack) = found in
        let (k, k_in, sides, same) = placed_at t side live in
        absurd (seen.loose k k_in sides (ap (λ (s : Tri). slack r.points r.hull (prices_of r) s) same ∙ no_slack))
    | inr none ↦ (is_bare bare refl none.0, says.1 none.1)
  ],
) where
  placed_at : (t : Tri) → HasSide t u v → IsLiveTriangle r.points (prices_of r) t
      → (k : ℕ) × (k < length row) × AreSidesLive net flags (slice_index row k) × (tri_at net (slice_index row k) ≡ t)
  placed_at t side live =
      let (i, i_in, at) = live_in_network r net flags numbers t on.numbers_are.network on.numbers_are live in
      let (k, k_in, is) = (on.row_is i).1 (i_in, subst (λ (s : Tri). HasSide s u v) (sym at) side) in
      let same : slice_index row k ≡ i = get_or_default row k 0 i k_in ∙ is in
      let sides = (live_by_sides r net flags numbers i on.numbers_are.network on.numbers_are i_in).0 (subst (λ (s : Tri). IsLiveTriangle r.points (prices_of r) s) (sym at) live) in
      (k, k_in, subst (λ (j : ℕ). AreSidesLive net flags j) (sym same) sides, ap (tri_at net) same ∙ at)

  placed : (t : Tri) → HasSide t u v → IsLiveTriangle r.points (prices_of r) t → (k : ℕ) × (k < length row) × AreSidesLive net flags (slice_index row k)
  placed t side live = let (k, k_in, sides, same) = placed_at t side live in (k, k_in, sides)

  is_bare : (b : Bool) → bare ≡ b → ((t : Tri) → HasSide t u v → ¬ IsLiveTriangle r.points (prices_of r) t) → bare ≡ true
  is_bare true e none = e
  is_bare false e none =
      let (k, k_in, sides) = seen.some e in
      let is = (on.row_is (slice_index row k)).0 (Contains-get_or row k 0 k_in) in
      absurd (none (tri_at net (slice_index row k)) is.1 ((live_by_sides r net flags numbers (slice_index row k) on.numbers_are.network on.numbers_are is.0).1 sides))

-- an anchor is 0 where its bits are
pub is_zero : (y : ℤ) → SFits w64 y → IsTrue (eqb (of_z w64 y) 0) ↔ (y ≡ pos 0)
is_zero y fits = (
  λ z. let h = eqb-true (of_z w64 y) 0 z in let small = fits.sfits in omega (arith, ints, h, small),
  λ e. eq-eqb (of_z w64 y) 0 (ap (of_z w64) e),
)

-- the whole row decides
pub row_decides : (r : Report) (net : NetworkParts) (flags : List Bool) (numbers row : List ℕ) (u v i : ℕ) (y : ℤ) (bare : Bool) → HasNumbers r net flags numbers → IsRowOf net row u v
    → IsSeen r net flags row i bare → i ≡ length row → SFits w64 y → (IsTrue bare × IsTrue (eqb (of_z w64 y) 0)) ↔ IsTightSide r.points r.hull (prices_of r) u v y
row_decides r net flags numbers row u v i y bare has is seen all fits =
    tight_or_bare r net flags numbers row u v y bare (eqb (of_z w64 y) 0) (record { numbers_are = has; row_is = is })
    (subst (λ (k : ℕ). IsSeen r net flags row k bare) all seen) (is_zero y fits)
