-- What a live edge is: one outside the skeleton, one of the hull, or another one of the skeleton; and the ranges of its amounts.
use Rattle.std.proofs.Common.{◌≡◌, ◌⊎◌, ℕ, ◌+◌, ◌*◌, ◌^◌, ◌<◌, ◌≤◌, true, false, List, length, slice_index, Contains, ℤ, pos, ◌-ℤ◌, ◌≤ℤ◌, arith, ⊎_elim}
use Rattle.std.proofs.lemmas.Bool.{both_ways, cases_Bool, cases_cond}
use Rattle.std.proofs.lemmas.Int.{ints}
use Rattle.mwt_base.specs.Limits.{most_anchor}
use Rattle.lmt_network.specs.Flags.{live_edges}
use Rattle.lmt_network.specs.Network.{edge_at}
use Rattle.lmt_network.specs.Numbers.{IsHullNumber}
use Rattle.lmt_network.specs.Prices.{is_on_hull}
use Rattle.lmt_network.proofs.Entries.{is_on_hull_decides}
use Rattle.price_ascent.specs.Belonging.{IsWithinRanges}
use Rattle.price_ascent.specs.Entries.{with_amounts}
use Rattle.face_optimum.specs.declared.face_prices.Amounts.{Amounts}
use Rattle.face_optimum.specs.declared.site.Site.{Site}
use Rattle.face_optimum.specs.Cuts.{most_cost, weight_of}
use Rattle.face_optimum.specs.Priced.{IsAmountsOf}
use Rattle.face_optimum.specs.Seats.{IsOff}
use Rattle.face_optimum.specs.Sites.{IsSite}
use Rattle.face_optimum.proofs.EdgeLists.{edge_or_not}
use Rattle.face_optimum.proofs.Pricing.{off_not_hull}

module _ (s : Site) (h : IsSite s) where
  pub data Kind (e : ℕ) : Type 0 where
    part_edge : IsOff s.net.now s.flags.now s.skeleton.now e → Kind e
    hull_edge : IsHullNumber s.net.now e → Kind e
    skeleton_edge : Contains s.skeleton.now (edge_at s.net.now e) → ¬ IsHullNumber s.net.now e → Kind e

  pub kind : (e : ℕ) → e < length s.net.now.edges → Contains (live_edges s.net.now s.flags.now) (edge_at s.net.now e) → Kind e
  kind e e_in live =
      ⊎_elim
      (λ has. ⊎_elim
      (λ (hull : is_on_hull s.net.now.hull (edge_at s.net.now e).a (edge_at s.net.now e).b ≡ true). hull_edge ((is_on_hull_decides s.net.now.hull _ _).0 hull))
      (λ (no : is_on_hull s.net.now.hull (edge_at s.net.now e).a (edge_at s.net.now e).b ≡ false).
      skeleton_edge has (λ hull. both_ways _ no ((is_on_hull_decides s.net.now.hull _ _).1 hull)))
      (cases_Bool (is_on_hull s.net.now.hull (edge_at s.net.now e).a (edge_at s.net.now e).b)))
      (λ none. part_edge (e_in, (live, none)))
      (edge_or_not s.skeleton.now (edge_at s.net.now e))

  zero : (z : ℤ) → z ≡ pos 0 → (pos 0 ≤ℤ z) × (z ≤ℤ pos most_anchor)
  zero z e = (omega (arith, ints, e), omega (arith, ints, e))

  -- the amounts of a live edge are within the ranges of a report
  pub ranges : (costs root_costs : List ℕ) (e : ℕ) (a : Amounts) → e < length s.net.now.edges → slice_index costs e ≤ most_cost → slice_index root_costs (2 * e) ≤ most_cost
      → slice_index root_costs (2 * e + 1) ≤ most_cost → weight_of s.net.now e < 3 * 10 ^ 15 → IsAmountsOf s costs root_costs e a → Kind e → IsWithinRanges s.net.now.hull (with_amounts s.net.now e a.value a.left a.right)
  ranges costs root_costs e a e_in cost up down w is (part_edge o) =
      let q = is.part o in
      let which : (a.value ≡ pos (weight_of s.net.now e) -ℤ pos (slice_index costs e)) ⊎ (a.value ≡ pos (slice_index costs e)) = cases_cond _ _ _ _ q.value in
      record {
        price = λ out. (
          ⊎_elim (λ v. omega (arith, ints, v, w, cost)) (λ v. omega (arith, ints, v, w, cost)) which,
          ⊎_elim (λ v. omega (arith, ints, v, w, cost)) (λ v. omega (arith, ints, v, w, cost)) which,
        );
        anchor = λ hull. absurd (off_not_hull s h e o hull);
        left = zero _ q.left;
        right = zero _ q.right;
      }
  ranges costs root_costs e a e_in cost up down w is (hull_edge o) =
      let q = is.on_hull o in
      record {
        price = λ out. absurd (out o);
        anchor = λ hull. (omega (arith, ints, q.value, w, up, down), omega (arith, ints, q.value, w, up, down));
        left = zero _ q.left;
        right = zero _ q.right;
      }
  ranges costs root_costs e a e_in cost up down w is (skeleton_edge has away) =
      let q = is.inner has away in
      record {
        price = λ out. (omega (arith, ints, q.value, w), omega (arith, ints, q.value, w));
        anchor = λ hull. absurd (away hull);
        left = (omega (arith, ints, q.left, w, up), omega (arith, ints, q.left, w, up));
        right = (omega (arith, ints, q.right, w, down), omega (arith, ints, q.right, w, down));
      }
