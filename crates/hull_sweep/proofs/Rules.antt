-- The rule of the sweep: what is visible of the hull are pairs of the chains.
use Rattle.std.proofs.Common.{◌≡◌, ℕ, zero, suc, ◌+◌, ◌-◌, ◌<◌, ◌≤◌, List, pos, ◌≤ℤ◌, ◌<ℤ◌, arith, sym, subst, ⊎_elim, inl, inr}
use Rattle.std.proofs.lemmas.Int.{ints}
use Rattle.std.proofs.lemmas.Bool.{cases_lt, cases_order}
use Rattle.std.proofs.lemmas.List.Sorted.{All-permutation}
use Rattle.std.specs.List.Sorted.{IsPermutation}
use Rattle.exact_predicates.specs.declared.point.Point.{Point}
use Rattle.exact_predicates.specs.declared.tri.Tri.{Tri}
use Rattle.exact_predicates.specs.Plane.{IsBetween}
use Rattle.exact_predicates.specs.Triangulation.{HasCorners}
use Rattle.exact_predicates.proofs.Between.{IsBetween-from_order, IsBetween-turned}
use Rattle.exact_predicates.proofs.Elements.{Any-permutation}
use Rattle.exact_predicates.proofs.Numbers.{IsOrdered}
use Rattle.hull_sweep.specs.declared.chain.Chain.{Chain}
use Rattle.hull_sweep.specs.declared.chain.Chain.TheVariants.{Lower, Upper}
use Rattle.hull_sweep.specs.Chain.{turn, IsChain}
use Rattle.hull_sweep.specs.Join.{HasTriangle}
use Rattle.hull_sweep.specs.Rule.{JoinsVisiblePair, FollowsRule}
use Rattle.hull_sweep.proofs.Chains.{none_on_pair}
use Rattle.hull_sweep.proofs.Views.{turn_swap_last, not_strictly_inside, turn_zero}

-- the corners of the triangle on a pair of each chain
pub corners_low : (y x q : ℕ) (t : Tri) → HasTriangle Lower y x q t → HasCorners t x y q
corners_low y x q t (a, b, c) = inr (inr (c, a, b))

pub corners_high : (y x q : ℕ) (t : Tri) → HasTriangle Upper y x q t → HasCorners t y x q
corners_high y x q t (a, b, c) = inl (a, b, c)

-- the triangle of q with a visible pair of a chain keeps the rule
pub joins_visible : (s : Chain) {P : ℕ → Point} {q count : ℕ} {f : ℕ → ℕ} → IsOrdered P q → IsChain s P q count f → (k : ℕ) (t : Tri) → k + 1 < count
    → turn s (P (f k)) (P (f (k + 1))) (P q) <ℤ pos 0 → HasTriangle s (f k) (f (k + 1)) q t → JoinsVisiblePair P (q + 1) t
joins_visible Lower {q = q} {f = f} ordered chain k t k_in seen h =
    record {
      u = f k;
      v = f (k + 1);
      q = q;
      known = omega arith;
      corners = corners_low (f k) (f (k + 1)) q t h;
      pair = record {
        u_earlier = chain.known k (omega arith);
        v_earlier = chain.known (k + 1) k_in;
        none_right = λ r r_in. chain.inside k r k_in r_in;
        none_between = λ r r_in. none_on_pair ordered chain k r k_in r_in;
        visible = seen;
      };
    }
joins_visible Upper {P = P} {q = q} {f = f} ordered chain k t k_in seen h =
    record {
      u = f (k + 1);
      v = f k;
      q = q;
      known = omega arith;
      corners = corners_high (f k) (f (k + 1)) q t h;
      pair = record {
        u_earlier = chain.known (k + 1) k_in;
        v_earlier = chain.known k (omega arith);
        none_right = λ r r_in. chain.inside k r k_in r_in;
        none_between = λ r r_in between. none_on_pair ordered chain k r k_in r_in (IsBetween-turned (P (f (k + 1))) (P (f k)) (P r) between);
        visible = seen;
      };
    }

-- one more point is known later
pub known_later : (P : ℕ → Point) (n : ℕ) (t : Tri) → JoinsVisiblePair P n t → JoinsVisiblePair P (n + 1) t
known_later P n t j =
    let known = j.known in
    record { u = j.u; v = j.v; q = j.q; known = omega arith; corners = j.corners; pair = j.pair }

-- Two points with no point outside their pair or between them.
pub record IsSidePair (s : Chain) (P : ℕ → Point) (q u v : ℕ) : Type 0 where
  pub rising : u < v
  pub known : v < q
  pub inside : (r : ℕ) → r < q → pos 0 ≤ℤ turn s (P u) (P v) (P r)
  pub none_between : (r : ℕ) → r < q → ¬ IsBetween (P u) (P v) (P r)

-- the place of a number in a chain
pub record IsPlacePair (count : ℕ) (f : ℕ → ℕ) (u v : ℕ) : Type 0 where
  pub k : ℕ
  pub k_in : k + 1 < count
  pub from : f k ≡ u
  pub to : f (k + 1) ≡ v

module _ {s : Chain} {P : ℕ → Point} {q count : ℕ} {f : ℕ → ℕ} (ordered : IsOrdered P q) (c : IsChain s P q count f) where
  -- the highest place whose number is at most u, from place j down
  place_upto : (j u : ℕ) → j < count → (j + 1 < count → u < f (j + 1)) → (k : ℕ) × (k < count) × (f k ≤ u) × (k + 1 < count → u < f (k + 1))
  place_upto zero u j_in above = (0, j_in, omega (arith, c.first), above)
  place_upto (suc j) u j_in above =
      let same : suc j ≡ j + 1 = omega arith in
      ⊎_elim
      (λ l. place_upto j u (omega arith) (λ m. subst (λ x. u < f x) same l))
      (λ l. (suc j, j_in, l, above))
      (cases_lt u (f (suc j)))

  -- a side pair that begins at a place of the chain ends at the next place
  next_place : (k v : ℕ) → k + 1 < count → IsSidePair s P q (f k) v → f (k + 1) ≡ v
  next_place k v k_in p =
      let x = f (k + 1) in
      let up = c.rising k k_in in
      let x_in = c.known (k + 1) k_in in
      let left = p.inside x x_in in
      ⊎_elim
      (λ e. e)
      (λ o. ⊎_elim
      (λ x_v.
      let right = c.inside k v k_in p.known in
      let on : turn s (P (f k)) (P v) (P x) ≡ pos 0 = omega (arith, ints, turn_swap_last s (P (f k)) (P v) (P x)) in
      absurd (p.none_between x x_in (IsBetween-from_order (P (f k)) (P v) (P x) (ordered.rising (f k) x up x_in) (ordered.rising x v x_v p.known) (turn_zero s (P (f k)) (P v) (P x) on))))
      (λ v_x.
      let right = c.strict k v k_in p.rising v_x in
      absurd (omega (arith, ints, turn_swap_last s (P (f k)) (P v) (P x))))
      o)
      (cases_order x v)

  -- each side pair is a pair of the chain
  pub place_of_side : ((k : ℕ) → k + 1 ≡ count → f k + 1 ≡ q) → (u v : ℕ) → IsSidePair s P q u v → IsPlacePair count f u v
  place_of_side newest u v p =
      let some = c.some in
      let (k, k_in, at, next) = place_upto (count - 1) u (omega arith) (λ l. absurd (omega arith)) in
      ⊎_elim
      (λ more. found k more at (next more))
      (λ top. absurd (omega (arith, newest k (omega arith), p.rising, p.known)))
      (cases_lt (k + 1) count)
    where
      found : (k : ℕ) → k + 1 < count → f k ≤ u → u < f (k + 1) → IsPlacePair count f u v
      found k more at above =
          let x_in = c.known (k + 1) more in
          let y_in = c.known k (omega arith) in
          ⊎_elim
          (λ below. absurd (not_strictly_inside s (P (f k)) (P u) (P (f (k + 1))) (P v)
          (ordered.rising (f k) u below (omega arith))
          (ordered.rising u v p.rising p.known)
          (ordered.rising u (f (k + 1)) above x_in)
          (p.inside (f k) y_in)
          (p.inside (f (k + 1)) x_in)
          (c.strict k u more below above)))
          (λ l.
          let same : f k ≡ u = omega arith in
          record { k = k; k_in = more; from = same; to = next_place k v more (subst (λ x. IsSidePair s P q x v) (sym same) p) })
          (cases_lt (f k) u)

-- the order of the triangles is free
pub FollowsRule-permutation : (P : ℕ → Point) (n : ℕ) (ts us : List Tri) → IsPermutation ts us → FollowsRule P n ts → FollowsRule P n us
FollowsRule-permutation P n ts us p r =
    record {
      no_others = All-permutation (JoinsVisiblePair P n) ts us p r.no_others;
      joined = λ u v q q_in pair. Any-permutation (λ t. HasCorners t v u q) ts us p (r.joined u v q q_in pair);
    }
