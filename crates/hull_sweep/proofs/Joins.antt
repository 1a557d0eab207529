-- The triangles of one point with one chain, one after another.
use Rattle.std.proofs.Common.{◌≡◌, ℕ, zero, suc, ◌+◌, ◌<◌, ◌≤◌, List, [], ◌∷◌, ◌++◌, length, slice_index, Any, sum_by, pos, ◌<ℤ◌, arith, ap, sym, ◌∙◌, refl, subst, ⊎_elim, inl, inr}
use Rattle.std.proofs.lemmas.Bool.{cases_lt}
use Rattle.std.proofs.lemmas.List.{length_push, append-nil, append_assoc}
use Rattle.std.proofs.lemmas.List.Elements.{All-nil, All-push}
use Rattle.std.proofs.lemmas.List.Quantifiers.{Any-push}
use Rattle.exact_predicates.specs.declared.point.Point.{Point}
use Rattle.exact_predicates.specs.declared.tri.Tri.{Tri}
use Rattle.exact_predicates.specs.Triangulation.{IsCorner, hit, sides}
use Rattle.exact_predicates.proofs.Counts.{side_count-push}
use Rattle.exact_predicates.proofs.Elements.{Any-append_left, Any-weaker}
use Rattle.exact_predicates.proofs.Pairs.{hit_turned}
use Rattle.exact_predicates.proofs.Sides.{sum_by-sides}
use Rattle.hull_sweep.specs.declared.chain.Chain.{Chain}
use Rattle.hull_sweep.specs.declared.chain.Chain.TheVariants.{Lower, Upper}
use Rattle.hull_sweep.specs.Chain.{turn}
use Rattle.hull_sweep.specs.Join.{along, HasTriangle, IsEmptyBelow, IsJoin, GrowsByJoin}
use Rattle.hull_sweep.specs.Rule.{JoinsVisiblePair}
use Rattle.hull_sweep.proofs.Chains.{IsAhead, earlier}
use Rattle.hull_sweep.proofs.Emptiness.{triangle_on, new_empty}
use Rattle.hull_sweep.proofs.PairCounts.{pair_count-more}
use Rattle.hull_sweep.proofs.Rules.{joins_visible}

-- the sides of the triangle on the pair y, x: along the pair from y to q, and against those from x to q and from y to x
new_sides : (s : Chain) (y x q u v : ℕ) (t : Tri) → HasTriangle s y x q t
    → sum_by (hit u v) (sides t) ≡ hit u v (along s y q) + hit v u (along s x q) + hit v u (along s y x)
new_sides Lower y x q u v t (a, b, c) =
    omega (arith, sum_by-sides (hit u v) t y q x (inl (a, b, c)), hit_turned u v q x, hit_turned u v x y)
new_sides Upper y x q u v t (a, b, c) =
    omega (arith, sum_by-sides (hit u v) t y x q (inl (a, b, c)), hit_turned u v y x, hit_turned u v x q)

-- nothing is joined yet, and all places are kept
IsJoin-start : (s : Chain) (P : ℕ → Point) (q : ℕ) (c : List ℕ) → 0 < length c → IsJoin s P q c (length c) []
IsJoin-start s P q c some =
    record {
      some = some;
      within = omega arith;
      seen = λ k e l. absurd (omega arith);
      count = omega arith;
      empty = All-nil (IsEmptyBelow P (q + 1));
      rule = All-nil (JoinsVisiblePair P (q + 1));
      joined = λ k l m. absurd (omega arith);
      balance = λ j k u v e d.
          let same : k ≡ j = omega arith in
          omega (arith, ap (λ i. hit u v (along s (slice_index c i) q)) same, ap (λ i. hit v u (along s (slice_index c i) q)) same);
    }

-- one more triangle: the pair below the kept places is visible, and one place less is kept
IsJoin-more : {s : Chain} {P : ℕ → Point} {n q : ℕ} {c : List ℕ} → IsAhead s P n q (length c) (slice_index c) → (k kept less : ℕ) (ts : List Tri) (t : Tri)
    → IsJoin s P q c kept ts → k + 2 ≡ kept → k + 1 ≡ less → turn s (P (slice_index c k)) (P (slice_index c (k + 1))) (P q) <ℤ pos 0
    → HasTriangle s (slice_index c k) (slice_index c (k + 1)) q t → IsJoin s P q c less (ts ++ t ∷ [])
IsJoin-more {s = s} {P = P} {q = q} {c = c} a k kept less ts t j e d seen h =
    let w = j.within in
    let y = slice_index c k in
    let x = slice_index c (k + 1) in
    record {
      some = omega arith;
      within = omega arith;
      seen = λ i f l. let same : k ≡ i = omega arith in subst (λ z. turn s (P (slice_index c z)) (P (slice_index c (z + 1))) (P q) <ℤ pos 0) same seen;
      count = omega (arith, j.count, length_push ts t);
      empty = All-push (IsEmptyBelow P (q + 1)) ts t j.empty (new_empty a k t (omega arith) seen h);
      rule = All-push (JoinsVisiblePair P (q + 1)) ts t j.rule (joins_visible s (earlier a) a.chain k t (omega arith) seen h);
      joined = λ i l m. ⊎_elim
          (λ b. let same : k ≡ i = omega arith in subst (λ z. Any (HasTriangle s (slice_index c z) (slice_index c (z + 1)) q) (ts ++ t ∷ [])) same (Any-push (HasTriangle s y x q) ts t h))
          (λ b. Any-append_left (HasTriangle s (slice_index c i) (slice_index c (i + 1)) q) ts (t ∷ []) (j.joined i b m))
          (cases_lt (i + 1) kept);
      balance = λ last i u v f g.
          let same : k ≡ i = omega arith in
          omega (
            arith,
            j.balance last (k + 1) u v (omega arith) g,
            side_count-push ts t u v,
            side_count-push ts t v u,
            new_sides s y x q u v t h,
            new_sides s y x q v u t h,
            pair_count-more s (slice_index c) u v k kept less e d,
            pair_count-more s (slice_index c) v u k kept less e d,
            ap (λ z. hit u v (along s (slice_index c z) q)) same,
            ap (λ z. hit v u (along s (slice_index c z) q)) same,
          );
    }

-- the triangles of a list do not grow before the first join
pub GrowsByJoin-start : (s : Chain) (P : ℕ → Point) (q : ℕ) (c : List ℕ) (old : List Tri) → 0 < length c → GrowsByJoin s P q c (length c) old old
GrowsByJoin-start s P q c old some = record { added = []; grows = sym (append-nil old); join = IsJoin-start s P q c some }

-- and grow by one at each
pub GrowsByJoin-more : {s : Chain} {P : ℕ → Point} {n q : ℕ} {c : List ℕ} → IsAhead s P n q (length c) (slice_index c) → (k kept less : ℕ) (old ts : List Tri) (t : Tri)
    → GrowsByJoin s P q c kept old ts → k + 2 ≡ kept → k + 1 ≡ less → turn s (P (slice_index c k)) (P (slice_index c (k + 1))) (P q) <ℤ pos 0
    → HasTriangle s (slice_index c k) (slice_index c (k + 1)) q t → GrowsByJoin s P q c less old (ts ++ t ∷ [])
GrowsByJoin-more a k kept less old ts t j e d seen h =
    record {
      added = j.added ++ t ∷ [];
      grows = ap (λ xs. xs ++ t ∷ []) j.grows ∙ append_assoc old j.added (t ∷ []);
      join = IsJoin-more a k kept less j.added t j.join e d seen h;
    }

-- a place that is not kept is a corner
pub popped : {s : Chain} {P : ℕ → Point} {q : ℕ} {c : List ℕ} {kept : ℕ} {added : List Tri} → IsJoin s P q c kept added
    → (i : ℕ) → kept ≤ i → i < length c → Any (λ t. IsCorner t (slice_index c i)) added
popped j zero l i_in = let some = j.some in absurd (omega arith)
popped {s = s} {P = P} {q = q} {c = c} {added = added} j (suc i) l i_in =
    let same : i + 1 ≡ suc i = omega arith in
    let y = slice_index c i in
    let x = slice_index c (i + 1) in
    subst (λ z. Any (λ t. IsCorner t (slice_index c z)) added) same
    (Any-weaker (HasTriangle s y x q) (λ t. IsCorner t x) (λ t h. (triangle_on s P y x q t h).corner x (inr (inl refl))) added (j.joined i (omega arith) (omega arith)))
