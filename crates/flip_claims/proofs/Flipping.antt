-- Winners are flipped one after the other, and none is in the way of another.
use Rattle.std.proofs.Common.{◌≡◌, ◌⊎◌, ℕ, ◌+◌, ◌<◌, ◌≤◌, List, [], ◌∷◌, ◌++◌, length, take, get_or, set, sum_by, sym, ap, ◌∙◌, refl, subst, inl, inr, ⊎_elim, arith}
use Rattle.std.proofs.lemmas.List.{get_or_default, length-set, take_more}
use Rattle.exact_predicates.specs.declared.point.Point.{Point}
use Rattle.exact_predicates.specs.declared.tri.Tri.{Tri}
use Rattle.flip_finish.specs.Flipping.{IsFlipped, IsShortened, Shortens, slot_d2}
use Rattle.flip_finish.specs.Mesh.{IsWhole, Parts}
use Rattle.flip_finish.specs.Places.{IsAt}
use Rattle.flip_finish.specs.Winners.{AreWinners, IsWinner}
use Rattle.flip_finish.proofs.Shortening.{IsShortened-refl, IsShortened-trans}
use Rattle.flip_claims.specs.Rounds.{AreFlipped, IsTouched}
use Rattle.flip_claims.proofs.Triangles.{has_left, has_right}
use Rattle.flip_claims.proofs.Untouched.{IsUntouched, had_triangle, has_or_not, untouched_back, untouched_flip, untouched_on, untouched_shortens}
use Rattle.flip_claims.proofs.Winning.{pair_of_quad}

-- one more flip
flipped_more : (ps : List Point) (old mid new : Parts) (slots : List ℕ) (slot : ℕ) → AreFlipped ps old slots mid → IsFlipped ps mid new slot → IsWhole new → AreFlipped ps old (slots ++ slot ∷ []) new
flipped_more ps old mid new [] slot h f whole = (new, subst (λ (m : Parts). IsFlipped ps m new slot) h f, whole, refl)
flipped_more ps old mid new (s ∷ ss) slot h f whole = (h.0, h.1, h.2, flipped_more ps h.0 mid new ss slot h.3 f whole)

-- the first k of the winners were flipped
pub record AreFlippedTo (ps : List Point) (old now : Parts) (winners : List ℕ) (k : ℕ) : Type 0 where
  pub flipped : AreFlipped ps old (take k winners) now
  pub untouched : (j p : ℕ) → k ≤ j → IsAt winners j p → IsUntouched old now p
  pub shortened : IsShortened ps old now
  pub whole : IsWhole old → IsWhole now
  pub count : length now.tris ≡ length old.tris
  pub back : (p : ℕ) → Shortens ps now p → IsTouched old now winners p ⊎ IsUntouched now old p
  pub falls : sum_by (slot_d2 ps) now.slots + k ≤ sum_by (slot_d2 ps) old.slots

pub flips_start : (ps : List Point) (m : Parts) (winners : List ℕ) → AreFlippedTo ps m m winners 0
flips_start ps m winners = record {
  flipped = refl;
  untouched = λ j p past at_j. record { slot = λ s h. h; tris = λ t tri has h. h };
  shortened = IsShortened-refl ps m;
  whole = λ w. w;
  count = refl;
  back = λ p s. inr (record { slot = λ z h. h; tris = λ t tri has h. h });
  falls = omega arith;
}

module _ (ps : List Point) (old : Parts) (winners : List ℕ) (are : AreWinners ps old winners) where
  winner_at : (k w : ℕ) → IsAt winners k w → IsWinner ps old w
  winner_at k w at_k = subst (IsWinner ps old) at_k.is (are.each k w at_k.inside)

  -- the next one shortens still
  pub next_shortens : (now : Parts) (k w : ℕ) → AreFlippedTo ps old now winners k → IsAt winners k w → Shortens ps now w
  next_shortens now k w h at_k = untouched_shortens ps old now w (h.untouched k w (omega arith) at_k) (winner_at k w at_k).shortens

  -- a slot that shortens after a flip has one of its triangles, or it shortened before
  flip_back : (now new : Parts) (k w : ℕ) → AreFlippedTo ps old now winners k → IsAt winners k w → IsFlipped ps now new w → (p : ℕ) → Shortens ps new p → IsTouched old new winners p ⊎ IsUntouched new old p
  flip_back now new k w h at_k f p s =
      let q = f.quad in
      let pair = pair_of_quad now w f.u f.v f.a f.b q in
      let same = h.untouched k w (omega arith) at_k in
      let won = winner_at k w at_k in
      let it = s.quad.left.slot in
      let at_p = s.quad.left.slot_at in
      ⊎_elim
      (λ has_i. inl (record { t = q.i; w = w; among = (k, at_k.inside, at_k.is); had = had_triangle ps old now w q.i same won.shortens (has_left now w q.i q.j pair); has = has_i }))
      (λ not_i. ⊎_elim
      (λ has_j. inl (record { t = q.j; w = w; among = (k, at_k.inside, at_k.is); had = had_triangle ps old now w q.j same won.shortens (has_right now w q.i q.j pair); has = has_j }))
      (λ not_j.
      let stays = untouched_back ps now new w p f not_i not_j in
      ⊎_elim
      (λ (z : IsTouched old now winners p). inl (record { t = z.t; w = z.w; among = z.among; had = z.had; has = had_triangle ps new now p z.t stays s z.has }))
      (λ (z : IsUntouched now old p). inr (untouched_on new now old p stays z))
      (h.back p (untouched_shortens ps new now p stays s)))
      (has_or_not new p q.j it at_p))
      (has_or_not new p q.i it at_p)

  pub flips_more : (now new : Parts) (k w : ℕ) → AreFlippedTo ps old now winners k → IsAt winners k w → IsFlipped ps now new w → IsShortened ps now new → IsWhole new
      → sum_by (slot_d2 ps) new.slots < sum_by (slot_d2 ps) now.slots → AreFlippedTo ps old new winners (k + 1)
  flips_more now new k w h at_k f s whole less =
      let sum = h.falls in
      let won = winner_at k w at_k in
      let last : take (k + 1) winners ≡ take k winners ++ w ∷ [] = take_more winners k w at_k.inside ∙ ap (λ (x : ℕ). take k winners ++ x ∷ []) at_k.is in
      record {
        flipped = subst (λ (l : List ℕ). AreFlipped ps old l new) (sym last) (flipped_more ps old now new (take k winners) w h.flipped f whole);
        untouched = λ j p past at_j.
            let after = are.ascending k j w (omega arith) at_j.inside in
            let greater : w < p = subst (λ (x : ℕ). x < p) at_k.is (subst (λ (x : ℕ). get_or winners k w < x) (get_or_default winners j w p at_j.inside ∙ at_j.is) after) in
            untouched_flip ps old now new w p f won.shortens (h.untouched k w (omega arith) at_k) (h.untouched j p (omega arith) at_j) (λ same. omega arith)
            (λ t p_has w_has. (winner_at j p at_j).least w t greater won.shortens w_has p_has);
        shortened = IsShortened-trans ps old now new h.shortened s;
        whole = λ _. whole;
        count = ap (λ (l : List Tri). length l) f.tris.after ∙ (length-set (set now.tris f.tris.i f.tris.top) f.tris.j f.tris.bottom ∙ (length-set now.tris f.tris.i f.tris.top ∙ h.count));
        back = flip_back now new k w h at_k f;
        falls = omega arith;
      }
