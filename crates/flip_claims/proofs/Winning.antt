-- The slots that hold both of their triangles are the winners.
use Rattle.std.proofs.Common.{AllPairs, ◌≡◌, ◌↔◌, ℕ, zero, suc, ◌<◌, ◌≤◌, List, length, get_or, slice_index, Contains, sym, ap, ◌∙◌, subst, ⊎_elim, arith}
use Rattle.std.proofs.lemmas.Bool.{cases_lt}
use Rattle.std.proofs.lemmas.List.Elements.{All-contains}
use Rattle.exact_predicates.specs.declared.point.Point.{Point}
use Rattle.flip_finish.specs.declared.slot.Slot.{Slot}
use Rattle.flip_finish.specs.Flipping.{HasQuad, Shortens}
use Rattle.flip_finish.specs.Mesh.{IsWhole, Parts}
use Rattle.flip_finish.specs.Winners.{AreWinners, HasPair, HasTriangle, IsWinner}
use Rattle.flip_finish.proofs.Seeing.{HasLeft-down, HasLeft-up}
use Rattle.flip_finish.proofs.Slots.{left_down, left_up}
use Rattle.flip_finish.proofs.Standing.{IsAt-only}
use Rattle.flip_claims.specs.Rounds.{AreLeast, ArePicked, AreShortening, HasTwo, HoldsBoth}
use Rattle.flip_claims.specs.Words.{unclaimed}
use Rattle.flip_claims.proofs.Picking.{few_below}
use Rattle.flip_claims.proofs.Triangles.{one_of_two}

-- the two triangles of a quadrilateral are those of the slot
pub pair_of_quad : (m : Parts) (slot u v a b : ℕ) (q : HasQuad m slot u v a b) → HasPair m slot q.i q.j
pair_of_quad m slot u v a b q =
    let it = q.left.slot in
    let same = IsAt-only m.slots slot q.right.slot it q.right.slot_at q.left.slot_at in
    let up = q.up in
    let down : u ≤ v = omega arith in
    record {
      it = it;
      it_at = q.left.slot_at;
      left = sym (left_up it u v up) ∙ q.left.left;
      right = ap (λ (s : Slot). s.right) (sym same) ∙ (sym (left_down q.right.slot v u down) ∙ q.right.left);
    }

pub has_two : (ps : List Point) (m : Parts) (slot : ℕ) → Shortens ps m slot → HasTwo m slot
has_two ps m slot s = (s.quad.i, s.quad.j, pair_of_quad m slot s.u s.v s.a s.b s.quad)

-- a triangle of a slot is one of the mesh
triangle_in : (m : Parts) (slot t : ℕ) → IsWhole m → HasTriangle m slot t → t < length m.tris
triangle_in m slot t whole h =
    ⊎_elim
    (λ left. let (tri, w, at_t, corners) = whole.of_slot slot h.it.edge.a h.it.edge.b t (HasLeft-up m.slots slot t h.it h.it_at left) in at_t.inside)
    (λ right. let (tri, w, at_t, corners) = whole.of_slot slot h.it.edge.b h.it.edge.a t (HasLeft-down m.slots slot t h.it h.it_at right) in at_t.inside)
    h.has

-- a slot holds both where its two words are its number
pub both_held : (m : Parts) (words : List ℕ) (slot l r : ℕ) → HasPair m slot l r → slice_index words l ≡ slot → slice_index words r ≡ slot → HoldsBoth m words slot
both_held m words slot l r pair left right t has =
    ⊎_elim
    (λ (is : l ≡ t). subst (λ (i : ℕ). slice_index words i ≡ slot) is left)
    (λ (is : r ≡ t). subst (λ (i : ℕ). slice_index words i ≡ slot) is right)
    (one_of_two m slot l r t pair has)

module _ (ps : List Point) (m : Parts) (slots words : List ℕ) (short : AreShortening ps m slots) (least : AreLeast m slots words) where
  -- one that shortens and holds both is a winner
  holder_wins : (slot : ℕ) → Shortens ps m slot → HoldsBoth m words slot → IsWinner ps m slot
  holder_wins slot s both = record {
    shortens = s;
    least = λ p t below p_short p_has has.
        let low = least.most p t (short.all p p_short) p_has in
        let own = both t has in
        omega arith;
  }

  -- and a winner holds both
  winner_holds : (slot : ℕ) → IsWhole m → slot < unclaimed → IsWinner ps m slot → HoldsBoth m words slot
  winner_holds slot whole small win t has =
      let low = least.most slot t (short.all slot win.shortens) has in
      ⊎_elim
      (λ (free : slice_index words t ≡ unclaimed). absurd (omega arith))
      (λ (q : Contains slots (slice_index words t) × HasTriangle m (slice_index words t) t).
      ⊎_elim
      (λ (less : slice_index words t < slot). absurd (win.least (slice_index words t) t less (All-contains (Shortens ps m) slots (slice_index words t) short.each q.0) q.1 has))
      (λ (more : slot ≤ slice_index words t). let is : slice_index words t ≡ slot = omega arith in is)
      (cases_lt (slice_index words t) slot))
      (least.among t (triangle_in m slot t whole has))

  pub winners_are : IsWhole m → length m.slots ≤ unclaimed → (held : List ℕ) → ArePicked (HoldsBoth m words) slots held → AreWinners ps m held
  winners_are whole few held picked = record {
    ascending = picked.ascending;
    each = λ k d low. holder_wins _ (All-contains (Shortens ps m) slots _ short.each (picked.within k d low)) (picked.each k d low);
    all = λ slot win.
        let inside = win.shortens.quad.left.slot_at.inside in
        picked.all slot (short.all slot win.shortens) (winner_holds slot whole (omega arith) win);
  }

-- the slots that shorten, picked of a list that has all that do
pub shortening_are : (ps : List Point) (m : Parts) (all found : List ℕ) → ((s : ℕ) → Shortens ps m s → Contains all s) → ArePicked (Shortens ps m) all found → AreShortening ps m found
shortening_are ps m all found every picked = record {
  ascending = picked.ascending;
  each = picked.each;
  all = λ slot s. picked.all slot (every slot s) s;
}

-- where there is no winner, no slot shortens: the least one that does would be a winner
none_below : (ps : List Point) (m : Parts) (winners : List ℕ) → AreWinners ps m winners → length winners ≡ 0 → (n p : ℕ) → p < n → ¬ Shortens ps m p
none_below ps m winners are none zero p low s = absurd (omega arith)
none_below ps m winners are none (suc n) p low s =
    let win : IsWinner ps m p = record { shortens = s; least = λ q t below q_short q_has has. none_below ps m winners are none n q (omega arith) q_short } in
    let (k, k_in, at_k) = are.all p win in
    omega arith

-- there is no winner exactly where no slot shortens
pub none_wins : (ps : List Point) (m : Parts) (winners : List ℕ) → AreWinners ps m winners → (length winners ≡ 0) ↔ ((slot : ℕ) → ¬ Shortens ps m slot)
none_wins ps m winners are = (
  (λ none slot. none_below ps m winners are none (suc slot) slot (omega arith)),
  λ still. ⊎_elim
      (λ (some : 0 < length winners). absurd (still (get_or winners 0 0) (are.each 0 0 some).shortens))
      (λ (none : length winners ≤ 0). omega arith)
      (cases_lt 0 (length winners)),
)

-- where a slot shortens there is one
pub some_wins : (ps : List Point) (m : Parts) (slots winners : List ℕ) → AreShortening ps m slots → AreWinners ps m winners → 0 < length slots → 0 < length winners
some_wins ps m slots winners short are some =
    ⊎_elim
    (λ (won : 0 < length winners). won)
    (λ (none : length winners ≤ 0). absurd ((none_wins ps m winners are).0 (omega arith) (get_or slots 0 0) (short.each 0 0 some)))
    (cases_lt 0 (length winners))

-- no two winners share a triangle
pub winners_apart : (ps : List Point) (m : Parts) (winners : List ℕ) → AreWinners ps m winners → AllPairs (λ p q. (t : ℕ) → HasTriangle m p t → ¬ HasTriangle m q t) winners
winners_apart ps m winners are i j d before low t p_has q_has =
    (are.each j d low).least (get_or winners i d) t (are.ascending i j d before low) (are.each i d (omega arith)).shortens p_has q_has

-- there are no more winners than slots
pub few_winners : (ps : List Point) (m : Parts) (winners : List ℕ) → AreWinners ps m winners → length winners ≤ length m.slots
few_winners ps m winners are = few_below winners (length m.slots) are.ascending (λ k d low. (are.each k d low).shortens.quad.left.slot_at.inside)
