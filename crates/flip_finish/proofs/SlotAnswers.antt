-- The slots of a triangulation are right.
use Rattle.std.proofs.Common.{◌≡◌, ℕ, ◌+◌, ◌*◌, ◌<◌, ◌^◌, List, length, sum_by, All, arith, sym, ◌∙◌, subst, ⊎_elim}
use Rattle.std.proofs.lemmas.Bool.{cases_order}
use Rattle.std.proofs.lemmas.List.Sorted.{length_permutation}
use Rattle.exact_predicates.specs.declared.edge.Edge.{Edge}
use Rattle.exact_predicates.specs.declared.tri.Tri.{Tri}
use Rattle.exact_predicates.specs.Hull.{IsHullPair, ring_pairs}
use Rattle.exact_predicates.specs.Triangulation.{HasCorners, hit}
use Rattle.exact_predicates.proofs.Corners.{corners_differ}
use Rattle.flip_finish.specs.declared.halves.Half.{Half}
use Rattle.flip_finish.specs.declared.slot.Slot.{Slot}
use Rattle.flip_finish.specs.Halves.{all_sides, half_key, turned_side}
use Rattle.flip_finish.specs.Mesh.{HasLeft}
use Rattle.flip_finish.specs.Places.{IsAt}
use Rattle.flip_finish.specs.Slotted.{AreSlots}
use Rattle.flip_finish.proofs.HalfSums.{AreMoved, downs_weigh, edge_count, half_only, half_there, half_weight, ups_weigh}
use Rattle.flip_finish.proofs.PairedHalves.{AreAscending}
use Rattle.flip_finish.proofs.SideSums.{is_face, weight_side}
use Rattle.flip_finish.proofs.Slots.{HasLeft-apart}
use Rattle.flip_finish.proofs.Slotting.{ArePaired, down_of_left, halves_of_slot, left_of_down, left_of_up, slots_ascending, slots_count, slots_length, up_of_left}
use Rattle.flip_finish.proofs.SoundSides.{IsSound, downs_sound, few_ups, ups_sound}

-- what is known of the halves, sorted, and of the slots made of them
pub record AreMade (hull : List ℕ) (tris : List Tri) (ups downs : List Half) (slots : List Slot) : Type 0 where
  pub moved : AreMoved (all_sides hull tris) ups downs
  pub paired : ArePaired ups downs slots
  pub ascending : AreAscending ups
  pub few : 3 * length tris + length hull < 2 ^ 32

-- a half that stands somewhere is sound
at_half : (P : Half → Type 0) (hs : List Half) (p : ℕ) (h : Half) → All P hs → IsAt hs p h → P h
at_half P hs p h all at_p = subst P at_p.is (all p h at_p.inside)

sound_left : (hull : List ℕ) (tris : List Tri) (ups downs : List Half) (slots : List Slot) (p x y t : ℕ) → AreMade hull tris ups downs slots
    → HasLeft slots p x y t → (tri : Tri) × (w : ℕ) × IsAt tris t tri × HasCorners tri x y w
sound_left hull tris ups downs slots p x y t m h =
    ⊎_elim
    (λ e. absurd (HasLeft-apart slots p x y t h e))
    (λ o. ⊎_elim
    (λ l.
    let k = up_of_left ups downs slots p x y t m.paired l h in
    let s = at_half (λ g. IsSound hull tris (half_key g)) ups p k.half (ups_sound hull tris m.moved.old_ups m.moved.old_downs ups m.moved.split m.moved.ups_moved) k.half_at in
    let (tri, w, at_t, corners) = s.inner t k.face_is in
    (tri, w, at_t, subst (λ n. HasCorners tri n y w) k.a_is (subst (λ n. HasCorners tri k.half.edge.a n w) k.b_is corners)))
    (λ l.
    let k = down_of_left ups downs slots p x y t m.paired l h in
    let s = at_half (λ g. IsSound hull tris (turned_side (half_key g))) downs p k.half (downs_sound hull tris m.moved.old_ups m.moved.old_downs downs m.moved.split m.moved.downs_moved) k.half_at in
    let (tri, w, at_t, corners) = s.inner t k.face_is in
    (tri, w, at_t, subst (λ n. HasCorners tri x n w) k.a_is (subst (λ n. HasCorners tri n k.half.edge.a w) k.b_is corners)))
    o)
    (cases_order x y)

-- halves of a side of a triangle weigh one
up_one : (hull : List ℕ) (tris : List Tri) (ups downs : List Half) (t : ℕ) (tri : Tri) (x y w : ℕ) → AreMoved (all_sides hull tris) ups downs
    → IsAt tris t tri → HasCorners tri x y w → x < y → sum_by (half_weight (is_face t) x y) ups ≡ 1
up_one hull tris ups downs t tri x y w m at_t c l =
    ups_weigh (all_sides hull tris) ups downs (is_face t) x y m l ∙ weight_side x y w t tris (ring_pairs hull) tri at_t c

down_one : (hull : List ℕ) (tris : List Tri) (ups downs : List Half) (t : ℕ) (tri : Tri) (x y w : ℕ) → AreMoved (all_sides hull tris) ups downs
    → IsAt tris t tri → HasCorners tri x y w → y < x → sum_by (half_weight (is_face t) y x) downs ≡ 1
down_one hull tris ups downs t tri x y w m at_t c l =
    downs_weigh (all_sides hull tris) ups downs (is_face t) y x m l ∙ weight_side x y w t tris (ring_pairs hull) tri at_t c

complete_left : (hull : List ℕ) (tris : List Tri) (ups downs : List Half) (slots : List Slot) (t : ℕ) (tri : Tri) (x y w : ℕ) → AreMade hull tris ups downs slots
    → IsAt tris t tri → HasCorners tri x y w → (p : ℕ) × HasLeft slots p x y t
complete_left hull tris ups downs slots t tri x y w m at_t c =
    ⊎_elim
    (λ e. absurd (corners_differ tri x y w c e))
    (λ o. ⊎_elim
    (λ l. let (p, h) = half_there ups x y t (up_one hull tris ups downs t tri x y w m.moved at_t c l) in (p, left_of_up ups downs slots p x y t m.paired l h))
    (λ l. let (p, h) = half_there downs y x t (down_one hull tris ups downs t tri x y w m.moved at_t c l) in (p, left_of_down ups downs slots p x y t m.paired l h))
    o)
    (cases_order x y)

unique_left : (hull : List ℕ) (tris : List Tri) (ups downs : List Half) (slots : List Slot) (p q x y t : ℕ) → AreMade hull tris ups downs slots
    → HasLeft slots p x y t → HasLeft slots q x y t → p ≡ q
unique_left hull tris ups downs slots p q x y t m h k =
    let (tri, w, at_t, c) = sound_left hull tris ups downs slots p x y t m h in
    ⊎_elim
    (λ e. absurd (corners_differ tri x y w c e))
    (λ o. ⊎_elim
    (λ l. half_only ups x y t p q (up_one hull tris ups downs t tri x y w m.moved at_t c l)
    (up_of_left ups downs slots p x y t m.paired l h) (up_of_left ups downs slots q x y t m.paired l k))
    (λ l. half_only downs y x t p q (down_one hull tris ups downs t tri x y w m.moved at_t c l)
    (down_of_left ups downs slots p x y t m.paired l h) (down_of_left ups downs slots q x y t m.paired l k))
    o)
    (cases_order x y)

pub AreSlots-made : (hull : List ℕ) (tris : List Tri) (ups downs : List Half) (slots : List Slot) → AreMade hull tris ups downs slots → AreSlots hull tris slots
AreSlots-made hull tris ups downs slots m =
    record {
      of = record {
        few = omega (
          arith,
          slots_length ups downs slots m.paired,
          length_permutation m.moved.old_ups ups m.moved.ups_moved,
          few_ups hull tris m.moved.old_ups m.moved.old_downs m.moved.split,
          m.few,
        );
        sound = λ p x y t h. sound_left hull tris ups downs slots p x y t m h;
        complete = λ t tri x y w at_t c. complete_left hull tris ups downs slots t tri x y w m at_t c;
        unique = λ p q x y t h k. unique_left hull tris ups downs slots p q x y t m h k;
      };
      outer_left = λ p s at_p none.
          let k = halves_of_slot ups downs slots p s m.paired at_p in
          let sound = at_half (λ g. IsSound hull tris (half_key g)) ups p k.up (ups_sound hull tris m.moved.old_ups m.moved.old_downs ups m.moved.split m.moved.ups_moved) k.up_at in
          subst (λ (e : Edge). IsHullPair hull e.b e.a) (sym k.edge_up) (sound.outer (sym k.left ∙ none));
      outer_right = λ p s at_p none.
          let k = halves_of_slot ups downs slots p s m.paired at_p in
          let sound = at_half (λ g. IsSound hull tris (turned_side (half_key g))) downs p k.down (downs_sound hull tris m.moved.old_ups m.moved.old_downs downs m.moved.split m.moved.downs_moved) k.down_at in
          subst (λ (e : Edge). IsHullPair hull e.a e.b) (sym k.edge_down) (sound.outer (sym k.right ∙ none));
      ascending = slots_ascending ups downs slots m.paired m.ascending;
      each = λ x y l. slots_count ups downs slots (λ e. hit x y (e.a, e.b)) m.paired ∙ edge_count hull tris ups downs x y m.moved l;
    }
