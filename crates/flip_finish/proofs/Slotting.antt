-- The slots that two sorted lists of halves make, place by place.
use Rattle.std.proofs.Common.{◌≡◌, ℕ, ◌<◌, List, [], ◌∷◌, length, get_or, max, min, sum_by, map, zip, AllPairs, arith, ap, sym, ◌∙◌, refl, subst}
use Rattle.std.proofs.lemmas.List.{get_or_default, length-map}
use Rattle.std.proofs.lemmas.List.Sums.{sum_by-cons}
use Rattle.std.proofs.lemmas.Slice.Zip.{get_or-zip, length-zip}
use Rattle.exact_predicates.specs.declared.edge.Edge.{Edge}
use Rattle.flip_finish.specs.declared.halves.Half.{Half}
use Rattle.flip_finish.specs.declared.slot.Slot.{Slot}
use Rattle.flip_finish.specs.Mesh.{HasLeft, IsUpTo, triangle_left}
use Rattle.flip_finish.specs.Places.{IsAt}
use Rattle.flip_finish.specs.Slotted.{slot_of}
use Rattle.flip_finish.proofs.HalfSums.{IsHalfAt}
use Rattle.flip_finish.proofs.Slots.{left_down, left_up}
use Rattle.flip_finish.proofs.Standing.{IsAt-map, IsAt-only, IsAt-unmap, some_at}

-- halves with the same edges place by place, and their slots
pub record ArePaired (ups downs : List Half) (slots : List Slot) : Type 0 where
  pub edges : map (λ h. h.edge) ups ≡ map (λ h. h.edge) downs
  pub slots_are : slots ≡ map slot_of (zip ups downs)

paired_length : (ups downs : List Half) (slots : List Slot) → ArePaired ups downs slots → length ups ≡ length downs
paired_length ups downs slots w =
    let edge : Half → Edge = λ h. h.edge in
    omega (arith, length-map ups edge, length-map downs edge, ap (λ (l : List Edge). length l) w.edges)

pub slots_length : (ups downs : List Half) (slots : List Slot) → ArePaired ups downs slots → length slots ≡ length ups
slots_length ups downs slots w =
    omega (
      arith,
      ap (λ (l : List Slot). length l) w.slots_are,
      length-map (zip ups downs) slot_of,
      length-zip ups downs,
      paired_length ups downs slots w,
    )

-- the two halves of a slot
pub record HasHalves (ups downs : List Half) (p : ℕ) (s : Slot) : Type 0 where
  pub up : Half
  pub down : Half
  pub up_at : IsAt ups p up
  pub down_at : IsAt downs p down
  pub edge_up : s.edge ≡ up.edge
  pub edge_down : s.edge ≡ down.edge
  pub left : s.left ≡ up.face
  pub right : s.right ≡ down.face

pub halves_of_slot : (ups downs : List Half) (slots : List Slot) (p : ℕ) (s : Slot) → ArePaired ups downs slots → IsAt slots p s → HasHalves ups downs p s
halves_of_slot ups downs slots p s w h =
    let edge : Half → Edge = λ k. k.edge in
    let long = paired_length ups downs slots w in
    let (pair, at_p, same) = IsAt-unmap slot_of (zip ups downs) p s (subst (λ l. IsAt l p s) w.slots_are h) in
    let in_ups : p < length ups = omega (arith, slots_length ups downs slots w, h.inside) in
    let in_downs : p < length downs = omega arith in
    let is_pair = sym (get_or-zip ups downs p pair in_ups in_downs) ∙ at_p.is in
    let up : IsAt ups p pair.0 = record { inside = in_ups; is = ap (λ (k : Half × Half). k.0) is_pair } in
    let down : IsAt downs p pair.1 = record { inside = in_downs; is = ap (λ (k : Half × Half). k.1) is_pair } in
    let one_edge = IsAt-only (map edge downs) p (edge pair.0) (edge pair.1) (subst (λ l. IsAt l p (edge pair.0)) w.edges (IsAt-map edge ups p pair.0 up)) (IsAt-map edge downs p pair.1 down) in
    record {
      up = pair.0;
      down = pair.1;
      up_at = up;
      down_at = down;
      edge_up = ap (λ (k : Slot). k.edge) (sym same);
      edge_down = ap (λ (k : Slot). k.edge) (sym same) ∙ one_edge;
      left = ap (λ (k : Slot). k.left) (sym same);
      right = ap (λ (k : Slot). k.right) (sym same);
    }

-- the halves at a place are those of the slot there
slot_there : (ups downs : List Half) (slots : List Slot) (p : ℕ) → ArePaired ups downs slots → p < length ups → (s : Slot) × IsAt slots p s
slot_there ups downs slots p w l = some_at slots p (omega (arith, slots_length ups downs slots w))

-- a triangle on the left of x to y is in the half of this side
half_of_left : (slots : List Slot) (hs : List Half) (p x y t a b : ℕ) (half : Half) → (h : HasLeft slots p x y t) → IsAt hs p half → h.slot.edge ≡ half.edge
    → triangle_left h.slot x y ≡ half.face → min x y ≡ a → max x y ≡ b → IsHalfAt hs p a b t
half_of_left slots hs p x y t a b half h at_p edge face a_is b_is =
    record {
      half = half;
      half_at = at_p;
      a_is = ap (λ (e : Edge). e.a) (sym edge) ∙ (h.joins.0 ∙ a_is);
      b_is = ap (λ (e : Edge). e.b) (sym edge) ∙ (h.joins.1 ∙ b_is);
      face_is = sym face ∙ h.left;
    }

-- and the other way round
left_of_half : (slots : List Slot) (hs : List Half) (p x y t a b : ℕ) (s : Slot) (half : Half) → IsAt slots p s → IsAt hs p half → s.edge ≡ half.edge
    → triangle_left s x y ≡ half.face → min x y ≡ a → max x y ≡ b → IsHalfAt hs p a b t → HasLeft slots p x y t
left_of_half slots hs p x y t a b s half at_s at_p edge face a_is b_is h =
    let same = IsAt-only hs p half h.half at_p h.half_at in
    record {
      slot = s;
      slot_at = at_s;
      joins = (
        ap (λ (e : Edge). e.a) edge ∙ (ap (λ (g : Half). g.edge.a) same ∙ (h.a_is ∙ sym a_is)),
        ap (λ (e : Edge). e.b) edge ∙ (ap (λ (g : Half). g.edge.b) same ∙ (h.b_is ∙ sym b_is)),
      );
      left = face ∙ (ap (λ (g : Half). g.face) same ∙ h.face_is);
    }

-- upwards
pub up_of_left : (ups downs : List Half) (slots : List Slot) (p x y t : ℕ) → ArePaired ups downs slots → x < y → HasLeft slots p x y t → IsHalfAt ups p x y t
up_of_left ups downs slots p x y t w l h =
    let k = halves_of_slot ups downs slots p h.slot w h.slot_at in
    half_of_left slots ups p x y t x y k.up h k.up_at k.edge_up (left_up h.slot x y l ∙ k.left) (omega arith) (omega arith)

pub left_of_up : (ups downs : List Half) (slots : List Slot) (p x y t : ℕ) → ArePaired ups downs slots → x < y → IsHalfAt ups p x y t → HasLeft slots p x y t
left_of_up ups downs slots p x y t w l h =
    let (s, at_s) = slot_there ups downs slots p w h.half_at.inside in
    let k = halves_of_slot ups downs slots p s w at_s in
    left_of_half slots ups p x y t x y s k.up at_s k.up_at k.edge_up (left_up s x y l ∙ k.left) (omega arith) (omega arith) h

-- and downwards
pub down_of_left : (ups downs : List Half) (slots : List Slot) (p x y t : ℕ) → ArePaired ups downs slots → y < x → HasLeft slots p x y t → IsHalfAt downs p y x t
down_of_left ups downs slots p x y t w l h =
    let k = halves_of_slot ups downs slots p h.slot w h.slot_at in
    half_of_left slots downs p x y t y x k.down h k.down_at k.edge_down (left_down h.slot x y (omega arith) ∙ k.right) (omega arith) (omega arith)

pub left_of_down : (ups downs : List Half) (slots : List Slot) (p x y t : ℕ) → ArePaired ups downs slots → y < x → IsHalfAt downs p y x t → HasLeft slots p x y t
left_of_down ups downs slots p x y t w l h =
    let (s, at_s) = slot_there ups downs slots p w (omega (arith, paired_length ups downs slots w, h.half_at.inside)) in
    let k = halves_of_slot ups downs slots p s w at_s in
    left_of_half slots downs p x y t y x s k.down at_s k.down_at k.edge_down (left_down s x y (omega arith) ∙ k.right) (omega arith) (omega arith) h

-- the edges ascend as those of the ups do
pub slots_ascending : (ups downs : List Half) (slots : List Slot) → ArePaired ups downs slots → AllPairs (λ h k. IsUpTo h.edge k.edge) ups
    → AllPairs (λ s t. IsUpTo s.edge t.edge) slots
slots_ascending ups downs slots w up = λ i j d l j_in.
    let at_i : IsAt slots i (get_or slots i d) = record { inside = omega arith; is = get_or_default slots i _ d (omega arith) } in
    let at_j : IsAt slots j (get_or slots j d) = record { inside = j_in; is = get_or_default slots j _ d j_in } in
    let h = halves_of_slot ups downs slots i _ w at_i in
    let k = halves_of_slot ups downs slots j _ w at_j in
    let same_i : get_or ups i k.up ≡ h.up = get_or_default ups i k.up h.up h.up_at.inside ∙ h.up_at.is in
    let ordered = up i j k.up l k.up_at.inside in
    let first = subst (λ (g : Half). IsUpTo g.edge (get_or ups j k.up).edge) same_i ordered in
    let both = subst (λ (g : Half). IsUpTo h.up.edge g.edge) k.up_at.is first in
    subst (λ (e : Edge). IsUpTo e (get_or slots j d).edge) (sym h.edge_up) (subst (λ (e : Edge). IsUpTo h.up.edge e) (sym k.edge_up) both)

-- and are counted as theirs are
pub slots_count : (ups downs : List Half) (slots : List Slot) (f : Edge → ℕ) → ArePaired ups downs slots
    → sum_by (λ s. f s.edge) slots ≡ sum_by (λ h. f h.edge) ups
slots_count ups downs slots f w =
    ap (λ (l : List Slot). sum_by (λ s. f s.edge) l) w.slots_are ∙ zipped ups downs (paired_length ups downs slots w)
  where
    zipped : (us ds : List Half) → length us ≡ length ds → sum_by (λ s. f s.edge) (map slot_of (zip us ds)) ≡ sum_by (λ h. f h.edge) us
    zipped [] ds e = refl
    zipped (u ∷ us) [] e = absurd (omega arith)
    zipped (u ∷ us) (d ∷ ds) e =
        omega (arith, sum_by-cons (λ (s : Slot). f s.edge) (slot_of (u, d)) (map slot_of (zip us ds)), sum_by-cons (λ (h : Half). f h.edge) u us, zipped us ds (omega arith))
