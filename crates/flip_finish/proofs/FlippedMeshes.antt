-- A flip of faces and slots is a flip of the mesh, and keeps what a triangulation keeps.
use Rattle.std.proofs.Common.{◌≡◌, ◌≢◌, ℕ, ◌<◌, List, Option, Some, None, arith, sym, ◌∙◌, subst, ⊎_elim}
use Rattle.std.proofs.lemmas.Bool.{cases_eq, cases_lt}
use Rattle.std.proofs.lemmas.Option.{none-some}
use Rattle.exact_predicates.specs.declared.edge.Edge.{Edge}
use Rattle.exact_predicates.specs.declared.point.Point.{Point}
use Rattle.exact_predicates.specs.Flip.{IsShortening}
use Rattle.exact_predicates.specs.Hull.{IsHull, IsHullPair}
use Rattle.exact_predicates.proofs.Flips.{IsNotLonger-flip, IsTriangulation-flip, sum_d2-flip}
use Rattle.flip_finish.specs.declared.across.Across.{Across}
use Rattle.flip_finish.specs.declared.face.Face.{Face}
use Rattle.flip_finish.specs.declared.slot.Slot.{Slot}
use Rattle.flip_finish.specs.Across.{IsAcross, IsExchanged}
use Rattle.flip_finish.specs.Face.{Fits, HasSides, face_tris}
use Rattle.flip_finish.specs.Flipping.{IsLowered, IsSameBut, IsShortened}
use Rattle.flip_finish.specs.Mesh.{IsMeshOf, triangle_left}
use Rattle.flip_finish.specs.Places.{IsAt}
use Rattle.flip_finish.proofs.FlipSteps.{Step, new_ab, new_ba, new_faces, new_slots}
use Rattle.flip_finish.proofs.FlippedEdges.{each-step}
use Rattle.flip_finish.proofs.Flipped.{IsFlip-step, length-step, others-step, within-step}
use Rattle.flip_finish.proofs.Quads.{parts}
use Rattle.flip_finish.proofs.Slots.{left_down, left_up}
use Rattle.flip_finish.proofs.Standing.{IsAt-only, some_at}

-- a slot with nothing on one side had nothing there before
outer_before : (s : Step) (p : ℕ) (now : Slot) → IsAt (new_slots s) p now
    → (now.left ≡ None → (old : Slot) × IsAt s.slots p old × (old.left ≡ None) × (now.edge ≡ old.edge))
    × (now.right ≡ None → (old : Slot) × IsAt s.slots p old × (old.right ≡ None) × (now.edge ≡ old.edge))
outer_before s p now at_p =
    ⊎_elim
    (λ e.
    let (left, right) = diagonal_full now (subst (λ n. IsAt (new_slots s) n now) e at_p) in
    (λ none. absurd (none-some left.0 (sym none ∙ left.1)), λ none. absurd (none-some right.0 (sym none ∙ right.1))))
    (λ ne.
    let (old, at_old) = some_at s.slots p (omega (arith, length-step s, at_p.inside)) in
    let m = others-step s p old now ne at_old at_p in
    (λ none. (old, at_old, was_none old.left now.left m.left none, m.edge), λ none. (old, at_old, was_none old.right now.right m.right none, m.edge)))
    (cases_eq p s.slot)
  where
    was_none : (o n : Option ℕ) → IsSameBut s.i s.j o n → n ≡ None → o ≡ None
    was_none o n same none =
        ⊎_elim (λ e. e ∙ none) (λ k. ⊎_elim (λ (e, f). absurd (none-some s.j (sym none ∙ f))) (λ (e, f). absurd (none-some s.i (sym none ∙ f))) k) same

    diagonal_full : (now : Slot) → IsAt (new_slots s) s.slot now → ((t : ℕ) × (now.left ≡ Some t)) × ((t : ℕ) × (now.right ≡ Some t))
    diagonal_full now here =
        let ab = new_ab s in
        let ba = new_ba s in
        let same_ab = IsAt-only (new_slots s) s.slot ab.slot now ab.slot_at here in
        let same_ba = IsAt-only (new_slots s) s.slot ba.slot now ba.slot_at here in
        let l_ab = subst (λ k. triangle_left k s.a s.b ≡ Some s.j) same_ab ab.left in
        let l_ba = subst (λ k. triangle_left k s.b s.a ≡ Some s.i) same_ba ba.left in
        ⊎_elim
        (λ l. ((s.j, sym (left_up now s.a s.b l) ∙ l_ab), (s.i, sym (left_down now s.b s.a (omega arith)) ∙ l_ba)))
        (λ l.
        let g : s.b < s.a = omega (arith, s.apart) in
        ((s.i, sym (left_up now s.b s.a g) ∙ l_ba), (s.j, sym (left_down now s.a s.b l) ∙ l_ab)))
        (cases_lt s.a s.b)

-- the mesh stays one of a triangulation with its hull
IsMeshOf-step : (ps : List Point) (hull : List ℕ) (s : Step) → IsShortening ps s.u s.v s.a s.b → IsHull ps hull
    → IsMeshOf ps hull (parts s.faces s.slots) → IsMeshOf ps hull (parts (new_faces s) (new_slots s))
IsMeshOf-step ps hull s short h m =
    record {
      tris = IsTriangulation-flip ps hull (face_tris s.faces) (face_tris (new_faces s)) s.u s.v s.a s.b h m.tris (IsFlip-step s) short;
      each = each-step ps hull s short h m.tris m.each;
      outer_left = λ p now at_p none.
          let (old, at_old, was, same) = (outer_before s p now at_p).0 none in
          subst (λ (e : Edge). IsHullPair hull e.b e.a) (sym same) (m.outer_left p old at_old was);
      outer_right = λ p now at_p none.
          let (old, at_old, was, same) = (outer_before s p now at_p).1 none in
          subst (λ (e : Edge). IsHullPair hull e.a e.b) (sym same) (m.outer_right p old at_old was);
    }

pub IsShortened-step : (ps : List Point) (s : Step) → IsShortening ps s.u s.v s.a s.b
    → IsShortened ps (parts s.faces s.slots) (parts (new_faces s) (new_slots s))
IsShortened-step ps s short =
    record {
      slots = length-step s;
      within = within-step ps s;
      kept = λ hull h m. IsMeshOf-step ps hull s short h m;
      not_longer = λ hull h m. IsNotLonger-flip ps hull (face_tris s.faces) (face_tris (new_faces s)) s.u s.v s.a s.b h m.tris (IsFlip-step s) short;
    }

pub IsLowered-step : (ps : List Point) (s : Step) → IsShortening ps s.u s.v s.a s.b → IsLowered ps (parts s.faces s.slots) (parts (new_faces s) (new_slots s))
IsLowered-step ps s short = λ hull h m.
    sum_d2-flip ps hull (face_tris s.faces) (face_tris (new_faces s)) s.u s.v s.a s.b h m.tris (IsFlip-step s) short

-- what the code writes is a flip of faces and slots
abbrev pub step : (faces new : List Face) (slots after : List Slot) (slot : ℕ) (x : Across) → Fits faces slots → IsAcross faces slot x
    → IsExchanged faces new slots after x → x.left.w ≢ x.right.w → Step
step faces new slots after slot x fits h e apart =
    record {
      faces = faces;
      slots = slots;
      slot = x.left.uv;
      u = x.left.u;
      v = x.left.v;
      a = x.left.w;
      b = x.right.w;
      i = x.i;
      j = x.j;
      va = x.left.vw;
      au = x.left.wu;
      ub = x.right.vw;
      bv = x.right.wu;
      left = h.left.face;
      right = h.right.face;
      top = e.top;
      bottom = e.bottom;
      diagonal = e.diagonal;
      ub_slot = e.ub_slot;
      va_slot = e.va_slot;
      fits = fits;
      left_at = h.left.face_at;
      right_at = h.right.face_at;
      left_is = h.left.sides;
      right_is =
          subst (λ n. HasSides h.right.face n x.left.u x.right.w x.left.uv x.right.vw x.right.wu) h.v_is
          (subst (λ n. HasSides h.right.face x.right.u n x.right.w x.left.uv x.right.vw x.right.wu) h.u_is
          (subst (λ n. HasSides h.right.face x.right.u x.right.v x.right.w n x.right.vw x.right.wu) (h.right.slot_is ∙ sym h.left.slot_is) h.right.sides));
      apart = apart;
      top_is = e.top_is;
      bottom_is = e.bottom_is;
      diagonal_is = e.diagonal_is;
      ub_at = e.ub_at;
      va_at = e.va_at;
    }
