-- The seat of a triangle, by the links along its sides.
use Rattle.std.proofs.Common.{◌≡◌, ℕ, List, Bool, Option, None, Some, sym, subst}
use Rattle.exact_predicates.specs.declared.tri.Tri.{Tri}
use Rattle.lmt_network.specs.Network.{NetworkParts}
use Rattle.face_optimum.specs.declared.seat.Link.{Link}
use Rattle.face_optimum.specs.declared.seat.TriSeat.{TriSeat}
use Rattle.face_optimum.specs.SeatTables.{AreRound, IsLink, IsTriLinked}

some_link : (x y : Link) → Some x ≡ Some y → x ≡ y
some_link x y h = cc

no_link : (x : Link) → None ≡ Some x → ⊥
no_link x h = cc

module _ (n : NetworkParts) (faces : List (List ℕ)) (off : List Bool) (t : Tri) where
  -- the only link of a side
  abbrev pub IsOnly : ℕ → ℕ → Option Link → Type 0
  IsOnly u v found = (x : Link) → IsLink n faces off u v x → found ≡ Some x

  pub none_linked : (u v : ℕ) (y : Link) → IsOnly u v None → ¬ IsLink n faces off u v y
  none_linked u v y only is = no_link y (only y is)

  pub tri_only : (x y z : Link) (found : Option TriSeat) → IsOnly t.a t.b (Some x) → IsOnly t.b t.c (Some y) → IsOnly t.c t.a (Some z)
      → ((s : TriSeat) → AreRound s x y z → found ≡ Some s) → (s : TriSeat) → IsTriLinked n faces off t s → found ≡ Some s
  tri_only x y z found ox oy oz only s h =
      let ex = some_link x h.ab (ox h.ab h.ab_is) in
      let ey = some_link y h.bc (oy h.bc h.bc_is) in
      let ez = some_link z h.ca (oz h.ca h.ca_is) in
      only s (subst (λ (a : Link). AreRound s a y z) (sym ex) (subst (λ (b : Link). AreRound s h.ab b z) (sym ey) (subst (λ (c : Link). AreRound s h.ab h.bc c) (sym ez) h.round)))
