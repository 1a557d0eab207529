-- The triangles of the best cuts are those that the rule chooses.
use Rattle.std.proofs.Common.{◌≡◌, ℕ, zero, suc, ◌-◌, ◌≤◌, List, ◌∷◌, ◌++◌, length, arith, sym, subst, ⊎_elim}
use Rattle.exact_predicates.specs.declared.tri.Tri.{Tri}
use Rattle.exact_predicates.proofs.Equalities.{Joins-comm}
use Rattle.lmt_network.specs.Flags.{live_edges}
use Rattle.lmt_network.specs.Network.{edge_at, tri_at}
use Rattle.lmt_network.specs.Numbers.{IsNumberOf}
use Rattle.lmt_network.specs.PriceTables.{PriceTable}
use Rattle.face_optimum.specs.declared.site.Site.{Site}
use Rattle.face_optimum.specs.Chosen.{AreRootCosts, ArePartTris, AreTrisOfFace, AreTrisOfFaces, none_cut, one_cut, place_point}
use Rattle.face_optimum.specs.Cuts.{AreCosts, IsJoint}
use Rattle.face_optimum.specs.FaceRule.{AreChosen, AreChosenIn, adjacent, split}
use Rattle.face_optimum.specs.Places.{face_at}
use Rattle.face_optimum.specs.Priced.{ArePriced}
use Rattle.face_optimum.specs.Seats.{edge_seat, first_point, last_point}
use Rattle.face_optimum.specs.Sites.{IsSite, faces_of}
use Rattle.lmt_network.proofs.TriangleSides.{number_once}
use Rattle.face_optimum.proofs.Slacks.{own_base, part_base}
use Rattle.face_optimum.proofs.FaceCosts.{cost, ruled}

module _ (s : Site) (h : IsSite s) (costs choices : List ℕ) (c : AreCosts s.net.now s.flags.now s.skeleton.now (faces_of s) s.edge_seats.now s.tri_seats.now costs choices)
    (root_costs : List ℕ) (l : AreRootCosts s costs (length (faces_of s)) root_costs) (table : PriceTable) (p : ArePriced s costs root_costs table) where
  abbrev Joint : ℕ → ℕ → ℕ → ℕ → Type 0
  Joint f i m x = IsJoint s.net.now s.flags.now s.skeleton.now (faces_of s) s.edge_seats.now f i m x

  -- the triangles of a part are those that the rule chooses for it
  abbrev Chosen : ℕ → ℕ → ℕ → List Tri → Type 0
  Chosen f i m ts = AreChosen s.net.now.points (live_edges s.net.now s.flags.now) s.skeleton.now (face_at (faces_of s) f) (cost s h costs choices c root_costs l table p f) i m ts

  -- an edge that joins the same two points as a joint does
  joint_moved : (f i m x y : ℕ) → Joint f i m x → IsNumberOf s.net.now (place_point s f i) (place_point s f m) y → Joint f i m y
  joint_moved f i m x y j y_is =
      subst (λ (z : ℕ). Joint f i m z) (number_once s.net.now (place_point s f i) (place_point s f m) x y h.network.ascending j.number y_is) j

  pub part_chosen : (e : ℕ) (ts : List Tri) → ArePartTris s costs e ts → (f i m : ℕ) → Joint f i m e → Chosen f i m ts
  part_chosen e _ (none_cut _ on) f i m j =
      ⊎_elim
      (λ side. adjacent i m side.0)
      (λ at. absurd (on at.0))
      j.place
  part_chosen e _ (one_cut _ x y k us vs by legs first second) f i m j =
      ⊎_elim
      (λ side. absurd (by.off.1.1 side.1))
      (λ at.
      let n = s.net.now in
      let b = part_base s h costs choices c root_costs l table p e k by in
      let r = ruled s h costs choices c root_costs l table p _ _ _ k b in
      let e_is : IsNumberOf n (last_point (faces_of s) s.edge_seats.now e) (first_point (faces_of s) s.edge_seats.now e) e = (by.off.0, Joins-comm (edge_at n e) _ _ (h.edges_are.sits e by.off).ends) in
      let (x_is, y_is) = legs (first_point (faces_of s) s.edge_seats.now e) b.best.apex (last_point (faces_of s) s.edge_seats.now e) b.best.corners e_is in
      let x_once = number_once n _ _ b.best.first x h.network.ascending b.best.first_is x_is in
      let y_once = number_once n _ _ b.best.second y h.network.ascending b.best.second_is y_is in
      let seat = edge_seat s.edge_seats.now e in
      let left = part_chosen x us first seat.face seat.first r.middle (subst (λ (z : ℕ). Joint seat.face seat.first r.middle z) x_once r.first) in
      let right = part_chosen y vs second seat.face r.middle seat.last (subst (λ (z : ℕ). Joint seat.face r.middle seat.last z) y_once r.second) in
      subst (λ (a : ℕ). Chosen f i a (tri_at n k.tri ∷ (us ++ vs))) at.3
      (subst (λ (a : ℕ). Chosen f a seat.last (tri_at n k.tri ∷ (us ++ vs))) at.2
      (subst (λ (a : ℕ). Chosen a seat.first seat.last (tri_at n k.tri ∷ (us ++ vs))) at.1
      (split seat.first r.middle seat.last (tri_at n k.tri) us vs r.best left right))))
      j.place

  face_chosen : (f : ℕ) (ts : List Tri) → AreTrisOfFace s costs f ts → Chosen f 0 (length (face_at (faces_of s) f) - 1) ts
  face_chosen f ts a =
      let n = s.net.now in
      let b = own_base s h costs choices c root_costs l table p f a.cut a.root in
      let r = ruled s h costs choices c root_costs l table p f 0 a.root.last a.cut b in
      let (x_is, y_is) = a.legs (place_point s f 0) b.best.apex (place_point s f a.root.last) b.best.corners a.number in
      let x_once = number_once n _ _ b.best.first a.x h.network.ascending b.best.first_is x_is in
      let y_once = number_once n _ _ b.best.second a.y h.network.ascending b.best.second_is y_is in
      let left = part_chosen a.x a.us a.first f 0 r.middle (subst (λ (z : ℕ). Joint f 0 r.middle z) x_once r.first) in
      let right = part_chosen a.y a.vs a.second f r.middle a.root.last (subst (λ (z : ℕ). Joint f r.middle a.root.last z) y_once r.second) in
      let last_is = a.root.last_is in
      let last : a.root.last ≡ length (face_at (faces_of s) f) - 1 = omega arith in
      subst (λ (k : ℕ). Chosen f 0 k ts) last
      (subst (λ (us : List Tri). Chosen f 0 a.root.last us) (sym a.is) (split 0 r.middle a.root.last (tri_at n a.cut.tri) a.us a.vs r.best left right))

  pub faces_chosen : (count : ℕ) (ts : List Tri) → count ≤ length (faces_of s) → AreTrisOfFaces s costs count ts
      → AreChosenIn s.net.now.points (live_edges s.net.now s.flags.now) s.skeleton.now (faces_of s) (cost s h costs choices c root_costs l table p) count ts
  faces_chosen zero ts upto is = is
  faces_chosen (suc f) ts upto (us, vs, us_are, vs_are, is) = (us, vs, faces_chosen f us (omega arith) us_are, face_chosen f vs vs_are, is)
