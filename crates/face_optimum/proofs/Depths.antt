-- The parts beyond the other two sides of a chosen triangle are less deep than the part that it stands in.
use Rattle.std.proofs.Common.{◌≡◌, ℕ, ◌+◌, ◌-◌, ◌<◌, ◌≤◌, cond, List, length, slice_index, slice_index_or, true, false, Contains, arith, sym, ◌∙◌, subst, ⊎_elim}
use Rattle.std.proofs.lemmas.Bool.{cases_Bool, cond-false, cond-true}
use Rattle.exact_predicates.proofs.Equalities.{Joins-comm}
use Rattle.lmt_network.specs.Network.{edge_at}
use Rattle.lmt_network.specs.Numbers.{IsNumberOf}
use Rattle.face_optimum.specs.declared.cut.Cut.{Cut}
use Rattle.face_optimum.specs.declared.site.Site.{Site}
use Rattle.face_optimum.specs.Chosen.{IsPartCut}
use Rattle.face_optimum.specs.Cuts.{AreCosts, AreLegs, IsJoint}
use Rattle.face_optimum.specs.Seats.{IsOff, edge_seat, first_point, last_point, span}
use Rattle.face_optimum.specs.Sites.{IsSite, faces_of}
use Rattle.face_optimum.proofs.Costing.{joints}
use Rattle.face_optimum.proofs.Choosing.{seating_of}

-- how deep the parts beyond an edge lie
abbrev pub depth : Site → ℕ → ℕ
depth s e = cond (slice_index_or s.off.now e false) (span s.edge_seats.now e) 0

-- The triangle chosen for an edge, and its other two sides.
pub record IsChoice (s : Site) (costs : List ℕ) (e t x y : ℕ) : Type 0 where
  pub cut : Cut
  pub tri_is : cut.tri ≡ t
  pub part_cut : IsPartCut s costs e cut
  pub legs : AreLegs s.net.now cut.tri e x y
  pub first_falls : depth s x < depth s e
  pub second_falls : depth s y < depth s e

module _ (s : Site) (h : IsSite s) (costs choices : List ℕ) (c : AreCosts s.net.now s.flags.now s.skeleton.now (faces_of s) s.edge_seats.now s.tri_seats.now costs choices) where
  joint_depth : (f i l x : ℕ) → IsJoint s.net.now s.flags.now s.skeleton.now (faces_of s) s.edge_seats.now f i l x → depth s x ≤ l - i
  joint_depth f i l x j =
      ⊎_elim
      (λ (side : (l ≡ i + 1) × Contains s.skeleton.now (edge_at s.net.now x)). ⊎_elim
      (λ on. absurd (((h.off_are.each x).0 on).1.1 side.1))
      (λ off. let none = cond-false (slice_index_or s.off.now x false) (span s.edge_seats.now x) 0 off in omega (arith, none))
      (cases_Bool (slice_index_or s.off.now x false)))
      (λ (at : IsOff s.net.now s.flags.now s.skeleton.now x × ((edge_seat s.edge_seats.now x).face ≡ f) × ((edge_seat s.edge_seats.now x).first ≡ i) × ((edge_seat s.edge_seats.now x).last ≡ l)).
      let own = cond-true (slice_index_or s.off.now x false) (span s.edge_seats.now x) 0 ((h.off_are.each x).1 at.0) in
      let first = at.2 in
      let last = at.3 in
      omega (arith, own, first, last))
      j.place

  pub choice_in : (e : ℕ) → slice_index_or s.off.now e false ≡ true → slice_index choices e < length s.net.now.tris
  choice_in e on =
      let costed = c.costed e ((h.off_are.each e).0 on) in
      let t_in = costed.best.live.0 in
      omega (arith, costed.choice, t_in)

  pub choice_of : (e t x y : ℕ) → slice_index_or s.off.now e false ≡ true → t ≡ slice_index choices e → AreLegs s.net.now t e x y → IsChoice s costs e t x y
  choice_of e t x y on t_is legs =
      let n = s.net.now in
      let off = (h.off_are.each e).0 on in
      let costed = c.costed e off in
      let b = costed.best in
      let tri_is : costed.cut.tri ≡ t = sym costed.choice ∙ sym t_is in
      let moved : AreLegs n costed.cut.tri e x y = subst (λ (k : ℕ). AreLegs n k e x y) (sym tri_is) legs in
      let at = h.edges_are.sits e off in
      let e_is : IsNumberOf n (last_point (faces_of s) s.edge_seats.now e) (first_point (faces_of s) s.edge_seats.now e) e = (off.0, Joins-comm (edge_at n e) _ _ at.ends) in
      let (x_is, y_is) = moved (first_point (faces_of s) s.edge_seats.now e) b.apex (last_point (faces_of s) s.edge_seats.now e) b.corners e_is in
      let j = joints n s.flags.now s.skeleton.now (faces_of s) s.edge_seats.now s.tri_seats.now (seating_of s h) h.edges_are e costed.cut.tri b.apex x y off b.live b.corners x_is y_is in
      let own = cond-true (slice_index_or s.off.now e false) (span s.edge_seats.now e) 0 on in
      let one = joint_depth _ _ _ x j.first in
      let two = joint_depth _ _ _ y j.second in
      let ab = j.sits.first_below in
      let bc = j.sits.middle_below in
      record {
        cut = costed.cut;
        tri_is = tri_is;
        part_cut = record { off = off; best = b; cost = costed.cost };
        legs = moved;
        first_falls = omega (arith, own, one, ab, bc);
        second_falls = omega (arith, own, two, ab, bc);
      }
