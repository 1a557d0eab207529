-- The triangles of a part are those of its two parts and the one between; those of a face as well.
use Rattle.std.proofs.Common.{◌≡◌, ◌≢◌, ℕ, ◌+◌, ◌*◌, ◌<◌, ◌≤◌, List, [], ◌∷◌, ◌++◌, length, set, take, slice_index, slice_index_or, false, Contains, arith, refl, ap, sym, ◌∙◌, subst, ⊎_elim, add-one, append_assoc, get_or-set_other, get_or-set_same}
use Rattle.std.proofs.lemmas.Bool.{both_ways, cases_eq, cases_lt}
use Rattle.std.proofs.lemmas.List.{append-nil, length-set, take_more}
use Rattle.exact_predicates.specs.declared.tri.Tri.{Tri}
use Rattle.exact_predicates.specs.Candidates.{HasEdge}
use Rattle.exact_predicates.proofs.Equalities.{Contains-HasEdge, Joins-comm}
use Rattle.lmt_network.specs.Flags.{live_edges}
use Rattle.lmt_network.specs.Network.{edge_at, tri_at}
use Rattle.lmt_network.specs.Numbers.{IsNumberOf}
use Rattle.skeleton_faces.specs.Faces.{HasRoundSide}
use Rattle.face_optimum.specs.declared.cut.Cut.{Cut}
use Rattle.face_optimum.specs.declared.site.Site.{Site}
use Rattle.face_optimum.specs.SeatTables.{side_key}
use Rattle.face_optimum.specs.Chosen.{AddsPart, AreChosenUpto, ArePartTris, AreTrisOfFace, AreTrisOfFaces, IsChosenTri, IsLastSide, IsPartCut, IsRootCut, none_cut, one_cut, part, place_point, root}
use Rattle.face_optimum.specs.Cuts.{AreLegs, IsBestCut, most_cost}
use Rattle.face_optimum.specs.Parts.{IsWholePart, IsPart, IsTiling}
use Rattle.face_optimum.specs.Places.{face_at}
use Rattle.face_optimum.specs.Seats.{IsOff, edge_seat, first_point, last_point}
use Rattle.face_optimum.specs.Sites.{IsSite, faces_of}
use Rattle.face_optimum.proofs.Costing.{joint_small, joints, joints_at}
use Rattle.face_optimum.proofs.Parts.{joined, part_of_cut, side_part}
use Rattle.face_optimum.proofs.Rounds.{round_end, round_within}
use Rattle.face_optimum.proofs.Seated.{AreSeating, same_face, seating, sits_on_last}
use Rattle.lmt_network.proofs.TriangleSides.{number_once}
use Rattle.face_optimum.proofs.SideKeys.{key_down, key_once, key_up}
use Rattle.face_optimum.proofs.Small.{AreSmall, sizes_of}
use Rattle.face_optimum.proofs.Tilings.{tiling_more, tiling_none}

-- the bounded faces of a site
pub seating_of : (s : Site) → IsSite s → AreSeating s.net.now.points (live_edges s.net.now s.flags.now) s.skeleton.now (faces_of s)
seating_of s h = seating s.net.now.points s.net.now.hull (live_edges s.net.now s.flags.now) s.skeleton.now h.cycles (faces_of s) h.faces_are h.rings_are h.filled

-- three lists end to end, and one element between the first two
end_to_end : (old : List Tri) (t : Tri) (ts us xs ys zs : List Tri) → xs ≡ old ++ t ∷ [] → ys ≡ xs ++ ts → zs ≡ ys ++ us → zs ≡ old ++ (t ∷ (ts ++ us))
end_to_end old t ts us xs ys zs a b c =
    c ∙ (ap (λ l. l ++ us) (b ∙ ap (λ l. l ++ ts) a) ∙ (ap (λ l. l ++ us) (append_assoc old (t ∷ []) ts) ∙ append_assoc old (t ∷ ts) us))

module _ (s : Site) (h : IsSite s) (costs : List ℕ) where
  -- a side of a face has no part beyond it
  pub no_part : (e : ℕ) (old : List Tri) → slice_index_or s.off.now e false ≡ false → AddsPart s costs e old old
  no_part e old on f i l joint =
      ⊎_elim
      (λ (side : (l ≡ i + 1) × Contains s.skeleton.now (edge_at s.net.now e)). ([], sym (append-nil old), side_part (IsChosenTri s costs) s.skeleton.now (face_at (faces_of s) f) i l side.0, none_cut e (λ off. both_ways _ on ((h.off_are.each e).1 off))))
      (λ off. absurd (both_ways _ on ((h.off_are.each e).1 off.0)))
      joint.place

  -- the part beyond an edge outside the skeleton, from the parts beyond the other two sides of its triangle
  pub one_part : (e x y : ℕ) (c : Cut) (old xs ys zs : List Tri) → IsPartCut s costs e c → AreLegs s.net.now c.tri e x y → xs ≡ old ++ tri_at s.net.now c.tri ∷ []
      → AddsPart s costs x xs ys → AddsPart s costs y ys zs → AddsPart s costs e old zs
  one_part e x y c old xs ys zs by legs is left right f i l joint =
      ⊎_elim
      (λ (side : (l ≡ i + 1) × Contains s.skeleton.now (edge_at s.net.now e)). absurd (by.off.1.1 side.1))
      (λ (at : IsOff s.net.now s.flags.now s.skeleton.now e × ((edge_seat s.edge_seats.now e).face ≡ f) × ((edge_seat s.edge_seats.now e).first ≡ i) × ((edge_seat s.edge_seats.now e).last ≡ l)).
      moved f i l at.1 at.2 at.3)
      joint.place
    where
      here : (us : List Tri) × (zs ≡ old ++ us) × IsPart (IsChosenTri s costs) s.skeleton.now (face_at (faces_of s) (edge_seat s.edge_seats.now e).face) (edge_seat s.edge_seats.now e).first (edge_seat s.edge_seats.now e).last us
          × ArePartTris s costs e us
      here =
          let n = s.net.now in
          let b = by.best in
          let p = edge_seat s.edge_seats.now e in
          let at = h.edges_are.sits e by.off in
          let e_is : IsNumberOf n (last_point (faces_of s) s.edge_seats.now e) (first_point (faces_of s) s.edge_seats.now e) e = (by.off.0, Joins-comm (edge_at n e) _ _ at.ends) in
          let (x_is, y_is) = legs (first_point (faces_of s) s.edge_seats.now e) b.apex (last_point (faces_of s) s.edge_seats.now e) b.corners e_is in
          let j = joints n s.flags.now s.skeleton.now (faces_of s) s.edge_seats.now s.tri_seats.now (seating_of s h) h.edges_are e c.tri b.apex x y by.off b.live b.corners x_is y_is in
          let (ts, ts_is, ts_part, ts_tris) = left p.face p.first j.middle j.first in
          let (us, us_is, us_part, us_tris) = right p.face j.middle p.last j.second in
          let t = tri_at n c.tri in
          let face = face_at (faces_of s) p.face in
          let away : ¬ HasEdge s.skeleton.now (slice_index face p.first) (slice_index face p.last) = λ has. by.off.1.1 (Contains-HasEdge s.skeleton.now (edge_at n e) _ _ at.ends has) in (
            t ∷ (ts ++ us),
            end_to_end old t ts us xs ys zs is ts_is us_is,
            part_of_cut (IsChosenTri s costs) s.skeleton.now face p.first p.last (t ∷ (ts ++ us)) away
                (joined (IsChosenTri s costs) s.skeleton.now face p.first j.middle p.last t ts us j.sits.corners (part e c by refl) ts_part us_part),
            one_cut e x y c ts us by legs ts_tris us_tris,
          )

      moved : (f i l : ℕ) → (edge_seat s.edge_seats.now e).face ≡ f → (edge_seat s.edge_seats.now e).first ≡ i → (edge_seat s.edge_seats.now e).last ≡ l
          → (us : List Tri) × (zs ≡ old ++ us) × IsPart (IsChosenTri s costs) s.skeleton.now (face_at (faces_of s) f) i l us × ArePartTris s costs e us
      moved f i l f_is i_is l_is =
          let (us, us_is, is_part, us_tris) = here in (
            us,
            us_is,
            subst (λ (k : ℕ). IsPart (IsChosenTri s costs) s.skeleton.now (face_at (faces_of s) f) i k us) l_is
                (subst (λ (k : ℕ). IsPart (IsChosenTri s costs) s.skeleton.now (face_at (faces_of s) f) k (edge_seat s.edge_seats.now e).last us) i_is
                (subst (λ (k : ℕ). IsPart (IsChosenTri s costs) s.skeleton.now (face_at (faces_of s) k) (edge_seat s.edge_seats.now e).first (edge_seat s.edge_seats.now e).last us) f_is is_part)),
            us_tris,
          )

  -- all of a face, from the parts beyond the other two sides of the triangle on its last side
  pub one_face : (f e x y : ℕ) (c : Cut) (old xs ys zs : List Tri) (by : IsRootCut s costs f c) → IsNumberOf s.net.now (place_point s f by.last) (place_point s f 0) e
      → AreLegs s.net.now c.tri e x y → xs ≡ old ++ tri_at s.net.now c.tri ∷ [] → AddsPart s costs x xs ys → AddsPart s costs y ys zs
      → (us : List Tri) × (zs ≡ old ++ us) × IsWholePart (IsChosenTri s costs) s.skeleton.now (face_at (faces_of s) f) 0 by.last us × AreTrisOfFace s costs f us
  one_face f e x y c old xs ys zs by e_is legs is left right =
      let n = s.net.now in
      let b = by.best in
      let (x_is, y_is) = legs (place_point s f 0) b.apex (place_point s f by.last) b.corners e_is in
      let at = sits_on_last n.points (live_edges n s.flags.now) s.skeleton.now (faces_of s) (seating_of s h) f by.last b.apex (tri_at n c.tri) by.face_in by.last_is b.live.1 b.corners in
      let j = joints_at n s.flags.now s.skeleton.now (faces_of s) s.edge_seats.now s.tri_seats.now (seating_of s h) h.edges_are f 0 by.last c.tri b.apex x y by.face_in at x_is y_is in
      let (ts, ts_is, ts_part, ts_tris) = left f 0 j.middle j.first in
      let (us, us_is, us_part, us_tris) = right f j.middle by.last j.second in
      let t = tri_at n c.tri in (
        t ∷ (ts ++ us),
        end_to_end old t ts us xs ys zs is ts_is us_is,
        joined (IsChosenTri s costs) s.skeleton.now (face_at (faces_of s) f) 0 j.middle by.last t ts us j.sits.corners (root f c by refl) ts_part us_part,
        record { cut = c; root = by; e = e; number = e_is; x = x; y = y; legs = legs; us = ts; vs = us; first = ts_tris; second = us_tris; is = refl },
      )

  -- what the best cut on a last side costs
  root_small : (f : ℕ) (c : Cut) → IsRootCut s costs f c → AreSmall s costs → c.sum ≤ most_cost
  root_small f c by small =
      let n = s.net.now in
      let b = by.best in
      let at = sits_on_last n.points (live_edges n s.flags.now) s.skeleton.now (faces_of s) (seating_of s h) f by.last b.apex (tri_at n c.tri) by.face_in by.last_is b.live.1 b.corners in
      let j = joints_at n s.flags.now s.skeleton.now (faces_of s) s.edge_seats.now s.tri_seats.now (seating_of s h) h.edges_are f 0 by.last c.tri b.apex b.first b.second by.face_in at b.first_is b.second_is in
      let one = joint_small n s.flags.now s.skeleton.now (faces_of s) s.edge_seats.now s.tri_seats.now (seating_of s h) h.edges_are costs f 0 j.middle b.first small j.first in
      let two = joint_small n s.flags.now s.skeleton.now (faces_of s) s.edge_seats.now s.tri_seats.now (seating_of s h) h.edges_are costs f j.middle by.last b.second small j.second in
      let size = (sizes_of s h f by.face_in) in
      let last = by.last_is in
      let ab = j.sits.first_below in
      let bc = j.sits.middle_below in
      omega (arith, one, two, size, last, ab, bc, b.sum)

  round_of : (g x y : ℕ) → g < length (faces_of s) → IsLastSide s g x y → HasRoundSide (face_at (faces_of s) g) x y
  round_of g x y g_in (last, last_is, from, to) =
      (last, omega arith, round_within (face_at (faces_of s) g) last (omega arith) ∙ from, round_end (face_at (faces_of s) g) (last + 1) last_is ∙ to)

  -- one more face
  pub face_chosen : (f u v e x y : ℕ) (c : Cut) (tris xs ys zs : List Tri) (root_costs : List ℕ) → f < length (faces_of s) → IsLastSide s f u v → IsNumberOf s.net.now u v e
      → IsBestCut s.net.now s.flags.now s.tri_seats.now costs u v c → AreLegs s.net.now c.tri e x y → AreSmall s costs → xs ≡ tris ++ tri_at s.net.now c.tri ∷ []
      → AddsPart s costs x xs ys → AddsPart s costs y ys zs → AreChosenUpto s costs f tris root_costs → AreChosenUpto s costs (f + 1) zs (set root_costs (side_key e u v) c.sum)
  face_chosen f u v e x y c tris xs ys zs root_costs f_in (last, last_is, from, to) e_is best legs small is left right old =
      record {
        tiling = subst (λ (ts : List Tri). IsTiling (IsChosenTri s costs) s.skeleton.now (take (f + 1) (faces_of s)) ts) (sym us_is)
            (subst (λ (fs : List (List ℕ)). IsTiling (IsChosenTri s costs) s.skeleton.now fs (tris ++ us)) (sym (take_more (faces_of s) f [] f_in))
            (tiling_more (IsChosenTri s costs) s.skeleton.now (take f (faces_of s)) (face_at (faces_of s) f) last tris us last_is old.tiling us_cut));
        tris_are = subst (λ (k : ℕ). AreTrisOfFaces s costs k zs) (sym (add-one f)) (tris, us, old.tris_are, us_tris, us_is);
        root_costs_are = record {
          two_each = length-set root_costs (side_key e u v) c.sum ∙ old.root_costs_are.two_each;
          last_sides = λ g a b d l side d_is. ⊎_elim
              (λ (here : g ≡ f). own a b d (subst (λ (k : ℕ). IsLastSide s k a b) here side) d_is)
              (λ (other : g ≢ f). before g a b d (omega arith) side d_is)
              (cases_eq g f);
          small = λ key. ⊎_elim
              (λ (here : key ≡ side_key e u v). subst (λ (k : ℕ). slice_index (set root_costs (side_key e u v) c.sum) k ≤ most_cost) (sym here)
              (subst (λ (z : ℕ). z ≤ most_cost) (sym own_lack) (root_small f c by small)))
              (λ (other : key ≢ side_key e u v). subst (λ (z : ℕ). z ≤ most_cost) (sym (get_or-set_other root_costs (side_key e u v) key c.sum 0 other)) (old.root_costs_are.small key))
              (cases_eq key (side_key e u v));
          others = λ a b d d_is none.
              get_or-set_other root_costs (side_key e u v) (side_key d a b) c.sum 0
              (λ same. let k = key_once s.net.now a b d u v e d_is e_is same in none f (omega arith) (last, last_is, from ∙ sym k.0, to ∙ sym k.1))
              ∙ old.root_costs_are.others a b d d_is (λ g l. none g (omega arith));
        };
      }
    where
      by : IsRootCut s costs f c
      by =
          record {
            face_in = f_in;
            last = last;
            last_is = last_is;
            best = subst (λ (a : ℕ). IsBestCut s.net.now s.flags.now s.tri_seats.now costs a (place_point s f 0) c) (sym from)
                (subst (λ (b : ℕ). IsBestCut s.net.now s.flags.now s.tri_seats.now costs u b c) (sym to) best);
          }

      cut_number : IsNumberOf s.net.now (place_point s f last) (place_point s f 0) e
      cut_number = subst (λ (a : ℕ). IsNumberOf s.net.now a (place_point s f 0) e) (sym from) (subst (λ (b : ℕ). IsNumberOf s.net.now u b e) (sym to) e_is)

      whole : (us : List Tri) × (zs ≡ tris ++ us) × IsWholePart (IsChosenTri s costs) s.skeleton.now (face_at (faces_of s) f) 0 last us × AreTrisOfFace s costs f us
      whole = one_face f e x y c tris xs ys zs by cut_number legs is left right

      us : List Tri
      us = whole.0

      us_is : zs ≡ tris ++ us
      us_is = whole.1

      us_cut : IsWholePart (IsChosenTri s costs) s.skeleton.now (face_at (faces_of s) f) 0 last us
      us_cut = whole.2

      us_tris : AreTrisOfFace s costs f us
      us_tris = whole.3

      key_in : side_key e u v < length root_costs
      key_in = let two = old.root_costs_are.two_each in let e_in = e_is.0 in
          ⊎_elim (λ up. omega (arith, key_up e u v up)) (λ down. ⊎_elim
          (λ same. let l = (edge_at s.net.now e).ascending in let a = e_is.1.0 in let b = e_is.1.1 in absurd (omega arith))
          (λ ne. omega (arith, key_down e u v (omega arith))) (cases_eq u v)) (cases_lt u v)

      own_lack : slice_index (set root_costs (side_key e u v) c.sum) (side_key e u v) ≡ c.sum
      own_lack = get_or-set_same root_costs (side_key e u v) c.sum 0 key_in

      own : (a b d : ℕ) → IsLastSide s f a b → IsNumberOf s.net.now a b d
          → (k : Cut) × IsBestCut s.net.now s.flags.now s.tri_seats.now costs a b k × (slice_index (set root_costs (side_key e u v) c.sum) (side_key d a b) ≡ k.sum)
      own a b d (other_last, other_is, at_a, at_b) d_is =
          let same_last : other_last ≡ last = omega arith in
          let a_is : u ≡ a = sym from ∙ (ap (place_point s f) (sym same_last) ∙ at_a) in
          let b_is : v ≡ b = sym to ∙ at_b in
          let d_here : IsNumberOf s.net.now u v d = subst (λ (z : ℕ). IsNumberOf s.net.now z v d) (sym a_is) (subst (λ (z : ℕ). IsNumberOf s.net.now a z d) (sym b_is) d_is) in
          let edge : d ≡ e = number_once s.net.now u v d e h.network.ascending d_here e_is in (
            c,
            subst (λ (z : ℕ). IsBestCut s.net.now s.flags.now s.tri_seats.now costs z b c) a_is (subst (λ (z : ℕ). IsBestCut s.net.now s.flags.now s.tri_seats.now costs u z c) b_is best),
            subst (λ (z : ℕ). slice_index (set root_costs (side_key e u v) c.sum) (side_key d z b) ≡ c.sum) a_is
                (subst (λ (z : ℕ). slice_index (set root_costs (side_key e u v) c.sum) (side_key d u z) ≡ c.sum) b_is
                (subst (λ (z : ℕ). slice_index (set root_costs (side_key e u v) c.sum) (side_key z u v) ≡ c.sum) (sym edge) own_lack)),
          )

      before : (g a b d : ℕ) → g < f → IsLastSide s g a b → IsNumberOf s.net.now a b d
          → (k : Cut) × IsBestCut s.net.now s.flags.now s.tri_seats.now costs a b k × (slice_index (set root_costs (side_key e u v) c.sum) (side_key d a b) ≡ k.sum)
      before g a b d l side d_is =
          let (k, k_best, k_lack) = old.root_costs_are.last_sides g a b d l side d_is in
          let far : side_key d a b ≢ side_key e u v = λ same.
          let z = key_once s.net.now a b d u v e d_is e_is same in
          let here : IsLastSide s f a b = (last, last_is, from ∙ sym z.0, to ∙ sym z.1) in
          let one = same_face s.net.now.points (live_edges s.net.now s.flags.now) s.skeleton.now (faces_of s) (seating_of s h) g f a b (omega arith) f_in (round_of g a b (omega arith) side) (round_of f a b f_in here) in
          absurd (omega arith) in
          (k, k_best, get_or-set_other root_costs (side_key e u v) (side_key d a b) c.sum 0 far ∙ k_lack)

  -- none so far
  pub none_chosen : (root_costs : List ℕ) → length root_costs ≡ 2 * length s.net.now.edges → ((k : ℕ) → slice_index root_costs k ≡ 0) → AreChosenUpto s costs 0 [] root_costs
  none_chosen root_costs two_each zero =
      record {
        tiling = tiling_none (IsChosenTri s costs) s.skeleton.now;
        tris_are = refl;
        root_costs_are = record {
          two_each = two_each;
          last_sides = λ g a b d l. absurd (omega arith);
          small = λ key. let z = zero key in omega arith;
          others = λ a b d d_is none. zero _;
        };
      }
