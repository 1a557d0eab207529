-- What the parts of faces cost by the places, as their shares show, follows the rule.
use Rattle.std.proofs.Common.{◌≡◌, ◌⊎◌, ℕ, suc, ◌+◌, ◌-◌, ◌<◌, ◌≤◌, ◌==◌, Bool, true, false, cond, List, [], length, slice_index, All, Contains, ℤ, pos, negsuc, ◌-ℤ◌, arith, refl, ap, sym, ◌∙◌, subst, ⊎_elim, inl, inr}
use Rattle.std.proofs.lemmas.Bool.{cond-false, cond-true, eq-eqb, eqb-true}
use Rattle.std.proofs.lemmas.Int.{ints}
use Rattle.std.proofs.lemmas.List.{get_or_default}
use Rattle.exact_predicates.specs.declared.edge.Edge.{Edge}
use Rattle.exact_predicates.specs.declared.tri.Tri.{Tri}
use Rattle.exact_predicates.specs.Candidates.{HasEdge, IsEmptyOver}
use Rattle.exact_predicates.proofs.Corners.{turned_corners}
use Rattle.exact_predicates.proofs.Equalities.{Contains-HasEdge, Joins-comm}
use Rattle.length_enclosure.specs.Enclosure.{weight}
use Rattle.lmt_network.specs.Flags.{live_edges, live_numbers}
use Rattle.lmt_network.specs.Network.{edge_at, tri_at}
use Rattle.lmt_network.specs.Numbers.{IsNumberOf}
use Rattle.lmt_network.specs.PriceTables.{PriceTable, table_prices}
use Rattle.lmt_network.specs.Prices.{share}
use Rattle.lmt_network.proofs.Naming.{flags_named}
use Rattle.face_optimum.specs.declared.cut.Cut.{Cut}
use Rattle.face_optimum.specs.declared.site.Site.{Site}
use Rattle.face_optimum.specs.Chosen.{AreRootCosts, place_point}
use Rattle.face_optimum.specs.Cuts.{AreCosts, IsJoint, weight_of}
use Rattle.face_optimum.specs.Decomposition.{IsSized}
use Rattle.face_optimum.specs.FaceRule.{AreFaceCosts, IsBestBetween, IsLeastSum}
use Rattle.face_optimum.specs.Places.{IsEdgeAt, IsOffSkeleton, IsTriAt, face_at}
use Rattle.face_optimum.specs.Priced.{ArePriced}
use Rattle.face_optimum.specs.Seats.{IsLiveTri, IsOff, edge_seat, tri_seat}
use Rattle.face_optimum.specs.Sites.{IsSite, faces_of, most_places}
use Rattle.face_optimum.proofs.Choosing.{seating_of}
use Rattle.face_optimum.proofs.Costing.{joint, joints_at}
use Rattle.face_optimum.proofs.Pricing.{last_in_skeleton, skeleton_number}
use Rattle.face_optimum.proofs.Seated.{next_side, round_edge, same_seat}
use Rattle.face_optimum.proofs.Shares.{gives_joint}
use Rattle.face_optimum.proofs.Sides.{number_of}
use Rattle.face_optimum.proofs.Slacks.{IsBase, live_number, part_base, root_base}

-- how great a number is in size
size : ℤ → ℕ
size (pos n) = n
size (negsuc n) = suc n

size_pos : (z : ℤ) (n : ℕ) → z ≡ pos n → size z ≡ n
unfolding size
size_pos (pos m) n e = omega (arith, ints, e)
size_pos (negsuc m) n e = absurd (omega (arith, ints, e))

size_less : (z : ℤ) (n : ℕ) → z ≡ pos 0 -ℤ pos n → size z ≡ n
unfolding size
size_less (pos m) n e = omega (arith, ints, e)
size_less (negsuc m) n e = omega (arith, ints, e)

-- whether i and l are the first and the last of so many places
is_whole : ℕ → ℕ → ℕ → Bool
is_whole i l places = cond (i == 0) (l + 1 == places) false

whole_true : (i l places : ℕ) → i ≡ 0 → l + 1 ≡ places → is_whole i l places ≡ true
unfolding is_whole
whole_true i l places e f = cond-true (i == 0) _ _ (eq-eqb i 0 e) ∙ eq-eqb (l + 1) places f

whole_false : (i l places : ℕ) → ¬ ((i ≡ 0) × (l + 1 ≡ places)) → is_whole i l places ≡ false
unfolding is_whole
whole_false i l places inner = at (i == 0) (l + 1 == places) refl refl
  where
    at : (b d : Bool) → (i == 0) ≡ b → (l + 1 == places) ≡ d → cond b d false ≡ false
    at true true e f = absurd (inner (eqb-true i 0 e, eqb-true (l + 1) places f))
    at true false e f = refl
    at false d e f = refl

module _ (s : Site) (h : IsSite s) (costs choices : List ℕ) (c : AreCosts s.net.now s.flags.now s.skeleton.now (faces_of s) s.edge_seats.now s.tri_seats.now costs choices)
    (root_costs : List ℕ) (l : AreRootCosts s costs (length (faces_of s)) root_costs) (table : PriceTable) (p : ArePriced s costs root_costs table) where
  abbrev gives : ℕ → ℕ → ℤ
  gives u v = share s.net.now.points s.net.now.hull (table_prices s.net.now table (live_numbers s.flags.now)) u v

  abbrev Joint : ℕ → ℕ → ℕ → ℕ → Type 0
  Joint f i m x = IsJoint s.net.now s.flags.now s.skeleton.now (faces_of s) s.edge_seats.now f i m x

  abbrev SitsAt : ℕ → ℕ → ℕ → ℕ → Tri → Type 0
  SitsAt f i j m t = IsTriAt s.net.now.points (live_edges s.net.now s.flags.now) s.skeleton.now (face_at (faces_of s) f) i j m t

  abbrev BaseAt : ℕ → ℕ → ℕ → Cut → Type 0
  BaseAt f i m k = IsBase s h costs choices c root_costs l table p f i m k

  -- F of the places i and m of the face f: what the side from the first of them to the second is given, or the side from the
  -- last place of all to the first is given less than nothing
  pub cost : ℕ → ℕ → ℕ → ℕ
  cost f i m = size (cond (is_whole i m (length (face_at (faces_of s) f))) (gives (place_point s f m) (place_point s f i)) (gives (place_point s f i) (place_point s f m)))

  whole_cost : (f i m n : ℕ) → i ≡ 0 → m + 1 ≡ length (face_at (faces_of s) f) → gives (place_point s f m) (place_point s f i) ≡ pos 0 -ℤ pos n → cost f i m ≡ n
  unfolding cost
  whole_cost f i m n first last is = size_less _ n (cond-true (is_whole i m (length (face_at (faces_of s) f))) _ _ (whole_true i m _ first last) ∙ is)

  part_cost : (f i m n : ℕ) → ¬ ((i ≡ 0) × (m + 1 ≡ length (face_at (faces_of s) f))) → gives (place_point s f i) (place_point s f m) ≡ pos n → cost f i m ≡ n
  unfolding cost
  part_cost f i m n inner is = size_pos _ n (cond-false (is_whole i m (length (face_at (faces_of s) f))) _ _ (whole_false i m _ inner) ∙ is)

  places_three : (f : ℕ) → f < length (faces_of s) → 3 ≤ length (face_at (faces_of s) f)
  places_three f f_in = (subst (λ (fs : List (List ℕ)). All (IsSized most_places) fs) (sym h.rings_are) h.cut.sizes f [] f_in).0

  -- what is outside the skeleton does not join the first place to the last
  off_inner : (f i m x : ℕ) → f < length (faces_of s) → IsOff s.net.now s.flags.now s.skeleton.now x → IsNumberOf s.net.now (place_point s f i) (place_point s f m) x
      → ¬ ((i ≡ 0) × (m + 1 ≡ length (face_at (faces_of s) f)))
  off_inner f i m x f_in off is (first, last) =
      let has : HasEdge s.skeleton.now (place_point s f m) (place_point s f 0) = last_in_skeleton s h f m f_in last in
      let here : HasEdge s.skeleton.now (place_point s f m) (place_point s f i) = subst (λ (k : ℕ). HasEdge s.skeleton.now (place_point s f m) (place_point s f k)) (sym first) has in
      off.1.1 (Contains-HasEdge s.skeleton.now (edge_at s.net.now x) _ _ (Joins-comm (edge_at s.net.now x) _ _ is.1) here)

  joint_inner : (f i m x : ℕ) → Joint f i m x → ¬ ((i ≡ 0) × (m + 1 ≡ length (face_at (faces_of s) f)))
  joint_inner f i m x j whole =
      ⊎_elim
      (λ side. let next = side.0 in let three = places_three f j.face_in in let first = whole.0 in let last = whole.1 in absurd (omega arith))
      (λ at. off_inner f i m x j.face_in at.0 j.number whole)
      j.place

  -- a joint costs what its edge does
  pub joint_cost : (f i m x : ℕ) → Joint f i m x → cost f i m ≡ slice_index costs x
  joint_cost f i m x j = part_cost f i m (slice_index costs x) (joint_inner f i m x j) (gives_joint s h costs choices c root_costs l table p f i m x j)

  -- the middle place in the table is that at which the triangle sits
  middle_at : (t f i j m : ℕ) → f < length (faces_of s) → IsLiveTri s.net.now s.flags.now t → SitsAt f i j m (tri_at s.net.now t) → (tri_seat s.tri_seats.now t).middle ≡ j
  middle_at t f i j m f_in live at =
      let seat = tri_seat s.tri_seats.now t in
      let one = h.filled.triangles (tri_at s.net.now t) live.1 in
      let own = one.only seat.face seat.first seat.middle seat.last (h.tris_are.face_in t live) (h.tris_are.sits t live) in
      let here = one.only f i j m f_in at in
      own.2 ∙ sym here.2

  -- The best cut between two places, by the rule.
  pub record IsRuled (f i m : ℕ) (k : Cut) (b : BaseAt f i m k) : Type 0 where
    pub middle : ℕ
    pub best : IsBestBetween s.net.now.points (live_edges s.net.now s.flags.now) s.skeleton.now (face_at (faces_of s) f) (cost f) i middle m (tri_at s.net.now k.tri)
    pub sum : k.sum ≡ cost f i middle + cost f middle m
    pub first : Joint f i middle b.best.first
    pub second : Joint f middle m b.best.second

  pub ruled : (f i m : ℕ) (k : Cut) (b : BaseAt f i m k) → IsRuled f i m k b
  ruled f i m k b =
      let n = s.net.now in
      let own = b.best in
      let j = joints_at n s.flags.now s.skeleton.now (faces_of s) s.edge_seats.now s.tri_seats.now (seating_of s h) h.edges_are f i m k.tri own.apex own.first own.second b.face_in
      (b.between_them k.tri own.apex own.live own.corners) own.first_is own.second_is in
      let sum : k.sum ≡ cost f i j.middle + cost f j.middle m = omega (arith, own.sum, joint_cost f i j.middle own.first j.first, joint_cost f j.middle m own.second j.second) in
      record {
        middle = j.middle;
        best = record { over = own.live.1; sits = j.sits; least = λ q u over at. least j.middle j.sits sum q u over at };
        sum = sum;
        first = j.first;
        second = j.second;
      }
    where
      least : (j : ℕ) → SitsAt f i j m (tri_at s.net.now k.tri) → k.sum ≡ cost f i j + cost f j m → (q : ℕ) (u : Tri) → IsEmptyOver s.net.now.points (live_edges s.net.now s.flags.now) u → SitsAt f i q m u
          → (cost f i j + cost f j m < cost f i q + cost f q m) ⊎ ((cost f i j + cost f j m ≡ cost f i q + cost f q m) × (j ≤ q))
      least j sits sum q u over at =
          let n = s.net.now in
          let (t, t_in, is) = live_number s h costs choices c root_costs l table p u over in
          let live : IsLiveTri n s.flags.now t = (t_in, subst (λ (x : Tri). IsEmptyOver n.points (live_edges n s.flags.now) x) (sym is) over) in
          let here : SitsAt f i q m (tri_at n t) = subst (λ (x : Tri). SitsAt f i q m x) (sym is) at in
          let (x, x_is) = number_of n t (place_point s f i) (place_point s f q) h.network t_in (place_point s f m, here.corners) in
          let (y, y_is) = number_of n t (place_point s f q) (place_point s f m) h.network t_in (place_point s f i, turned_corners (tri_at n t) _ _ _ here.corners) in
          let low = here.first_below in
          let high = here.middle_below in
          let last_in = here.last_in in
          let first : Joint f i q x = joint n s.flags.now s.skeleton.now (faces_of s) s.edge_seats.now s.tri_seats.now (seating_of s h) h.edges_are f i q x b.face_in low (omega arith)
          (λ e. let e1 = e.1 in absurd (omega arith)) here.first_side x_is in
          let second : Joint f q m y = joint n s.flags.now s.skeleton.now (faces_of s) s.edge_seats.now s.tri_seats.now (seating_of s h) h.edges_are f q m y b.face_in high last_in
          (λ e. let e0 = e.0 in absurd (omega arith)) here.second_side y_is in
          let one = joint_cost f i q x first in
          let two = joint_cost f q m y second in
          let own = b.best.middle ∙ middle_at k.tri f i j m b.face_in b.best.live sits in
          let other = middle_at t f i q m b.face_in live here in
          ⊎_elim
          (λ less. inl (omega (arith, sum, one, two, less)))
          (λ same. let e = same.0 in let le = same.1 in inr (omega (arith, sum, one, two, e), omega (arith, own, other, le)))
          (b.best.least t (place_point s f q) x y live here.corners x_is y_is)

  least_sum : (f i m : ℕ) (k : Cut) → BaseAt f i m k → IsLeastSum s.net.now.points (live_edges s.net.now s.flags.now) s.skeleton.now (face_at (faces_of s) f) (cost f) i m k.sum
  least_sum f i m k b = let r = ruled f i m k b in record { middle = r.middle; tri = tri_at s.net.now k.tri; best = r.best; is = r.sum }

  -- a side of a face is a joint
  side_joint : (f i : ℕ) → f < length (faces_of s) → i + 1 < length (face_at (faces_of s) f) → (x : ℕ) × Joint f i (i + 1) x × Contains s.skeleton.now (edge_at s.net.now x)
  side_joint f i f_in i_in =
      let points = s.net.now.points in
      let live = live_edges s.net.now s.flags.now in
      let side = next_side points live s.skeleton.now (faces_of s) (seating_of s h) f i f_in i_in in
      let has = round_edge points live s.skeleton.now (faces_of s) (seating_of s h) f (place_point s f i) (place_point s f (i + 1)) f_in side in
      let (x, (x_is, in_skeleton)) = skeleton_number s h (place_point s f i) (place_point s f (i + 1)) has in
      (x, record { face_in = f_in; below = omega arith; last_in = i_in; number = x_is; place = inl (refl, in_skeleton) }, in_skeleton)

  pub side_cost : (f i : ℕ) → f < length (faces_of s) → i + 1 < length (face_at (faces_of s) f) → (cost f i (i + 1) ≡ 0) × (gives (place_point s f i) (place_point s f (i + 1)) ≡ pos 0)
  side_cost f i f_in i_in =
      let (x, j, in_skeleton) = side_joint f i f_in i_in in
      let zero_is : slice_index costs x ≡ 0 = c.others x (λ off. off.1.1 in_skeleton) in
      (joint_cost f i (i + 1) x j ∙ zero_is, gives_joint s h costs choices c root_costs l table p f i (i + 1) x j ∙ ap pos zero_is)

  -- an edge that sits at two places, by its number
  pub edge_joint : (e : Edge) (f i m : ℕ) → IsOffSkeleton (live_edges s.net.now s.flags.now) s.skeleton.now e → f < length (faces_of s) → IsEdgeAt s.net.now.points (face_at (faces_of s) f) i m e
      → (x : ℕ) × (edge_at s.net.now x ≡ e) × IsOff s.net.now s.flags.now s.skeleton.now x × ((edge_seat s.edge_seats.now x).face ≡ f) × ((edge_seat s.edge_seats.now x).first ≡ i) × ((edge_seat s.edge_seats.now x).last ≡ m) × Joint f i m x
  edge_joint e f i m off f_in at =
      let n = s.net.now in
      let (x, x_in, at_x) = (flags_named n s.flags.now h.network.ascending h.one_each).known e off.0 in
      let is : edge_at n x ≡ e = get_or_default n.edges x _ e x_in ∙ at_x in
      let off_x : IsOff n s.flags.now s.skeleton.now x = (x_in, subst (λ (y : Edge). IsOffSkeleton (live_edges n s.flags.now) s.skeleton.now y) (sym is) off) in
      let here = subst (λ (y : Edge). IsEdgeAt n.points (face_at (faces_of s) f) i m y) (sym is) at in
      let seat = same_seat n.points (live_edges n s.flags.now) s.skeleton.now (faces_of s) (seating_of s h) (edge_at n x) off_x.1 _ _ _ f i m (h.edges_are.face_in x off_x) f_in (h.edges_are.sits x off_x) here in
      (x, is, off_x, seat.0, seat.1, seat.2, record { face_in = f_in; below = here.below; last_in = here.last_in; number = (x_in, here.ends); place = inr (off_x, seat.0, seat.1, seat.2) })

  -- the last side of a face
  pub root_cost : (f : ℕ) → f < length (faces_of s)
      → IsLeastSum s.net.now.points (live_edges s.net.now s.flags.now) s.skeleton.now (face_at (faces_of s) f) (cost f) 0 (length (face_at (faces_of s) f) - 1) (cost f 0 (length (face_at (faces_of s) f) - 1))
      × (gives (place_point s f (length (face_at (faces_of s) f) - 1)) (place_point s f 0) ≡ pos 0 -ℤ pos (cost f 0 (length (face_at (faces_of s) f) - 1)))
  root_cost f f_in =
      let last = length (face_at (faces_of s) f) - 1 in
      let three = places_three f f_in in
      let (k, b) = root_base s h costs choices c root_costs l table p f last f_in (omega arith) in
      let is : cost f 0 last ≡ k.sum = whole_cost f 0 last k.sum refl (omega arith) b.rest in (
        subst (λ (n : ℕ). IsLeastSum s.net.now.points (live_edges s.net.now s.flags.now) s.skeleton.now (face_at (faces_of s) f) (cost f) 0 last n) (sym is) (least_sum f 0 last k b),
        b.rest ∙ ap (λ n. pos 0 -ℤ pos n) (sym is),
      )

  pub face_costs : (f : ℕ) → f < length (faces_of s) → AreFaceCosts s.net.now.points (live_edges s.net.now s.flags.now) s.skeleton.now (face_at (faces_of s) f) (cost f)
  face_costs f f_in =
      record {
        sides = λ i i_in. (side_cost f i f_in i_in).0;
        edges = λ e i m off at. part e i m off at;
        root = (root_cost f f_in).0;
      }
    where
      part : (e : Edge) (i m : ℕ) → IsOffSkeleton (live_edges s.net.now s.flags.now) s.skeleton.now e → IsEdgeAt s.net.now.points (face_at (faces_of s) f) i m e
          → (sum : ℕ) × IsLeastSum s.net.now.points (live_edges s.net.now s.flags.now) s.skeleton.now (face_at (faces_of s) f) (cost f) i m sum
          × (cost f i m ≡ weight s.net.now.points (e.a, e.b) + sum)
      part e i m off at =
          let (x, is, off_x, face_is, first_is, last_is, j) = edge_joint e f i m off f_in at in
          let costed = c.costed x off_x in
          let b = part_base s h costs choices c root_costs l table p x costed.cut (record { off = off_x; best = costed.best; cost = costed.cost }) in
          let there = least_sum _ _ _ costed.cut b in
          let here : IsLeastSum s.net.now.points (live_edges s.net.now s.flags.now) s.skeleton.now (face_at (faces_of s) f) (cost f) i m costed.cut.sum =
          subst (λ (k : ℕ). IsLeastSum s.net.now.points (live_edges s.net.now s.flags.now) s.skeleton.now (face_at (faces_of s) f) (cost f) i k costed.cut.sum) last_is
          (subst (λ (k : ℕ). IsLeastSum s.net.now.points (live_edges s.net.now s.flags.now) s.skeleton.now (face_at (faces_of s) f) (cost f) k (edge_seat s.edge_seats.now x).last costed.cut.sum) first_is
          (subst (λ (k : ℕ). IsLeastSum s.net.now.points (live_edges s.net.now s.flags.now) s.skeleton.now (face_at (faces_of s) k) (cost k) (edge_seat s.edge_seats.now x).first (edge_seat s.edge_seats.now x).last costed.cut.sum) face_is there)) in
          let own : weight_of s.net.now x ≡ weight s.net.now.points (e.a, e.b) = ap (λ (y : Edge). weight s.net.now.points (y.a, y.b)) is in
          (costed.cut.sum, here, omega (arith, joint_cost f i m x j, costed.cost, own))
