-- Prices by costs: no live triangle has a negative slack, and the chosen ones have none.
use Rattle.std.proofs.Common.{◌≡◌, ◌⊎◌, ℕ, ◌+◌, ◌<◌, ◌≤◌, List, length, slice_index, Contains, ℤ, pos, ◌+ℤ◌, ◌-ℤ◌, ◌≤ℤ◌, arith, refl, ap, sym, ◌∙◌, subst, ⊎_elim, inl, inr}
use Rattle.std.proofs.lemmas.Bool.{cases_eq}
use Rattle.std.proofs.lemmas.Int.{ints}
use Rattle.std.proofs.lemmas.List.{get_or_default}
use Rattle.std.proofs.lemmas.List.Elements.{All-contains}
use Rattle.exact_predicates.specs.declared.edge.Edge.{Edge}
use Rattle.exact_predicates.specs.declared.tri.Tri.{Tri}
use Rattle.exact_predicates.specs.Candidates.{IsEmptyOver, Joins}
use Rattle.exact_predicates.specs.Triangulation.{HasCorners}
use Rattle.exact_predicates.proofs.Corners.{turned_corners}
use Rattle.exact_predicates.proofs.Equalities.{Joins-comm}
use Rattle.lmt_network.specs.Flags.{live_edges, live_numbers}
use Rattle.lmt_network.specs.Network.{edge_at, tri_at}
use Rattle.lmt_network.specs.Numbers.{IsNumberOf}
use Rattle.lmt_network.specs.PriceTables.{PriceTable, table_prices}
use Rattle.lmt_network.specs.Prices.{IsFeasible, Priced, priced_edges, share, slack}
use Rattle.lmt_network.proofs.Naming.{flags_named, tri_number}
use Rattle.lmt_network.proofs.Picked.{picked_from}
use Rattle.lmt_network.proofs.PriceTables.{edges_law}
use Rattle.skeleton_faces.specs.Faces.{HasRoundSide}
use Rattle.face_optimum.specs.declared.cut.Cut.{Cut}
use Rattle.face_optimum.specs.declared.site.Site.{Site}
use Rattle.face_optimum.specs.Chosen.{AreRootCosts, IsChosenTri, IsPartCut, IsRootCut, part, place_point, root}
use Rattle.face_optimum.specs.Cuts.{AreCosts, IsBestCut}
use Rattle.face_optimum.specs.Priced.{ArePriced}
use Rattle.face_optimum.specs.Places.{IsTriAt, face_at}
use Rattle.face_optimum.specs.Seats.{IsLiveTri, IsOff, edge_seat}
use Rattle.face_optimum.specs.Sites.{IsSite, faces_of}
use Rattle.face_optimum.proofs.Choosing.{seating_of}
use Rattle.face_optimum.proofs.Costing.{joint, joints_at}
use Rattle.face_optimum.proofs.Sides.{number_of}
use Rattle.face_optimum.proofs.Seated.{last_side, round_edge, sits_between, sits_on_last}
use Rattle.face_optimum.proofs.Shares.{gives_back, gives_joint, gives_side}

-- the slack of a triangle, whichever corner comes first
slack-corners : (f : ℕ → ℕ → ℤ) (t : Tri) (u v w : ℕ) → HasCorners t u v w → f t.a t.b +ℤ (f t.b t.c +ℤ f t.c t.a) ≡ f u v +ℤ (f v w +ℤ f w u)
slack-corners f t u v w h =
    ⊎_elim
    (λ e. rw (e.0, e.1, e.2) refl)
    (λ k. ⊎_elim (λ e. rw (e.0, e.1, e.2) (omega (arith, ints))) (λ e. rw (e.0, e.1, e.2) (omega (arith, ints))) k)
    h

module _ (s : Site) (h : IsSite s) (costs choices : List ℕ) (c : AreCosts s.net.now s.flags.now s.skeleton.now (faces_of s) s.edge_seats.now s.tri_seats.now costs choices)
    (root_costs : List ℕ) (l : AreRootCosts s costs (length (faces_of s)) root_costs) (table : PriceTable) (p : ArePriced s costs root_costs table) where
  abbrev prices : List Priced
  prices = table_prices s.net.now table (live_numbers s.flags.now)

  abbrev gives : ℕ → ℕ → ℤ
  gives u v = share s.net.now.points s.net.now.hull (table_prices s.net.now table (live_numbers s.flags.now)) u v

  abbrev slack_of : Tri → ℤ
  slack_of t = slack s.net.now.points s.net.now.hull (table_prices s.net.now table (live_numbers s.flags.now)) t

  -- two best cuts on one side cost as much
  same_sum : (u v : ℕ) (a b : Cut) → IsBestCut s.net.now s.flags.now s.tri_seats.now costs u v a → IsBestCut s.net.now s.flags.now s.tri_seats.now costs u v b → a.sum ≡ b.sum
  same_sum u v a b ba bb =
      let forth = upto a b ba bb in
      let back = upto b a bb ba in
      omega arith
    where
      upto : (a b : Cut) → IsBestCut s.net.now s.flags.now s.tri_seats.now costs u v a → IsBestCut s.net.now s.flags.now s.tri_seats.now costs u v b → a.sum ≤ b.sum
      upto a b ba bb =
          let sum = bb.sum in
          ⊎_elim (λ less. omega arith) (λ same. let e = same.0 in omega arith) (ba.least b.tri bb.apex bb.first bb.second bb.live bb.corners bb.first_is bb.second_is)

  -- Between the places i and m of a face stand the live triangles with the side from m to i, on which stands what the best cut
  -- there costs.
  pub record IsBase (f i m : ℕ) (k : Cut) : Type 0 where
    pub face_in : f < length (faces_of s)
    pub between_them : (t r : ℕ) → IsLiveTri s.net.now s.flags.now t → HasCorners (tri_at s.net.now t) (place_point s f i) r (place_point s f m)
        → (j : ℕ) × (place_point s f j ≡ r) × IsTriAt s.net.now.points (live_edges s.net.now s.flags.now) s.skeleton.now (face_at (faces_of s) f) i j m (tri_at s.net.now t)
    pub best : IsBestCut s.net.now s.flags.now s.tri_seats.now costs (place_point s f m) (place_point s f i) k
    pub rest : gives (place_point s f m) (place_point s f i) ≡ pos 0 -ℤ pos k.sum

  base_slack : (f i m t r x y : ℕ) (k : Cut) → IsBase f i m k → IsLiveTri s.net.now s.flags.now t → HasCorners (tri_at s.net.now t) (place_point s f i) r (place_point s f m)
      → IsNumberOf s.net.now (place_point s f i) r x → IsNumberOf s.net.now r (place_point s f m) y
      → slack_of (tri_at s.net.now t) ≡ (pos (slice_index costs x) +ℤ pos (slice_index costs y)) -ℤ pos k.sum
  base_slack f i m t r x y k b is_live corners x_is y_is =
      let j = joints_at s.net.now s.flags.now s.skeleton.now (faces_of s) s.edge_seats.now s.tri_seats.now (seating_of s h) h.edges_are f i m t r x y b.face_in
      (b.between_them t r is_live corners) x_is y_is in
      let one : gives (place_point s f i) r ≡ pos (slice_index costs x) = ap (λ z. gives (place_point s f i) z) (sym j.middle_is) ∙ gives_joint s h costs choices c root_costs l table p f i j.middle x j.first in
      let two : gives r (place_point s f m) ≡ pos (slice_index costs y) = ap (λ z. gives z (place_point s f m)) (sym j.middle_is) ∙ gives_joint s h costs choices c root_costs l table p f j.middle m y j.second in
      omega (arith, ints, slack-corners gives (tri_at s.net.now t) (place_point s f i) r (place_point s f m) corners, one, two, b.rest)

  base_feasible : (f i m t r : ℕ) (k : Cut) → IsBase f i m k → IsLiveTri s.net.now s.flags.now t → HasCorners (tri_at s.net.now t) (place_point s f i) r (place_point s f m)
      → pos 0 ≤ℤ slack_of (tri_at s.net.now t)
  base_feasible f i m t r k b is_live corners =
      let (x, x_is) = number_of s.net.now t (place_point s f i) r h.network is_live.0 (place_point s f m, corners) in
      let (y, y_is) = number_of s.net.now t r (place_point s f m) h.network is_live.0 (place_point s f i, turned_corners (tri_at s.net.now t) (place_point s f i) r (place_point s f m) corners) in
      let is = base_slack f i m t r x y k b is_live corners x_is y_is in
      ⊎_elim
      (λ less. omega (arith, ints, is, less))
      (λ same. let e = same.0 in omega (arith, ints, is, e))
      (b.best.least t r x y is_live corners x_is y_is)

  base_tight : (f i m : ℕ) (k : Cut) → IsBase f i m k → slack_of (tri_at s.net.now k.tri) ≡ pos 0
  base_tight f i m k b =
      let best = b.best in
      let sum = best.sum in
      omega (arith, ints, base_slack f i m k.tri best.apex best.first best.second k b best.live best.corners best.first_is best.second_is, sum)

  -- the last side of a face is one, and so is the side of an edge outside the skeleton
  pub root_base : (f last : ℕ) → f < length (faces_of s) → last + 1 ≡ length (face_at (faces_of s) f) → (k : Cut) × IsBase f 0 last k
  root_base f last f_in last_is =
      let points = s.net.now.points in
      let live = live_edges s.net.now s.flags.now in
      let side = last_side points live s.skeleton.now (faces_of s) (seating_of s h) f last f_in last_is in
      let (e, e_in, has, is) = number_of_side f (place_point s f last) (place_point s f 0) f_in side in
      let (k, best, root_cost) = l.last_sides f (place_point s f last) (place_point s f 0) e f_in (last, last_is, refl, refl) (e_in, is) in (
        k,
        record {
          face_in = f_in;
          between_them = λ t r is_live corners. sits_on_last points live s.skeleton.now (faces_of s) (seating_of s h) f last r (tri_at s.net.now t) f_in last_is is_live.1 corners;
          best = best;
          rest = gives_side s h costs choices c root_costs l table p f (place_point s f last) (place_point s f 0) e f_in side has (e_in, is) ∙ ap (λ z. pos 0 -ℤ pos z) root_cost;
        },
      )
    where
      number_of_side : (f u v : ℕ) → f < length (faces_of s) → HasRoundSide (face_at (faces_of s) f) u v
          → (e : ℕ) × (e < length s.net.now.edges) × Contains s.skeleton.now (edge_at s.net.now e) × Joins (edge_at s.net.now e) u v
      number_of_side f u v f_in side =
          let (k, x, k_in, at_k, joins) = round_edge s.net.now.points (live_edges s.net.now s.flags.now) s.skeleton.now (faces_of s) (seating_of s h) f u v f_in side in
          let has : Contains s.skeleton.now x = (k, k_in, at_k) in
          let in_live = All-contains (Contains (live_edges s.net.now s.flags.now)) s.skeleton.now x h.live_skeleton has in
          let r = picked_from s.flags.now s.net.now.edges x in_live in
          let is : edge_at s.net.now r.0 ≡ x = get_or_default s.net.now.edges r.0 _ x r.1 ∙ r.3 in
          (r.0, r.1, subst (λ (y : Edge). Contains s.skeleton.now y) (sym is) has, subst (λ (y : Edge). Joins y u v) (sym is) joins)

  pub part_base : (e : ℕ) (k : Cut) → IsPartCut s costs e k → IsBase (edge_seat s.edge_seats.now e).face (edge_seat s.edge_seats.now e).first (edge_seat s.edge_seats.now e).last k
  part_base e k cut =
      let cost = cut.cost in
      record {
        face_in = h.edges_are.face_in e cut.off;
        between_them = λ t r is_live corners. sits_between s.net.now.points (live_edges s.net.now s.flags.now) s.skeleton.now (faces_of s) (seating_of s h) (edge_at s.net.now e) cut.off.1 _ _ _ r (tri_at s.net.now t)
            (h.edges_are.face_in e cut.off) (h.edges_are.sits e cut.off) is_live.1 corners;
        best = cut.best;
        rest = omega (arith, ints, gives_back s h costs choices c root_costs l table p e cut.off, cost);
      }

  -- no live triangle has a negative slack
  live_feasible : (t : ℕ) → IsLiveTri s.net.now s.flags.now t → pos 0 ≤ℤ slack_of (tri_at s.net.now t)
  live_feasible t is_live =
      let one = h.filled.triangles (tri_at s.net.now t) is_live.1 in
      let sits = one.sits in
      let f = one.face in
      let ab = sits.first_below in
      let bc = sits.middle_below in
      ⊎_elim
      (λ (whole : (one.first ≡ 0) × (one.last + 1 ≡ length (face_at (faces_of s) f))).
      let b = root_base f one.last one.face_in whole.1 in
      base_feasible f 0 one.last t (place_point s f one.middle) b.0 b.1 is_live
      (subst (λ (z : ℕ). HasCorners (tri_at s.net.now t) (place_point s f z) (place_point s f one.middle) (place_point s f one.last)) whole.0 sits.corners))
      (λ (inner : ¬ ((one.first ≡ 0) × (one.last + 1 ≡ length (face_at (faces_of s) f)))).
      let (z, z_is) = number_of s.net.now t (place_point s f one.last) (place_point s f one.first) h.network is_live.0
      (place_point s f one.middle, turned_corners (tri_at s.net.now t) _ _ _ (turned_corners (tri_at s.net.now t) _ _ _ sits.corners)) in
      let j = joint s.net.now s.flags.now s.skeleton.now (faces_of s) s.edge_seats.now s.tri_seats.now (seating_of s h) h.edges_are f one.first one.last z one.face_in (omega arith) sits.last_in inner sits.third_side
      (z_is.0, Joins-comm (edge_at s.net.now z) _ _ z_is.1) in
      ⊎_elim
      (λ (side : (one.last ≡ one.first + 1) × Contains s.skeleton.now (edge_at s.net.now z)). let next = side.0 in absurd (omega arith))
      (λ (at : IsOff s.net.now s.flags.now s.skeleton.now z × ((edge_seat s.edge_seats.now z).face ≡ f) × ((edge_seat s.edge_seats.now z).first ≡ one.first) × ((edge_seat s.edge_seats.now z).last ≡ one.last)).
      let costed = c.costed z at.0 in
      let cut : IsPartCut s costs z costed.cut = record { off = at.0; best = costed.best; cost = costed.cost } in
      base_feasible _ _ _ t (place_point s f one.middle) costed.cut (part_base z costed.cut cut) is_live
      (subst (λ (a : ℕ). HasCorners (tri_at s.net.now t) (place_point s a (edge_seat s.edge_seats.now z).first) (place_point s f one.middle) (place_point s a (edge_seat s.edge_seats.now z).last)) (sym at.1)
      (subst (λ (a : ℕ). HasCorners (tri_at s.net.now t) (place_point s f a) (place_point s f one.middle) (place_point s f (edge_seat s.edge_seats.now z).last)) (sym at.2)
      (subst (λ (a : ℕ). HasCorners (tri_at s.net.now t) (place_point s f one.first) (place_point s f one.middle) (place_point s f a)) (sym at.3) sits.corners))))
      j.place)
      (whole_or_not one.first one.last (length (face_at (faces_of s) f)))
    where
      whole_or_not : (i m k : ℕ) → ((i ≡ 0) × (m + 1 ≡ k)) ⊎ (¬ ((i ≡ 0) × (m + 1 ≡ k)))
      whole_or_not i m k =
          ⊎_elim
          (λ a. ⊎_elim (λ b. inl (a, b)) (λ b. inr (λ both. b both.1)) (cases_eq (m + 1) k))
          (λ a. inr (λ both. a both.0))
          (cases_eq i 0)

  -- the prices are of the live edges
  pub live_priced : priced_edges (table_prices s.net.now table (live_numbers s.flags.now)) ≡ live_edges s.net.now s.flags.now
  live_priced = edges_law s.net.now table s.flags.now h.one_each

  pub live_number : (t : Tri) → IsEmptyOver s.net.now.points (live_edges s.net.now s.flags.now) t → (k : ℕ) × (k < length s.net.now.tris) × (tri_at s.net.now k ≡ t)
  live_number t over =
      let names = flags_named s.net.now s.flags.now h.network.ascending h.one_each in
      let (k, k_in, at_k) = tri_number s.net.now (live_edges s.net.now s.flags.now) t h.network names.known over in
      (k, k_in, get_or_default s.net.now.tris k _ t k_in ∙ at_k)

  pub feasible : IsFeasible s.net.now.points s.net.now.hull (table_prices s.net.now table (live_numbers s.flags.now))
  feasible t over =
      let alive : IsEmptyOver s.net.now.points (live_edges s.net.now s.flags.now) t = subst (λ (es : List Edge). IsEmptyOver s.net.now.points es t) live_priced over in
      let (k, k_in, is) = live_number t alive in
      subst (λ (x : Tri). pos 0 ≤ℤ slack_of x) is (live_feasible k (k_in, subst (λ (x : Tri). IsEmptyOver s.net.now.points (live_edges s.net.now s.flags.now) x) (sym is) alive))

  -- each best cut on a last side is one such
  pub own_base : (f : ℕ) (k : Cut) (cut : IsRootCut s costs f k) → IsBase f 0 cut.last k
  own_base f k cut =
      let b = root_base f cut.last cut.face_in cut.last_is in
      let same = same_sum _ _ k b.0 cut.best b.1.best in
      record { face_in = b.1.face_in; between_them = b.1.between_them; best = cut.best; rest = b.1.rest ∙ ap (λ z. pos 0 -ℤ pos z) (sym same) }

  -- the chosen triangles have none
  pub chosen_tight : (t : Tri) → IsChosenTri s costs t → slack_of t ≡ pos 0
  chosen_tight t (part e k cut is) = subst (λ (x : Tri). slack_of x ≡ pos 0) is (base_tight _ _ _ k (part_base e k cut))
  chosen_tight t (root f k cut is) = subst (λ (x : Tri). slack_of x ≡ pos 0) is (base_tight f 0 cut.last k (own_base f k cut))

-- and are live
pub chosen_live : (s : Site) (costs : List ℕ) (t : Tri) → IsChosenTri s costs t → IsEmptyOver s.net.now.points (live_edges s.net.now s.flags.now) t
chosen_live s costs t (part e k cut is) = subst (λ (x : Tri). IsEmptyOver s.net.now.points (live_edges s.net.now s.flags.now) x) is cut.best.live.1
chosen_live s costs t (root f k cut is) = subst (λ (x : Tri). IsEmptyOver s.net.now.points (live_edges s.net.now s.flags.now) x) is cut.best.live.1
