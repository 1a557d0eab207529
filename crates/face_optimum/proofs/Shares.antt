-- Prices by costs: what the sides of faces and of parts give.
use Rattle.std.proofs.Common.{◌≡◌, ◌⊎◌, ℕ, ◌+◌, ◌*◌, ◌<◌, max, true, false, nat_lt, List, length, slice_index, All, Contains, ℤ, pos, ◌-ℤ◌, arith, ap, sym, ◌∙◌, subst, ⊎_elim, inl, inr}
use Rattle.std.proofs.lemmas.Bool.{both_ways, cases_Bool, cases_lt, cond-false, cond-true, le-ltb, lt-ltb}
use Rattle.std.proofs.lemmas.Int.{ints}
use Rattle.std.proofs.lemmas.List.Elements.{All-contains}
use Rattle.exact_predicates.proofs.Equalities.{Contains-HasEdge, Joins-comm}
use Rattle.length_enclosure.specs.Enclosure.{weight}
use Rattle.lmt_network.specs.Flags.{live_edges, live_numbers}
use Rattle.lmt_network.specs.Network.{edge_at}
use Rattle.lmt_network.specs.Numbers.{IsHullNumber, IsNumberOf}
use Rattle.lmt_network.specs.PriceTables.{PriceTable, entry_at, table_prices}
use Rattle.lmt_network.specs.Prices.{Priced, is_on_hull, priced, share, weight_between}
use Rattle.lmt_network.proofs.Entries.{is_on_hull-comm, is_on_hull_decides}
use Rattle.lmt_network.proofs.Naming.{flags_named}
use Rattle.lmt_network.proofs.Picked.{All-from_members}
use Rattle.lmt_network.proofs.PriceTables.{by_number_law}
use Rattle.lmt_network.proofs.Slacks.{share-down, share-on, share-up}
use Rattle.lmt_network.proofs.SideEdges.{hull_edge}
use Rattle.skeleton_faces.specs.Faces.{HasRoundSide, round_at}
use Rattle.face_optimum.specs.declared.site.Site.{Site}
use Rattle.face_optimum.specs.SeatTables.{side_key}
use Rattle.face_optimum.specs.Chosen.{AreRootCosts, IsLastSide, place_point}
use Rattle.face_optimum.specs.Cuts.{AreCosts, IsJoint, weight_of}
use Rattle.price_ascent.specs.Ascent.{left_at, right_at, value_at}
use Rattle.face_optimum.specs.Priced.{ArePriced}
use Rattle.face_optimum.specs.Places.{face_at}
use Rattle.face_optimum.specs.Seats.{IsOff, edge_seat, first_point, last_point}
use Rattle.face_optimum.specs.Sites.{IsSite, faces_of}
use Rattle.face_optimum.proofs.Choosing.{seating_of}
use Rattle.face_optimum.proofs.Covers.{not_outside}
use Rattle.face_optimum.proofs.Rounds.{round_end, round_within}
use Rattle.face_optimum.proofs.Seated.{next_side, same_face, same_place}
use Rattle.face_optimum.proofs.SideKeys.{key_down, key_up}

module _ (s : Site) (h : IsSite s) (costs choices : List ℕ) (c : AreCosts s.net.now s.flags.now s.skeleton.now (faces_of s) s.edge_seats.now s.tri_seats.now costs choices)
    (root_costs : List ℕ) (l : AreRootCosts s costs (length (faces_of s)) root_costs) (table : PriceTable) (p : ArePriced s costs root_costs table) where
  abbrev pub prices : List Priced
  prices = table_prices s.net.now table (live_numbers s.flags.now)

  abbrev pub gives : ℕ → ℕ → ℤ
  gives u v = share s.net.now.points s.net.now.hull (table_prices s.net.now table (live_numbers s.flags.now)) u v

  abbrev pub IsLiveNumber : ℕ → Type 0
  IsLiveNumber e = (e < length s.net.now.edges) × Contains (live_edges s.net.now s.flags.now) (edge_at s.net.now e)

  pub within : All (λ e. e < length s.net.now.edges) (live_numbers s.flags.now)
  within = All-from_members (λ e. e < length s.net.now.edges) (live_numbers s.flags.now) (flags_named s.net.now s.flags.now h.network.ascending h.one_each).in_range

  -- what the prices say of a live edge
  pub found : (e u v : ℕ) → IsLiveNumber e → IsNumberOf s.net.now u v e → priced (table_prices s.net.now table (live_numbers s.flags.now)) u v ≡ entry_at s.net.now table e
  found e u v live is =
      let has = (flags_named s.net.now s.flags.now h.network.ascending h.one_each).back e live.0 live.1 in
      (by_number_law s.net.now table (live_numbers s.flags.now) h.network within).entries e u v has is

  pub between : (e u v : ℕ) → IsNumberOf s.net.now u v e → weight_between s.net.now.points u v ≡ pos (weight_of s.net.now e)
  between e u v is = ap (λ a. pos (weight s.net.now.points (a, max u v))) (sym is.1.0) ∙ ap (λ b. pos (weight s.net.now.points ((edge_at s.net.now e).a, b))) (sym is.1.1)

  gives_on : (e u v : ℕ) → IsLiveNumber e → IsNumberOf s.net.now u v e → is_on_hull s.net.now.hull u v ≡ true → gives u v ≡ pos (weight_of s.net.now e) -ℤ value_at table e
  gives_on e u v live is on =
      let is_it = found e u v live is in
      share-on s.net.now.points s.net.now.hull prices u v on
      ∙ (ap (λ w. w -ℤ (priced prices u v).value) (between e u v is) ∙ ap (λ (q : Priced). pos (weight_of s.net.now e) -ℤ q.value) is_it)

  gives_up : (e u v : ℕ) → IsLiveNumber e → IsNumberOf s.net.now u v e → is_on_hull s.net.now.hull u v ≡ false → u < v
      → gives u v ≡ (pos (weight_of s.net.now e) -ℤ value_at table e) -ℤ left_at table e
  gives_up e u v live is off up =
      let is_it = found e u v live is in
      share-up s.net.now.points s.net.now.hull prices u v off up
      ∙ (ap (λ w. (w -ℤ (priced prices u v).value) -ℤ (priced prices u v).left) (between e u v is) ∙ ap (λ (q : Priced). (pos (weight_of s.net.now e) -ℤ q.value) -ℤ q.left) is_it)

  gives_down : (e u v : ℕ) → IsLiveNumber e → IsNumberOf s.net.now u v e → is_on_hull s.net.now.hull u v ≡ false → v < u
      → gives u v ≡ value_at table e -ℤ right_at table e
  gives_down e u v live is off down =
      share-down s.net.now.points s.net.now.hull prices u v off down ∙ ap (λ (q : Priced). q.value -ℤ q.right) (found e u v live is)

  -- the two ends of an edge differ
  pub ends_differ : (e u v : ℕ) → IsNumberOf s.net.now u v e → (u < v) ⊎ (v < u)
  ends_differ e u v is =
      let up = (edge_at s.net.now e).ascending in
      let low = is.1.0 in
      let high = is.1.1 in
      ⊎_elim (λ less. inl less) (λ more. inr (omega arith)) (cases_lt u v)

  -- an edge outside the skeleton is not on the hull
  pub off_hull : (e u v : ℕ) → IsOff s.net.now s.flags.now s.skeleton.now e → IsNumberOf s.net.now u v e → is_on_hull s.net.now.hull u v ≡ false
  off_hull e u v off is =
      let joins = is.1 in
      ⊎_elim
      (λ on. absurd (⊎_elim
      (λ pair. off.1.1 (Contains-HasEdge s.skeleton.now (edge_at s.net.now e) u v joins (h.on_hull u v pair)))
      (λ pair. off.1.1 (Contains-HasEdge s.skeleton.now (edge_at s.net.now e) v u (Joins-comm (edge_at s.net.now e) u v joins) (h.on_hull v u pair)))
      ((is_on_hull_decides s.net.now.hull u v).0 on)))
      (λ no. no)
      (cases_Bool (is_on_hull s.net.now.hull u v))

  abbrev pub first_of : ℕ → ℕ
  first_of e = first_point (faces_of s) s.edge_seats.now e

  abbrev pub last_of : ℕ → ℕ
  last_of e = last_point (faces_of s) s.edge_seats.now e

  -- an edge outside the skeleton gives its side away from the part what it costs, and the other side the rest
  pub gives_away : (e : ℕ) → IsOff s.net.now s.flags.now s.skeleton.now e → gives (first_of e) (last_of e) ≡ pos (slice_index costs e)
  gives_away e off =
      let is : IsNumberOf s.net.now (first_of e) (last_of e) e = (off.0, (h.edges_are.sits e off).ends) in
      let live : IsLiveNumber e = (off.0, off.1.0) in
      let none = off_hull e (first_of e) (last_of e) off is in
      let price = p.parts e off in
      let left = price.left in
      let right = price.right in
      ⊎_elim
      (λ up. let value : value_at table e ≡ pos (weight_of s.net.now e) -ℤ pos (slice_index costs e) = price.value ∙ cond-true (nat_lt (first_of e) (last_of e)) _ _ (lt-ltb (first_of e) (last_of e) up) in omega (arith, ints, gives_up e (first_of e) (last_of e) live is none up, value, left))
      (λ down. let value : value_at table e ≡ pos (slice_index costs e) = price.value ∙ cond-false (nat_lt (first_of e) (last_of e)) _ _ (le-ltb (first_of e) (last_of e) (omega arith)) in omega (arith, ints, gives_down e (first_of e) (last_of e) live is none down, value, right))
      (ends_differ e (first_of e) (last_of e) is)

  pub gives_back : (e : ℕ) → IsOff s.net.now s.flags.now s.skeleton.now e → gives (last_of e) (first_of e) ≡ pos (weight_of s.net.now e) -ℤ pos (slice_index costs e)
  gives_back e off =
      let is : IsNumberOf s.net.now (last_of e) (first_of e) e = (off.0, Joins-comm (edge_at s.net.now e) _ _ (h.edges_are.sits e off).ends) in
      let live : IsLiveNumber e = (off.0, off.1.0) in
      let none = off_hull e (last_of e) (first_of e) off is in
      let price = p.parts e off in
      let left = price.left in
      let right = price.right in
      ⊎_elim
      (λ up. let value : value_at table e ≡ pos (slice_index costs e) = price.value ∙ cond-false (nat_lt (first_of e) (last_of e)) _ _ (le-ltb (first_of e) (last_of e) (omega arith)) in omega (arith, ints, gives_up e (last_of e) (first_of e) live is none up, value, left))
      (λ down. let value : value_at table e ≡ pos (weight_of s.net.now e) -ℤ pos (slice_index costs e) = price.value ∙ cond-true (nat_lt (first_of e) (last_of e)) _ _ (lt-ltb (first_of e) (last_of e) down) in omega (arith, ints, gives_down e (last_of e) (first_of e) live is none down, value, right))
      (ends_differ e (last_of e) (first_of e) is)

  -- a side of the skeleton is live
  pub skeleton_live : (e : ℕ) → e < length s.net.now.edges → Contains s.skeleton.now (edge_at s.net.now e) → IsLiveNumber e
  skeleton_live e e_in has = (e_in, All-contains (Contains (live_edges s.net.now s.flags.now)) s.skeleton.now (edge_at s.net.now e) h.live_skeleton has)

  both_keys : (e u v : ℕ) → (u < v) ⊎ (v < u) → slice_index root_costs (2 * e) + slice_index root_costs (2 * e + 1) ≡ slice_index root_costs (side_key e u v) + slice_index root_costs (side_key e v u)
  both_keys e u v order =
      ⊎_elim
      (λ up. let a = ap (slice_index root_costs) (key_up e u v up) in let b = ap (slice_index root_costs) (key_down e v u up) in omega (arith, a, b))
      (λ down. let a = ap (slice_index root_costs) (key_down e u v down) in let b = ap (slice_index root_costs) (key_up e v u down) in omega (arith, a, b))
      order

  -- a side of a face gives what is left of what the part on it costs
  pub gives_side : (f u v e : ℕ) → f < length (faces_of s) → HasRoundSide (face_at (faces_of s) f) u v → Contains s.skeleton.now (edge_at s.net.now e) → IsNumberOf s.net.now u v e
      → gives u v ≡ pos 0 -ℤ pos (slice_index root_costs (side_key e u v))
  gives_side f u v e f_in side has is =
      let live = skeleton_live e is.0 has in
      let hull = s.net.now.hull in
      let order = ends_differ e u v is in
      ⊎_elim
      (λ (on : is_on_hull hull u v ≡ true).
      let hull_edge : IsHullNumber s.net.now e = hull_number e u v is on in
      let price = p.on_hull e is.0 hull_edge in
      let value = price.value in
      let none : slice_index root_costs (side_key e v u) ≡ 0 = l.others v u e (is.0, Joins-comm (edge_at s.net.now e) u v is.1)
      (λ g g_in last. not_outside s.net.now.points hull s.skeleton.now h.cycles (faces_of s) _ h.network.hull_is h.faces_are h.rings_are h.cut h.on_hull u v f g f_in g_in ((is_on_hull_decides hull u v).0 on) side (round_of g v u g_in last)) in
      omega (arith, ints, gives_on e u v live is on, value, both_keys e u v order, none))
      (λ (off : is_on_hull hull u v ≡ false).
      let inner : ¬ IsHullNumber s.net.now e = λ hull_edge. both_ways _ off (on_hull_of e u v is hull_edge) in
      let price = p.inner e is.0 has inner in
      let value = price.value in
      let left = price.left in
      let right = price.right in
      ⊎_elim
      (λ up. let key = ap (slice_index root_costs) (key_up e u v up) in omega (arith, ints, gives_up e u v live is off up, value, left, key))
      (λ down. let key = ap (slice_index root_costs) (key_down e u v down) in omega (arith, ints, gives_down e u v live is off down, value, right, key))
      order)
      (cases_Bool (is_on_hull hull u v))
    where
      round_of : (g x y : ℕ) → g < length (faces_of s) → IsLastSide s g x y → HasRoundSide (face_at (faces_of s) g) x y
      round_of g x y g_in (last, last_is, from, to) =
          (last, omega arith, round_within (face_at (faces_of s) g) last (omega arith) ∙ from, round_end (face_at (faces_of s) g) (last + 1) last_is ∙ to)

      hull_number : (e u v : ℕ) → IsNumberOf s.net.now u v e → is_on_hull s.net.now.hull u v ≡ true → IsHullNumber s.net.now e
      hull_number e u v is on = ⊎_elim (λ pair. hull_edge s.net.now.hull (edge_at s.net.now e) u v is.1 pair)
          (λ pair. hull_edge s.net.now.hull (edge_at s.net.now e) v u (Joins-comm (edge_at s.net.now e) u v is.1) pair)
          ((is_on_hull_decides s.net.now.hull u v).0 on)

      on_hull_of : (e u v : ℕ) → IsNumberOf s.net.now u v e → IsHullNumber s.net.now e → is_on_hull s.net.now.hull u v ≡ true
      on_hull_of e u v is pair =
          let d = (is_on_hull_decides s.net.now.hull (edge_at s.net.now e).a (edge_at s.net.now e).b).1 pair in
          ⊎_elim
          (λ up. let low : (edge_at s.net.now e).a ≡ u = is.1.0 ∙ omega arith in let high : (edge_at s.net.now e).b ≡ v = is.1.1 ∙ omega arith in
          ap (λ a. is_on_hull s.net.now.hull a v) (sym low) ∙ (ap (λ b. is_on_hull s.net.now.hull (edge_at s.net.now e).a b) (sym high) ∙ d))
          (λ down. let low : (edge_at s.net.now e).a ≡ v = is.1.0 ∙ omega arith in let high : (edge_at s.net.now e).b ≡ u = is.1.1 ∙ omega arith in
          is_on_hull-comm s.net.now.hull v u
          ∙ (ap (λ a. is_on_hull s.net.now.hull a u) (sym low) ∙ (ap (λ b. is_on_hull s.net.now.hull (edge_at s.net.now e).a b) (sym high) ∙ d)))
          (ends_differ e u v is)

  -- what an edge gives where it joins two places: what it costs
  pub gives_joint : (f i m x : ℕ) → IsJoint s.net.now s.flags.now s.skeleton.now (faces_of s) s.edge_seats.now f i m x → gives (place_point s f i) (place_point s f m) ≡ pos (slice_index costs x)
  gives_joint f i m x j =
      ⊎_elim
      (λ (side : (m ≡ i + 1) × Contains s.skeleton.now (edge_at s.net.now x)). along side.0 side.1)
      (λ (at : IsOff s.net.now s.flags.now s.skeleton.now x × ((edge_seat s.edge_seats.now x).face ≡ f) × ((edge_seat s.edge_seats.now x).first ≡ i) × ((edge_seat s.edge_seats.now x).last ≡ m)).
      subst (λ (a : ℕ). gives (place_point s f i) (place_point s f a) ≡ pos (slice_index costs x)) at.3
      (subst (λ (a : ℕ). gives (place_point s f a) (place_point s f (edge_seat s.edge_seats.now x).last) ≡ pos (slice_index costs x)) at.2
      (subst (λ (a : ℕ). gives (place_point s a (edge_seat s.edge_seats.now x).first) (place_point s a (edge_seat s.edge_seats.now x).last) ≡ pos (slice_index costs x)) at.1
      (gives_away x at.0))))
      j.place
    where
      along : m ≡ i + 1 → Contains s.skeleton.now (edge_at s.net.now x) → gives (place_point s f i) (place_point s f m) ≡ pos (slice_index costs x)
      along next has =
          let m_in = j.last_in in
          let points = s.net.now.points in
          let live = live_edges s.net.now s.flags.now in
          let here : HasRoundSide (face_at (faces_of s) f) (place_point s f i) (place_point s f m) =
          subst (λ (a : ℕ). HasRoundSide (face_at (faces_of s) f) (place_point s f i) (place_point s f a)) (sym next)
          (next_side points live s.skeleton.now (faces_of s) (seating_of s h) f i j.face_in (omega arith)) in
          let zero = c.others x (λ off. off.1.1 has) in
          let none : slice_index root_costs (side_key x (place_point s f i) (place_point s f m)) ≡ 0 = l.others _ _ x j.number
          (λ g g_in last. not_last g g_in last here) in
          omega (arith, ints, gives_side f _ _ x j.face_in here has j.number, none, zero)
        where
          not_last : (g : ℕ) → g < length (faces_of s) → IsLastSide s g (place_point s f i) (place_point s f m) → HasRoundSide (face_at (faces_of s) f) (place_point s f i) (place_point s f m) → ⊥
          not_last g g_in (last, last_is, from, to) here =
              let points = s.net.now.points in
              let live = live_edges s.net.now s.flags.now in
              let v = face_at (faces_of s) g in
              let m_in = j.last_in in
              let there : HasRoundSide v (place_point s f i) (place_point s f m) =
              (last, omega arith, round_within v last (omega arith) ∙ from, round_end v (last + 1) last_is ∙ to) in
              let same = same_face points live s.skeleton.now (faces_of s) (seating_of s h) f g _ _ j.face_in g_in here there in
              let long = ap (λ k. length (face_at (faces_of s) k)) same in
              let i_round = round_within v i (omega (arith, long, m_in, next)) in
              let m_round = round_within v (i + 1) (omega (arith, long, m_in, next)) in
              let at_i : round_at v last ≡ round_at v i = round_within v last (omega arith) ∙ (from ∙ (ap (λ k. place_point s k i) same ∙ sym i_round)) in
              let at_m : round_at v (last + 1) ≡ round_at v (i + 1) = round_end v (last + 1) last_is ∙ (to ∙ (ap (λ k. place_point s k m) same ∙ (ap (λ k. slice_index v k) next ∙ sym m_round))) in
              let place = same_place points live s.skeleton.now (faces_of s) (seating_of s h) g last i g_in (omega arith) (omega (arith, long, m_in, next)) at_i at_m in
              omega (arith, place, long, last_is, m_in, next)
