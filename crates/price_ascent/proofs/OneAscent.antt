-- There is one ascent.
use Rattle.std.proofs.Common.{◌≡◌, ◌⊎◌, ℕ, ◌<◌, ◌||◌, Bool, true, List, [], ◌∷◌, ◌++◌, length, map, flat_map, Contains, ◌+ℤ◌, refl, ap, sym, ◌∙◌, subst, arith, ⊎_elim, inl, inr}
use Rattle.std.proofs.lemmas.Bool.{cases_Bool, cond-false, cond-true, le-ltb, lt-ltb}
use Rattle.std.proofs.lemmas.Bool.Decides.{Decides-or, not_from_Decides}
use Rattle.std.proofs.lemmas.List.{append-nil, append_assoc}
use Rattle.std.proofs.lemmas.List.Elements.{Contains-append_left, Contains-append_right, Contains-push_cases}
use Rattle.exact_predicates.specs.declared.edge.Edge.{Edge}
use Rattle.exact_predicates.specs.Hull.{ring_pairs}
use Rattle.exact_predicates.proofs.Equalities.{Joins-comm, Joins-ends, Joins-only}
use Rattle.lmt_network.specs.Flags.{live_numbers}
use Rattle.lmt_network.specs.Network.{IsNetwork, NetworkParts, edge_at}
use Rattle.lmt_network.specs.Numbers.{IsNumberOf}
use Rattle.lmt_network.specs.PriceTables.{PriceTable, entry_at}
use Rattle.lmt_network.specs.Prices.{Priced, is_on_hull}
use Rattle.lmt_network.proofs.Entries.{is_on_hull-comm, is_on_hull_decides}
use Rattle.lmt_network.proofs.Naming.{edge_at-once}
use Rattle.lmt_network.proofs.Picked.{Contains-here, Contains-later, Contains-nil, flag_from_live, flag_in}
use Rattle.price_ascent.specs.Ascent.{AreSweeps, IsLeastSlack, IsTighten, anchor_at, anchored_sides, both_sides, is_among, left_at, mixed_entry, right_at, value_at}
use Rattle.price_ascent.specs.OneAscent.{OneAscent}
use Rattle.price_ascent.proofs.Mixing.{among_decides, same_price}
use Rattle.price_ascent.proofs.OnceEach.{AreOffHull}
use Rattle.price_ascent.proofs.OneSweep.{least_once, one_start, one_sweeps}
use Rattle.price_ascent.proofs.Shares.{hull_number, inner_number, on_hull}
use Rattle.price_ascent.proofs.Tightness.{left_among, right_among}

-- the same values at each member
map_at : {X Y : Type 0} (f g : X → Y) (xs : List X) → ((x : X) → Contains xs x → f x ≡ g x) → map f xs ≡ map g xs
map_at f g [] same = refl
map_at f g (x ∷ xs) same = ap (λ y. y ∷ map f xs) (same x (Contains-here x xs)) ∙ ap (λ ys. g x ∷ ys) (map_at f g xs (λ y has. same y (Contains-later x y xs has)))

-- Two tables that are the same anchors tightened.
record AreTwo (n : NetworkParts) (live : List Bool) (anchored : List Edge) (o s t : PriceTable) : Type 0 where
  net : IsNetwork n
  one_each : length live ≡ length n.edges
  off : AreOffHull n.hull anchored
  one : IsTighten n live anchored o s
  other : IsTighten n live anchored o t

-- they agree on the anchors of these sides
abbrev Agree : NetworkParts → PriceTable → PriceTable → List (ℕ × ℕ) → Type 0
Agree n s t sides = (u v e : ℕ) → Contains sides (u, v) → IsNumberOf n u v e → anchor_at n s e u v ≡ anchor_at n t e u v

module _ {n : NetworkParts} {live : List Bool} {anchored : List Edge} {o s t : PriceTable} (h : AreTwo n live anchored o s t) where
  up_number : (k : ℕ) → k < length n.edges → IsNumberOf n (edge_at n k).a (edge_at n k).b k
  up_number k k_in = (k_in, Joins-ends (edge_at n k))

  down_number : (k : ℕ) → k < length n.edges → IsNumberOf n (edge_at n k).b (edge_at n k).a k
  down_number k k_in = (k_in, Joins-comm (edge_at n k) (edge_at n k).a (edge_at n k).b (Joins-ends (edge_at n k)))

  -- an edge of the hull has no other anchors
  hull_not_anchored : (k : ℕ) → on_hull n k ≡ true → ¬ Contains anchored (edge_at n k)
  hull_not_anchored k on has = h.off (edge_at n k) has (hull_number n k on)

  left_same : (sides : List (ℕ × ℕ)) (k : ℕ) → Agree n s t sides → k < length n.edges → Contains sides ((edge_at n k).a, (edge_at n k).b) → left_at s k ≡ left_at t k
  left_same sides k agree k_in has =
      let up = lt-ltb (edge_at n k).a (edge_at n k).b (edge_at n k).ascending in
      ⊎_elim
      (λ on. h.one.lefts k k_in (hull_not_anchored k on) ∙ sym (h.other.lefts k k_in (hull_not_anchored k on)))
      (λ off.
      sym (cond-false (on_hull n k) _ _ off ∙ cond-true _ _ _ up)
      ∙ (agree (edge_at n k).a (edge_at n k).b k has (up_number k k_in) ∙ (cond-false (on_hull n k) _ _ off ∙ cond-true _ _ _ up)))
      (cases_Bool (on_hull n k))

  right_same : (sides : List (ℕ × ℕ)) (k : ℕ) → Agree n s t sides → k < length n.edges → Contains sides ((edge_at n k).b, (edge_at n k).a) → right_at s k ≡ right_at t k
  right_same sides k agree k_in has =
      let rises = (edge_at n k).ascending in
      let down = le-ltb (edge_at n k).b (edge_at n k).a (omega arith) in
      ⊎_elim
      (λ on. h.one.rights k k_in (hull_not_anchored k on) ∙ sym (h.other.rights k k_in (hull_not_anchored k on)))
      (λ off.
      let turned = is_on_hull-comm n.hull (edge_at n k).a (edge_at n k).b ∙ off in
      sym (cond-false (is_on_hull n.hull (edge_at n k).b (edge_at n k).a) _ _ turned ∙ cond-false _ _ _ down)
      ∙ (agree (edge_at n k).b (edge_at n k).a k has (down_number k k_in) ∙ (cond-false (is_on_hull n.hull (edge_at n k).b (edge_at n k).a) _ _ turned ∙ cond-false _ _ _ down)))
      (cases_Bool (on_hull n k))

  value_same : (sides : List (ℕ × ℕ)) (k : ℕ) → Agree n s t sides → k < length n.edges
      → (on_hull n k ≡ true → Contains sides ((edge_at n k).a, (edge_at n k).b) ⊎ Contains sides ((edge_at n k).b, (edge_at n k).a)) → value_at s k ≡ value_at t k
  value_same sides k agree k_in has =
      ⊎_elim
      (λ on.
      let turned = is_on_hull-comm n.hull (edge_at n k).a (edge_at n k).b ∙ on in
      ⊎_elim
      (λ up. sym (cond-true (on_hull n k) _ _ on) ∙ (agree (edge_at n k).a (edge_at n k).b k up (up_number k k_in) ∙ cond-true (on_hull n k) _ _ on))
      (λ down. sym (cond-true (is_on_hull n.hull (edge_at n k).b (edge_at n k).a) _ _ turned)
      ∙ (agree (edge_at n k).b (edge_at n k).a k down (down_number k k_in) ∙ cond-true (is_on_hull n.hull (edge_at n k).b (edge_at n k).a) _ _ turned))
      (has on))
      (λ off. h.one.prices k k_in (inner_number n k off) ∙ sym (h.other.prices k k_in (inner_number n k off)))
      (cases_Bool (on_hull n k))

  -- where they agree on the sides before one, they have the same prices at its turn
  mixed_same : (before : List (ℕ × ℕ)) (k : ℕ) → Agree n s t before → k < length n.edges → mixed_entry n before s o k ≡ mixed_entry n before t o k
  mixed_same before k agree k_in =
      let x = (edge_at n k).a in
      let y = (edge_at n k).b in
      let up = among_decides before x y in
      let down = among_decides before y x in
      let either = Decides-or (is_among before x y) (is_among before y x) up down in
      same_price (edge_at n k) _ _ _ _ _ _
      (⊎_elim
      (λ is. cond-true _ _ _ is ∙ (value_same before k agree k_in (λ on. either.0 is) ∙ sym (cond-true _ _ _ is)))
      (λ away. cond-false _ _ _ away ∙ sym (cond-false _ _ _ away))
      (cases_Bool (is_among before x y || is_among before y x)))
      (⊎_elim
      (λ is. cond-true _ _ _ is ∙ (left_same before k agree k_in (up.0 is) ∙ sym (cond-true _ _ _ is)))
      (λ away. cond-false _ _ _ away ∙ sym (cond-false _ _ _ away))
      (cases_Bool (is_among before x y)))
      (⊎_elim
      (λ is. cond-true _ _ _ is ∙ (right_same before k agree k_in (down.0 is) ∙ sym (cond-true _ _ _ is)))
      (λ away. cond-false _ _ _ away ∙ sym (cond-false _ _ _ away))
      (cases_Bool (is_among before y x)))

  live_in : (k : ℕ) → Contains (live_numbers live) k → k < length n.edges
  live_in k has = let l = flag_in live k (flag_from_live live k has) in let many = h.one_each in omega arith

  -- so they agree on that side too
  agree_next : (before after : List (ℕ × ℕ)) (x : ℕ × ℕ) → anchored_sides n.hull anchored ≡ before ++ x ∷ after → Agree n s t before → Agree n s t (before ++ x ∷ [])
  agree_next before after x is agree u v e has number =
      ⊎_elim
      (λ sooner. agree u v e sooner number)
      (λ (same : x ≡ (u, v)).
      let here = subst (λ (p : ℕ × ℕ). anchored_sides n.hull anchored ≡ before ++ p ∷ after) same is in
      let p = h.one.sides before after u v here in
      let q = h.other.sides before after u v here in
      let prices = map_at (mixed_entry n before s o) (mixed_entry n before t o) (live_numbers live) (λ k live_k. mixed_same before k agree (live_in k live_k)) in
      let m_same = least_once n.points n.hull _ u v p.m q.m (subst (λ (ps : List Priced). IsLeastSlack n.points n.hull ps u v p.m) prices p.least) q.least in
      let once : (f : ℕ) → IsNumberOf n u v f → f ≡ e
      = λ f f_is. edge_at-once n f e h.net.ascending f_is.0 number.0 (Joins-only (edge_at n f) (edge_at n e) u v f_is.1 number.1) in
      subst (λ (f : ℕ). anchor_at n s f u v ≡ anchor_at n o f u v +ℤ p.m) (once p.e p.number) p.anchor
      ∙ (ap (λ m. anchor_at n o e u v +ℤ m) m_same ∙ sym (subst (λ (f : ℕ). anchor_at n t f u v ≡ anchor_at n o f u v +ℤ q.m) (once q.e q.number) q.anchor)))
      (Contains-push_cases before x (u, v) has)

  agree_all : (before after : List (ℕ × ℕ)) → anchored_sides n.hull anchored ≡ before ++ after → Agree n s t before → Agree n s t (anchored_sides n.hull anchored)
  agree_all before [] is agree = subst (Agree n s t) (sym (is ∙ append-nil before)) agree
  agree_all before (x ∷ after) is agree = agree_all (before ++ x ∷ []) after (is ∙ sym (append_assoc before (x ∷ []) after)) (agree_next before after x is agree)

  -- and on all of them
  agreed : Agree n s t (anchored_sides n.hull anchored)
  agreed = agree_all [] (anchored_sides n.hull anchored) refl (λ u v e has number. absurd (Contains-nil (u, v) has))

  entry_same : (k : ℕ) → k < length n.edges → entry_at n s k ≡ entry_at n t k
  entry_same k k_in =
      let x = (edge_at n k).a in
      let y = (edge_at n k).b in
      let sides = anchored_sides n.hull anchored in
      let ring = ring_pairs n.hull in
      let inner = flat_map both_sides anchored in
      let up = among_decides sides x y in
      let down = among_decides sides y x in
      same_price (edge_at n k) _ _ _ _ _ _
      (value_same sides k agreed k_in (λ on. ⊎_elim (λ p. inl (Contains-append_left ring inner (x, y) p)) (λ p. inr (Contains-append_left ring inner (y, x) p)) ((is_on_hull_decides n.hull x y).0 on)))
      (⊎_elim
      (λ is. left_same sides k agreed k_in (up.0 is))
      (λ away.
      let none : ¬ Contains anchored (edge_at n k) = λ has. not_from_Decides _ up away (Contains-append_right ring inner (x, y) (left_among anchored (edge_at n k) has)) in
      h.one.lefts k k_in none ∙ sym (h.other.lefts k k_in none))
      (cases_Bool (is_among sides x y)))
      (⊎_elim
      (λ is. right_same sides k agreed k_in (down.0 is))
      (λ away.
      let none : ¬ Contains anchored (edge_at n k) = λ has. not_from_Decides _ down away (Contains-append_right ring inner (y, x) (right_among anchored (edge_at n k) has)) in
      h.one.rights k k_in none ∙ sym (h.other.rights k k_in none))
      (cases_Bool (is_among sides y x)))

pub one_ascent : OneAscent
one_ascent n live anchored sweeps s t net one_each off a b =
    let first = one_start n live a.first b.first a.start b.start in
    let swept = one_sweeps n live sweeps a.first a.swept b.swept a.start.one_each a.sweep (subst (λ (x : PriceTable). AreSweeps n live sweeps x b.swept) (sym first) b.sweep) in
    let two : AreTwo n live anchored a.swept s t
    = record {
      net = net;
      one_each = one_each;
      off = off;
      one = a.tighten;
      other = subst (λ (x : PriceTable). IsTighten n live anchored x t) (sym swept) b.tighten;
    } in
    map_at (entry_at n s) (entry_at n t) (live_numbers live) (λ k has. entry_same two k (live_in two k has))
