-- Anchors that are raised one after the other are raised as tightening says: each by the least slack under the new anchors
-- of earlier sides and the old ones of the others.
use Rattle.std.proofs.Common.{◌≡◌, ◌⊎◌, ℕ, ◌||◌, nat_lt, Bool, true, false, List, [], ◌∷◌, ◌++◌, map, flat_map, AllPairs, Contains, ℤ, ◌+ℤ◌, Decides, refl, ap, sym, ◌∙◌, subst, ⊎_elim, inl, inr}
use Rattle.std.specs.List.{list_any}
use Rattle.std.proofs.lemmas.List.{append_assoc}
use Rattle.std.proofs.lemmas.Bool.{cases_Bool, cond-false, cond-true, ltb-false, ltb-true}
use Rattle.std.proofs.lemmas.Bool.Decides.{Decides-by_or, Decides-like, Decides-or, not_from_Decides}
use Rattle.std.proofs.lemmas.List.Elements.{Contains-append_left, Contains-append_right, Contains-append_cases, Decides-contains}
use Rattle.exact_predicates.specs.declared.edge.Edge.{Edge}
use Rattle.exact_predicates.specs.Candidates.{EdgePrecedes}
use Rattle.exact_predicates.specs.Hull.{ring_pairs}
use Rattle.exact_predicates.specs.Triangulation.{is_side}
use Rattle.exact_predicates.proofs.Equalities.{Joins-comm, Joins-ends, Joins-only}
use Rattle.exact_predicates.proofs.Pairs.{is_side_decides}
use Rattle.lmt_network.specs.Flags.{live_numbers}
use Rattle.lmt_network.specs.Network.{IsNetwork, NetworkParts, edge_at}
use Rattle.lmt_network.specs.Numbers.{IsNumberOf}
use Rattle.lmt_network.specs.PriceTables.{PriceTable, entry_at}
use Rattle.lmt_network.specs.Prices.{Priced, is_on_hull}
use Rattle.lmt_network.proofs.Entries.{is_on_hull-comm, is_on_hull_decides}
use Rattle.lmt_network.proofs.Picked.{Contains-here, Contains-later}
use Rattle.price_ascent.specs.Ascent.{IsLeastSlack, IsRaised, IsTighten, anchor_at, anchored_sides, both_sides, is_among, mixed_entry}
use Rattle.price_ascent.specs.Raised.{IsRaisedAlong}
use Rattle.price_ascent.proofs.Along.{AreOutside, IsFull, along_split, anchor_next, full_along, left_along, left_of, right_along, right_of, value_along}
use Rattle.price_ascent.proofs.Changed.{which_side}
use Rattle.price_ascent.proofs.Ends.{ends_down, ends_up}
use Rattle.price_ascent.proofs.OnceEach.{AreOffHull, AreOnce, apart, edge_of_side, anchored_sides-once}

pub among_decides : (sides : List (ℕ × ℕ)) (x y : ℕ) → Decides (is_among sides x y) (Contains sides (x, y))
among_decides sides x y =
    let same : (s : ℕ × ℕ) → Decides (is_side x y s) (s ≡ (x, y))
    = λ s. Decides-like _ (λ (e, f). ap (λ z. (z, s.1)) e ∙ ap (λ z. (x, z)) f) (λ e. (ap (λ (p : ℕ × ℕ). p.0) e, ap (λ (p : ℕ × ℕ). p.1) e)) (is_side_decides x y s.0 s.1) in
    Decides-contains sides (x, y) _ (Decides-by_or (is_side x y) (λ s. s ≡ (x, y)) (list_any (is_side x y)) same refl (λ _ _. refl) sides)

-- a price list says of an edge what it has
abbrev pub price : Edge → ℤ → ℤ → ℤ → Priced
price e value left right = record { edge = e; value = value; left = left; right = right }

pub same_price : (e : Edge) (a b c x y z : ℤ) → a ≡ x → b ≡ y → c ≡ z → price e a b c ≡ price e x y z
same_price e a b c x y z f g h = cc

-- Anchors are raised from a to b along the sides before, and from b to c along the rest.
record IsBetween (n : NetworkParts) (live : List Bool) (a b c : PriceTable) (before rest : List (ℕ × ℕ)) : Type 0 where
  once : AreOnce n.hull (before ++ rest)
  first : IsRaisedAlong n live before a b
  last : IsRaisedAlong n live rest b c

-- where one side of an edge of the hull is raised at first, none is later
raised_before : (n : NetworkParts) (live : List Bool) (a b c : PriceTable) (before rest : List (ℕ × ℕ)) (k : ℕ) → IsBetween n live a b c before rest
    → Contains before (left_of n k) ⊎ Contains before (right_of n k) → is_on_hull n.hull (edge_at n k).a (edge_at n k).b ≡ true → AreOutside n rest k
raised_before n live a b c before rest k h has on =
    let x = (edge_at n k).a in
    let y = (edge_at n k).b in
    ⊎_elim
    (λ (left : Contains before (x, y)). (
      apart n.hull before rest x y h.once left,
      (λ later. h.once.one_way x y on (Contains-append_left before rest (x, y) left) (Contains-append_right before rest (y, x) later)),
    ))
    (λ (right : Contains before (y, x)). (
      (λ later. h.once.one_way y x (is_on_hull-comm n.hull x y ∙ on) (Contains-append_left before rest (y, x) right) (Contains-append_right before rest (x, y) later)),
      apart n.hull before rest y x h.once right,
    ))
    has

-- the table between is the mixed one
mixed_entry-between : (n : NetworkParts) (live : List Bool) (a b c : PriceTable) (before rest : List (ℕ × ℕ)) (k : ℕ) → IsBetween n live a b c before rest
    → entry_at n b k ≡ mixed_entry n before c a k
mixed_entry-between n live a b c before rest k h =
    let x = (edge_at n k).a in
    let y = (edge_at n k).b in
    let up = among_decides before x y in
    let down = among_decides before y x in
    let either = Decides-or (is_among before x y) (is_among before y x) up down in
    same_price (edge_at n k) _ _ _ _ _ _
    (⊎_elim
    (λ yes. sym (cond-true _ _ _ yes ∙ value_along n live rest b c k h.last (raised_before n live a b c before rest k h (either.0 yes))))
    (λ no. let none = not_from_Decides _ either no in
    value_along n live before a b k h.first (λ on. ((λ has. none (inl has)), (λ has. none (inr has)))) ∙ sym (cond-false _ _ _ no))
    (cases_Bool (is_among before x y || is_among before y x)))
    (⊎_elim
    (λ yes. sym (cond-true _ _ _ yes ∙ left_along n live rest b c k h.last (λ off. apart n.hull before rest x y h.once (up.0 yes))))
    (λ no. left_along n live before a b k h.first (λ off. not_from_Decides _ up no) ∙ sym (cond-false _ _ _ no))
    (cases_Bool (is_among before x y)))
    (⊎_elim
    (λ yes. sym (cond-true _ _ _ yes ∙ right_along n live rest b c k h.last (λ off. apart n.hull before rest y x h.once (down.0 yes))))
    (λ no. right_along n live before a b k h.first (λ off. not_from_Decides _ down no) ∙ sym (cond-false _ _ _ no))
    (cases_Bool (is_among before y x)))

map_same : {X Y : Type 0} (f g : X → Y) (xs : List X) → ((x : X) → f x ≡ g x) → map f xs ≡ map g xs
map_same f g [] same = refl
map_same f g (x ∷ xs) same = ap (λ y. y ∷ map f xs) (same x) ∙ ap (λ ys. g x ∷ ys) (map_same f g xs same)

-- the anchor of the side u to v is not raised along these sides
anchor_along : (n : NetworkParts) (live : List Bool) (sides : List (ℕ × ℕ)) (a b : PriceTable) (e u v : ℕ) → IsNumberOf n u v e → IsRaisedAlong n live sides a b
    → ¬ Contains sides (u, v) → (is_on_hull n.hull u v ≡ true → ¬ Contains sides (v, u)) → anchor_at n b e u v ≡ anchor_at n a e u v
anchor_along n live sides a b e u v is h out turned = at (is_on_hull n.hull u v) refl (nat_lt u v) refl
  where
    outside : is_on_hull n.hull u v ≡ true → AreOutside n sides e
    outside on =
        ⊎_elim
        (λ (s : (u ≡ (edge_at n e).a) × (v ≡ (edge_at n e).b)). (
          (λ has. out (subst (λ (x : ℕ). Contains sides (x, v)) (sym s.0) (subst (λ (y : ℕ). Contains sides ((edge_at n e).a, y)) (sym s.1) has))),
          (λ has. turned on (subst (λ (y : ℕ). Contains sides (y, u)) (sym s.1) (subst (λ (x : ℕ). Contains sides ((edge_at n e).b, x)) (sym s.0) has))),
        ))
        (λ (s : (u ≡ (edge_at n e).b) × (v ≡ (edge_at n e).a)). (
          (λ has. turned on (subst (λ (y : ℕ). Contains sides (y, u)) (sym s.1) (subst (λ (x : ℕ). Contains sides ((edge_at n e).a, x)) (sym s.0) has))),
          (λ has. out (subst (λ (x : ℕ). Contains sides (x, v)) (sym s.0) (subst (λ (y : ℕ). Contains sides ((edge_at n e).b, y)) (sym s.1) has))),
        ))
        (which_side n e u v is)

    ends_on : is_on_hull n.hull (edge_at n e).a (edge_at n e).b ≡ true → is_on_hull n.hull u v ≡ true
    ends_on on =
        ⊎_elim
        (λ (s : (u ≡ (edge_at n e).a) × (v ≡ (edge_at n e).b)). ap (λ x. is_on_hull n.hull x v) s.0 ∙ (ap (λ y. is_on_hull n.hull (edge_at n e).a y) s.1 ∙ on))
        (λ (s : (u ≡ (edge_at n e).b) × (v ≡ (edge_at n e).a)).
        ap (λ x. is_on_hull n.hull x v) s.0 ∙ (ap (λ y. is_on_hull n.hull (edge_at n e).b y) s.1 ∙ (is_on_hull-comm n.hull (edge_at n e).a (edge_at n e).b ∙ on)))
        (which_side n e u v is)

    at : (on : Bool) → is_on_hull n.hull u v ≡ on → (up : Bool) → nat_lt u v ≡ up → anchor_at n b e u v ≡ anchor_at n a e u v
    at true on up l = cond-true _ _ _ on ∙ (value_along n live sides a b e h (λ k. outside on) ∙ sym (cond-true _ _ _ on))
    at false off true l =
        let ends = ends_up n e u v is (ltb-true u v l) in
        cond-false _ _ _ off ∙ (cond-true _ _ _ l
        ∙ (left_along n live sides a b e h (λ k has. out (subst (λ (x : ℕ). Contains sides (x, v)) ends.0 (subst (λ (y : ℕ). Contains sides ((edge_at n e).a, y)) ends.1 has)))
        ∙ sym (cond-false _ _ _ off ∙ cond-true _ _ _ l)))
    at false off false l =
        let ends = ends_down n e u v is (ltb-false u v l) in
        cond-false _ _ _ off ∙ (cond-false _ _ _ l
        ∙ (right_along n live sides a b e h (λ k has. out (subst (λ (x : ℕ). Contains sides (x, v)) ends.0 (subst (λ (y : ℕ). Contains sides ((edge_at n e).b, y)) ends.1 has)))
        ∙ sym (cond-false _ _ _ off ∙ cond-false _ _ _ l)))

-- one side in its turn
raised_between : (n : NetworkParts) (live : List Bool) (a c : PriceTable) (before after : List (ℕ × ℕ)) (u v : ℕ) → IsFull n a → AreOnce n.hull (before ++ (u, v) ∷ after)
    → IsRaisedAlong n live (before ++ (u, v) ∷ after) a c → IsRaised n live a c before u v
raised_between n live a c before after u v full once h =
    let (b, first, last) = along_split n live before ((u, v) ∷ after) a c h in
    let between : IsBetween n live a b c before ((u, v) ∷ after) = record { once = once; first = first; last = last } in
    let r = last.1 in
    let itself = Contains-append_right before ((u, v) ∷ after) (u, v) (Contains-here (u, v) after) in
    record {
      e = r.e;
      number = r.number;
      m = r.m;
      least = subst (λ (prices : List Priced). IsLeastSlack n.points n.hull prices u v r.m)
          (map_same (entry_at n b) (mixed_entry n before c a) (live_numbers live) (λ k. mixed_entry-between n live a b c before ((u, v) ∷ after) k between)) r.least;
      anchor = anchor_along n live after last.0 c r.e u v r.number last.2
          (λ later. apart n.hull (before ++ (u, v) ∷ []) after u v (subst (AreOnce n.hull) (sym (append_assoc before ((u, v) ∷ []) after)) once)
          (Contains-append_right before ((u, v) ∷ []) (u, v) (Contains-here (u, v) [])) later)
          (λ on later. once.one_way u v on itself (Contains-append_right before ((u, v) ∷ after) (v, u) (Contains-later (u, v) (v, u) after later)))
          ∙ (anchor_next n live b last.0 u v r (full_along n live before a b first full)
          ∙ ap (λ y. y +ℤ r.m) (anchor_along n live before a b r.e u v r.number first
          (λ sooner. apart n.hull before ((u, v) ∷ after) u v once sooner (Contains-here (u, v) after))
          (λ on sooner. once.one_way u v on itself (Contains-append_left before ((u, v) ∷ after) (v, u) sooner))));
    }

-- the left side of an edge without anchors is none of those with an anchor, and so is the right one
not_anchored : (n : NetworkParts) (anchored : List Edge) (k u v : ℕ) → IsNumberOf n u v k → ¬ Contains anchored (edge_at n k) → is_on_hull n.hull u v ≡ false
    → ¬ Contains (anchored_sides n.hull anchored) (u, v)
not_anchored n anchored k u v is none off has =
    ⊎_elim
    (λ pair. not_from_Decides _ (is_on_hull_decides n.hull u v) off (inl pair))
    (λ inner. let (f, f_in, joins) = edge_of_side anchored u v inner in none (subst (Contains anchored) (Joins-only f (edge_at n k) u v joins is.1) f_in))
    (Contains-append_cases (ring_pairs n.hull) (flat_map both_sides anchored) (u, v) has)

-- all sides, one after the other
pub along_tightens : (n : NetworkParts) (live : List Bool) (anchored : List Edge) (a c : PriceTable) → IsNetwork n → IsFull n a → AllPairs EdgePrecedes anchored → AreOffHull n.hull anchored
    → IsRaisedAlong n live (anchored_sides n.hull anchored) a c → IsTighten n live anchored a c
along_tightens n live anchored a c net full up off h =
    let sides = anchored_sides n.hull anchored in
    let once = anchored_sides-once n.points n.hull anchored net.hull_is up off in
    record {
      one_each = (full_along n live sides a c h full).values ∙ sym full.values;
      sides = λ before after u v is. raised_between n live a c before after u v full (subst (AreOnce n.hull) is once) (subst (λ (xs : List (ℕ × ℕ)). IsRaisedAlong n live xs a c) is h);
      prices = λ k k_in inner. value_along n live sides a c k h (λ on. absurd (inner ((is_on_hull_decides n.hull (edge_at n k).a (edge_at n k).b).0 on)));
      lefts = λ k k_in none. left_along n live sides a c k h (not_anchored n anchored k (edge_at n k).a (edge_at n k).b (k_in, Joins-ends (edge_at n k)) none);
      rights = λ k k_in none. right_along n live sides a c k h (λ off. not_anchored n anchored k (edge_at n k).b (edge_at n k).a
          (k_in, Joins-comm (edge_at n k) (edge_at n k).a (edge_at n k).b (Joins-ends (edge_at n k))) none (is_on_hull-comm n.hull (edge_at n k).a (edge_at n k).b ∙ off));
    }
