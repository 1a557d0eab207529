-- What stays where anchors are raised along a list of sides.
use Rattle.std.proofs.Common.{◌≡◌, ◌≢◌, ℕ, ◌<◌, cond, nat_lt, Bool, true, false, List, [], ◌∷◌, ◌++◌, length, Contains, ℤ, ◌+ℤ◌, refl, ap, sym, ◌∙◌, subst, arith, ⊎_elim, get_or-set_other, get_or-set_same, length-set}
use Rattle.std.proofs.lemmas.Bool.{ltb-false, ltb-true}
use Rattle.lmt_network.specs.Network.{NetworkParts, edge_at}
use Rattle.lmt_network.specs.Numbers.{IsNumberOf}
use Rattle.lmt_network.specs.PriceTables.{PriceTable}
use Rattle.lmt_network.specs.Prices.{is_on_hull}
use Rattle.lmt_network.proofs.Entries.{is_on_hull-comm}
use Rattle.lmt_network.proofs.Picked.{Contains-here, Contains-later}
use Rattle.price_ascent.specs.Ascent.{anchor_at, left_at, right_at, value_at}
use Rattle.price_ascent.specs.Raised.{IsRaisedAlong, IsRaisedNext, with_more}
use Rattle.price_ascent.proofs.Changed.{which_side}
use Rattle.price_ascent.proofs.Ends.{ends_down, ends_up}

-- the table with m more at the place e of one of its lists
abbrev more_in : Bool → Bool → PriceTable → ℕ → ℤ → PriceTable
more_in on up t e m =
    cond on
    (record { values = with_more t.values e m; lefts = t.lefts; rights = t.rights })
    (cond up
    (record { values = t.values; lefts = with_more t.lefts e m; rights = t.rights })
    (record { values = t.values; lefts = t.lefts; rights = with_more t.rights e m }))

more_in-values : (on up : Bool) (t : PriceTable) (e k : ℕ) (m : ℤ) → (on ≡ true → k ≢ e) → value_at (more_in on up t e m) k ≡ value_at t k
more_in-values true up t e k m away = get_or-set_other t.values e k _ _ (away refl)
more_in-values false true t e k m away = refl
more_in-values false false t e k m away = refl

more_in-lefts : (on up : Bool) (t : PriceTable) (e k : ℕ) (m : ℤ) → (on ≡ false → up ≡ true → k ≢ e) → left_at (more_in on up t e m) k ≡ left_at t k
more_in-lefts true up t e k m away = refl
more_in-lefts false true t e k m away = get_or-set_other t.lefts e k _ _ (away refl refl)
more_in-lefts false false t e k m away = refl

more_in-rights : (on up : Bool) (t : PriceTable) (e k : ℕ) (m : ℤ) → (on ≡ false → up ≡ false → k ≢ e) → right_at (more_in on up t e m) k ≡ right_at t k
more_in-rights true up t e k m away = refl
more_in-rights false true t e k m away = refl
more_in-rights false false t e k m away = get_or-set_other t.rights e k _ _ (away refl refl)

-- the lists of a table are as long as the list of edges
pub record IsFull (n : NetworkParts) (t : PriceTable) : Type 0 where
  pub values : length t.values ≡ length n.edges
  pub lefts : length t.lefts ≡ length n.edges
  pub rights : length t.rights ≡ length n.edges

more_in-full : (n : NetworkParts) (on up : Bool) (t : PriceTable) (e : ℕ) (m : ℤ) → IsFull n t → IsFull n (more_in on up t e m)
more_in-full n true up t e m h = record { values = length-set t.values e _ ∙ h.values; lefts = h.lefts; rights = h.rights }
more_in-full n false true t e m h = record { values = h.values; lefts = length-set t.lefts e _ ∙ h.lefts; rights = h.rights }
more_in-full n false false t e m h = record { values = h.values; lefts = h.lefts; rights = length-set t.rights e _ ∙ h.rights }

pub full_next : (n : NetworkParts) (live : List Bool) (a b : PriceTable) (u v : ℕ) → IsRaisedNext n live a b u v → IsFull n a → IsFull n b
full_next n live a b u v r h = subst (IsFull n) (sym r.new_is) (more_in-full n (is_on_hull n.hull u v) (nat_lt u v) a r.e r.m h)

pub full_along : (n : NetworkParts) (live : List Bool) (sides : List (ℕ × ℕ)) (a b : PriceTable) → IsRaisedAlong n live sides a b → IsFull n a → IsFull n b
full_along n live [] a b h full = subst (IsFull n) (sym h) full
full_along n live (s ∷ sides) a b (next, r, rest) full = full_along n live sides next b rest (full_next n live a next s.0 s.1 r full)

-- an anchor is more at its own place
more_in-own : (n : NetworkParts) (on up : Bool) (t : PriceTable) (e : ℕ) (m : ℤ) → IsFull n t → e < length n.edges
    → cond on (value_at (more_in on up t e m) e) (cond up (left_at (more_in on up t e m) e) (right_at (more_in on up t e m) e))
    ≡ cond on (value_at t e) (cond up (left_at t e) (right_at t e)) +ℤ m
more_in-own n true up t e m h e_in = get_or-set_same t.values e _ _ (let many = h.values in omega arith)
more_in-own n false true t e m h e_in = get_or-set_same t.lefts e _ _ (let many = h.lefts in omega arith)
more_in-own n false false t e m h e_in = get_or-set_same t.rights e _ _ (let many = h.rights in omega arith)

pub anchor_next : (n : NetworkParts) (live : List Bool) (a b : PriceTable) (u v : ℕ) (r : IsRaisedNext n live a b u v) → IsFull n a → anchor_at n b r.e u v ≡ anchor_at n a r.e u v +ℤ r.m
anchor_next n live a b u v r full = ap (λ (t : PriceTable). anchor_at n t r.e u v) r.new_is ∙ more_in-own n (is_on_hull n.hull u v) (nat_lt u v) a r.e r.m full r.number.0

-- pairs with the same ends
same_pair : (s p : ℕ × ℕ) → p.0 ≡ s.0 → p.1 ≡ s.1 → s ≡ p
same_pair s p e f = ap (λ z. (z, s.1)) (sym e) ∙ ap (λ z. (p.0, z)) (sym f)

-- the left side of the edge k, and its right side
abbrev pub left_of : NetworkParts → ℕ → ℕ × ℕ
left_of n k = ((edge_at n k).a, (edge_at n k).b)

abbrev pub right_of : NetworkParts → ℕ → ℕ × ℕ
right_of n k = ((edge_at n k).b, (edge_at n k).a)

-- which of its two sides is raised, if any
left_raised : (n : NetworkParts) (s : ℕ × ℕ) (k : ℕ) → IsNumberOf n s.0 s.1 k → nat_lt s.0 s.1 ≡ true → s ≡ left_of n k
left_raised n s k is up = let e = ends_up n k s.0 s.1 is (ltb-true s.0 s.1 up) in same_pair s (left_of n k) e.0 e.1

right_raised : (n : NetworkParts) (s : ℕ × ℕ) (k : ℕ) → IsNumberOf n s.0 s.1 k → nat_lt s.0 s.1 ≡ false → s ≡ right_of n k
right_raised n s k is down = let e = ends_down n k s.0 s.1 is (ltb-false s.0 s.1 down) in same_pair s (right_of n k) e.0 e.1

-- anchors of left sides that are not raised
pub left_along : (n : NetworkParts) (live : List Bool) (sides : List (ℕ × ℕ)) (a b : PriceTable) (k : ℕ) → IsRaisedAlong n live sides a b
    → (is_on_hull n.hull (edge_at n k).a (edge_at n k).b ≡ false → ¬ Contains sides (left_of n k)) → left_at b k ≡ left_at a k
left_along n live [] a b k h out = ap (λ (t : PriceTable). left_at t k) h
left_along n live (s ∷ sides) a b k (next, r, rest) out =
    left_along n live sides next b k rest (λ off later. out off (Contains-later s (left_of n k) sides later))
    ∙ (ap (λ (t : PriceTable). left_at t k) r.new_is
    ∙ more_in-lefts (is_on_hull n.hull s.0 s.1) (nat_lt s.0 s.1) a r.e k r.m (λ off up same.
    let side = left_raised n s k (subst (IsNumberOf n s.0 s.1) (sym same) r.number) up in
    out (ap (λ (p : ℕ × ℕ). is_on_hull n.hull p.0 p.1) (sym side) ∙ off) (subst (Contains (s ∷ sides)) side (Contains-here s sides))))

-- and of right sides
pub right_along : (n : NetworkParts) (live : List Bool) (sides : List (ℕ × ℕ)) (a b : PriceTable) (k : ℕ) → IsRaisedAlong n live sides a b
    → (is_on_hull n.hull (edge_at n k).a (edge_at n k).b ≡ false → ¬ Contains sides (right_of n k)) → right_at b k ≡ right_at a k
right_along n live [] a b k h out = ap (λ (t : PriceTable). right_at t k) h
right_along n live (s ∷ sides) a b k (next, r, rest) out =
    right_along n live sides next b k rest (λ off later. out off (Contains-later s (right_of n k) sides later))
    ∙ (ap (λ (t : PriceTable). right_at t k) r.new_is
    ∙ more_in-rights (is_on_hull n.hull s.0 s.1) (nat_lt s.0 s.1) a r.e k r.m (λ off down same.
    let side = right_raised n s k (subst (IsNumberOf n s.0 s.1) (sym same) r.number) down in
    out (sym (is_on_hull-comm n.hull (edge_at n k).a (edge_at n k).b) ∙ (ap (λ (p : ℕ × ℕ). is_on_hull n.hull p.0 p.1) (sym side) ∙ off))
    (subst (Contains (s ∷ sides)) side (Contains-here s sides))))

-- neither side of the edge k is among these
abbrev pub AreOutside : NetworkParts → List (ℕ × ℕ) → ℕ → Type 0
AreOutside n sides k = (¬ Contains sides (left_of n k)) × (¬ Contains sides (right_of n k))

-- anchors of the hull that are not raised, and all prices
pub value_along : (n : NetworkParts) (live : List Bool) (sides : List (ℕ × ℕ)) (a b : PriceTable) (k : ℕ) → IsRaisedAlong n live sides a b
    → (is_on_hull n.hull (edge_at n k).a (edge_at n k).b ≡ true → AreOutside n sides k) → value_at b k ≡ value_at a k
value_along n live [] a b k h out = ap (λ (t : PriceTable). value_at t k) h
value_along n live (s ∷ sides) a b k (next, r, rest) out =
    value_along n live sides next b k rest (λ on. let far = out on in
    ((λ later. far.0 (Contains-later s (left_of n k) sides later)), (λ later. far.1 (Contains-later s (right_of n k) sides later))))
    ∙ (ap (λ (t : PriceTable). value_at t k) r.new_is
    ∙ more_in-values (is_on_hull n.hull s.0 s.1) (nat_lt s.0 s.1) a r.e k r.m (λ on same.
    let x = (edge_at n k).a in
    let y = (edge_at n k).b in
    let here = Contains-here s sides in
    ⊎_elim
    (λ (p : (s.0 ≡ x) × (s.1 ≡ y)).
    let side = same_pair s (left_of n k) (sym p.0) (sym p.1) in
    (out (ap (λ (q : ℕ × ℕ). is_on_hull n.hull q.0 q.1) (sym side) ∙ on)).0 (subst (Contains (s ∷ sides)) side here))
    (λ (p : (s.0 ≡ y) × (s.1 ≡ x)).
    let side = same_pair s (right_of n k) (sym p.0) (sym p.1) in
    (out (sym (is_on_hull-comm n.hull x y) ∙ (ap (λ (q : ℕ × ℕ). is_on_hull n.hull q.0 q.1) (sym side) ∙ on))).1 (subst (Contains (s ∷ sides)) side here))
    (which_side n k s.0 s.1 (subst (IsNumberOf n s.0 s.1) (sym same) r.number))))

-- the sides in two parts
pub along_split : (n : NetworkParts) (live : List Bool) (xs ys : List (ℕ × ℕ)) (a c : PriceTable) → IsRaisedAlong n live (xs ++ ys) a c
    → (b : PriceTable) × IsRaisedAlong n live xs a b × IsRaisedAlong n live ys b c
along_split n live [] ys a c h = (a, refl, h)
along_split n live (x ∷ xs) ys a c (next, r, rest) =
    let (b, first, last) = along_split n live xs ys next c rest in
    (b, (next, r, first), last)
