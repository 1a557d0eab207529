-- Sides whose anchors are raised one after the other.
use Rattle.std.proofs.Common.{◌≡◌, ℕ, Bool, List, [], ◌∷◌, ◌++◌, map, ℤ, pos, ◌≤ℤ◌, refl, sym, ◌∙◌, subst, arith, ⊎_elim, inl, inr}
use Rattle.std.proofs.lemmas.Int.{ints}
use Rattle.exact_predicates.specs.declared.tri.Tri.{Tri}
use Rattle.lmt_network.specs.Network.{NetworkParts}
use Rattle.lmt_network.specs.Numbers.{IsHullNumber}
use Rattle.lmt_network.specs.PriceTables.{PriceTable}
use Rattle.lmt_network.specs.Prices.{IsFeasible, slack}
use Rattle.lmt_network.proofs.Picked.{Contains-cases}
use Rattle.price_ascent.specs.declared.entry.PriceEntry.{PriceEntry}
use Rattle.price_ascent.specs.Ascent.{IsLeastSlack, IsLiveOn}
use Rattle.price_ascent.specs.Belonging.{AreEntriesOf, AreZeroWhereBare}
use Rattle.price_ascent.specs.Entries.{entry, live_of, prices_of, table_of}
use Rattle.price_ascent.specs.Raised.{AreRaised, IsRaisedAlong, IsRaisedNext, IsSettled}
use Rattle.price_ascent.proofs.LiveSides.{same_live}
use Rattle.price_ascent.proofs.Rises.{AreRisen}

-- One side has been raised.
pub record IsOneRaised (n : NetworkParts) (fs gs : List PriceEntry) (u v : ℕ) : Type 0 where
  pub before : AreEntriesOf n fs
  pub entries : AreEntriesOf n gs
  pub bare : AreZeroWhereBare n fs → AreZeroWhereBare n gs
  pub live : live_of gs ≡ live_of fs
  pub anchored : map (λ p. p.anchored) gs ≡ map (λ p. p.anchored) fs
  pub prices : (e : ℕ) → ¬ IsHullNumber n e → (entry gs e).value ≡ (entry fs e).value
  pub anchors : (e : ℕ) → (entry fs e).value ≤ℤ (entry gs e).value
  pub lefts : (e : ℕ) → (entry fs e).left ≤ℤ (entry gs e).left
  pub rights : (e : ℕ) → (entry fs e).right ≤ℤ (entry gs e).right
  pub raised : IsRaisedNext n (live_of fs) (table_of fs) (table_of gs) u v
  pub m : ℤ
  pub least : IsLeastSlack n.points n.hull (prices_of n fs) u v m
  pub risen : AreRisen n fs gs u v m

-- no side has been raised yet
pub none_raised : (n : NetworkParts) (es : List PriceEntry) (sides : List (ℕ × ℕ)) → AreEntriesOf n es → IsFeasible n.points n.hull (prices_of n es) → AreRaised n es es sides sides
none_raised n es sides b feasible =
    record {
      entries = b;
      feasible = feasible;
      bare = λ z. z;
      live = refl;
      anchored = refl;
      prices = λ e inner. refl;
      anchors = λ e hull. omega (arith, ints);
      lefts = λ e. omega (arith, ints);
      rights = λ e. omega (arith, ints);
      along = λ end h. h;
      keeps = λ u v h. h;
      settled = λ u v h. inl h;
    }

-- live triangles before and after
live_after : (n : NetworkParts) (fs gs : List PriceEntry) (p q u v : ℕ) (t : Tri) → IsOneRaised n fs gs u v → IsLiveOn n.points (prices_of n fs) p q t → IsLiveOn n.points (prices_of n gs) p q t
live_after n fs gs p q u v t r on = (on.0, same_live n fs gs t r.before.one_each r.entries.one_each (sym r.live) on.1)

live_before : (n : NetworkParts) (fs gs : List PriceEntry) (p q u v : ℕ) (t : Tri) → IsOneRaised n fs gs u v → IsLiveOn n.points (prices_of n gs) p q t → IsLiveOn n.points (prices_of n fs) p q t
live_before n fs gs p q u v t r on = (on.0, same_live n gs fs t r.entries.one_each r.before.one_each r.live on.1)

-- a settled side stays so
keeps_settled : (n : NetworkParts) (fs gs : List PriceEntry) (u v p q : ℕ) → IsOneRaised n fs gs u v → IsSettled n fs p q → IsSettled n gs p q
keeps_settled n fs gs u v p q r (inl (t, on, zero)) =
    let after = live_after n fs gs p q u v t r on in
    let never = r.risen.never t on.1 in
    let some = r.risen.feasible t after.1 in
    inl (t, after, omega (arith, ints, zero, never, some))
keeps_settled n fs gs u v p q r (inr bare) = inr (λ t on. bare t (live_before n fs gs p q u v t r on))

-- and the one that was raised is settled
now_settled : (n : NetworkParts) (fs gs : List PriceEntry) (u v : ℕ) → IsOneRaised n fs gs u v → IsSettled n gs u v
now_settled n fs gs u v r =
    ⊎_elim
    (λ (h : ((t : Tri) × IsLiveOn n.points (prices_of n fs) u v t × (slack n.points n.hull (prices_of n fs) t ≡ r.m))
    × ((t : Tri) → IsLiveOn n.points (prices_of n fs) u v t → r.m ≤ℤ slack n.points n.hull (prices_of n fs) t)).
    let t = h.0.0 in
    let after = live_after n fs gs u v u v t r h.0.1 in
    let is = h.0.2 in
    let drop = r.risen.drops t h.0.1.1 h.0.1.0 in
    let some = r.risen.feasible t after.1 in
    inl (t, after, omega (arith, ints, is, drop, some)))
    (λ (h : ((t : Tri) → ¬ IsLiveOn n.points (prices_of n fs) u v t) × (r.m ≡ pos 0)). inr (λ t on. h.0 t (live_before n fs gs u v u v t r on)))
    r.least

-- one side more
pub more_raised : (n : NetworkParts) (es fs gs : List PriceEntry) (sides rest : List (ℕ × ℕ)) (u v : ℕ) → AreRaised n es fs sides ((u, v) ∷ rest) → IsOneRaised n fs gs u v → AreRaised n es gs sides rest
more_raised n es fs gs sides rest u v h r =
    record {
      entries = r.entries;
      feasible = r.risen.feasible;
      bare = λ z. r.bare (h.bare z);
      live = r.live ∙ h.live;
      anchored = r.anchored ∙ h.anchored;
      prices = λ e inner. r.prices e inner ∙ h.prices e inner;
      anchors = λ e hull. let a = h.anchors e hull in let b = r.anchors e in omega (arith, ints, a, b);
      lefts = λ e. let a = h.lefts e in let b = r.lefts e in omega (arith, ints, a, b);
      rights = λ e. let a = h.rights e in let b = r.rights e in omega (arith, ints, a, b);
      along = λ end rest_is. h.along end (table_of gs, subst (λ (live : List Bool). IsRaisedNext n live (table_of fs) (table_of gs) u v) h.live r.raised, rest_is);
      keeps = λ p q s. keeps_settled n fs gs u v p q r (h.keeps p q s);
      settled = λ p q has. ⊎_elim
          (λ left. ⊎_elim
          (λ (is : (u, v) ≡ (p, q)). inr (subst (λ (s : ℕ × ℕ). IsSettled n gs s.0 s.1) is (now_settled n fs gs u v r)))
          (λ later. inl later)
          (Contains-cases (u, v) (p, q) rest left))
          (λ s. inr (keeps_settled n fs gs u v p q r s))
          (h.settled p q has);
    }

-- sides after sides
pub along_append : (n : NetworkParts) (live : List Bool) (xs ys : List (ℕ × ℕ)) (a b c : PriceTable) → IsRaisedAlong n live xs a b → IsRaisedAlong n live ys b c → IsRaisedAlong n live (xs ++ ys) a c
along_append n live [] ys a b c h k = subst (λ (t : PriceTable). IsRaisedAlong n live ys t c) h k
along_append n live (x ∷ xs) ys a b c (next, first, rest) k = (next, first, along_append n live xs ys next b c rest k)
