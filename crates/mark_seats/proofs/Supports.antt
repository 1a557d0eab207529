-- What an examination's loads say of sides, triangles and pairs.
use Rattle.std.proofs.Common.{◌≡◌, ◌≢◌, ◌⊎◌, ℕ, ◌+◌, ◌<◌, ◌≤◌, List, ◌++◌, length, get_or, Any, Contains, sym, ap, ◌∙◌, subst, inl, inr, ⊎_elim, arith}
use Rattle.std.proofs.lemmas.List.{get_or_default}
use Rattle.std.proofs.lemmas.List.Elements.{Contains-append_cases}
use mathlib.Core.Logic.{dite}
use native.Mathlib.Decide.{ℕ_discrete}
use Rattle.lmt_network.specs.Network.{NetworkParts, tri_at}
use Rattle.lmt_network.specs.Numbers.{IsMinimalPair, IsNumberOf, IsOnLeft, IsOnRight, IsSideOf, IsOtherSide, IsBroken}
use Rattle.mark_seats.specs.Supports.{Asked, AskForSidesOf, AskForSides, HasLiveSides, HasKilledSide, IsLivePair, IsBrokenWith}

-- each of the three sides that the network m gives is a side
pub side_at : (m n : NetworkParts) → m ≡ n → (t : ℕ) (sides : List ℕ) → IsNumberOf m (tri_at m t).a (tri_at m t).b (get_or sides 0 0) → IsNumberOf m (tri_at m t).b (tri_at m t).c (get_or sides 1 0) → IsNumberOf m (tri_at m t).c (tri_at m t).a (get_or sides 2 0)
    → (k : ℕ) → k < 3 → IsSideOf n t (get_or sides k 0)
side_at m n same t sides ab bc ca k low = let P : ℕ → Type 0 = λ i. IsSideOf m t (get_or sides i 0) in subst (λ (z : NetworkParts). IsSideOf z t (get_or sides k 0)) same (dite (ℕ_discrete k 0)
    (λ z. subst P (sym z) (inl ab))
    (λ a. dite (ℕ_discrete k 1)
    (λ z. subst P (sym z) (inr (inl bc)))
    (λ b. let z : k ≡ 2 = omega arith in subst P (sym z) (inr (inr ca)))))

-- a loop over a list has come to its member x
pub at_member : (xs : List ℕ) (x : ℕ) → Contains xs x → (k : ℕ) × (k < length xs) × (get_or xs k 0 ≡ x)
at_member xs x (k, k_in, is) = (k, k_in, get_or_default xs k 0 x k_in ∙ is)

pub ask_of_side : (n : NetworkParts) (e t f : ℕ) (ls : List Asked) → IsSideOf n t f → ((l : Asked) → Contains ls l → (l.edge ≡ f) × (f ≢ e)) → AskForSidesOf n e t ls
ask_of_side n e t f ls side only l h = let o = only l h in subst (λ (g : ℕ). (g ≢ e) × IsSideOf n t g) (sym o.0) (o.1, side)

ask_of_both : (n : NetworkParts) (e t : ℕ) (xs ys : List Asked) → AskForSidesOf n e t xs → AskForSidesOf n e t ys → AskForSidesOf n e t (xs ++ ys)
ask_of_both n e t xs ys a b l h = ⊎_elim (λ (x : Contains xs l). a l x) (λ (y : Contains ys l). b l y) (Contains-append_cases xs ys l h)

pub ask_both : (n : NetworkParts) (e : ℕ) (xs ys : List Asked) → AskForSides n e xs → AskForSides n e ys → AskForSides n e (xs ++ ys)
ask_both n e xs ys a b l h = ⊎_elim (λ (x : Contains xs l). a l x) (λ (y : Contains ys l). b l y) (Contains-append_cases xs ys l h)

pub ask_at : (n : NetworkParts) (e t : ℕ) (ls : List Asked) → IsOnLeft n e t ⊎ IsOnRight n e t → AskForSidesOf n e t ls → AskForSides n e ls
ask_at n e t ls on ask l h = let a = ask l h in (a.0, (t, on, a.1))

-- a killed side is another side of a pair
pub broken_left : (n : NetworkParts) (e l : ℕ) (seen : List ℕ) → HasKilledSide n e l seen → IsBrokenWith n e l seen
broken_left n e l seen h r pair = let k = h.3 in (k.0, h.0, k.1, k.2, (h.1, inl h.2))

broken_right : (n : NetworkParts) (e l r : ℕ) (seen : List ℕ) → HasKilledSide n e r seen → Any (IsOtherSide n e l r) seen
broken_right n e l r seen h = let k = h.3 in (k.0, h.0, k.1, k.2, (h.1, inr h.2))

-- What a crate says of loads: the view after them, the edges that a view has seen killed, and the edges that loads found live.
pub record Loads (V : Type 0) : Type 1 where
  pub after : List Asked → V → V
  pub seen : V → List ℕ
  pub Live : List Asked → ℕ → Type 0
  pub more : (xs ys : List Asked) (d : V) → after (xs ++ ys) d ≡ after ys (after xs d)
  pub kept : (ls : List Asked) (d : V) (f : ℕ) → Contains (seen d) f → Contains (seen (after ls d)) f
  pub live_front : (xs ys : List Asked) (f : ℕ) → Live xs f → Live (xs ++ ys) f
  pub live_back : (xs ys : List Asked) (f : ℕ) → Live ys f → Live (xs ++ ys) f

module _ {V : Type 0} (loads : Loads V) where
  -- loads, and then more
  pub loads_on : (old mid new : V) (xs ys : List Asked) → mid ≡ loads.after xs old → new ≡ loads.after ys mid → new ≡ loads.after (xs ++ ys) old
  loads_on old mid new xs ys a b = b ∙ (ap (loads.after ys) a ∙ sym (loads.more xs ys old))

  killed_kept : (n : NetworkParts) (e t : ℕ) (ls : List Asked) (old new : V) → new ≡ loads.after ls old → HasKilledSide n e t (loads.seen old) → HasKilledSide n e t (loads.seen new)
  killed_kept n e t ls old new is h = (h.0, h.1, h.2, subst (λ (d : V). Contains (loads.seen d) h.0) (sym is) (loads.kept ls old h.0 h.3))

  any_kept : (n : NetworkParts) (e l r : ℕ) (ls : List Asked) (old new : V) → new ≡ loads.after ls old → Any (IsOtherSide n e l r) (loads.seen old) → Any (IsOtherSide n e l r) (loads.seen new)
  any_kept n e l r ls old new is h = let k : Contains (loads.seen new) h.1 = subst (λ (d : V). Contains (loads.seen d) h.1) (sym is) (loads.kept ls old h.1 (h.0, h.2, h.3)) in (k.0, h.1, k.1, k.2, h.4)

  -- the loads so far, for sides of t of which the first k have passed
  abbrev pub SidesPassed : NetworkParts → ℕ → ℕ → List ℕ → V → V → ℕ → Type 0
  SidesPassed n e t sides old new k = (ls : List Asked) × (new ≡ loads.after ls old) × AskForSidesOf n e t ls × ((j : ℕ) → j < k → get_or sides j 0 ≢ e → loads.Live ls (get_or sides j 0))

  pub one_passed : (n : NetworkParts) (e t : ℕ) (sides : List ℕ) (old mid new : V) (k : ℕ) → SidesPassed n e t sides old mid k → (ls : List Asked) → new ≡ loads.after ls mid → AskForSidesOf n e t ls
      → (get_or sides k 0 ≢ e → loads.Live ls (get_or sides k 0)) → SidesPassed n e t sides old new (k + 1)
  one_passed n e t sides old mid new k so ls is ask live = (
    so.0 ++ ls,
    loads_on old mid new so.0 ls so.1 is,
    ask_of_both n e t so.0 ls so.2 ask,
    λ j low ne. dite (ℕ_discrete j k)
        (λ z. loads.live_back so.0 ls (get_or sides j 0) (subst (λ (i : ℕ). get_or sides i 0 ≢ e → loads.Live ls (get_or sides i 0)) (sym z) live ne))
        (λ z. loads.live_front so.0 ls (get_or sides j 0) (so.3 j (omega arith) ne)),
  )

  -- a side that has not passed
  pub one_killed : (n : NetworkParts) (e t : ℕ) (sides : List ℕ) (old mid new : V) (k : ℕ) → SidesPassed n e t sides old mid k → (ls : List Asked) → new ≡ loads.after ls mid → AskForSidesOf n e t ls
      → (xs : List Asked) × (new ≡ loads.after xs old) × AskForSidesOf n e t xs
  one_killed n e t sides old mid new k so ls is ask = (so.0 ++ ls, loads_on old mid new so.0 ls so.1 is, ask_of_both n e t so.0 ls so.2 ask)

  pub all_passed : (n : NetworkParts) (e t : ℕ) (sides : List ℕ) (old new : V) (k : ℕ) → (so : SidesPassed n e t sides old new k) → length sides ≤ k → ((f : ℕ) → IsSideOf n t f → Contains sides f) → HasLiveSides n e t (loads.Live so.0)
  all_passed n e t sides old new k so done only f side ne = let m = at_member sides f (only f side) in let m₁ = m.1 in
      subst (λ (g : ℕ). g ≢ e → loads.Live so.0 g) m.2 (so.3 m.0 (omega arith)) ne

  -- the loads so far, where none of the first k triangles on the right makes with l a pair that stands
  abbrev pub RightsBroken : NetworkParts → ℕ → ℕ → List ℕ → V → V → ℕ → Type 0
  RightsBroken n e l rights old new k = (ls : List Asked) × (new ≡ loads.after ls old) × AskForSides n e ls × ((j : ℕ) → j < k → IsMinimalPair n e l (get_or rights j 0) → HasKilledSide n e (get_or rights j 0) (loads.seen new))

  pub one_right_broken : (n : NetworkParts) (e l : ℕ) (rights : List ℕ) (old mid new : V) (k : ℕ) → RightsBroken n e l rights old mid k → (ls : List Asked) → new ≡ loads.after ls mid → AskForSides n e ls
      → (IsMinimalPair n e l (get_or rights k 0) → HasKilledSide n e (get_or rights k 0) (loads.seen new)) → RightsBroken n e l rights old new (k + 1)
  one_right_broken n e l rights old mid new k so ls is ask broken = (
    so.0 ++ ls,
    loads_on old mid new so.0 ls so.1 is,
    ask_both n e so.0 ls so.2 ask,
    λ j low. dite (ℕ_discrete j k)
        (λ z. subst (λ (i : ℕ). IsMinimalPair n e l (get_or rights i 0) → HasKilledSide n e (get_or rights i 0) (loads.seen new)) (sym z) broken)
        (λ z pair. killed_kept n e (get_or rights j 0) ls mid new is (so.3 j (omega arith) pair)),
  )

  pub all_rights_broken : (n : NetworkParts) (e l : ℕ) (rights : List ℕ) (old new : V) (k : ℕ) → RightsBroken n e l rights old new k → length rights ≤ k → ((t : ℕ) → IsOnRight n e t → Contains rights t) → IsBrokenWith n e l (loads.seen new)
  all_rights_broken n e l rights old new k so done on r pair = let m = at_member rights r (on r (pair.r_in, (pair.b, pair.right_is))) in let m₁ = m.1 in
      broken_right n e l r (loads.seen new) (subst (λ (t : ℕ). IsMinimalPair n e l t → HasKilledSide n e t (loads.seen new)) m.2 (so.3 m.0 (omega arith)) pair)

  -- a pair that stands
  pub live_pair : (n : NetworkParts) (e l r : ℕ) (xs ys zs : List Asked) → IsMinimalPair n e l r → HasLiveSides n e l (loads.Live xs) → HasLiveSides n e r (loads.Live zs) → IsLivePair n e l r (loads.Live (xs ++ (ys ++ zs)))
  live_pair n e l r xs ys zs pair left right = (
    pair,
    λ f other. ⊎_elim
        (λ (h : IsSideOf n l f). loads.live_front xs (ys ++ zs) f (left f h other.0))
        (λ (h : IsSideOf n r f). loads.live_back xs (ys ++ zs) f (loads.live_back ys zs f (right f h other.0)))
        other.1,
  )

  pub live_pair_back : (n : NetworkParts) (e l r : ℕ) (xs ys : List Asked) → IsLivePair n e l r (loads.Live ys) → IsLivePair n e l r (loads.Live (xs ++ ys))
  live_pair_back n e l r xs ys h = (h.0, λ f other. loads.live_back xs ys f (h.1 f other))

  -- the loads so far, where no pair with one of the first k triangles on the left stands
  abbrev pub LeftsBroken : NetworkParts → ℕ → List ℕ → V → V → ℕ → Type 0
  LeftsBroken n e lefts old new k = (ls : List Asked) × (new ≡ loads.after ls old) × AskForSides n e ls × ((j : ℕ) → j < k → IsBrokenWith n e (get_or lefts j 0) (loads.seen new))

  pub one_left_broken : (n : NetworkParts) (e : ℕ) (lefts : List ℕ) (old mid new : V) (k : ℕ) → LeftsBroken n e lefts old mid k → (ls : List Asked) → new ≡ loads.after ls mid → AskForSides n e ls
      → IsBrokenWith n e (get_or lefts k 0) (loads.seen new) → LeftsBroken n e lefts old new (k + 1)
  one_left_broken n e lefts old mid new k so ls is ask broken = (
    so.0 ++ ls,
    loads_on old mid new so.0 ls so.1 is,
    ask_both n e so.0 ls so.2 ask,
    λ j low. dite (ℕ_discrete j k)
        (λ z. subst (λ (i : ℕ). IsBrokenWith n e (get_or lefts i 0) (loads.seen new)) (sym z) broken)
        (λ z r pair. any_kept n e (get_or lefts j 0) r ls mid new is (so.3 j (omega arith) r pair)),
  )

  pub all_lefts_broken : (n : NetworkParts) (e : ℕ) (lefts : List ℕ) (old new : V) (k : ℕ) → LeftsBroken n e lefts old new k → length lefts ≤ k → ((t : ℕ) → IsOnLeft n e t → Contains lefts t) → IsBroken n (loads.seen new) e
  all_lefts_broken n e lefts old new k so done on l r pair = let m = at_member lefts l (on l (pair.l_in, (pair.a, pair.left_is))) in let m₁ = m.1 in
      subst (λ (t : ℕ). IsMinimalPair n e t r → Any (IsOtherSide n e t r) (loads.seen new)) m.2 (so.3 m.0 (omega arith) r) pair
