-- The prices at the start belong to the network.
use Rattle.std.proofs.Common.{◌≡◌, ℕ, ◌*◌, ◌^◌, ◌<◌, Bool, true, false, List, length, get_or, map, replicate, ℤ, pos, ◌≤ℤ◌, refl, ap, sym, ◌∙◌, subst, arith, ⊎_elim, inl, inr}
use Rattle.std.proofs.lemmas.Bool.{cases_Bool, cases_lt, cond-false, cond-true, false≢true}
use Rattle.std.proofs.lemmas.Int.{ints}
use Rattle.std.proofs.lemmas.List.{get_or-map, get_or-replicate, get_or_default, get_or_past, length-map, length-replicate, same_lists}
use Rattle.exact_predicates.specs.declared.tri.Tri.{Tri}
use Rattle.length_enclosure.specs.Enclosure.{weight}
use Rattle.lmt_network.specs.Network.{IsNetwork, NetworkParts, edge_at}
use Rattle.lmt_network.specs.Numbers.{HasSide, IsHullNumber}
use Rattle.lmt_network.specs.Prices.{IsLiveTriangle, share}
use Rattle.lmt_network.proofs.Picked.{flag_in}
use Rattle.price_ascent.specs.declared.entry.PriceEntry.{PriceEntry}
use Rattle.price_ascent.specs.Ascent.{IsStart}
use Rattle.price_ascent.specs.Belonging.{BelongTo}
use Rattle.price_ascent.specs.Entries.{entry, live_of, no_entry, prices_of, table_of}
use Rattle.price_ascent.specs.Steps.{first_entry, start_entry}
use Rattle.price_ascent.proofs.Changed.{hull_of, which_side}
use Rattle.price_ascent.proofs.Kept.{get_or-mapped, live_at}
use Rattle.price_ascent.proofs.LiveSides.{side_number}
use Rattle.price_ascent.proofs.Lowering.{inner_off}
use Rattle.price_ascent.proofs.RaisingHull.{hull_on}
use Rattle.price_ascent.proofs.Shares.{has_shares, on_hull, weight_of}

-- What is kept at the start.
pub record AreFirst (n : NetworkParts) (flags : List Bool) (es : List PriceEntry) : Type 0 where
  pub network : IsNetwork n
  pub one_each : length es ≡ length n.edges
  pub flag_each : length flags ≡ length n.edges
  pub each : (e : ℕ) → e < length n.edges → entry es e ≡ start_entry n flags e
  pub light : (e : ℕ) → e < length n.edges → get_or flags e false ≡ true → weight n.points ((edge_at n e).a, (edge_at n e).b) < 3 * 10 ^ 15
  pub hull_live : (e : ℕ) → e < length n.edges → IsHullNumber n e → get_or flags e false ≡ true

start_dead : (n : NetworkParts) (flags : List Bool) (es : List PriceEntry) (e : ℕ) → AreFirst n flags es → e < length n.edges → get_or flags e false ≡ false → entry es e ≡ no_entry
start_dead n flags es e a e_in dead = a.each e e_in ∙ cond-false (get_or flags e false) _ _ dead

start_hull : (n : NetworkParts) (flags : List Bool) (es : List PriceEntry) (e : ℕ) → AreFirst n flags es → e < length n.edges → get_or flags e false ≡ true → on_hull n e ≡ true → entry es e ≡ first_entry (weight_of n e) true
start_hull n flags es e a e_in live on = a.each e e_in ∙ (cond-true (get_or flags e false) _ _ live ∙ ap (first_entry (weight_of n e)) on)

start_inner : (n : NetworkParts) (flags : List Bool) (es : List PriceEntry) (e : ℕ) → AreFirst n flags es → e < length n.edges → get_or flags e false ≡ true → on_hull n e ≡ false → entry es e ≡ first_entry (weight_of n e) false
start_inner n flags es e a e_in live off = a.each e e_in ∙ (cond-true (get_or flags e false) _ _ live ∙ ap (first_entry (weight_of n e)) off)

-- an entry is live where its flag is set
entry-live : (n : NetworkParts) (flags : List Bool) (es : List PriceEntry) (e : ℕ) → AreFirst n flags es → e < length n.edges → (entry es e).live ≡ get_or flags e false
entry-live n flags es e a e_in =
    ⊎_elim
    (λ (on : get_or flags e false ≡ true). ⊎_elim
    (λ h. ap (λ (p : PriceEntry). p.live) (start_hull n flags es e a e_in on h) ∙ sym on)
    (λ h. ap (λ (p : PriceEntry). p.live) (start_inner n flags es e a e_in on h) ∙ sym on)
    (cases_Bool (on_hull n e)))
    (λ (off : get_or flags e false ≡ false). ap (λ (p : PriceEntry). p.live) (start_dead n flags es e a e_in off) ∙ sym off)
    (cases_Bool (get_or flags e false))

pub first_live : (n : NetworkParts) (flags : List Bool) (es : List PriceEntry) → AreFirst n flags es → live_of es ≡ flags
first_live n flags es a =
    let many = length-map es (λ (p : PriceEntry). p.live) in
    let one = a.one_each in
    let flag = a.flag_each in
    same_lists (live_of es) flags (omega arith)
    (λ k d l. let k_in : k < length n.edges = omega arith in
    get_or_default (live_of es) k d false l ∙ (live_at es k ∙ (entry-live n flags es k a k_in ∙ get_or_default flags k false d (omega arith))))

-- none has anchors yet
pub none_yet : (n : NetworkParts) (flags : List Bool) (es : List PriceEntry) (e : ℕ) → AreFirst n flags es → (entry es e).anchored ≡ false
none_yet n flags es e a =
    ⊎_elim
    (λ (e_in : e < length n.edges). ⊎_elim
    (λ (on : get_or flags e false ≡ true). ⊎_elim
    (λ h. ap (λ (p : PriceEntry). p.anchored) (start_hull n flags es e a e_in on h))
    (λ h. ap (λ (p : PriceEntry). p.anchored) (start_inner n flags es e a e_in on h))
    (cases_Bool (on_hull n e)))
    (λ (off : get_or flags e false ≡ false). ap (λ (p : PriceEntry). p.anchored) (start_dead n flags es e a e_in off))
    (cases_Bool (get_or flags e false)))
    (λ past. ap (λ (p : PriceEntry). p.anchored) (get_or_past es e no_entry (let one = a.one_each in omega arith)))
    (cases_lt e (length n.edges))

-- both shares of a live edge at the start
shares_first : (n : NetworkParts) (flags : List Bool) (es : List PriceEntry) (e : ℕ) → AreFirst n flags es → e < length n.edges → (entry es e).live ≡ true
    → ((entry es e).up ≡ share n.points n.hull (prices_of n es) (edge_at n e).a (edge_at n e).b)
    × ((entry es e).down ≡ share n.points n.hull (prices_of n es) (edge_at n e).b (edge_at n e).a)
    × (pos 0 ≤ℤ (entry es e).up) × (pos 0 ≤ℤ (entry es e).down)
shares_first n flags es e a e_in live =
    let h = has_shares n es e a.network a.one_each e_in live in
    let flag : get_or flags e false ≡ true = sym (entry-live n flags es e a e_in) ∙ live in
    let w = weight_of n e in
    ⊎_elim
    (λ on.
    let is = start_hull n flags es e a e_in flag on in
    let value = ap (λ (p : PriceEntry). p.value) is in
    let up = ap (λ (p : PriceEntry). p.up) is in
    let down = ap (λ (p : PriceEntry). p.down) is in
    let s_up = h.on_up on in
    let s_down = h.on_down on in
    (omega (arith, ints, value, up, s_up), omega (arith, ints, value, down, s_down), omega (arith, ints, up), omega (arith, ints, down)))
    (λ off.
    let is = start_inner n flags es e a e_in flag off in
    let value = ap (λ (p : PriceEntry). p.value) is in
    let left = ap (λ (p : PriceEntry). p.left) is in
    let right = ap (λ (p : PriceEntry). p.right) is in
    let up = ap (λ (p : PriceEntry). p.up) is in
    let down = ap (λ (p : PriceEntry). p.down) is in
    let s_up = h.off_up off in
    let s_down = h.off_down off in
    (omega (arith, ints, value, left, up, s_up), omega (arith, ints, value, right, down, s_down), omega (arith, ints, up), omega (arith, ints, down)))
    (cases_Bool (on_hull n e))

-- so no share of a live triangle is negative
share-first : (n : NetworkParts) (flags : List Bool) (es : List PriceEntry) (t : Tri) (u v : ℕ) → AreFirst n flags es → IsLiveTriangle n.points (prices_of n es) t → HasSide t u v
    → pos 0 ≤ℤ share n.points n.hull (prices_of n es) u v
share-first n flags es t u v a over side =
    let k = side_number n es t u v a.one_each over side in
    let s = share n.points n.hull (prices_of n es) in
    let f = shares_first n flags es k.0 a k.1.0 k.2 in
    ⊎_elim
    (λ (p : (u ≡ (edge_at n k.0).a) × (v ≡ (edge_at n k.0).b)).
    subst (λ (x : ℕ). pos 0 ≤ℤ s x v) (sym p.0) (subst (λ (y : ℕ). pos 0 ≤ℤ s (edge_at n k.0).a y) (sym p.1) (subst (λ (z : ℤ). pos 0 ≤ℤ z) f.0 f.2)))
    (λ (p : (u ≡ (edge_at n k.0).b) × (v ≡ (edge_at n k.0).a)).
    subst (λ (x : ℕ). pos 0 ≤ℤ s x v) (sym p.0) (subst (λ (y : ℕ). pos 0 ≤ℤ s (edge_at n k.0).b y) (sym p.1) (subst (λ (z : ℤ). pos 0 ≤ℤ z) f.1 f.3)))
    (which_side n k.0 u v k.1)

-- values and anchors at the start
record IsSmall (n : NetworkParts) (e : ℕ) (p : PriceEntry) : Type 0 where
  value_low : pos 0 ≤ℤ p.value
  value_high : p.live ≡ true → p.value ≤ℤ pos (15 * 10 ^ 14)
  value_dead : p.live ≡ false → p.value ≡ pos 0
  value_hull : on_hull n e ≡ true → p.value ≡ pos 0
  left : p.left ≡ pos 0
  right : p.right ≡ pos 0

small_first : (n : NetworkParts) (flags : List Bool) (es : List PriceEntry) (e : ℕ) → AreFirst n flags es → e < length n.edges → IsSmall n e (entry es e)
small_first n flags es e a e_in =
    ⊎_elim
    (λ (flag : get_or flags e false ≡ true). ⊎_elim
    (λ on. subst (IsSmall n e) (sym (start_hull n flags es e a e_in flag on)) (record {
      value_low = omega (arith, ints);
      value_high = λ live. omega (arith, ints);
      value_dead = λ dead. refl;
      value_hull = λ h. refl;
      left = refl;
      right = refl;
    }))
    (λ off. subst (IsSmall n e) (sym (start_inner n flags es e a e_in flag off)) (let light = a.light e e_in flag in record {
      value_low = omega (arith, ints);
      value_high = λ live. omega (arith, ints, light);
      value_dead = λ dead. absurd (false≢true (sym dead));
      value_hull = λ h. absurd (false≢true (sym off ∙ h));
      left = refl;
      right = refl;
    }))
    (cases_Bool (on_hull n e)))
    (λ (flag : get_or flags e false ≡ false). subst (IsSmall n e) (sym (start_dead n flags es e a e_in flag)) (record {
      value_low = omega (arith, ints);
      value_high = λ live. omega (arith, ints);
      value_dead = λ dead. refl;
      value_hull = λ h. refl;
      left = refl;
      right = refl;
    }))
    (cases_Bool (get_or flags e false))

pub first_belong : (n : NetworkParts) (flags : List Bool) (es : List PriceEntry) → AreFirst n flags es → BelongTo n es
first_belong n flags es a =
    record {
      entries = record {
        network = a.network;
        one_each = a.one_each;
        light = λ e e_in live. a.light e e_in (sym (entry-live n flags es e a e_in) ∙ live);
        each = λ e e_in.
            let s = small_first n flags es e a e_in in
            let low = s.value_low in
            let high = value_high e e_in in
            let left = s.left in
            let right = s.right in
            record {
              price = λ inner. (omega (arith, ints, low), omega (arith, ints, high));
              anchor = λ hull. (omega (arith, ints, low), omega (arith, ints, high));
              left = (omega (arith, ints, left), omega (arith, ints, left));
              right = (omega (arith, ints, right), omega (arith, ints, right));
              up = λ live. (shares_first n flags es e a e_in live).0;
              down = λ live. (shares_first n flags es e a e_in live).1;
              killed = λ dead. s.value_dead dead;
              hull_live = λ hull. entry-live n flags es e a e_in ∙ a.hull_live e e_in hull;
              inner = λ on. absurd (false≢true (sym (none_yet n flags es e a) ∙ on));
              elsewhere = λ off. (left, right);
            };
      };
      prices = λ e e_in inner. value_high e e_in;
      anchors = λ e e_in hull. (small_first n flags es e a e_in).value_low;
      bare = λ e e_in.
          let s = small_first n flags es e a e_in in
          record {
            hull = λ u v is pair bare. s.value_hull (hull_on n e (hull_of n e u v is pair));
            left = λ bare. s.left;
            right = λ bare. s.right;
          };
      feasible = λ t over.
          let ab = share-first n flags es t t.a t.b a over (t.c, inl (refl, refl, refl)) in
          let bc = share-first n flags es t t.b t.c a over (t.a, inr (inl (refl, refl, refl))) in
          let ca = share-first n flags es t t.c t.a a over (t.b, inr (inr (refl, refl, refl))) in
          omega (arith, ints, ab, bc, ca);
    }
  where
    value_high : (e : ℕ) → e < length n.edges → (entry es e).value ≤ℤ pos (15 * 10 ^ 14)
    value_high e e_in =
        let s = small_first n flags es e a e_in in
        ⊎_elim (λ live. s.value_high live) (λ dead. let zero = s.value_dead dead in omega (arith, ints, zero)) (cases_Bool (entry es e).live)

-- and they are the start
pub first_start : (n : NetworkParts) (flags : List Bool) (es : List PriceEntry) → AreFirst n flags es → IsStart n flags (table_of es)
first_start n flags es a =
    record {
      one_each = length-map es (λ (p : PriceEntry). p.value) ∙ a.one_each;
      prices = λ e inner.
          let e_in : e < length n.edges = let l = flag_in flags e inner.0 in let many = a.flag_each in omega arith in
          get_or-mapped (λ (p : PriceEntry). p.value) es e no_entry ∙ ap (λ (p : PriceEntry). p.value) (start_inner n flags es e a e_in inner.0 (inner_off n e inner.1));
      others = λ e out.
          get_or-mapped (λ (p : PriceEntry). p.value) es e no_entry ∙ ⊎_elim
          (λ (e_in : e < length n.edges). let s = small_first n flags es e a e_in in
          ⊎_elim (λ dead. s.value_dead (entry-live n flags es e a e_in ∙ dead)) (λ hull. s.value_hull (hull_on n e hull)) out)
          (λ past. ap (λ (p : PriceEntry). p.value) (get_or_past es e no_entry (let one = a.one_each in omega arith)))
          (cases_lt e (length n.edges));
      lefts = zeros es (λ p. p.left) (length n.edges) a.one_each (λ k k_in. (small_first n flags es k a k_in).left);
      rights = zeros es (λ p. p.right) (length n.edges) a.one_each (λ k k_in. (small_first n flags es k a k_in).right);
    }
  where
    zeros : (xs : List PriceEntry) (f : PriceEntry → ℤ) (m : ℕ) → length xs ≡ m → ((k : ℕ) → k < m → f (entry xs k) ≡ pos 0) → map f xs ≡ replicate m (pos 0)
    zeros xs f m many zero =
        let size = length-map xs f in
        same_lists (map f xs) (replicate m (pos 0)) (size ∙ (many ∙ sym (length-replicate m (pos 0))))
        (λ k d l. let k_in : k < m = omega arith in
        get_or-map f xs k no_entry d (omega arith) ∙ (zero k k_in ∙ sym (get_or-replicate m k (pos 0) d k_in)))
