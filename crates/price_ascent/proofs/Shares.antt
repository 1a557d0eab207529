-- The two shares of an edge, and how large they are.
use Rattle.std.proofs.Common.{◌≡◌, ℕ, ◌<◌, min, max, Bool, true, false, List, length, ℤ, pos, ◌-ℤ◌, ap, sym, ◌∙◌, arith, ⊎_elim}
use Rattle.std.proofs.lemmas.Bool.{cases_Bool, cond-false, cond-true, false≢true, le-ltb, lt-ltb}
use Rattle.std.proofs.lemmas.Int.{ints}
use Rattle.exact_predicates.specs.declared.point.Point.{Point}
use Rattle.exact_predicates.proofs.Equalities.{Joins-comm, Joins-ends}
use Rattle.length_enclosure.specs.Enclosure.{weight}
use Rattle.lmt_network.specs.Network.{IsNetwork, NetworkParts, edge_at}
use Rattle.lmt_network.specs.Numbers.{IsHullNumber}
use Rattle.lmt_network.specs.Prices.{is_on_hull, share, weight_between}
use Rattle.lmt_network.proofs.Entries.{is_on_hull-comm, is_on_hull_decides}
use Rattle.price_ascent.specs.declared.entry.PriceEntry.{PriceEntry}
use Rattle.price_ascent.specs.Belonging.{AreEntriesOf}
use Rattle.price_ascent.specs.Entries.{entry, prices_of}
use Rattle.price_ascent.specs.Steps.{AreShares}
use Rattle.price_ascent.proofs.Kept.{share-kept}

-- the weight of the edge e
abbrev pub weight_of : NetworkParts → ℕ → ℕ
weight_of n e = weight n.points ((edge_at n e).a, (edge_at n e).b)

-- whether the edge e is on the hull
abbrev pub on_hull : NetworkParts → ℕ → Bool
on_hull n e = is_on_hull n.hull (edge_at n e).a (edge_at n e).b

between_up : (ps : List Point) (a b : ℕ) → a < b → weight_between ps a b ≡ pos (weight ps (a, b))
between_up ps a b l =
    let low : min a b ≡ a = omega arith in
    let high : max a b ≡ b = omega arith in
    ap (λ x. pos (weight ps (x, max a b))) low ∙ ap (λ y. pos (weight ps (a, y))) high

between_down : (ps : List Point) (a b : ℕ) → a < b → weight_between ps b a ≡ pos (weight ps (a, b))
between_down ps a b l =
    let low : min b a ≡ a = omega arith in
    let high : max b a ≡ b = omega arith in
    ap (λ x. pos (weight ps (x, max b a))) low ∙ ap (λ y. pos (weight ps (a, y))) high

-- what the shares of the edge e are
pub record HasShares (n : NetworkParts) (es : List PriceEntry) (e : ℕ) (up down : ℤ) : Type 0 where
  pub on_up : on_hull n e ≡ true → up ≡ pos (weight_of n e) -ℤ (entry es e).value
  pub on_down : on_hull n e ≡ true → down ≡ pos (weight_of n e) -ℤ (entry es e).value
  pub off_up : on_hull n e ≡ false → up ≡ (pos (weight_of n e) -ℤ (entry es e).value) -ℤ (entry es e).left
  pub off_down : on_hull n e ≡ false → down ≡ (entry es e).value -ℤ (entry es e).right

pub has_shares : (n : NetworkParts) (es : List PriceEntry) (e : ℕ) → IsNetwork n → length es ≡ length n.edges → e < length n.edges → (entry es e).live ≡ true
    → HasShares n es e (share n.points n.hull (prices_of n es) (edge_at n e).a (edge_at n e).b) (share n.points n.hull (prices_of n es) (edge_at n e).b (edge_at n e).a)
has_shares n es e net one_each e_in live =
    let x = edge_at n e in
    let l = x.ascending in
    let up = share-kept n es e x.a x.b net one_each live (e_in, Joins-ends x) in
    let down = share-kept n es e x.b x.a net one_each live (e_in, Joins-comm x x.a x.b (Joins-ends x)) in
    let turned = is_on_hull-comm n.hull x.a x.b in
    let w_up = between_up n.points x.a x.b l in
    let w_down = between_down n.points x.a x.b l in
    record {
      on_up = λ on. up ∙ (cond-true (is_on_hull n.hull x.a x.b) _ _ on ∙ ap (λ w. w -ℤ (entry es e).value) w_up);
      on_down = λ on. down ∙ (cond-true (is_on_hull n.hull x.b x.a) _ _ (turned ∙ on) ∙ ap (λ w. w -ℤ (entry es e).value) w_down);
      off_up = λ off. up ∙ (cond-false (is_on_hull n.hull x.a x.b) _ _ off ∙ (cond-true _ _ _ (lt-ltb x.a x.b l) ∙ ap (λ w. (w -ℤ (entry es e).value) -ℤ (entry es e).left) w_up));
      off_down = λ off. down ∙ (cond-false (is_on_hull n.hull x.b x.a) _ _ (turned ∙ off) ∙ cond-false _ _ _ (le-ltb x.b x.a (omega arith)));
    }

-- the edge is a hull number or not
pub hull_number : (n : NetworkParts) (e : ℕ) → on_hull n e ≡ true → IsHullNumber n e
hull_number n e on = (is_on_hull_decides n.hull (edge_at n e).a (edge_at n e).b).0 on

pub inner_number : (n : NetworkParts) (e : ℕ) → on_hull n e ≡ false → ¬ IsHullNumber n e
inner_number n e off h = false≢true (sym off ∙ (is_on_hull_decides n.hull (edge_at n e).a (edge_at n e).b).1 h)

pub own_shares : (n : NetworkParts) (es : List PriceEntry) (e : ℕ) → AreEntriesOf n es → e < length n.edges → (entry es e).live ≡ true → HasShares n es e (entry es e).up (entry es e).down
own_shares n es e b e_in live =
    let up = (b.each e e_in).up live in
    let down = (b.each e e_in).down live in
    let h = has_shares n es e b.network b.one_each e_in live in
    record {
      on_up = λ on. up ∙ h.on_up on;
      on_down = λ on. down ∙ h.on_down on;
      off_up = λ off. up ∙ h.off_up off;
      off_down = λ off. down ∙ h.off_down off;
    }

pub shares_fit : (n : NetworkParts) (es : List PriceEntry) (e : ℕ) → AreEntriesOf n es → e < length n.edges → (entry es e).live ≡ true → AreShares (entry es e)
shares_fit n es e b e_in live =
    let h = own_shares n es e b e_in live in
    let is = b.each e e_in in
    let light = b.light e e_in live in
    let left0 = is.left.0 in
    let left1 = is.left.1 in
    let right0 = is.right.0 in
    let right1 = is.right.1 in
    ⊎_elim
    (λ on.
    let anchor = is.anchor (hull_number n e on) in
    let y0 = anchor.0 in
    let y1 = anchor.1 in
    let up = h.on_up on in
    let down = h.on_down on in
    record { up = (omega (arith, ints), omega (arith, ints)); down = (omega (arith, ints), omega (arith, ints)) })
    (λ off.
    let price = is.price (inner_number n e off) in
    let p0 = price.0 in
    let p1 = price.1 in
    let up = h.off_up off in
    let down = h.off_down off in
    record { up = (omega (arith, ints), omega (arith, ints)); down = (omega (arith, ints), omega (arith, ints)) })
    (cases_Bool (on_hull n e))
