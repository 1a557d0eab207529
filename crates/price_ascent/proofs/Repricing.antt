-- The amounts of one edge, chosen anew.
use Rattle.std.proofs.Common.{◌≡◌, ◌≢◌, ◌⊎◌, ℕ, ◌<◌, true, false, List, length, map, Contains, ℤ, pos, refl, ap, sym, ◌∙◌, arith, ⊎_elim}
use Rattle.std.proofs.lemmas.Bool.{cases_Bool, cond-false, cond-true, false≢true}
use Rattle.std.proofs.lemmas.Int.{ints}
use Rattle.std.proofs.lemmas.List.{length-map}
use Rattle.lmt_network.specs.Network.{NetworkParts, edge_at}
use Rattle.lmt_network.specs.Numbers.{IsHullNumber}
use Rattle.lmt_network.specs.PriceTables.{entry_at}
use Rattle.lmt_network.proofs.Naming.{edge_at-once}
use Rattle.lmt_network.proofs.Picked.{flag_in}
use Rattle.price_ascent.specs.declared.entry.PriceEntry.{PriceEntry}
use Rattle.price_ascent.specs.Belonging.{AreEntriesOf, IsWithinRanges}
use Rattle.price_ascent.specs.Entries.{anchored_edges, entry, live_of, table_of, with_amounts}
use Rattle.price_ascent.specs.Steps.{repriced}
use Rattle.price_ascent.proofs.Changed.{IsChange, entries_changed, live_same, new_entry, other_entry}
use Rattle.price_ascent.proofs.Kept.{entry_at-kept, live_at}
use Rattle.price_ascent.proofs.RaisedSides.{anchored-kept}
use Rattle.price_ascent.proofs.Raising.{AreNewShares, new_shares}
use Rattle.price_ascent.proofs.Shares.{hull_number, on_hull, own_shares}
use Rattle.price_ascent.proofs.Tightness.{anchored-number}

-- What choosing the amounts of the edge e anew changes.
pub record IsRepriced (n : NetworkParts) (es fs : List PriceEntry) (e : ℕ) (value left right : ℤ) : Type 0 where
  pub change : IsChange n es fs e (repriced (entry es e) (on_hull n e) value left right)
  pub live : (entry es e).live ≡ true
  pub ranges : IsWithinRanges n.hull (with_amounts n e value left right)
  pub elsewhere : Contains (anchored_edges n es) (edge_at n e) ⊎ ((left ≡ pos 0) × (right ≡ pos 0))

-- a live edge has a number
pub live_below : (n : NetworkParts) (es : List PriceEntry) (e : ℕ) → AreEntriesOf n es → (entry es e).live ≡ true → e < length n.edges
live_below n es e b live =
    let l = flag_in (live_of es) e (live_at es e ∙ live) in
    let many = length-map es (λ (p : PriceEntry). p.live) in
    let one = b.one_each in
    omega arith

module _ {n : NetworkParts} {es fs : List PriceEntry} {e : ℕ} {value left right : ℤ} (r : IsRepriced n es fs e value left right) where
  -- where the edge is not anchored its sides have no anchors
  pub no_anchors : (entry es e).anchored ≡ false → (left ≡ pos 0) × (right ≡ pos 0)
  no_anchors off =
      ⊎_elim
      (λ has.
      let k = anchored-number n es (edge_at n e) has in
      let same : k.0 ≡ e = edge_at-once n k.0 e r.change.entries.network.ascending k.1 r.change.e_in k.2 in
      absurd (false≢true (sym off ∙ (ap (λ j. (entry es j).anchored) (sym same) ∙ k.3))))
      (λ zero. zero)
      r.elsewhere

  hull_left : IsHullNumber n e → left ≡ pos 0
  hull_left hull =
      ⊎_elim
      (λ on. absurd (((r.change.entries.each e r.change.e_in).inner on).1 hull))
      (λ off. (no_anchors off).0)
      (cases_Bool (entry es e).anchored)

  shares : AreNewShares n fs e (repriced (entry es e) (on_hull n e) value left right)
  shares =
      let c = r.change in
      let own = own_shares n es e c.entries c.e_in r.live in
      let new = new_shares n es fs e (repriced (entry es e) (on_hull n e) value left right) c r.live in
      let is = new_entry n es fs e (repriced (entry es e) (on_hull n e) value left right) c in
      let value_is = ap (λ (p : PriceEntry). p.value) is in
      let left_is = ap (λ (p : PriceEntry). p.left) is in
      let right_is = ap (λ (p : PriceEntry). p.right) is in
      ⊎_elim
      (λ on.
      let old = own.on_up on in
      let up = new.on_up on in
      let down = new.on_down on in
      let zero = hull_left (hull_number n e on) in
      let kept = hull_kept on in
      (omega (arith, ints, old, up, value_is, zero, kept), cond-true (on_hull n e) _ _ on ∙ omega (arith, ints, old, down, value_is, kept)))
      (λ off.
      let old = own.off_up off in
      let up = new.off_up off in
      let down = new.off_down off in
      (omega (arith, ints, old, up, value_is, left_is), cond-false (on_hull n e) _ _ off ∙ omega (arith, ints, down, value_is, right_is)))
      (cases_Bool (on_hull n e))
    where
      -- an edge of the hull keeps no anchor of its left side
      hull_kept : on_hull n e ≡ true → (entry es e).left ≡ pos 0
      hull_kept on =
          let h = r.change.entries.each e r.change.e_in in
          ⊎_elim (λ yes. absurd ((h.inner yes).1 (hull_number n e on))) (λ no. (h.elsewhere no).0) (cases_Bool (entry es e).anchored)

  pub repriced_entries : AreEntriesOf n fs
  repriced_entries =
      let c = r.change in
      let h = c.entries.each e c.e_in in
      let l0 = r.ranges.left.0 in
      let l1 = r.ranges.left.1 in
      let r0 = r.ranges.right.0 in
      let r1 = r.ranges.right.1 in
      entries_changed n es fs e (repriced (entry es e) (on_hull n e) value left right) c
      (record {
        price = r.ranges.price;
        anchor = λ hull. let y = r.ranges.anchor hull in let y0 = y.0 in let y1 = y.1 in (y0, omega (arith, ints, y1));
        left = (l0, omega (arith, ints, l1));
        right = (r0, omega (arith, ints, r1));
        up = λ live. shares.0;
        down = λ live. shares.1;
        killed = λ dead. absurd (false≢true (sym dead ∙ r.live));
        hull_live = h.hull_live;
        inner = h.inner;
        elsewhere = no_anchors;
      })

  pub repriced_edge : entry_at n (table_of fs) e ≡ with_amounts n e value left right
  repriced_edge =
      entry_at-kept n fs e
      ∙ ap (λ (p : PriceEntry). record { edge = edge_at n e; value = p.value; left = p.left; right = p.right }) (new_entry n es fs e (repriced (entry es e) (on_hull n e) value left right) r.change)

  pub repriced_others : (f : ℕ) → f ≢ e → entry_at n (table_of fs) f ≡ entry_at n (table_of es) f
  repriced_others f away =
      entry_at-kept n fs f
      ∙ (ap (λ (p : PriceEntry). record { edge = edge_at n f; value = p.value; left = p.left; right = p.right }) (other_entry n es fs e (repriced (entry es e) (on_hull n e) value left right) f r.change away)
      ∙ sym (entry_at-kept n es f))

  pub repriced_live : live_of fs ≡ live_of es
  repriced_live = live_same n es fs e (repriced (entry es e) (on_hull n e) value left right) r.change

  pub repriced_anchored : map (λ p. p.anchored) fs ≡ map (λ p. p.anchored) es
  repriced_anchored = anchored-kept es fs e (repriced (entry es e) (on_hull n e) value left right) r.change.is refl
