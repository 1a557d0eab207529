-- One side raised, of each of the three kinds.
use Rattle.std.proofs.Common.{◌≡◌, ◌≢◌, ℕ, ◌<◌, true, false, List, length, get_or, map, set, ℤ, pos, ◌+ℤ◌, ◌≤ℤ◌, refl, ap, sym, ◌∙◌, subst, arith, ⊎_elim, inl}
use Rattle.std.proofs.lemmas.Bool.{cases_eq, cond-false, cond-true, le-ltb, lt-ltb}
use Rattle.std.proofs.lemmas.Int.{ints}
use Rattle.std.proofs.lemmas.List.{map-set}
use Rattle.exact_predicates.specs.Hull.{IsHullPair}
use Rattle.lmt_network.specs.Network.{NetworkParts, edge_at}
use Rattle.lmt_network.specs.Numbers.{IsHullNumber, IsNumberOf}
use Rattle.lmt_network.specs.Prices.{IsFeasible, is_on_hull}
use Rattle.lmt_network.proofs.Entries.{is_on_hull-comm, is_on_hull_decides}
use Rattle.price_ascent.specs.declared.entry.PriceEntry.{PriceEntry}
use Rattle.price_ascent.specs.Belonging.{AreEntriesOf}
use Rattle.price_ascent.specs.Entries.{entry, no_entry, prices_of, table_of}
use Rattle.price_ascent.specs.Raised.{with_more}
use Rattle.price_ascent.specs.Steps.{IsRaisedEntry, hull_raised, left_raised, right_raised}
use Rattle.price_ascent.proofs.Changed.{IsChange, bare_changed, hull_of, live_same, new_entry, other_entry, same_field}
use Rattle.price_ascent.proofs.Kept.{get_or-mapped, same_table}
use Rattle.price_ascent.proofs.Lowering.{inner_off}
use Rattle.price_ascent.proofs.Raising.{left_bare, left_entries, left_rise, right_bare, right_entries, right_rise}
use Rattle.price_ascent.proofs.RaisingHull.{hull_entries, hull_rise, hull_zero}
use Rattle.price_ascent.proofs.Rises.{risen}
use Rattle.price_ascent.proofs.SlackBounds.{least_fits}
use Rattle.price_ascent.proofs.Raised.{IsOneRaised}

-- a field of all entries, where it stays and where it grows
field_same : (n : NetworkParts) (fs gs : List PriceEntry) (e : ℕ) (x : PriceEntry) (f : PriceEntry → ℤ) (k : ℕ) → IsChange n fs gs e x → f x ≡ f (entry fs e) → f (entry gs k) ≡ f (entry fs k)
field_same n fs gs e x f k c same =
    ⊎_elim
    (λ (is : k ≡ e). subst (λ (i : ℕ). f (entry gs i) ≡ f (entry fs i)) (sym is) (ap f (new_entry n fs gs e x c) ∙ same))
    (λ (away : k ≢ e). ap f (other_entry n fs gs e x k c away))
    (cases_eq k e)

field_more : (n : NetworkParts) (fs gs : List PriceEntry) (e : ℕ) (x : PriceEntry) (f : PriceEntry → ℤ) (k : ℕ) → IsChange n fs gs e x → f (entry fs e) ≤ℤ f x → f (entry fs k) ≤ℤ f (entry gs k)
field_more n fs gs e x f k c more =
    ⊎_elim
    (λ (is : k ≡ e). subst (λ (i : ℕ). f (entry fs i) ≤ℤ f (entry gs i)) (sym is) (let same = ap f (new_entry n fs gs e x c) in omega (arith, ints, same, more)))
    (λ (away : k ≢ e). let same = ap f (other_entry n fs gs e x k c away) in omega (arith, ints, same))
    (cases_eq k e)

-- the list of a field with more at one place
field_list : (fs : List PriceEntry) (e : ℕ) (x : PriceEntry) (m : ℤ) (f : PriceEntry → ℤ) → f no_entry ≡ pos 0 → f x ≡ f (entry fs e) +ℤ m → map f (set fs e x) ≡ with_more (map f fs) e m
field_list fs e x m f none is =
    let at : get_or (map f fs) e (pos 0) ≡ f (entry fs e) = subst (λ (z : ℤ). get_or (map f fs) e z ≡ f (entry fs e)) none (get_or-mapped f fs e no_entry) in
    map-set f fs e x ∙ ap (set (map f fs) e) (is ∙ ap (λ z. z +ℤ m) (sym at))

pub field_kept : (fs : List PriceEntry) (e : ℕ) (x : PriceEntry) (f : PriceEntry → ℤ) → f x ≡ f (entry fs e) → map f (set fs e x) ≡ map f fs
field_kept fs e x f is = same_field f fs e x (f no_entry) (get_or-mapped f fs e no_entry ∙ sym is)

pub anchored-kept : (fs gs : List PriceEntry) (e : ℕ) (x : PriceEntry) → gs ≡ set fs e x → x.anchored ≡ (entry fs e).anchored → map (λ p. p.anchored) gs ≡ map (λ p. p.anchored) fs
anchored-kept fs gs e x gs_is is =
    ap (map (λ p. p.anchored)) gs_is ∙ same_field (λ p. p.anchored) fs e x false (get_or-mapped (λ (p : PriceEntry). p.anchored) fs e no_entry ∙ sym is)

-- a raised left side
pub left_raised-one : (n : NetworkParts) (fs gs : List PriceEntry) (e : ℕ) → AreEntriesOf n fs → IsFeasible n.points n.hull (prices_of n fs) → e < length n.edges → (entry fs e).anchored ≡ true
    → IsRaisedEntry n fs gs e (edge_at n e).a (edge_at n e).b left_raised → IsOneRaised n fs gs (edge_at n e).a (edge_at n e).b
left_raised-one n fs gs e b feasible e_in anchored r =
    let p = entry fs e in
    let x = left_raised p r.m in
    let inner = (b.each e e_in).inner anchored in
    let c : IsChange n fs gs e x = record { entries = b; e_in = e_in; is = r.entry_is; live = refl } in
    let rise = left_rise n fs gs e r.m c feasible inner.0 inner.1 r.least in
    let some = (least_fits n fs (edge_at n e).a (edge_at n e).b r.m b feasible r.least).0 in
    record {
      before = b;
      entries = left_entries n fs gs e r.m c feasible inner.0 anchored inner.1 r.least;
      bare = λ z. bare_changed n fs gs e x c (left_bare n fs e r.m r.least (z e e_in)) z;
      live = live_same n fs gs e x c;
      anchored = anchored-kept fs gs e x r.entry_is refl;
      prices = λ k out. field_same n fs gs e x (λ q. q.value) k c refl;
      anchors = λ k. field_more n fs gs e x (λ q. q.value) k c (omega (arith, ints));
      lefts = λ k. field_more n fs gs e x (λ q. q.left) k c (omega (arith, ints, some));
      rights = λ k. field_more n fs gs e x (λ q. q.right) k c (omega (arith, ints));
      raised = record {
        e = e;
        number = rise.number;
        m = r.m;
        least = r.least;
        new_is = ap table_of r.entry_is
            ∙ (same_table _ _ _ _ _ _ (field_kept fs e x (λ q. q.value) refl) (field_list fs e x r.m (λ q. q.left) refl refl) (field_kept fs e x (λ q. q.right) refl)
            ∙ sym (cond-false (is_on_hull n.hull (edge_at n e).a (edge_at n e).b) _ _ (inner_off n e inner.1) ∙ cond-true _ _ _ (lt-ltb (edge_at n e).a (edge_at n e).b (edge_at n e).ascending)));
      };
      m = r.m;
      least = r.least;
      risen = risen n fs gs e (edge_at n e).a (edge_at n e).b r.m x rise;
    }

-- a raised right side
pub right_raised-one : (n : NetworkParts) (fs gs : List PriceEntry) (e : ℕ) → AreEntriesOf n fs → IsFeasible n.points n.hull (prices_of n fs) → e < length n.edges → (entry fs e).anchored ≡ true
    → IsRaisedEntry n fs gs e (edge_at n e).b (edge_at n e).a right_raised → IsOneRaised n fs gs (edge_at n e).b (edge_at n e).a
right_raised-one n fs gs e b feasible e_in anchored r =
    let p = entry fs e in
    let x = right_raised p r.m in
    let inner = (b.each e e_in).inner anchored in
    let c : IsChange n fs gs e x = record { entries = b; e_in = e_in; is = r.entry_is; live = refl } in
    let rise = right_rise n fs gs e r.m c feasible inner.0 inner.1 r.least in
    let some = (least_fits n fs (edge_at n e).b (edge_at n e).a r.m b feasible r.least).0 in
    let up = (edge_at n e).ascending in
    record {
      before = b;
      entries = right_entries n fs gs e r.m c feasible inner.0 anchored inner.1 r.least;
      bare = λ z. bare_changed n fs gs e x c (right_bare n fs e r.m r.least (z e e_in)) z;
      live = live_same n fs gs e x c;
      anchored = anchored-kept fs gs e x r.entry_is refl;
      prices = λ k out. field_same n fs gs e x (λ q. q.value) k c refl;
      anchors = λ k. field_more n fs gs e x (λ q. q.value) k c (omega (arith, ints));
      lefts = λ k. field_more n fs gs e x (λ q. q.left) k c (omega (arith, ints));
      rights = λ k. field_more n fs gs e x (λ q. q.right) k c (omega (arith, ints, some));
      raised = record {
        e = e;
        number = rise.number;
        m = r.m;
        least = r.least;
        new_is = ap table_of r.entry_is
            ∙ (same_table _ _ _ _ _ _ (field_kept fs e x (λ q. q.value) refl) (field_kept fs e x (λ q. q.left) refl) (field_list fs e x r.m (λ q. q.right) refl refl)
            ∙ sym (cond-false (is_on_hull n.hull (edge_at n e).b (edge_at n e).a) _ _ (is_on_hull-comm n.hull (edge_at n e).a (edge_at n e).b ∙ inner_off n e inner.1)
            ∙ cond-false _ _ _ (le-ltb (edge_at n e).b (edge_at n e).a (omega arith))));
      };
      m = r.m;
      least = r.least;
      risen = risen n fs gs e (edge_at n e).b (edge_at n e).a r.m x rise;
    }

-- a raised pair of the hull
pub hull_raised-one : (n : NetworkParts) (fs gs : List PriceEntry) (e u v : ℕ) → AreEntriesOf n fs → IsFeasible n.points n.hull (prices_of n fs) → IsNumberOf n u v e → IsHullPair n.hull u v
    → IsRaisedEntry n fs gs e u v hull_raised → IsOneRaised n fs gs u v
hull_raised-one n fs gs e u v b feasible is pair r =
    let p = entry fs e in
    let x = hull_raised p r.m in
    let hull = hull_of n e u v is pair in
    let live = (b.each e is.0).hull_live hull in
    let c : IsChange n fs gs e x = record { entries = b; e_in = is.0; is = r.entry_is; live = refl } in
    let rise = hull_rise n fs gs e u v r.m c feasible live is pair r.least in
    let some = (least_fits n fs u v r.m b feasible r.least).0 in
    record {
      before = b;
      entries = hull_entries n fs gs e u v r.m c feasible live is pair r.least;
      bare = λ z. bare_changed n fs gs e x c (hull_zero n fs e u v r.m b is pair r.least (z e is.0)) z;
      live = live_same n fs gs e x c;
      anchored = anchored-kept fs gs e x r.entry_is refl;
      prices = λ k out. ap (λ (q : PriceEntry). q.value) (other_entry n fs gs e x k c (λ same. out (subst (IsHullNumber n) (sym same) hull)));
      anchors = λ k. field_more n fs gs e x (λ q. q.value) k c (omega (arith, ints, some));
      lefts = λ k. field_more n fs gs e x (λ q. q.left) k c (omega (arith, ints));
      rights = λ k. field_more n fs gs e x (λ q. q.right) k c (omega (arith, ints));
      raised = record {
        e = e;
        number = is;
        m = r.m;
        least = r.least;
        new_is = ap table_of r.entry_is
            ∙ (same_table _ _ _ _ _ _ (field_list fs e x r.m (λ q. q.value) refl refl) (field_kept fs e x (λ q. q.left) refl) (field_kept fs e x (λ q. q.right) refl)
            ∙ sym (cond-true (is_on_hull n.hull u v) _ _ ((is_on_hull_decides n.hull u v).1 (inl pair))));
      };
      m = r.m;
      least = r.least;
      risen = risen n fs gs e u v r.m x rise;
    }
