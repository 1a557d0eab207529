-- A sweep, edge by edge.
use Rattle.std.proofs.Common.{◌≡◌, ◌≢◌, ℕ, zero, suc, ◌+◌, ◌<◌, ◌≤◌, Bool, true, false, List, length, get_or, map, set, take, drop, ◌++◌, ℤ, pos, ◌-ℤ◌, ◌≤ℤ◌, refl, ap, sym, ◌∙◌, subst, arith, ⊎_elim, inr}
use Rattle.std.specs.Int.{int_max}
use Rattle.std.proofs.lemmas.Bool.{cases_eq, false≢true}
use Rattle.std.proofs.lemmas.Int.{ints}
use Rattle.std.proofs.lemmas.List.{drop-drop, drop-map, drop-set-lt, get_or-drop, length-map, map-set, take-append-drop, take-set-le}
use Rattle.lmt_network.specs.Flags.{live_numbers}
use Rattle.lmt_network.specs.Network.{NetworkParts, edge_at}
use Rattle.lmt_network.specs.Numbers.{IsHullNumber}
use Rattle.lmt_network.specs.PriceTables.{PriceTable, table_prices}
use Rattle.lmt_network.specs.Prices.{IsFeasible}
use Rattle.price_ascent.specs.declared.entry.PriceEntry.{PriceEntry}
use Rattle.price_ascent.specs.Ascent.{AreSweeps, IsInner, IsLeastSlack, IsSweep, IsSwept, lowest, mixed}
use Rattle.price_ascent.specs.Belonging.{AreEntriesOf, AreZeroWhereBare, BelongTo}
use Rattle.price_ascent.specs.Entries.{entry, live_of, no_entry, prices_of, table_of}
use Rattle.price_ascent.specs.Steps.{IsLowered, lowered}
use Rattle.price_ascent.specs.Swept.{AreSwept}
use Rattle.price_ascent.proofs.Changed.{IsChange, live_same, new_entry, other_entry, same_field}
use Rattle.price_ascent.proofs.Kept.{get_or-mapped, live_at, same_table, value_is}
use Rattle.price_ascent.proofs.Lowering.{IsFall, fall_is}
use Rattle.price_ascent.proofs.Narrow.{bare_kept, belong_kept}

pub none_swept : (n : NetworkParts) (es : List PriceEntry) → AreEntriesOf n es → IsFeasible n.points n.hull (prices_of n es) → AreSwept n es es 0
none_swept n es b feasible =
    record {
      entries = b;
      feasible = feasible;
      live = refl;
      anchored = refl;
      lefts = refl;
      rights = refl;
      rest = refl;
      prices = λ k l. absurd (omega (arith, l));
      others = λ k h. refl;
      falls = λ k. omega (arith, ints);
    }

drop-next : (fs es : List PriceEntry) (i : ℕ) → drop i fs ≡ drop i es → drop (i + 1) fs ≡ drop (i + 1) es
drop-next fs es i same = sym (drop-drop 1 i fs) ∙ (ap (drop 1) same ∙ drop-drop 1 i es)

-- an edge that has no price of its own is passed over
pub skipped : (n : NetworkParts) (es fs : List PriceEntry) (i : ℕ) → AreSwept n es fs i → ¬ IsInner n (live_of es) i → AreSwept n es fs (i + 1)
skipped n es fs i h outer =
    record {
      entries = h.entries;
      feasible = h.feasible;
      live = h.live;
      anchored = h.anchored;
      lefts = h.lefts;
      rights = h.rights;
      rest = drop-next fs es i h.rest;
      prices = λ k l inner. ⊎_elim
          (λ (same : k ≡ i). absurd (outer (subst (IsInner n (live_of es)) same inner)))
          (λ (away : k ≢ i). h.prices k (omega arith) inner)
          (cases_eq k i);
      others = h.others;
      falls = h.falls;
    }

-- what stands at the place i is what stood there
rest_at : (fs es : List PriceEntry) (i : ℕ) → drop i fs ≡ drop i es → entry fs i ≡ entry es i
rest_at fs es i same =
    let zero : i + 0 ≡ i = omega arith in
    ap (entry fs) (sym zero) ∙ (sym (get_or-drop i fs 0 no_entry) ∙ (ap (λ gs. get_or gs 0 no_entry) same ∙ (get_or-drop i es 0 no_entry ∙ ap (entry es) zero)))

-- before the edge i is swept, the mixed table is the present one
mixed-now : (n : NetworkParts) (es fs gs : List PriceEntry) (i : ℕ) (x : PriceEntry) → AreSwept n es fs i → gs ≡ set fs i x → mixed i (table_of gs) (table_of es) ≡ table_of fs
mixed-now n es fs gs i x h is =
    let value = λ (p : PriceEntry). p.value in
    let front : take i (map value gs) ≡ take i (map value fs) = ap (λ xs. take i (map value xs)) is ∙ (ap (take i) (map-set value fs i x) ∙ take-set-le i (map value fs) i x.value (omega arith)) in
    let back : drop i (map value es) ≡ drop i (map value fs) = drop-map value i es ∙ (ap (map value) (sym h.rest) ∙ sym (drop-map value i fs)) in
    same_table _ _ _ _ _ _
    (ap (λ xs. xs ++ drop i (map value es)) front ∙ (ap (λ ys. take i (map value fs) ++ ys) back ∙ take-append-drop i (map value fs)))
    (sym h.lefts) (sym h.rights)

-- and for smaller edges it stays
mixed-kept : (n : NetworkParts) (es fs gs : List PriceEntry) (i k : ℕ) (x : PriceEntry) → gs ≡ set fs i x → k ≤ i → mixed k (table_of gs) (table_of es) ≡ mixed k (table_of fs) (table_of es)
mixed-kept n es fs gs i k x is l =
    let value = λ (p : PriceEntry). p.value in
    let front : take k (map value gs) ≡ take k (map value fs) = ap (λ xs. take k (map value xs)) is ∙ (ap (take k) (map-set value fs i x) ∙ take-set-le k (map value fs) i x.value l) in
    same_table _ _ _ _ _ _ (ap (λ xs. xs ++ drop k (map value es)) front) refl refl

-- the edge that is swept now
swept_now : (n : NetworkParts) (es fs gs : List PriceEntry) (i : ℕ) (r : IsLowered n fs gs i) → AreSwept n es fs i → IsChange n fs gs i (lowered (entry fs i) r.m) → IsSwept n (live_of es) (table_of es) (table_of gs) i
swept_now n es fs gs i r h c =
    let x = lowered (entry fs i) r.m in
    let a = (edge_at n i).a in
    let b = (edge_at n i).b in
    record {
      m = r.m;
      least = subst (λ (t : PriceTable). IsLeastSlack n.points n.hull (table_prices n t (live_numbers (live_of es))) b a r.m) (sym (mixed-now n es fs gs i x h r.entry_is))
          (subst (λ (bs : List Bool). IsLeastSlack n.points n.hull (table_prices n (table_of fs) (live_numbers bs)) b a r.m) h.live r.least);
      value = value_is gs i
          ∙ (ap (λ (p : PriceEntry). p.value) (new_entry n fs gs i x c)
          ∙ (ap (λ (p : PriceEntry). int_max (p.value -ℤ r.m) lowest) (rest_at fs es i h.rest) ∙ ap (λ (v : ℤ). int_max (v -ℤ r.m) lowest) (sym (value_is es i))));
    }

-- and one that was swept before
swept_before : (n : NetworkParts) (es fs gs : List PriceEntry) (i k : ℕ) (x : PriceEntry) → IsChange n fs gs i x → k < i → IsSwept n (live_of es) (table_of es) (table_of fs) k → IsSwept n (live_of es) (table_of es) (table_of gs) k
swept_before n es fs gs i k x c l s =
    let away : k ≢ i = omega arith in
    record {
      m = s.m;
      least = subst (λ (t : PriceTable). IsLeastSlack n.points n.hull (table_prices n t (live_numbers (live_of es))) (edge_at n k).b (edge_at n k).a s.m)
          (sym (mixed-kept n es fs gs i k x c.is (omega arith))) s.least;
      value = value_is gs k ∙ (ap (λ (p : PriceEntry). p.value) (other_entry n fs gs i x k c away) ∙ (sym (value_is fs k) ∙ s.value));
    }

-- one more edge is swept
pub more_swept : (n : NetworkParts) (es fs gs : List PriceEntry) (i : ℕ) → AreSwept n es fs i → AreEntriesOf n gs → IsFeasible n.points n.hull (prices_of n gs) → i < length n.edges → IsInner n (live_of es) i → IsLowered n fs gs i → AreSwept n es gs (i + 1)
more_swept n es fs gs i h after feasible i_in inner r =
    let x = lowered (entry fs i) r.m in
    let c : IsChange n fs gs i x = record { entries = h.entries; e_in = i_in; is = r.entry_is; live = refl } in
    let live : (entry fs i).live ≡ true = sym (live_at fs i) ∙ (ap (λ bs. get_or bs i false) h.live ∙ inner.0) in
    let f : IsFall n fs gs i r.m = record { change = c; feasible = h.feasible; live = live; inner = inner.1; least = r.least } in
    record {
      entries = after;
      feasible = feasible;
      live = live_same n fs gs i x c ∙ h.live;
      anchored = ap (map (λ p. p.anchored)) r.entry_is ∙ (same_field (λ p. p.anchored) fs i x false (get_or-mapped (λ (p : PriceEntry). p.anchored) fs i no_entry) ∙ h.anchored);
      lefts = ap (map (λ p. p.left)) r.entry_is ∙ (same_field (λ p. p.left) fs i x (pos 0) (get_or-mapped (λ (p : PriceEntry). p.left) fs i no_entry) ∙ h.lefts);
      rights = ap (map (λ p. p.right)) r.entry_is ∙ (same_field (λ p. p.right) fs i x (pos 0) (get_or-mapped (λ (p : PriceEntry). p.right) fs i no_entry) ∙ h.rights);
      rest = ap (drop (i + 1)) r.entry_is ∙ (drop-set-lt (i + 1) fs i x (omega arith) ∙ drop-next fs es i h.rest);
      prices = λ k l in_k. ⊎_elim
          (λ (same : k ≡ i). subst (IsSwept n (live_of es) (table_of es) (table_of gs)) (sym same) (swept_now n es fs gs i r h c))
          (λ (away : k ≢ i). let lower : k < i = omega arith in swept_before n es fs gs i k x c lower (h.prices k lower in_k))
          (cases_eq k i);
      others = λ k out.
          ap (λ (p : PriceEntry). p.value) (other_entry n fs gs i x k c (λ same. ⊎_elim
          (λ dead. false≢true (sym dead ∙ (ap (λ j. get_or (live_of es) j false) same ∙ inner.0)))
          (λ hull. inner.1 (subst (IsHullNumber n) same hull))
          out))
          ∙ h.others k out;
      falls = λ k. ⊎_elim
          (λ (same : k ≡ i).
          let new = ap (λ (p : PriceEntry). p.value) (new_entry n fs gs i x c) in
          let old = h.falls i in
          let some = (fall_is n fs gs i r.m f).0 in
          subst (λ (j : ℕ). (entry gs j).value ≤ℤ (entry es j).value) (sym same) (omega (arith, ints, new, old, some)))
          (λ (away : k ≢ i). let e = ap (λ (p : PriceEntry). p.value) (other_entry n fs gs i x k c away) in let f = h.falls k in omega (arith, ints, e, f))
          (cases_eq k i);
    }

-- all edges are swept
pub all_swept : (n : NetworkParts) (es fs : List PriceEntry) (i : ℕ) → AreEntriesOf n es → AreSwept n es fs i → length n.edges ≤ i → IsSweep n (live_of es) (table_of es) (table_of fs)
all_swept n es fs i b h all =
    record {
      one_each = length-map fs (λ (p : PriceEntry). p.value) ∙ (h.entries.one_each ∙ (sym b.one_each ∙ sym (length-map es (λ (p : PriceEntry). p.value))));
      prices = λ k k_in inner. h.prices k (omega arith) inner;
      others = λ k out. value_is fs k ∙ (h.others k out ∙ sym (value_is es k));
      lefts = h.lefts;
      rights = h.rights;
    }

-- a field of all entries that is the same
field_at : (f : PriceEntry → ℤ) (es fs : List PriceEntry) (k : ℕ) → map f fs ≡ map f es → f (entry fs k) ≡ f (entry es k)
field_at f es fs k same = sym (get_or-mapped f fs k no_entry) ∙ (ap (λ xs. get_or xs k (f no_entry)) same ∙ get_or-mapped f es k no_entry)

pub swept_bare : (n : NetworkParts) (es fs : List PriceEntry) (i : ℕ) → AreEntriesOf n es → AreSwept n es fs i → AreZeroWhereBare n es → AreZeroWhereBare n fs
swept_bare n es fs i b h =
    bare_kept n es fs b.one_each h.entries.one_each h.live (λ k hull. h.others k (inr hull)) (λ k. field_at (λ p. p.left) es fs k h.lefts) (λ k. field_at (λ p. p.right) es fs k h.rights)

pub swept_belong : (n : NetworkParts) (es fs : List PriceEntry) (i : ℕ) → AreSwept n es fs i → BelongTo n es → BelongTo n fs
swept_belong n es fs i h b =
    belong_kept n es fs b h.entries (swept_bare n es fs i b.entries h b.bare) h.feasible (λ k inner. h.falls k) (λ k hull. let same = h.others k (inr hull) in omega (arith, ints, same))

-- where a sweep changes nothing the later ones change nothing either
pub sweeps_at_rest : (n : NetworkParts) (live : List Bool) (k more : ℕ) (first last : PriceTable) → AreSweeps n live k first last → IsSweep n live last last → AreSweeps n live (more + k) first last
sweeps_at_rest n live k zero first last h rest = let same : k ≡ 0 + k = omega arith in subst (λ (i : ℕ). AreSweeps n live i first last) same h
sweeps_at_rest n live k (suc more) first last h rest =
    let next : suc (more + k) ≡ suc more + k = omega arith in
    subst (λ (i : ℕ). AreSweeps n live i first last) next (last, sweeps_at_rest n live k more first last h rest, rest)
