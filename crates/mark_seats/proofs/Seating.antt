-- What the rule says of notes holds when a table is opened, and each step of a seat keeps it.
use Rattle.std.proofs.Common.{◌≡◌, ◌≢◌, ℕ, zero, suc, ◌+◌, ◌*◌, ◌-◌, ◌<◌, ◌≤◌, Bool, true, false, List, [], ◌∷◌, ◌++◌, length, map, set, AllPairs, Contains, sym, refl, ap, ◌∙◌, subst, inl, inr, ⊎_elim, arith, length-set, length-append, mul-le-mul_right}
use mathlib.Core.Option.{Option, none, some, some-ne-none}
use lib.ListN.{get_elem?, length-map}
use Rattle.atomic_table.proofs.Lists.{at_set, set_else, at_snoc, some_there}
use Rattle.mark_seats.specs.Bits.{one_if}
use Rattle.mark_seats.specs.Seats.{Notes, AreAtHome, AreApart, SeatsHold, total}
use Rattle.mark_seats.proofs.Apart.{apart_set, apart_last}
use Rattle.mark_seats.proofs.Members.{distinct_length}
use Rattle.mark_seats.proofs.Totals.{total_set, total_last, total_at_most}

at_only : {V : Type 0} (v d : V) (i : ℕ) → get_elem? (v ∷ []) i ≡ some d → i ≡ 0
at_only v d zero h = refl
at_only v d (suc i) h = absurd (some-ne-none d (sym h))

one_if_most : (b : Bool) → one_if b ≤ 1
one_if_most true = omega arith
one_if_most false = omega arith

module _ {V : Type 0} (notes : V → Notes) where
  abbrev splits_in : V → ℕ
  splits_in d = (notes d).splits

  -- the first seat is alone
  pub seats_opened : (seats : ℕ) (xs : List ℕ) (v : V) → (notes v).slot ≡ 0 → (notes v).splits ≡ seats - 1 → (notes v).noted ≡ false → 0 < seats → seats ≤ 65 → length xs ≡ seats * 32
      → SeatsHold notes seats (map some xs) (v ∷ [])
  seats_opened seats xs v slot splits noted some_seat few deep =
      let one : (j : ℕ) (d : V) → get_elem? (v ∷ []) j ≡ some d → v ≡ d = λ j d h. ⊎_elim (λ (t : get_elem? [] j ≡ some d). absurd (some-ne-none d (sym t))) (λ (t : v ≡ d). t) (at_snoc [] v d j h) in record {
        few = few;
        deep = length-map xs (λ (x : ℕ). some x) ∙ deep;
        seated = omega arith;
        at_home = λ j d h. subst (λ (e : V). AreAtHome seats (map some xs) (notes e)) (one j d h) (let low : (notes v).slot + (notes v).splits < seats = omega arith in (low, λ i lo hi. some_there xs (i * 32) (omega arith)));
        apart = λ i j d e different h₁ h₂. absurd (different (at_only v d i h₁ ∙ sym (at_only v e j h₂)));
      }

  module _ (seats : ℕ) (homes : List (Option ℕ)) (views : List V) (r : SeatsHold notes seats homes views) (id : ℕ) (d w : V) (at : get_elem? views id ≡ some d) where
    -- a step that leaves the notes
    pub seats_moved : notes w ≡ notes d → SeatsHold notes seats homes (set views id w)
    seats_moved same = let splits = ap (λ (n : Notes). n.splits) same in record {
      few = r.few;
      deep = r.deep;
      seated = let t = total_set splits_in views id d w at in let l = length-set views id w in let h = r.seated in omega arith;
      at_home = λ j e h. ⊎_elim
          (λ (t : (j ≡ id) × (w ≡ e)). subst (λ (v : V). AreAtHome seats homes (notes v)) t.1 (subst (AreAtHome seats homes) (sym same) (r.at_home id d at)))
          (λ (t : (j ≢ id) × (get_elem? views j ≡ some e)). r.at_home j e t.1)
          (at_set views id j w e h);
      apart = apart_set notes views id d w at (ap (λ (n : Notes). n.slot) same) (omega arith) r.apart;
    }

    -- the note of a seat that has not taken it is at home
    pub own_home : (notes d).noted ≡ false → (y : ℕ) × (get_elem? homes ((notes d).slot * 32) ≡ some (some y))
    own_home new = let z = ap one_if new in (r.at_home id d at).1 (notes d).slot (omega arith) (omega arith)

    -- it takes its note
    pub seats_took : (notes d).noted ≡ false → (notes w).slot ≡ (notes d).slot → (notes w).splits ≡ (notes d).splits → (notes w).noted ≡ true
        → SeatsHold notes seats (set homes ((notes d).slot * 32) none) (set views id w)
    seats_took new slot splits now = let z = ap one_if new in let y = ap one_if now in let mine = r.at_home id d at in let m₀ = mine.0 in
        let hs : List (Option ℕ) = set homes ((notes d).slot * 32) none in record {
          few = r.few;
          deep = length-set homes ((notes d).slot * 32) none ∙ r.deep;
          seated = let t = total_set splits_in views id d w at in let l = length-set views id w in let h = r.seated in omega arith;
          at_home = λ j e h. ⊎_elim
              (λ (t : (j ≡ id) × (w ≡ e)). subst (λ (v : V). AreAtHome seats hs (notes v)) t.1
              (let low : (notes w).slot + (notes w).splits < seats = omega arith in (low, λ i lo hi. let g = mine.1 i (omega arith) (omega arith) in (g.0, set_else homes ((notes d).slot * 32) (i * 32) none (λ q. omega arith) ∙ g.1))))
              (λ (t : (j ≢ id) × (get_elem? views j ≡ some e)). let o = r.at_home j e t.1 in (
                o.0,
                λ i lo hi. let g = o.1 i lo hi in (
                  g.0,
                  set_else homes ((notes d).slot * 32) (i * 32) none
                      (λ q. ⊎_elim (λ (v : (notes e).slot + (notes e).splits < (notes d).slot). omega arith) (λ (v : (notes d).slot + (notes d).splits < (notes e).slot). omega arith) (r.apart j id e d t.0 t.1 at))
                      ∙ g.1,
                ),
              ))
              (at_set views id j w e h);
          apart = apart_set notes views id d w at slot (omega arith) r.apart;
        }

    -- a seat is split off, with the last of the notes that the old one had for others
    pub seats_split : (o : V) → 0 < (notes d).splits → (notes w).slot ≡ (notes d).slot → (notes w).splits ≡ (notes d).splits - 1 → (notes w).noted ≡ (notes d).noted
        → (notes o).slot ≡ (notes d).slot + (notes d).splits → (notes o).splits ≡ 0 → (notes o).noted ≡ false → SeatsHold notes seats homes (set views id w ++ o ∷ [])
    seats_split o some_left slot splits noted last none_left new = let vs : List V = set views id w in let mine = r.at_home id d at in let m₀ = mine.0 in let y = ap one_if noted in let x = ap one_if new in record {
      few = r.few;
      deep = r.deep;
      seated = let t = total_set splits_in views id d w at in let u = total_last splits_in vs o in let l = length-set views id w in let m = length-append vs (o ∷ []) in let h = r.seated in omega arith;
      at_home = λ j e h. ⊎_elim
          (λ (g : get_elem? vs j ≡ some e). ⊎_elim
          (λ (t : (j ≡ id) × (w ≡ e)). subst (λ (v : V). AreAtHome seats homes (notes v)) t.1 (let low : (notes w).slot + (notes w).splits < seats = omega arith in (low, λ i lo hi. mine.1 i (omega arith) (omega arith))))
          (λ (t : (j ≢ id) × (get_elem? views j ≡ some e)). r.at_home j e t.1)
          (at_set views id j w e g))
          (λ (t : o ≡ e). subst (λ (v : V). AreAtHome seats homes (notes v)) t
          (let low : (notes o).slot + (notes o).splits < seats = omega arith in (low, λ i lo hi. mine.1 i (let z = one_if_most (notes d).noted in omega arith) (omega arith))))
          (at_snoc vs o e j h);
      apart = apart_last notes vs o
          (λ q z h. ⊎_elim
          (λ (t : (q ≡ id) × (w ≡ z)). subst (λ (v : V). AreApart (notes v) (notes o)) t.1 (let g : (notes w).slot + (notes w).splits < (notes o).slot = omega arith in inl g))
          (λ (t : (q ≢ id) × (get_elem? views q ≡ some z)). ⊎_elim
          (λ (v : (notes z).slot + (notes z).splits < (notes d).slot). let g : (notes z).slot + (notes z).splits < (notes o).slot = omega arith in inl g)
          (λ (v : (notes d).slot + (notes d).splits < (notes z).slot). let g : (notes o).slot + (notes o).splits < (notes z).slot = omega arith in inr g)
          (r.apart q id z d t.0 t.1 at))
          (at_set views id q w z h))
          (apart_set notes views id d w at slot (omega arith) r.apart);
    }

  -- each seat tries each edge once at most
  pub tries_bounded : (seats : ℕ) (homes : List (Option ℕ)) (views : List V) → SeatsHold notes seats homes views → (tried : V → List ℕ) (edges : ℕ)
      → ((i : ℕ) (d : V) → get_elem? views i ≡ some d → AllPairs (λ e f. e ≢ f) (tried d) × ((e : ℕ) → Contains (tried d) e → e < edges)) → total (λ d. length (tried d)) views ≤ 65 * edges
  tries_bounded seats homes views r tried edges each =
      let t = total_at_most (λ d. length (tried d)) edges views (λ i d e. let h = each i d e in distinct_length (tried d) edges h.0 h.1) in
      let h = r.seated in let f = r.few in let few : length views ≤ 65 = omega arith in let m : length views * edges ≤ 65 * edges = mul-le-mul_right edges few in omega arith
