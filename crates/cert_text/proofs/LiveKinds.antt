-- The kind of live edges.
use Rattle.std.proofs.Common.{◌≡◌, ℕ, ℤ, pos, ◌≤◌, ◌^◌, true, eqb, cond, List, [], ◌∷◌, ◌++◌, ◌==◌, ◌&&◌, Ok, Err, unsigned_abs, inl, inr, refl, sym, ap, subst, arith, codes, bytes_eq}
use Rattle.std.specs.List.{list_all}
use Rattle.std.proofs.lemmas.Bool.{and_parts, and_from, eqb-true, eq-eqb}
use Rattle.std.proofs.lemmas.Int.{ints}
use Rattle.mwt_base.specs.Limits.{most_amount, most_anchor, most_price}
use Rattle.exact_predicates.specs.declared.edge.Edge.{Edge}
use Rattle.cert_text.specs.declared.found.Flaw.TheVariants.{NotSpelled}
use Rattle.cert_text.specs.declared.limits.Limits.{Limits}
use Rattle.cert_text.specs.declared.report.LineKind.{LineKind}
use Rattle.cert_text.specs.declared.report.LineKind.TheVariants.{Hull, Inner, Skeleton}
use Rattle.cert_text.specs.declared.report.PriceLine.{PriceLine}
use Rattle.length_enclosure.specs.Amount.{amount}
use Rattle.cert_text.specs.Cuts.{one, three}
use Rattle.cert_text.specs.Found.{◌>>=◌}
use Rattle.cert_text.specs.Lines.{ends_in, live_in, one_amount, three_amounts}
use Rattle.cert_text.specs.Numbers.{amount_within, amount_upto}
use Rattle.cert_text.specs.Texts.{edge_fields, price_fields, live_fields}
use Rattle.cert_text.specs.Within.{IsUpto, IsBetween, IsEdgeRow, ArePrices, IsLiveRow}
use Rattle.cert_text.proofs.Cutting.{is_plain}
use Rattle.cert_text.proofs.FieldTexts.{amount_takes, amount_found, amount_plain, between_size}
use Rattle.cert_text.proofs.LineKinds.{IsKind, ◌∷≡◌, both_ok, bind_ok, chosen, tested, word_is}
use Rattle.cert_text.proofs.RowKinds.{ends_takes, ends_found, ends_plain}
use Rattle.cert_text.proofs.Shapes.{value_is}

-- an edge with one amount, of a kind with this word
one_takes : (limits : Limits) → limits.points ≤ 2 ^ 32 → (kind : LineKind) (word : List ℕ) (most : ℕ)
    → ((n : ℤ) → price_fields kind n (pos 0) (pos 0) ≡ word ∷ amount n ∷ []) → ((n : ℤ) → IsUpto most n → ArePrices limits.version kind n (pos 0) (pos 0))
    → (a b : List ℕ) (amounts : List (List ℕ)) (l : PriceLine)
    → (one amounts >>= λ value. one_amount kind (ends_in limits a b) (amount_upto most value)) ≡ Ok l
    → (a ∷ b ∷ word ∷ amounts ≡ live_fields l) × IsLiveRow limits.version limits.points l
one_takes limits few kind word most spelled prices a b (value ∷ []) l e =
    let w = bind_ok _ _ l e in
    let p = both_ok _ _ w.0 w.1 in
    let ends = ends_takes limits few a b w.0.0 p.0 in
    let n = amount_takes _ _ value w.0.1 p.1 in
    subst (λ (m : PriceLine). (a ∷ b ∷ word ∷ value ∷ [] ≡ live_fields m) × IsLiveRow limits.version limits.points m) (value_is _ l w.2)
    (rw (spelled w.0.1) (ends.0 ∷≡ ends.1 ∷≡ refl ∷≡ n.0 ∷≡ refl), record { edge = ends.2; prices = prices w.0.1 n.1 })
one_takes limits few kind word most spelled prices a b amounts l e = absurd cc

-- an edge of the skeleton
skeleton_takes : (limits : Limits) → limits.points ≤ 2 ^ 32 → limits.version ≡ 2 → (a b kind : List ℕ) (amounts : List (List ℕ)) (l : PriceLine) → kind ≡ codes "s"
    → (three amounts >>= λ v. three_amounts (ends_in limits a b) (amount_upto most_price v.0) (amount_within (pos 0) (pos most_anchor) v.1) (amount_within (pos 0) (pos most_anchor) v.2)) ≡ Ok l
    → (a ∷ b ∷ kind ∷ amounts ≡ live_fields l) × IsLiveRow limits.version limits.points l
skeleton_takes limits few two a b kind (value ∷ left ∷ right ∷ []) l is e =
    let w = bind_ok _ _ l e in
    let p = both_ok _ _ w.0 w.1 in
    let q = both_ok _ _ w.0.0 p.0 in
    let r = both_ok _ _ w.0.0.0 q.0 in
    let ends = ends_takes limits few a b w.0.0.0.0 r.0 in
    let n = amount_takes _ _ value w.0.0.0.1 r.1 in
    let m = amount_takes _ _ left w.0.0.1 q.1 in
    let k = amount_takes _ _ right w.0.1 p.1 in
    subst (λ (m : PriceLine). (a ∷ b ∷ kind ∷ value ∷ left ∷ right ∷ [] ≡ live_fields m) × IsLiveRow limits.version limits.points m) (value_is _ l w.2)
    (ends.0 ∷≡ ends.1 ∷≡ is ∷≡ n.0 ∷≡ m.0 ∷≡ k.0 ∷≡ refl, record { edge = ends.2; prices = (two, n.1, m.1, k.1) })
skeleton_takes limits few two a b kind amounts l is e = absurd cc

live_takes : (limits : Limits) → limits.points ≤ 2 ^ 32 → (fs : List (List ℕ)) (l : PriceLine) → live_in limits fs ≡ Ok l → (fs ≡ live_fields l) × IsLiveRow limits.version limits.points l
unfolding live_in
live_takes limits few (a ∷ b ∷ kind ∷ amounts) l e =
    let edge = ends_in limits a b in
    let hull = one amounts >>= λ value. one_amount Hull edge (amount_upto most_anchor value) in
    let inner = one amounts >>= λ value. one_amount Inner edge (amount_upto most_price value) in
    let side = amount_within (pos 0) (pos most_anchor) in
    let skeleton = three amounts >>= λ v. three_amounts edge (amount_upto most_price v.0) (side v.1) (side v.2) in
    let is_inner = bytes_eq kind (codes "i") in
    let others = cond ((limits.version == 2) && bytes_eq kind (codes "s")) skeleton (Err NotSpelled) in
    elim (chosen (bytes_eq kind (codes "h")) hull (cond is_inner inner others) (Ok l) e) [
      | inl h ↦ one_takes limits few Hull kind most_anchor (λ n. ap (λ (w : List ℕ). w ∷ amount n ∷ []) (sym (word_is kind (codes "h") h.0))) (λ n p. (p, refl, refl)) a b amounts l h.1
      | inr no_hull ↦ elim (chosen is_inner inner others (Ok l) no_hull.1) [
        | inl i ↦ one_takes limits few Inner kind most_price (λ n. ap (λ (w : List ℕ). w ∷ amount n ∷ []) (sym (word_is kind (codes "i") i.0))) (λ n p. (p, refl, refl)) a b amounts l i.1
        | inr no_inner ↦
            let t = tested _ skeleton l no_inner.1 in
            let p = and_parts (eqb limits.version 2) (bytes_eq kind (codes "s")) t.0 in
            skeleton_takes limits few (eqb-true _ _ p.0) a b kind amounts l (word_is kind (codes "s") p.1) t.1
      ]
    ]
live_takes limits few fs l e = absurd cc

pub anchor_small : (n : ℤ) → IsUpto most_anchor n → unsigned_abs n ≤ most_amount
anchor_small n h = let s = between_size most_anchor n h in omega arith

pub price_small : (n : ℤ) → IsUpto most_price n → unsigned_abs n ≤ most_amount
price_small n h = let s = between_size most_price n h in omega arith

pub side_small : (n : ℤ) → IsBetween (pos 0) (pos most_anchor) n → unsigned_abs n ≤ most_amount
side_small n h = let l = h.least in let m = h.most in omega (arith, ints)

prices_found : (limits : Limits) → limits.points ≤ 2 ^ 32 → (e : Edge) → IsEdgeRow limits.points e → (kind : LineKind) (value left right : ℤ) → ArePrices limits.version kind value left right
    → live_in limits (edge_fields e ++ price_fields kind value left right) ≡ Ok (record { edge = e; kind = kind; value = value; left = left; right = right })
unfolding live_in
prices_found limits few e h Hull value left right p =
    rw (p.1, p.2, ends_found limits few e h, amount_found _ _ value (anchor_small value p.0) p.0) refl
prices_found limits few e h Inner value left right p =
    rw (p.1, p.2, ends_found limits few e h, amount_found _ _ value (price_small value p.0) p.0) refl
prices_found limits few e h Skeleton value left right p =
    rw (
      eq-eqb limits.version 2 p.0,
      ends_found limits few e h,
      amount_found _ _ value (price_small value p.1) p.1,
      amount_found _ _ left (side_small left p.2) p.2,
      amount_found _ _ right (side_small right p.3) p.3,
    ) refl

prices_plain : (version : ℕ) (kind : LineKind) (value left right : ℤ) → ArePrices version kind value left right → list_all is_plain (price_fields kind value left right) ≡ true
prices_plain version Hull value left right p = and_from _ _ refl (and_from _ _ (amount_plain value (anchor_small value p.0)) refl)
prices_plain version Inner value left right p = and_from _ _ refl (and_from _ _ (amount_plain value (price_small value p.0)) refl)
prices_plain version Skeleton value left right p =
    and_from _ _ refl (and_from _ _ (amount_plain value (price_small value p.1))
    (and_from _ _ (amount_plain left (side_small left p.2)) (and_from _ _ (amount_plain right (side_small right p.3)) refl)))

pub live_kind : (limits : Limits) → limits.points ≤ 2 ^ 32 → IsKind (live_in limits) live_fields (IsLiveRow limits.version limits.points)
live_kind limits few = record {
  takes = live_takes limits few;
  found = λ l h. prices_found limits few l.edge h.edge l.kind l.value l.left l.right h.prices;
  plain = λ l h. let k = ends_plain limits few l.edge h.edge in and_from _ _ k.0 (and_from _ _ k.1 (prices_plain limits.version l.kind l.value l.left l.right h.prices));
  some = λ l. omega arith;
}
