-- What holds of the lines of priced live edges.
use Rattle.std.proofs.Common.{◌≡◌, ◌⊎◌, ℕ, ◌<◌, Bool, true, false, List, length, map, All, Contains, pos, arith, refl, ap, sym, ◌∙◌, subst, ⊎_elim, inl, inr}
use Rattle.std.specs.Prelude.{◌↔◌, Decides}
use Rattle.std.proofs.lemmas.Bool.{false≢true}
use Rattle.std.proofs.lemmas.Int.{ints}
use Rattle.std.proofs.lemmas.List.{length-map, get_or_default}
use Rattle.std.proofs.lemmas.List.Elements.{All-map}
use Rattle.exact_predicates.specs.declared.edge.Edge.{Edge}
use Rattle.exact_predicates.specs.declared.tri.Tri.{Tri}
use Rattle.exact_predicates.specs.Hull.{IsHullPair}
use Rattle.exact_predicates.proofs.Equalities.{Joins-comm, Joins-ends}
use Rattle.lmt_network.specs.Flags.{live_numbers}
use Rattle.lmt_network.specs.Live.{IsHullEdge}
use Rattle.lmt_network.specs.Network.{NetworkParts, edge_at}
use Rattle.lmt_network.specs.Numbers.{HasSide, IsNumberOf}
use Rattle.lmt_network.specs.Prices.{IsLiveTriangle, IsTight, Priced, is_on_hull, priced}
use Rattle.lmt_network.proofs.Entries.{is_on_hull_decides}
use Rattle.lmt_network.proofs.Naming.{edge_at-once}
use Rattle.lmt_network.proofs.Picked.{All-from_members, flag_from_live, flag_in, picked_from, picked_in}
use Rattle.price_ascent.specs.declared.entry.PriceEntry.{PriceEntry}
use Rattle.price_ascent.specs.Belonging.{AreEntriesOf, IsWithinRanges}
use Rattle.price_ascent.specs.Entries.{anchored_edges, entry, live_of, no_entry, prices_of}
use Rattle.price_ascent.proofs.Kept.{entry_at-kept, get_or-mapped, kept_price, number-live, priced-kept}
use Rattle.price_ascent.proofs.PriceLists.{price_of_live}
use Rattle.cert_text.specs.declared.report.LineKind.TheVariants.{Hull, Skeleton}
use Rattle.cert_text.specs.declared.report.PriceLine.{PriceLine}
use Rattle.cert_text.specs.Within.{ArePrices as AreRanges, IsLiveRow}
use Rattle.mwt_tool.specs.PriceLines.{kind_of, line_at, line_of, price_lines}

-- what holds of the line of each live edge holds of all lines
pub all_lines : (n : NetworkParts) (es : List PriceEntry) (P : PriceLine → Type 0) → length es ≡ length n.edges
    → ((e : ℕ) → e < length n.edges → (entry es e).live ≡ true → P (line_at n es e)) → All P (price_lines n es)
all_lines n es P one_each each =
    All-map P (line_at n es) (live_numbers (live_of es))
    (All-from_members (λ e. P (line_at n es e)) (live_numbers (live_of es))
    (λ e has.
    let l = flag_in (live_of es) e (flag_from_live (live_of es) e has) in
    each e (omega (arith, one_each, length-map es (λ (p : PriceEntry). p.live), l)) (number-live es e has)))

-- the two kinds that say something of an edge
kind-hull : (b a : Bool) → (kind_of b a ≡ Hull) ↔ (b ≡ true)
kind-hull true a = (λ _. refl, λ _. refl)
kind-hull false true = (λ e. cc e, λ e. absurd (false≢true e))
kind-hull false false = (λ e. cc e, λ e. absurd (false≢true e))

kind-skeleton : (b a : Bool) → (b ≡ true → a ≡ false) → (kind_of b a ≡ Skeleton) ↔ (a ≡ true)
kind-skeleton true a h = (λ e. cc e, λ e. absurd (false≢true (sym (h refl) ∙ e)))
kind-skeleton false true h = (λ _. refl, λ _. refl)
kind-skeleton false false h = (λ e. cc e, λ e. absurd (false≢true e))

-- whether the edge e is one of the hull
abbrev on_hull : NetworkParts → ℕ → Bool
on_hull n e = is_on_hull n.hull (edge_at n e).a (edge_at n e).b

hull_decides : (n : NetworkParts) (e : ℕ) → Decides (on_hull n e) (IsHullEdge n.hull (edge_at n e))
hull_decides n e = is_on_hull_decides n.hull (edge_at n e).a (edge_at n e).b

-- an edge of the hull has no anchors of its own for its sides
hull-not_anchored : (n : NetworkParts) (es : List PriceEntry) (e : ℕ) → AreEntriesOf n es → e < length n.edges → on_hull n e ≡ true → (entry es e).anchored ≡ false
hull-not_anchored n es e b e_in on = at (entry es e).anchored refl
  where
    at : (a : Bool) → (entry es e).anchored ≡ a → (entry es e).anchored ≡ false
    at true is = absurd (((b.each e e_in).inner is).1 ((hull_decides n e).0 on))
    at false is = is

-- the anchored edges by number
anchored-number : (n : NetworkParts) (es : List PriceEntry) (e : ℕ) → AreEntriesOf n es → e < length n.edges
    → Contains (anchored_edges n es) (edge_at n e) ↔ ((entry es e).anchored ≡ true)
anchored-number n es e b e_in = (forth, back)
  where
    forth : Contains (anchored_edges n es) (edge_at n e) → (entry es e).anchored ≡ true
    forth has =
        let r = picked_from (map (λ (p : PriceEntry). p.anchored) es) n.edges (edge_at n e) has in
        let same : r.0 ≡ e = edge_at-once n r.0 e b.network.ascending r.1 e_in (get_or_default n.edges r.0 _ (edge_at n e) r.1 ∙ r.3) in
        subst (λ k. (entry es k).anchored ≡ true) same (sym (get_or-mapped (λ (p : PriceEntry). p.anchored) es r.0 no_entry) ∙ r.2)

    back : (entry es e).anchored ≡ true → Contains (anchored_edges n es) (edge_at n e)
    back is = picked_in (map (λ (p : PriceEntry). p.anchored) es) n.edges e _ e_in (get_or-mapped (λ (p : PriceEntry). p.anchored) es e no_entry ∙ is)

-- a line is marked as of the hull exactly where its edge is
pub hull_marks : (n : NetworkParts) (es : List PriceEntry) → AreEntriesOf n es → All (λ l. (l.kind ≡ Hull) ↔ IsHullEdge n.hull l.edge) (price_lines n es)
hull_marks n es b =
    all_lines n es (λ l. (l.kind ≡ Hull) ↔ IsHullEdge n.hull l.edge) b.one_each
    (λ e e_in live.
    let kind = kind-hull (on_hull n e) (entry es e).anchored in
    let on = hull_decides n e in
    (λ h. on.0 (kind.0 h), λ h. kind.1 (on.1 h)))

-- and as of the skeleton exactly where its edge is one of the skeleton and not of the hull
pub skeleton_marks : (n : NetworkParts) (es : List PriceEntry) (skeleton : List Edge) → AreEntriesOf n es
    → ((e : Edge) → Contains (anchored_edges n es) e ↔ (Contains skeleton e × (¬ IsHullEdge n.hull e)))
    → All (λ l. (l.kind ≡ Skeleton) ↔ (Contains skeleton l.edge × (¬ IsHullEdge n.hull l.edge))) (price_lines n es)
skeleton_marks n es skeleton b anchored =
    all_lines n es (λ l. (l.kind ≡ Skeleton) ↔ (Contains skeleton l.edge × (¬ IsHullEdge n.hull l.edge))) b.one_each
    (λ e e_in live.
    let kind = kind-skeleton (on_hull n e) (entry es e).anchored (hull-not_anchored n es e b e_in) in
    let number = anchored-number n es e b e_in in
    let is = anchored (edge_at n e) in
    (λ h. is.0 (number.1 (kind.0 h)), λ h. kind.1 (number.0 (is.1 h))))

-- some live triangle has the edge from a to b as a side
abbrev pub IsOnLiveTriangle : NetworkParts → List PriceEntry → Edge → Type 0
IsOnLiveTriangle n es e = (t : Tri) × (HasSide t e.a e.b ⊎ HasSide t e.b e.a) × IsLiveTriangle n.points (prices_of n es) t

-- the line of an edge of the hull without a live triangle has the anchor 0
pub bare_lines : (n : NetworkParts) (es : List PriceEntry) → AreEntriesOf n es → IsTight n.points n.hull (anchored_edges n es) (prices_of n es)
    → All (λ l. l.kind ≡ Hull → IsOnLiveTriangle n es l.edge ⊎ (l.value ≡ pos 0)) (price_lines n es)
bare_lines n es b tight =
    all_lines n es (λ l. l.kind ≡ Hull → IsOnLiveTriangle n es l.edge ⊎ (l.value ≡ pos 0)) b.one_each
    (λ e e_in live h. ⊎_elim (up e e_in live) (down e e_in live) ((hull_decides n e).0 ((kind-hull (on_hull n e) (entry es e).anchored).0 h)))
  where
    value_is : (e u v : ℕ) → IsNumberOf n u v e → (entry es e).live ≡ true → (priced (prices_of n es) u v).value ≡ pos 0 → (line_at n es e).value ≡ pos 0
    value_is e u v number live zero =
        ap (λ p. p.value) (entry_at-kept n es e) ∙ (sym (ap (λ p. p.value) (priced-kept n es e u v b.network b.one_each live number)) ∙ zero)

    up : (e : ℕ) → e < length n.edges → (entry es e).live ≡ true → IsHullPair n.hull (edge_at n e).a (edge_at n e).b
        → IsOnLiveTriangle n es (edge_at n e) ⊎ ((line_at n es e).value ≡ pos 0)
    up e e_in live pair =
        ⊎_elim
        (λ (t, side, over, zero). inl (t, inl side, over))
        (λ (none, zero). inr (value_is e (edge_at n e).a (edge_at n e).b (e_in, Joins-ends (edge_at n e)) live zero))
        (tight.hull_sides (edge_at n e).a (edge_at n e).b pair)

    down : (e : ℕ) → e < length n.edges → (entry es e).live ≡ true → IsHullPair n.hull (edge_at n e).b (edge_at n e).a
        → IsOnLiveTriangle n es (edge_at n e) ⊎ ((line_at n es e).value ≡ pos 0)
    down e e_in live pair =
        ⊎_elim
        (λ (t, side, over, zero). inl (t, inr side, over))
        (λ (none, zero). inr (value_is e (edge_at n e).b (edge_at n e).a (e_in, Joins-comm (edge_at n e) _ _ (Joins-ends (edge_at n e))) live zero))
        (tight.hull_sides (edge_at n e).b (edge_at n e).a pair)

-- the amounts of a line are in their ranges
amounts : (hull : List ℕ) (b a : Bool) (p : Priced) → Decides b (IsHullEdge hull p.edge) → IsWithinRanges hull p
    → (a ≡ false → (p.left ≡ pos 0) × (p.right ≡ pos 0)) → (b ≡ true → a ≡ false) → AreRanges 2 (kind_of b a) p.value p.left p.right
amounts hull true a p decides w none apart =
    let zero = none (apart refl) in
    let is = w.anchor (decides.0 refl) in
    (record { least = omega (arith, ints, is.0); most = omega (arith, ints, is.1) }, zero.0, zero.1)
amounts hull false true p decides w none apart =
    let is = w.price (λ h. false≢true (decides.1 h)) in
    let l = w.left in
    let r = w.right in (
      refl,
      record { least = omega (arith, ints, is.0); most = omega (arith, ints, is.1) },
      record { least = l.0; most = omega (arith, ints, l.1) },
      record { least = r.0; most = omega (arith, ints, r.1) },
    )
amounts hull false false p decides w none apart =
    let zero = none refl in
    let is = w.price (λ h. false≢true (decides.1 h)) in
    (record { least = omega (arith, ints, is.0); most = omega (arith, ints, is.1) }, zero.0, zero.1)

pub line_rows : (n : NetworkParts) (es : List PriceEntry) → AreEntriesOf n es → All (IsWithinRanges n.hull) (prices_of n es)
    → All (IsLiveRow 2 (length n.points)) (price_lines n es)
line_rows n es b within =
    all_lines n es (IsLiveRow 2 (length n.points)) b.one_each
    (λ e e_in live.
    subst (λ p. IsLiveRow 2 (length n.points) (line_of (on_hull n e) (entry es e).anchored p)) (sym (entry_at-kept n es e))
    (record {
      edge = b.network.ends_in e _ e_in;
      prices = amounts n.hull (on_hull n e) (entry es e).anchored (kept_price n es e) (hull_decides n e)
          (price_of_live n es (IsWithinRanges n.hull) e within live) (b.each e e_in).elsewhere (hull-not_anchored n es e b e_in);
    }))
