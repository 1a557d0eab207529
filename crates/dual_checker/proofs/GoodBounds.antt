-- What a good report proves: that no triangulation is shorter than its bound, and more.
use Rattle.std.proofs.Common.{◌≡◌, ◌⊎◌, ℕ, List, get_or, All, Contains, pos, ◌≤ℤ◌, ℤ, refl, sym, ap, subst, ◌∙◌, arith, inl, inr}
use Rattle.std.proofs.lemmas.Int.{ints}
use Rattle.std.proofs.lemmas.List.Elements.{All-map, All-contains, Contains-get_or}
use Rattle.exact_predicates.specs.declared.diamond.Diamond.{Diamond}
use Rattle.exact_predicates.specs.declared.edge.Edge.{Edge}
use Rattle.exact_predicates.specs.Length.{IsAtLeast, IsAtMost}
use Rattle.exact_predicates.specs.Triangulation.{edges}
use Rattle.length_enclosure.specs.Enclosure.{lo}
use Rattle.length_enclosure.proofs.Enclosures.{IsAtMost-hi}
use Rattle.lmt_network.specs.Bounds.{Exclusion, IsSplit, NoneIsShorter}
use Rattle.lmt_network.specs.Edges.{HasEdgesIn}
use Rattle.lmt_network.specs.Live.{IsLive}
use Rattle.lmt_network.specs.Prices.{Priced, ArePrices}
use Rattle.lmt_network.specs.Skeleton.{IsSkeletonEdge}
use Rattle.lmt_network.proofs.BoundLaws.{below_split_law, bound_law, exclusion_off_law}
use Rattle.lmt_network.proofs.Skeletons.{flip_minimal_law}
use Rattle.cert_text.specs.declared.report.LineKind.{LineKind}
use Rattle.cert_text.specs.declared.report.LineKind.TheVariants.{Hull, Inner, Skeleton}
use Rattle.cert_text.specs.declared.report.PriceLine.{PriceLine}
use Rattle.cert_text.specs.declared.report.Report.{Report}
use Rattle.cert_text.specs.Within.{ArePrices as ArePricesOf}
use Rattle.dual_checker.specs.GoodReport.{IsGoodReport, IsMarked, anchored_of, live_edges_of, price_of, prices_of}
use Rattle.dual_checker.specs.Laws.{BoundIsLower, BoundIsLowerOff, BoundIsLowerOverLive, FacesAreOptimal, SkeletonIsCommon}
use Rattle.dual_checker.proofs.Ledgers.{map-map}
use Rattle.dual_checker.proofs.OwnPrices.{prices_ascend}
use Rattle.dual_checker.proofs.Tightness.{anchored-from, anchored-to}

anchors_not_negative : (version : ℕ) (kind : LineKind) (value left right : ℤ) → ArePricesOf version kind value left right → (pos 0 ≤ℤ left) × (pos 0 ≤ℤ right)
anchors_not_negative version Hull value left right h = let a = h.1 in let b = h.2 in (omega (arith, ints), omega (arith, ints))
anchors_not_negative version Inner value left right h = let a = h.1 in let b = h.2 in (omega (arith, ints), omega (arith, ints))
anchors_not_negative version Skeleton value left right h = (h.2.least, h.3.least)

anchors_elsewhere : (r : Report) (l : PriceLine) (kind : LineKind) → l.kind ≡ kind → IsMarked r l → ArePricesOf r.version kind l.value l.left l.right
    → Contains (anchored_of r) l.edge ⊎ ((l.left ≡ pos 0) × (l.right ≡ pos 0))
anchors_elsewhere r l Hull e m h = inr (h.1, h.2)
anchors_elsewhere r l Inner e m h = inr (h.1, h.2)
anchors_elsewhere r l Skeleton e m h = let s = (m.skeleton h.0).0 e in inl (anchored-from r l.edge h.0 s.0 s.1)

good_prices : (r : Report) → IsGoodReport r → ArePrices (anchored_of r) (prices_of r)
good_prices r g = record {
  ascending = prices_ascend r g.within;
  not_negative = All-map (λ (p : Priced). (pos 0 ≤ℤ p.left) × (pos 0 ≤ℤ p.right)) price_of r.live (λ k d inside.
      let l = get_or r.live k d in anchors_not_negative r.version l.kind l.value l.left l.right (g.within.live k d inside).prices);
  elsewhere = All-map (λ (p : Priced). Contains (anchored_of r) p.edge ⊎ ((p.left ≡ pos 0) × (p.right ≡ pos 0))) price_of r.live (λ k d inside.
      let l = get_or r.live k d in anchors_elsewhere r l l.kind refl (g.marks k d inside) (g.within.live k d inside).prices);
}

anchored_in_skeleton : (r : Report) → IsGoodReport r → All (IsSkeletonEdge r.points (live_edges_of r)) (anchored_of r)
anchored_in_skeleton r g k d inside =
    let e = get_or (anchored_of r) k d in
    let (two, there, away) = anchored-to r e g.within (Contains-get_or (anchored_of r) k d inside) in
    All-contains (IsSkeletonEdge r.points (live_edges_of r)) r.skeleton e g.skeleton.each there

-- the length of a good report is split among its live edges
good_split : (r : Report) → IsGoodReport r → IsSplit r.points r.hull r.diamond (anchored_of r) (prices_of r)
good_split r g =
    let same = map-map (λ (p : Priced). p.edge) price_of r.live in
    record {
      hull_is = g.hull;
      live = subst (λ (es : List Edge). IsLive r.points r.hull r.diamond es) (sym same) g.live;
      skeleton = subst (λ (es : List Edge). All (IsSkeletonEdge r.points es) (anchored_of r)) (sym same) (anchored_in_skeleton r g);
      prices_are = good_prices r g;
      feasible = g.slack;
    }

pub bound_is_lower : BoundIsLower
bound_is_lower r tris g exclusion t =
    subst (λ (b : ℤ). IsAtLeast r.points (edges r.hull tris) b) (sym g.bound.sum)
    (bound_law r.points r.hull r.diamond (anchored_of r) (prices_of r) (good_split r g) exclusion tris t)

pub bound_is_lower_over_live : BoundIsLowerOverLive
bound_is_lower_over_live r tris g t live =
    let same = map-map (λ (p : Priced). p.edge) price_of r.live in
    subst (λ (b : ℤ). b ≤ℤ pos (lo r.points (edges r.hull tris))) (sym g.bound.sum)
    (below_split_law r.points r.hull r.diamond (anchored_of r) (prices_of r) tris (good_split r g) t (subst (HasEdgesIn r.hull tris) (sym same) live))

pub bound_is_lower_off : BoundIsLowerOff
bound_is_lower_off r g off tris t =
    bound_is_lower r tris g (subst (λ (d : Diamond). Exclusion r.points r.hull d) (sym off) (exclusion_off_law r.points r.hull g.hull)) t

pub faces_are_optimal : FacesAreOptimal
faces_are_optimal r g faces =
    let met : r.bound ≡ pos r.lo = g.faces faces ∙ ap (λ (n : ℕ). pos n) (sym g.length.lower) in
    record {
      bound = met;
      not_longer = subst (λ (n : ℕ). IsAtMost r.points (edges r.hull r.tris) n) (sym g.length.upper) (IsAtMost-hi r.points (edges r.hull r.tris));
      none_shorter = λ exclusion. subst (λ (b : ℤ). NoneIsShorter r.points r.hull b) met (λ tris t. bound_is_lower r tris g exclusion t);
    }

pub skeleton_is_common : SkeletonIsCommon
skeleton_is_common r tris g minimal candidates = λ k d inside.
    let e = get_or r.skeleton k d in
    flip_minimal_law r.points r.hull r.diamond tris (live_edges_of r) minimal candidates g.live e (g.skeleton.each k d inside)
