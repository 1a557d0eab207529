-- The prices of a report are tight exactly where each of its lines is.
use Rattle.std.proofs.Common.{◌≡◌, ◌≢◌, ◌⊎◌, ℕ, ◌<◌, ◌≤◌, Bool, true, false, IsTrue, ◌↔◌, cond, [], get_or, filter, All, Contains, ℤ, refl, sym, ap, ◌∙◌, arith, subst, inl, inr}
use Rattle.std.specs.Prelude.{◌==◌}
use Rattle.std.proofs.lemmas.Bool.{cases_lt, false≢true, not_from_false, not-true, eqb-true, eq-eqb, false_from_ne_true}
use Rattle.std.proofs.lemmas.List.Elements.{All-contains, Contains-get_or}
use Rattle.exact_predicates.specs.declared.edge.Edge.{Edge}
use Rattle.exact_predicates.specs.Candidates.{Joins}
use Rattle.exact_predicates.specs.Hull.{IsHullPair}
use Rattle.exact_predicates.proofs.Rings.{pair_ends}
use Rattle.lmt_network.specs.Live.{IsHullEdge}
use Rattle.lmt_network.specs.Prices.{Priced, priced, IsTight, IsTightSide}
use Rattle.lmt_network.proofs.Entries.{is_on_hull_decides, map_contains}
use Rattle.lmt_network.proofs.SideEdges.{edge_between}
use Rattle.cert_text.specs.declared.report.LineKind.{LineKind}
use Rattle.cert_text.specs.declared.report.LineKind.TheVariants.{Hull, Inner, Skeleton}
use Rattle.cert_text.specs.declared.report.PriceLine.{PriceLine}
use Rattle.cert_text.specs.declared.report.Report.{Report}
use Rattle.cert_text.specs.Within.{IsWithin, ArePrices}
use Rattle.dual_checker.specs.GoodReport.{price_of, prices_of, anchored_of, is_off_hull, live_edges_of, HasHull, HasLive, HasSkeleton, HasMarks, HasBound, IsMarked}
use Rattle.dual_checker.specs.LiveLines.{IsTightKind, IsTightLine, IsTightOnHull, sum_of_anchors}
use Rattle.dual_checker.proofs.AnchorSums.{bound_is-sum}
use Rattle.dual_checker.proofs.Halving.{Contains-filter, filter-Contains}
use Rattle.dual_checker.proofs.OwnPrices.{priced_own, joins_up, joins_down}

-- the line of a live edge
line_of : (r : Report) (e : Edge) → Contains (live_edges_of r) e → (l : PriceLine) × Contains r.live l × (l.edge ≡ e)
line_of r e has = map_contains (λ (l : PriceLine). l.edge) r.live e has

marked : (r : Report) (l : PriceLine) → HasMarks r → Contains r.live l → IsMarked r l
marked r l marks has = All-contains (IsMarked r) r.live l marks has

-- the anchored edges: in version 2, those of the skeleton off the hull
pub anchored-from : (r : Report) (e : Edge) → r.version ≡ 2 → Contains r.skeleton e → ¬ IsHullEdge r.hull e → Contains (anchored_of r) e
anchored-from r e two has away =
    let other : (r.version == 1) ≡ false = false_from_ne_true _ (λ one. let is = eqb-true r.version 1 one in omega arith) in
    let off : is_off_hull r.hull e ≡ true = not_from_false _ (false_from_ne_true _ (λ on. away ((is_on_hull_decides r.hull e.a e.b).0 on))) in
    subst (λ (b : Bool). Contains (cond b [] (filter (is_off_hull r.hull) r.skeleton)) e) (sym other) (Contains-filter (is_off_hull r.hull) r.skeleton e has off)

pub anchored-to : (r : Report) (e : Edge) → IsWithin r → Contains (anchored_of r) e → (r.version ≡ 2) × Contains r.skeleton e × (¬ IsHullEdge r.hull e)
anchored-to r e is has = go (r.version == 1) refl where
  go : (b : Bool) → (r.version == 1) ≡ b → (r.version ≡ 2) × Contains r.skeleton e × (¬ IsHullEdge r.hull e)
  go true one =
      let (k, inside, at) = subst (λ (b : Bool). Contains (cond b [] (filter (is_off_hull r.hull) r.skeleton)) e) one has in
      absurd (omega arith)
  go false other =
      let (there, off) = filter-Contains (is_off_hull r.hull) r.skeleton e (subst (λ (b : Bool). Contains (cond b [] (filter (is_off_hull r.hull) r.skeleton)) e) other has) in (
        elim is.version [ inl one ↦ absurd (false≢true (sym other ∙ eq-eqb r.version 1 one)) | inr two ↦ two ],
        there,
        λ on. false≢true (sym (not-true _ off) ∙ (is_on_hull_decides r.hull e.a e.b).1 on),
      )

pub tight_lines : (r : Report) → IsWithin r → HasHull r → HasLive r → HasSkeleton r → HasMarks r → All (IsTightLine r) r.live → IsTight r.points r.hull (anchored_of r) (prices_of r)
tight_lines r is hull live skeleton marks tight = record {
  hull_sides = λ u v pair.
      let ends = pair_ends r.points r.hull u v hull pair in
      let (e, joins) = edge_between u v ends.2 in
      on_hull u v e joins pair (cases_lt u v) ends.2;
  lefts = λ e has.
      let (l, l_in, same, sides) = anchored e has in
      subst (λ (f : Edge). IsTightSide r.points r.hull (prices_of r) f.a f.b (priced (prices_of r) f.a f.b).left) same
      (subst (λ (p : Priced). IsTightSide r.points r.hull (prices_of r) l.edge.a l.edge.b p.left) (sym (priced_own r l l.edge.a l.edge.b is l_in (joins_up l.edge))) sides.0);
  rights = λ e has.
      let (l, l_in, same, sides) = anchored e has in
      subst (λ (f : Edge). IsTightSide r.points r.hull (prices_of r) f.b f.a (priced (prices_of r) f.a f.b).right) same
      (subst (λ (p : Priced). IsTightSide r.points r.hull (prices_of r) l.edge.b l.edge.a p.right) (sym (priced_own r l l.edge.a l.edge.b is l_in (joins_up l.edge))) sides.1);
} where
  at_line : (l : PriceLine) → Contains r.live l → IsTightLine r l
  at_line l l_in = All-contains (IsTightLine r) r.live l tight l_in

  of_skeleton : (l : PriceLine) → Contains r.live l → r.version ≡ 2 → Contains r.skeleton l.edge → ¬ IsHullEdge r.hull l.edge → IsTightKind r Skeleton l
  of_skeleton l l_in two there away =
      let kind = ((marked r l marks l_in).skeleton two).1 (there, away) in
      subst (λ (k : LineKind). IsTightKind r k l) kind (at_line l l_in)

  -- the line of an anchored edge
  anchored : (e : Edge) → Contains (anchored_of r) e → (l : PriceLine) × Contains r.live l × (l.edge ≡ e) × IsTightKind r Skeleton l
  anchored e has =
      let (two, there, away) = anchored-to r e is has in
      let (l, l_in, same) = line_of r e (All-contains (λ (f : Edge). Contains (live_edges_of r) f) r.skeleton e (λ k d inside. (skeleton.each k d inside).member) there) in
      (l, l_in, same, of_skeleton l l_in two (subst (λ (f : Edge). Contains r.skeleton f) (sym same) there) (λ on. away (subst (λ (f : Edge). IsHullEdge r.hull f) same on)))

  of_hull : (l : PriceLine) → Contains r.live l → IsHullEdge r.hull l.edge → IsTightOnHull r l.edge l.value
  of_hull l l_in on = subst (λ (k : LineKind). IsTightKind r k l) ((marked r l marks l_in).hull.1 on) (at_line l l_in)

  -- a side of an edge of the hull, by the line of the edge
  by_line : (u v : ℕ) (e : Edge) → Joins e u v → IsHullEdge r.hull e
      → ((l : PriceLine) → l.edge ≡ e → IsTightOnHull r l.edge l.value → IsTightSide r.points r.hull (prices_of r) u v l.value)
      → IsTightSide r.points r.hull (prices_of r) u v (priced (prices_of r) u v).value
  by_line u v e joins on side =
      let (l, l_in, same) = line_of r e (live.hull_edges e on) in
      let both = of_hull l l_in (subst (λ (f : Edge). IsHullEdge r.hull f) (sym same) on) in
      let own : priced (prices_of r) u v ≡ price_of l = priced_own r l u v is l_in (subst (λ (f : Edge). Joins f u v) (sym same) joins) in
      subst (λ (p : Priced). IsTightSide r.points r.hull (prices_of r) u v p.value) (sym own) (side l same both)

  on_hull : (u v : ℕ) (e : Edge) → Joins e u v → IsHullPair r.hull u v → (u < v) ⊎ (v ≤ u) → u ≢ v → IsTightSide r.points r.hull (prices_of r) u v (priced (prices_of r) u v).value
  on_hull u v e joins pair (inl up) apart =
      let j0 = joins.0 in let j1 = joins.1 in
      let a : e.a ≡ u = omega arith in
      let b : e.b ≡ v = omega arith in
      by_line u v e joins (inl (rw (a, b) pair)) (λ l same both.
      let la : l.edge.a ≡ u = ap (λ (f : Edge). f.a) same ∙ a in
      let lb : l.edge.b ≡ v = ap (λ (f : Edge). f.b) same ∙ b in
      (rw (la, lb) at both.0) pair)
  on_hull u v e joins pair (inr down) apart =
      let j0 = joins.0 in let j1 = joins.1 in
      let a : e.a ≡ v = omega arith in
      let b : e.b ≡ u = omega arith in
      by_line u v e joins (inr (rw (a, b) pair)) (λ l same both.
      let la : l.edge.a ≡ v = ap (λ (f : Edge). f.a) same ∙ a in
      let lb : l.edge.b ≡ u = ap (λ (f : Edge). f.b) same ∙ b in
      (rw (la, lb) at both.1) pair)

pub lines_tight : (r : Report) → IsWithin r → HasMarks r → IsTight r.points r.hull (anchored_of r) (prices_of r) → All (IsTightLine r) r.live
lines_tight r is marks tight = λ k d inside. by_kind (get_or r.live k d) (Contains-get_or r.live k d inside) (get_or r.live k d).kind refl (is.live k d inside).prices where
  by_kind : (l : PriceLine) → Contains r.live l → (k : LineKind) → l.kind ≡ k → ArePrices r.version l.kind l.value l.left l.right → IsTightLine r l
  by_kind l l_in Hull e prices =
      subst (λ (k : LineKind). IsTightKind r k l) (sym e) (
        λ pair. subst (λ (p : Priced). IsTightSide r.points r.hull (prices_of r) l.edge.a l.edge.b p.value) (priced_own r l l.edge.a l.edge.b is l_in (joins_up l.edge)) (tight.hull_sides l.edge.a l.edge.b pair),
        λ pair. subst (λ (p : Priced). IsTightSide r.points r.hull (prices_of r) l.edge.b l.edge.a p.value) (priced_own r l l.edge.b l.edge.a is l_in (joins_down l.edge)) (tight.hull_sides l.edge.b l.edge.a pair),
      )
  by_kind l l_in Inner e prices = subst (λ (k : LineKind). IsTightKind r k l) (sym e) tt
  by_kind l l_in Skeleton e prices =
      let two = (subst (λ (k : LineKind). ArePrices r.version k l.value l.left l.right) e prices).0 in
      let (there, away) = ((marked r l marks l_in).skeleton two).0 e in
      let has = anchored-from r l.edge two there away in
      let own = priced_own r l l.edge.a l.edge.b is l_in (joins_up l.edge) in
      subst (λ (k : LineKind). IsTightKind r k l) (sym e) (
        subst (λ (p : Priced). IsTightSide r.points r.hull (prices_of r) l.edge.a l.edge.b p.left) own (tight.lefts l.edge has),
        subst (λ (p : Priced). IsTightSide r.points r.hull (prices_of r) l.edge.b l.edge.a p.right) own (tight.rights l.edge has),
      )

-- where the sum is right, the tight lines decide
pub bound_decides : (r : Report) (sum : ℤ) (tight : Bool) → IsWithin r → HasHull r → HasLive r → HasSkeleton r → HasMarks r → sum ≡ sum_of_anchors r.live → r.bound ≡ sum
    → (IsTrue tight ↔ All (IsTightLine r) r.live) → IsTrue tight ↔ HasBound r
bound_decides r sum tight is hull live skeleton marks sums same says = (
  λ t. record { sum = same ∙ (sums ∙ sym (bound_is-sum r marks)); tight = tight_lines r is hull live skeleton marks (says.0 t) },
  λ h. says.1 (lines_tight r is marks h.tight),
)

pub bound_fails : (r : Report) (sum : ℤ) (b : Bool) → HasMarks r → sum ≡ sum_of_anchors r.live → r.bound ≢ sum → b ≡ false → IsTrue b ↔ HasBound r
bound_fails r sum b marks sums apart fails = (
  λ t. absurd (false≢true (sym fails ∙ t)),
  λ h. absurd (apart (h.sum ∙ (bound_is-sum r marks ∙ sym sums))),
)
