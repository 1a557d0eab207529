-- The anchors of a report's lines add up to its bound.
use Rattle.std.proofs.Common.{◌≡◌, suc, false, Bool, List, [], ◌∷◌, get_or, map, fold, All, ℤ, pos, ◌+ℤ◌, refl, ap, ◌∙◌, arith}
use Rattle.std.proofs.lemmas.Bool.{false_from_ne_true, cond-true, cond-false}
use Rattle.lmt_network.specs.Prices.{anchors_of, bound, is_on_hull}
use Rattle.lmt_network.proofs.Entries.{is_on_hull_decides}
use Rattle.cert_text.specs.declared.report.LineKind.{LineKind}
use Rattle.cert_text.specs.declared.report.LineKind.TheVariants.{Hull, Inner, Skeleton}
use Rattle.cert_text.specs.declared.report.PriceLine.{PriceLine}
use Rattle.cert_text.specs.declared.report.Report.{Report}
use Rattle.dual_checker.specs.GoodReport.{price_of, prices_of, HasMarks, IsMarked}
use Rattle.dual_checker.specs.LiveLines.{line_anchors, sum_of_anchors}

-- two sums of the same terms
sums_agree : {X Y : Type 0} (f : Y → ℤ) (g : X → Y) (h : X → ℤ) (xs : List X) (a : ℤ) → All (λ x. f (g x) ≡ h x) xs
    → fold (λ b y. b +ℤ f y) a (map g xs) ≡ fold (λ b x. b +ℤ h x) a xs
sums_agree f g h [] a same = refl
sums_agree f g h (x ∷ xs) a same =
    ap (λ (t : ℤ). fold (λ b y. b +ℤ f y) (a +ℤ t) (map g xs)) (same 0 x (omega arith))
    ∙ sums_agree f g h xs (a +ℤ h x) (λ k d inside. same (suc k) d (omega arith))

-- the anchors of a marked line are those of its edge
anchors_marked : (r : Report) (l : PriceLine) → IsMarked r l → anchors_of r.hull (price_of l) ≡ line_anchors l.kind l
anchors_marked r l m = by_kind l.kind refl where
  on : Bool
  on = is_on_hull r.hull l.edge.a l.edge.b

  off : ¬ (l.kind ≡ Hull) → is_on_hull r.hull l.edge.a l.edge.b ≡ false
  off apart = false_from_ne_true _ (λ is. apart (m.hull.1 ((is_on_hull_decides r.hull l.edge.a l.edge.b).0 is)))

  by_kind : (k : LineKind) → l.kind ≡ k → anchors_of r.hull (price_of l) ≡ line_anchors k l
  by_kind Hull e = cond-true _ _ _ ((is_on_hull_decides r.hull l.edge.a l.edge.b).1 (m.hull.0 e))
  by_kind Inner e = cond-false _ _ _ (off (λ h. cc))
  by_kind Skeleton e = cond-false _ _ _ (off (λ h. cc))

pub bound_is-sum : (r : Report) → HasMarks r → bound r.hull (prices_of r) ≡ sum_of_anchors r.live
bound_is-sum r marks =
    sums_agree (anchors_of r.hull) price_of (λ l. line_anchors l.kind l) r.live (pos 0) (λ k d inside. anchors_marked r (get_or r.live k d) (marks k d inside))
