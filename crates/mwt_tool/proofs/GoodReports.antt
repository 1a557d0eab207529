-- What follows from the parts of a good report.
use Rattle.std.proofs.Common.{ℕ, pos, sym, subst}
use Rattle.exact_predicates.specs.declared.diamond.Diamond.{Diamond}
use Rattle.exact_predicates.specs.declared.diamond.Diamond.TheVariants.{Off, On}
use Rattle.exact_predicates.specs.Length.{IsAtLeast, IsAtMost}
use Rattle.exact_predicates.specs.Triangulation.{edges}
use Rattle.length_enclosure.proofs.Enclosures.{IsAtLeast-lo, IsAtMost-hi}
use Rattle.lmt_network.specs.Bounds.{Exclusion}
use Rattle.lmt_network.proofs.BoundLaws.{exclusion_off_law}
use Rattle.cert_text.specs.declared.report.Report.{Report}
use Rattle.dual_checker.specs.GoodReport.{IsGoodReport}
use Rattle.dual_checker.proofs.GoodBounds.{bound_is_lower, bound_is_lower_over_live, faces_are_optimal, skeleton_is_common}
use Rattle.mwt_tool.specs.ReportOf.{EnclosesLength, IsCertified, Premise}

module _ {r : Report} (g : IsGoodReport r) where
  encloses : EnclosesLength r
  encloses = record {
    at_least = subst (λ (k : ℕ). IsAtLeast r.points (edges r.hull r.tris) (pos k)) (sym g.length.lower) (IsAtLeast-lo r.points (edges r.hull r.tris));
    at_most = subst (λ (k : ℕ). IsAtMost r.points (edges r.hull r.tris) k) (sym g.length.upper) (IsAtMost-hi r.points (edges r.hull r.tris));
  }

  -- the premise of the bound, where the test is off
  premise : (diamond : Diamond) → Premise r.points r.hull diamond → Exclusion r.points r.hull diamond
  premise Off h = exclusion_off_law r.points r.hull g.hull
  premise On h = h

  pub certified : IsCertified r
  certified = record {
    good = g;
    encloses = encloses;
    none_is_shorter = λ h tris t. bound_is_lower r tris g (premise r.diamond h) t;
    none_live_is_shorter = λ tris t live. bound_is_lower_over_live r tris g t live;
    skeleton_in = λ tris minimal candidates. skeleton_is_common r tris g minimal candidates;
    optimal = λ faces. (faces_are_optimal r g faces).bound;
  }
