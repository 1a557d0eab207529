use Rattle.std.proofs.Common.{◌≡◌, IsTrue, ◌↔◌, ℕ, nat_eq, List, sym, ◌∙◌, ap}
use Rattle.std.proofs.lemmas.Bool.{eqb-true, eq-eqb}
use Rattle.exact_predicates.specs.declared.point.Point.{Point}
use Rattle.exact_predicates.specs.Triangulation.{edges}
use Rattle.length_enclosure.specs.Enclosure.{lo, hi}
use Rattle.cert_text.specs.declared.report.Report.{Report}
use Rattle.dual_checker.specs.GoodReport.{HasLength}
use Rattle.dual_checker.proofs.length.has_length.Goals as goal

-- with the lower end right, the upper end decides
upper_decides : (r : Report) (ps : List Point) (a b : ℕ) → ps ≡ r.points → a ≡ lo ps (edges r.hull r.tris) → b ≡ hi ps (edges r.hull r.tris) → a ≡ r.lo
    → IsTrue (nat_eq b r.hi) ↔ HasLength r
upper_decides r ps a b same low high is = (
  λ t. record {
    lower = sym is ∙ (low ∙ ap (λ (qs : List Point). lo qs (edges r.hull r.tris)) same);
    upper = sym (eqb-true b r.hi t) ∙ (high ∙ ap (λ (qs : List Point). hi qs (edges r.hull r.tris)) same);
  },
  λ h. eq-eqb b r.hi (high ∙ (ap (λ (qs : List Point). hi qs (edges r.hull r.tris)) same ∙ sym h.upper)),
)

pub returns-then-ends-report : goal.returns-then-ends-report
returns-then-ends-report c =
    upper_decides c.args.report.now c.args.points.now.points c.enclosure-ends.result.lo c.enclosure-ends.result.hi c.requires.points
    c.enclosure-ends.ensures.lo c.enclosure-ends.ensures.hi c.if-ends-report.true
