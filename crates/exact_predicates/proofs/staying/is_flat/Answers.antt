-- All points lie on one line where they lie on that of the first two.
use Rattle.std.proofs.Common.{rules, tests, ◌∙◌, pos}
use Rattle.std.specs.Ordering.{int_eq}
use Rattle.std.proofs.lemmas.Iterator.{YieldsList-from_slice}
use Rattle.std.proofs.lemmas.Iterator.Search.{all_from_yields_List}
use Rattle.exact_predicates.specs.Plane.{orient}
use Rattle.exact_predicates.specs.PointSet.{point_at}
use Rattle.exact_predicates.proofs.Flatness.{is_flat-scan}
use Rattle.exact_predicates.proofs.staying.is_flat.Goals as goal

pub returns : goal.returns
returns c =
    let ps = c.args.points.now in
    all_from_yields_List (λ r. int_eq (orient (point_at ps 0) (point_at ps 1) r) (pos 0)) _ _ _ c.all.ensures.ran (YieldsList-from_slice ps (cc)) (λ x b q k. search (rules, tests))
    ∙ is_flat-scan ps c.requires.some c.requires.ascending
