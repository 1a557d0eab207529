use Rattle.std.proofs.Common.{◌≡◌, map, take, filter}
use Rattle.cert_text.specs.declared.report.PriceLine.{PriceLine}
use Rattle.svg_picture.specs.Edges.{ends, is_other}
use Rattle.svg_picture.proofs.edges.other_edges.Given as goal

abbrev pub invariant-loop-line : goal.invariant-loop-line
invariant-loop-line l = l.others.items ≡ filter (is_other l.skeleton l.sides) (map (λ (m : PriceLine). ends m.edge) (take l.line-index l.live))
