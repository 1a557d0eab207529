-- A scaled coordinate: out of range, or itself with its sign.
use Rattle.std.proofs.Common.{◌≡◌, ◌*◌, ◌^◌, ◌-◌, Bool, sym, ap, ◌∙◌}
use Rattle.tsplib_points.specs.Real.{signed}
use Rattle.tsplib_points.proofs.Sizes.{kept_tells, large_from, scaled_from, negative_cast, positive_cast}
use Rattle.tsplib_points.proofs.scaling.coordinate.Goals as goal

pub returns-then-size-gt-MOST_COORDINATE : goal.returns-then-size-gt-MOST_COORDINATE
returns-then-size-gt-MOST_COORDINATE c = λ r keeps.
    let d = c.args.kept.now in
    let size : c.from.result * c.pow.result ≡ d.size * 10 ^ (c.args.unit - d.unit) = rw (c.from.ensures, c.pow.ensures, c.from-2.ensures) in
    large_from (c.from.result * c.pow.result) c.args.unit r (rw size (kept_tells d.negative d.unit d.size c.args.unit r keeps c.requires.within)) c.if-size-gt-MOST_COORDINATE.true

pub returns-then-kept : goal.returns-then-kept
returns-then-kept c = λ r keeps.
    let d = c.args.kept.now in
    let size : c.from.result * c.pow.result ≡ d.size * 10 ^ (c.args.unit - d.unit) = rw (c.from.ensures, c.pow.ensures, c.from-2.ensures) in
    let n = c.from.result * c.pow.result in
    scaled_from n c.args.unit r _ (rw size (kept_tells d.negative d.unit d.size c.args.unit r keeps c.requires.within)) c.if-size-gt-MOST_COORDINATE.false
    (negative_cast n c.if-size-gt-MOST_COORDINATE.false ∙ ap (λ (b : Bool). signed b n) (sym c.if-kept.true ∙ keeps.sign))

pub returns-else-kept : goal.returns-else-kept
returns-else-kept c = λ r keeps.
    let d = c.args.kept.now in
    let size : c.from.result * c.pow.result ≡ d.size * 10 ^ (c.args.unit - d.unit) = rw (c.from.ensures, c.pow.ensures, c.from-2.ensures) in
    let n = c.from.result * c.pow.result in
    scaled_from n c.args.unit r _ (rw size (kept_tells d.negative d.unit d.size c.args.unit r keeps c.requires.within)) c.if-size-gt-MOST_COORDINATE.false
    (positive_cast n c.if-size-gt-MOST_COORDINATE.false ∙ ap (λ (b : Bool). signed b n) (sym c.if-kept.false ∙ keeps.sign))
