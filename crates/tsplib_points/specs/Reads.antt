-- What is read of a text that may be a real.
use Rattle.std.specs.Prelude.{◌≡◌, ℕ, List, true, false}
use Rattle.mwt_base.specs.Limits.{most_unit}
use Rattle.tsplib_points.specs.declared.reals.Read.{Read}
use Rattle.tsplib_points.specs.declared.reals.Read.TheVariants.{NotReal, NotWhole, Kept}
use Rattle.tsplib_points.specs.Real.{is_real, real_in, is_whole}
use Rattle.tsplib_points.specs.Kept.{Keeps}

abbrev pub Reads : Read → List ℕ → Type 0
Reads NotReal text = is_real text ≡ false
Reads NotWhole text = (is_real text ≡ true) × (is_whole most_unit (real_in text) ≡ false)
Reads (Kept d) text = (is_real text ≡ true) × Keeps d.negative d.unit d.size (real_in text)
