-- The cycle that is alone is the rim, or none is.
use Rattle.std.proofs.Common.{◌≡◌, ◌∷◌, [], ℕ, List, slice_index_or, sym, ◌∙◌, subst}
use Rattle.std.proofs.lemmas.Bool.{false≢true}
use Rattle.face_optimum.specs.Decomposition.{IsHullLeftOut, IsRim}
use Rattle.face_optimum.proofs.rim.is_hull_left_out.Goals as goal

one_only : (c d : List ℕ) → c ∷ [] ≡ d ∷ [] → c ≡ d
one_only c d e = cc

pub returns-in-Some : goal.returns-in-Some
returns-in-Some c =
    let hull = c.args.hull.now in
    let cycle = slice_index_or c.args.faces.now c.in-Some.i [] in (
      λ yes_true. record { outer = cycle; one = c.in-Some.ensures.1; rim = subst (IsRim hull) c.cycle.ensures (c.is_rim.ensures.0 yes_true) },
      λ (h : IsHullLeftOut c.args.hull.now c.args.faces.now). c.is_rim.ensures.1 (subst (IsRim hull) (one_only h.outer cycle (sym h.one ∙ c.in-Some.ensures.1) ∙ sym c.cycle.ensures) h.rim),
    )

pub returns-in-None : goal.returns-in-None
returns-in-None c = (λ h. absurd (false≢true h), λ h. absurd (c.in-None.ensures h.outer h.one))
