-- None of the triangles that were looked at is live.
use Rattle.std.proofs.Common.{◌≡◌, slice_index, sym, ◌∙◌, subst, arith, below_more}
use Rattle.std.proofs.lemmas.Bool.{false≢true}
use Rattle.std.proofs.lemmas.List.{get_or_default}
use Rattle.skeleton_faces.specs.Reaches.{IsLiveTri}
use Rattle.skeleton_faces.proofs.bare.is_faced.Goals as goal

pub loop-t-preserved : goal.loop-t-preserved
loop-t-preserved c = below_more _ _ c.loop-t.invariant (λ h. false≢true (sym c.if-is_live.false ∙ c.is_live.ensures.1 h))

pub returns : goal.returns
returns c = (
  λ none. absurd (false≢true none),
  λ (k, t, k_in, at_k, live).
      let is : t ≡ slice_index c.args.row.now k = sym (get_or_default c.args.row.now k 0 t k_in ∙ at_k) in
      absurd (c.loop-t.invariant k (omega arith) (subst (IsLiveTri c.args.net.now c.args.flags.now) is live)),
)
