-- The three sides are live.
use Rattle.std.proofs.Common.{slice_index, sym, ◌∙◌, inl, inr}
use Rattle.std.proofs.lemmas.Bool.{false≢true}
use Rattle.skeleton_faces.proofs.LiveTris.{live_by_sides, live_side}
use Rattle.skeleton_faces.proofs.reaches.is_live.Goals as goal
use Rattle.skeleton_faces.proofs.reaches.is_live.Goals.{then-live, else-live}

pub returns-then-live-2 : goal.returns-then-live-2
returns-then-live-2 c =
    let n = c.args.net.now in
    let flags = c.args.flags.now in
    let t = c.args.t in
    elim c.if-live.branch [
      | then-live w ↦ (
        λ on. live_by_sides n flags t c.requires.network c.requires.one_each c.requires.t_in (slice_index c.sides.result 0) (slice_index c.sides.result 1) (slice_index c.sides.result 2)
            c.sides.ensures.ab c.sides.ensures.bc c.sides.ensures.ca
            (sym c.live.ensures ∙ w.if-live.true) (sym w.live-then-live.ensures ∙ (sym w.value-is ∙ c.if-live-2.true)) (sym c.live-then-live-2.ensures ∙ on),
        λ live. c.live-then-live-2.ensures ∙ live_side n flags t c.requires.network c.requires.one_each c.requires.t_in live (slice_index c.sides.result 2) (inr (inr c.sides.ensures.ca)),
      )
      | else-live w ↦ absurd (false≢true (sym w.if-live.false ∙ (sym w.value-is ∙ c.if-live-2.true)))
    ]

pub returns-else-live-2 : goal.returns-else-live-2
returns-else-live-2 c =
    let n = c.args.net.now in
    let flags = c.args.flags.now in
    let t = c.args.t in (
      λ on. absurd (false≢true (sym c.if-live-2.false ∙ on)),
      λ live. elim c.if-live.branch [
        | then-live w ↦
            w.value-is ∙ (w.live-then-live.ensures ∙ live_side n flags t c.requires.network c.requires.one_each c.requires.t_in live (slice_index c.sides.result 1) (inr (inl c.sides.ensures.bc)))
        | else-live w ↦
            absurd (false≢true (sym w.if-live.false ∙ (c.live.ensures ∙ live_side n flags t c.requires.network c.requires.one_each c.requires.t_in live (slice_index c.sides.result 0) (inl c.sides.ensures.ab))))
      ],
    )
