use Rattle.std.proofs.Common.{◌≡◌, ◌<◌, length, Contains, sym, ap, ◌∙◌, subst, arith}
use Rattle.flip_finish.specs.Flipping.{Shortens}
use Rattle.flip_finish.specs.Mesh.{Parts}
use Rattle.flip_finish.specs.Winners.{HasTriangle}
use Rattle.flip_claims.specs.declared.view.Known.{Known}
use Rattle.flip_claims.specs.Handles.{ClaimsView, SeatView}
use Rattle.flip_claims.specs.Plays.{Sitting, claimed_view}
use Rattle.flip_claims.specs.Rule.{claim_on}
use Rattle.flip_claims.specs.Told.{Remembers}
use Rattle.flip_claims.proofs.Lowers.{lowers}
use Rattle.flip_claims.proofs.Remembering.{remembers_claim}
use Rattle.flip_claims.proofs.Sitters.{meets}
use Rattle.flip_claims.proofs.Triangles.{both_claimed, has_left, has_right}
use Rattle.flip_claims.proofs.handles.Claims.claim.Goals as goal

pub fetch_min-first-requires : goal.fetch_min-first-requires
fetch_min-first-requires c =
    let same = c.requires.same_mesh ∙ sym (ap (λ (v : ClaimsView). v.mesh) c.self.view_is) in
    let low = subst (λ (m : Parts). c.in-Some.left < length m.tris) same c.in-Some.ensures.below.0 in
    let words = c.self.invariant.1 in
    let shares = c.seat.invariant.shares in (
      meets _ _ _ _ c.seat.view_is c.self.view_is c.requires.belongs,
      omega arith,
      lowers c.self.inside.table.shared.key _ _ c.seat.inside.place.me c.in-Some.left _ c.args.points.now.points low
          (subst (λ (m : Parts). Shortens c.args.points.now.points m c.args.slot) same c.requires.shortens)
          (subst (λ (m : Parts). HasTriangle m c.args.slot c.in-Some.left) same (has_left _ _ _ _ c.in-Some.ensures.pair))
          (omega arith),
    )

pub fetch_min-second-requires : goal.fetch_min-second-requires
fetch_min-second-requires c =
    let same = c.requires.same_mesh ∙ sym (ap (λ (v : ClaimsView). v.mesh) c.self.view_is) in
    let low = subst (λ (m : Parts). c.in-Some.right < length m.tris) same c.in-Some.ensures.below.1 in
    let words = c.self.invariant.1 in
    let shares = c.seat.invariant.shares in
    let now = ap (λ (m : Sitting). m.0.shares) c.fetch_min-first.ensures.2 in (
      c.fetch_min-first.ensures.0 ∙ meets _ _ _ _ c.seat.view_is c.self.view_is c.requires.belongs,
      omega arith,
      lowers c.self.inside.table.shared.key _ _ c.fetch_min-first.new.seat.me c.in-Some.right _ c.args.points.now.points low
          (subst (λ (m : Parts). Shortens c.args.points.now.points m c.args.slot) same c.requires.shortens)
          (subst (λ (m : Parts). HasTriangle m c.args.slot c.in-Some.right) same (has_right _ _ _ _ c.in-Some.ensures.pair))
          (omega arith),
    )

-- the view after both steps
known_after : (c : goal.After-of) → c.fetch_min-second.new.seat.me.0 ≡ claimed_view c.in-Some.right c.args.slot c.fetch_min-second.result (claimed_view c.in-Some.left c.args.slot c.fetch_min-first.result c.args.seat.now.known)
known_after c =
    ap (λ (m : Sitting). m.0) c.fetch_min-second.ensures.2
    ∙ ap (λ (d : Known). claimed_view c.in-Some.right c.args.slot c.fetch_min-second.result d)
    (ap (λ (m : Sitting). m.0) c.fetch_min-first.ensures.2 ∙ ap (λ (v : SeatView). claimed_view c.in-Some.left c.args.slot c.fetch_min-first.result v.known) c.seat.view_is)

pub returns-clause-kept : goal.returns-clause-kept
returns-clause-kept c = subst (Remembers c.args.seat.now.known) (sym (known_after c)) (remembers_claim c.in-Some.left c.in-Some.right c.args.slot c.fetch_min-first.result c.fetch_min-second.result c.args.seat.now.known)

pub returns-clause-claimed : goal.returns-clause-claimed
returns-clause-claimed c t has = subst (λ (d : Known). Contains d.claimed (claim_on t c.args.slot)) (sym (known_after c))
    (both_claimed c.args.mesh.now c.args.slot c.in-Some.left c.in-Some.right c.fetch_min-first.result c.fetch_min-second.result t c.args.seat.now.known c.in-Some.ensures.pair has)
