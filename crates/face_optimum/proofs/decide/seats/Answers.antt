-- The skeleton cuts, and what is live fills.
use Rattle.std.proofs.Common.{◌≡◌, ℕ, List, not, sym, ◌∙◌, ap, subst}
use Rattle.lmt_network.specs.Flags.{live_edges}
use Rattle.face_optimum.specs.Decomposition.{bounded_faces, is_outer}
use Rattle.face_optimum.specs.SeatTables.{AreSidesIn, HavePointsIn, HaveSidesOnce}
use Rattle.face_optimum.proofs.FaceFacts.{kept_in, kept_once, kept_points}
use Rattle.face_optimum.proofs.SkeletonFacts.{ends_below, skeleton_live}
use Rattle.face_optimum.proofs.decide.seats.Goals as goal

pub off_skeleton-requires-clause-live : goal.off_skeleton-requires-clause-live
off_skeleton-requires-clause-live c = skeleton_live c.args.points.now.points (live_edges c.args.net.now c.args.flags.now) c.args.skeleton.now c.requires.skeleton_is

pub is_cut-requires-clause-ends_in : goal.is_cut-requires-clause-ends_in
is_cut-requires-clause-ends_in c =
    ends_below c.args.net.now c.args.flags.now c.in_ok-off.ensures.valid c.requires.one_each c.args.skeleton.now
    (skeleton_live c.args.points.now.points (live_edges c.args.net.now c.args.flags.now) c.args.skeleton.now c.requires.skeleton_is) c.args.points.now.points c.requires.same_points

pub seats_on-requires-clause-skeleton_in : goal.seats_on-requires-clause-skeleton_in
seats_on-requires-clause-skeleton_in c = skeleton_live c.args.points.now.points (live_edges c.args.net.now c.args.flags.now) c.args.skeleton.now c.requires.skeleton_is

pub seats_on-requires-clause-points_in : goal.seats_on-requires-clause-points_in
seats_on-requires-clause-points_in c =
    let ps = c.args.points.now.points in
    let es = c.args.skeleton.now in
    let rings_are : c.in_ok-rings.rings ≡ bounded_faces c.args.hull.now c.args.faces.now = c.in_ok-rings.ensures ∙ ap (λ (h : List ℕ). bounded_faces h c.args.faces.now) c.as_slice.ensures.is in
    let ends = ends_below c.args.net.now c.args.flags.now c.in_ok-off.ensures.valid c.requires.one_each es (skeleton_live ps (live_edges c.args.net.now c.args.flags.now) es c.requires.skeleton_is) ps c.requires.same_points in
    subst (HavePointsIn ps) (sym rings_are) (kept_points ps es c.args.faces.now c.requires.faces_are (λ (x : List ℕ). not (is_outer c.args.hull.now x)) ends)

pub seats_on-requires-clause-once : goal.seats_on-requires-clause-once
seats_on-requires-clause-once c =
    let rings_are : c.in_ok-rings.rings ≡ bounded_faces c.args.hull.now c.args.faces.now = c.in_ok-rings.ensures ∙ ap (λ (h : List ℕ). bounded_faces h c.args.faces.now) c.as_slice.ensures.is in
    subst HaveSidesOnce (sym rings_are) (kept_once c.args.points.now.points c.args.skeleton.now c.args.faces.now c.requires.faces_are (λ (x : List ℕ). not (is_outer c.args.hull.now x)))

pub seats_on-requires-clause-on : goal.seats_on-requires-clause-on
seats_on-requires-clause-on c =
    let rings_are : c.in_ok-rings.rings ≡ bounded_faces c.args.hull.now c.args.faces.now = c.in_ok-rings.ensures ∙ ap (λ (h : List ℕ). bounded_faces h c.args.faces.now) c.as_slice.ensures.is in
    subst (AreSidesIn c.args.skeleton.now) (sym rings_are) (kept_in c.args.points.now.points c.args.skeleton.now c.args.faces.now c.requires.faces_are (λ (x : List ℕ). not (is_outer c.args.hull.now x)))
