-- The edges that are left are the skeleton.
use Rattle.std.proofs.Common.{◌≡◌, ◌<◌, List, Bool, length, All, sym, ◌∙◌, ap, subst, arith}
use Rattle.std.specs.List.{items_where_true}
use Rattle.std.proofs.lemmas.List.{with_items_is}
use Rattle.std.proofs.lemmas.List.Elements.{All-contains, All-weaker}
use Rattle.exact_predicates.specs.declared.edge.Edge.{Edge}
use Rattle.exact_predicates.specs.declared.point.Point.{Point}
use Rattle.lmt_network.specs.Edges.{IsEdgeOf}
use Rattle.lmt_network.specs.Flags.{live_edges}
use Rattle.lmt_network.specs.Skeleton.{AreSkeleton, IsSkeletonEdge}
use Rattle.lmt_network.proofs.Picked.{All-from_members, All-picked}
use Rattle.lmt_network.proofs.Skeletons.{flip_minimal_law}
use Rattle.skeleton_faces.proofs.Chosen.{skeleton_left}
use Rattle.skeleton_faces.proofs.Flags.{length-items_where_true}
use Rattle.skeleton_faces.proofs.live_skeleton.skeleton.Goals as goal

pub drop_crossed-requires-clause-others_in : goal.drop_crossed-requires-clause-others_in
drop_crossed-requires-clause-others_in c =
    let n = c.args.net.now in
    let live = live_edges n c.args.flags.now in
    let InSet : List Edge → Type 0 = All (λ e. e.b < length c.args.points.now.points) in
    let within = All-picked (λ e. e.b < length n.points) c.args.flags.now n.edges c.in_ok-uncrossed.ensures.network.ends_in in
    subst InSet (sym c.deref.ensures.value)
    (All-from_members (λ e. e.b < length c.args.points.now.points) c.in_ok-bare.bare.items
    (λ e has.
    let e_in = All-contains (λ x. x.b < length n.points) live e within ((c.in_ok-bare.ensures e).0 has).0 in
    subst (λ (ps : List Point). e.b < length ps) c.requires.same_points e_in))

pub of-requires : goal.of-requires
of-requires c =
    let few = length-items_where_true c.deref-2.result.now c.args.net.now.edges in
    let is = ap length c.in_ok-skeleton.ensures in
    omega (arith, c.in_ok-uncrossed.ensures.network.few_edges, c.in_ok-skeleton.skeleton.ok.0)

pub returns : goal.returns
returns c =
    let n = c.args.net.now in
    let flags = c.args.flags.now in
    let es = live_edges n flags in
    let net = c.in_ok-uncrossed.ensures.network in
    let left = c.in_ok-uncrossed.uncrossed in
    let kept = c.drop_crossed.new.flags in
    let kept_is : c.deref-2.result.now ≡ kept = c.deref-2.ensures.value ∙ with_items_is left kept (c.drop_crossed.auto.flags ∙ c.deref_mut.ensures.len) in
    let dropped = rw (← c.requires.same_points, c.deref.ensures.value, c.deref_mut.ensures.value) at c.drop_crossed.ensures.uncrossed in
    let chosen = skeleton_left n flags left.items kept c.in_ok-bare.bare.items net c.requires.one_each c.in_ok-bare.ensures c.in_ok-uncrossed.ensures.uncovered dropped in
    let is : c.of.result ≡ items_where_true kept n.edges = c.of.ensures ∙ (c.in_ok-skeleton.ensures ∙ ap (λ (fs : List Bool). items_where_true fs n.edges) kept_is) in
    let skeleton = subst (AreSkeleton n.points es) (sym is) chosen in
    record {
      skeleton = subst (λ (ps : List Point). AreSkeleton ps es c.of.result) c.requires.same_points skeleton;
      in_flip_minimal = λ diamond tris is_live minimal candidates.
          All-weaker (IsSkeletonEdge n.points es) (IsEdgeOf n.hull tris) (λ e s. flip_minimal_law n.points n.hull diamond tris es minimal candidates is_live e s) c.of.result skeleton.each;
    }
