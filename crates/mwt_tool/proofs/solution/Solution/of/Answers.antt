use Rattle.std.proofs.Common.{ℕ, List, Contains, refl, sym, subst}
use Rattle.std.proofs.lemmas.List.Elements.{All-weaker}
use Rattle.exact_predicates.specs.declared.point.Point.{Point}
use Rattle.exact_predicates.specs.Flip.{IsFlipMinimal}
use Rattle.exact_predicates.specs.Length.{IsNotLonger}
use Rattle.exact_predicates.specs.Triangulation.{IsTriangulation, edges}
use Rattle.flip_claims.specs.Descent.{IsDescendant}
use Rattle.lmt_network.specs.Flags.{live_edges}
use Rattle.lmt_network.specs.Skeleton.{IsSkeletonEdge}
use Rattle.skeleton_faces.specs.Faces.{AreClear, AreFaces}
use Rattle.skeleton_faces.proofs.Clear.{AreClear-skeleton}
use Rattle.price_ascent.proofs.PriceLists.{ranges_of_ascent}
use Rattle.face_optimum.specs.FaceEnds.{IsFaceEnd}
use Rattle.face_optimum.specs.Sites.{most_places}
use Rattle.mwt_tool.proofs.solution.Solution.of.Goals as goal

pub faces-requires : goal.faces-requires
faces-requires g c =
    let n = c.args.net.now in
    let live = c.requires.live in
    let skeleton = c.args.skeleton.now in
    subst (λ (ps : List Point). AreClear ps skeleton) c.requires.points
    (AreClear-skeleton n.points n.hull live.diamond (live_edges n c.args.flags.now) skeleton live.edges.closed.candidates c.requires.skeleton)

pub ascent-requires-clause-skeleton : goal.ascent-requires-clause-skeleton
ascent-requires-clause-skeleton g c =
    let live = live_edges c.args.net.now c.args.flags.now in
    All-weaker (IsSkeletonEdge c.args.net.now.points live) (Contains live) (λ e h. h.member) c.args.skeleton.now c.requires.skeleton.each

pub returns-in-Whole : goal.returns-in-Whole
returns-in-Whole g c =
    let skeleton = c.args.skeleton.now in
    let faces = c.in_ok-faces.faces in
    let end = subst (IsFaceEnd c.args.net.now c.args.flags.now skeleton faces most_places) c.in-Whole.is c.in_ok-end.ensures in
    let decomposes = end.0 in
    let optimum = end.1 in
    record {
      priced = record {
        skeleton_is = c.requires.skeleton;
        kept = optimum.entries;
        live = optimum.live;
        anchored = optimum.anchored;
        within = optimum.within;
        feasible = optimum.feasible;
        tight = optimum.tight;
      };
      triangulation = optimum.triangulation;
      ascending = optimum.ascending;
      decided = record {
        faces = faces;
        faces_are = subst (λ (ps : List Point). AreFaces ps skeleton faces) (sym c.requires.points) c.in_ok-faces.ensures;
        exactly = (λ _. decomposes, λ _. refl);
      };
      by_faces = λ _. record { edges_live = optimum.edges_live; bound_is = optimum.bound_is; rule = optimum.rule };
      by_flips = λ e. absurd (cc e);
    }

pub returns : goal.returns
returns g c =
    let n = c.args.net.now in
    let skeleton = c.args.skeleton.now in
    let faces = c.in_ok-faces.faces in
    let tris = c.in_ok-tris-in-Not.tris in
    let first = c.args.first.now in
    let whole = subst (IsFaceEnd n c.args.flags.now skeleton faces most_places) c.in-Not.is c.in_ok-end.ensures in
    let ascent = c.in_ok-prices-in-Not.ensures in
    let flipped = c.in_ok-tris-in-Not.ensures in
    record {
      priced = record {
        skeleton_is = c.requires.skeleton;
        kept = ascent.belong.entries;
        live = ascent.live;
        anchored = ascent.anchored;
        within = ranges_of_ascent n c.in_ok-prices-in-Not.prices ascent.belong;
        feasible = ascent.feasible;
        tight = ascent.tight;
      };
      triangulation = own (λ ps hull. IsTriangulation ps hull tris) flipped.triangulation;
      ascending = flipped.ascending;
      decided = record {
        faces = faces;
        faces_are = subst (λ (ps : List Point). AreFaces ps skeleton faces) (sym c.requires.points) c.in_ok-faces.ensures;
        exactly = (λ e. absurd (cc e), λ decomposes. absurd (whole decomposes));
      };
      by_faces = λ e. absurd (cc e);
      by_flips = λ _. record {
        descendant = own (λ ps hull. IsDescendant ps hull first tris) flipped.descendant;
        minimal = own (λ ps hull. IsFlipMinimal ps hull tris) flipped.minimal;
        not_longer = own (λ ps hull. IsNotLonger ps (edges hull tris) (edges hull first)) flipped.not_longer;
        ascent = ascent.ascent;
        belong = ascent.belong;
      };
    }
  where
    own : (P : List Point → List ℕ → Type 0) → P c.args.points.now.points c.args.hull.now → P c.args.net.now.points c.args.net.now.hull
    own P h =
        subst (λ (ps : List Point). P ps c.args.net.now.hull) (sym c.requires.points)
        (subst (λ (x : List ℕ). P c.args.points.now.points x) (sym c.requires.hull) h)
