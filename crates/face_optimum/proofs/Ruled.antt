-- The chosen triangles and the prices by costs follow the rule on faces.
use Rattle.std.proofs.Common.{◌≡◌, ◌⊎◌, ℕ, ◌/◌, ◌<◌, List, length, Contains, pos, arith, ap, sym, ◌∙◌, subst, ⊎_elim}
use Rattle.std.specs.List.Sorted.{IsPermutation, IsSorted}
use Rattle.std.proofs.lemmas.List.{get_or_default}
use Rattle.std.proofs.lemmas.List.Elements.{All-contains}
use Rattle.exact_predicates.specs.declared.edge.Edge.{Edge}
use Rattle.exact_predicates.specs.declared.tri.Tri.{Tri}
use Rattle.exact_predicates.specs.Triangulation.{tri_cmp}
use Rattle.exact_predicates.proofs.Equalities.{Joins-ends}
use Rattle.length_enclosure.specs.Enclosure.{weight}
use Rattle.lmt_network.specs.Flags.{live_edges, live_numbers}
use Rattle.lmt_network.specs.Live.{IsHullEdge}
use Rattle.lmt_network.specs.Network.{edge_at}
use Rattle.lmt_network.specs.Numbers.{IsNumberOf}
use Rattle.lmt_network.specs.PriceTables.{PriceTable, entry_at, table_prices}
use Rattle.lmt_network.specs.Prices.{Priced, priced}
use Rattle.lmt_network.proofs.Naming.{flags_named}
use Rattle.face_optimum.specs.declared.site.Site.{Site}
use Rattle.face_optimum.specs.Chosen.{AreRootCosts, AreTrisOfFaces}
use Rattle.face_optimum.specs.Cuts.{AreCosts}
use Rattle.face_optimum.specs.FaceRule.{AreFacePrices, FollowsFaceRule}
use Rattle.face_optimum.specs.Places.{IsOffSkeleton}
use Rattle.face_optimum.specs.Priced.{ArePriced}
use Rattle.face_optimum.specs.Sites.{IsSite, faces_of}
use Rattle.face_optimum.proofs.FaceChoices.{faces_chosen}
use Rattle.face_optimum.proofs.FaceCosts.{cost, edge_joint, face_costs, joint_cost, root_cost, side_cost}
use Rattle.face_optimum.proofs.Shares.{found, gives_joint}
use Rattle.face_optimum.proofs.Slacks.{live_priced}
use Rattle.exact_predicates.specs.Candidates.{Joins}

module _ (s : Site) (h : IsSite s) (costs choices : List ℕ) (c : AreCosts s.net.now s.flags.now s.skeleton.now (faces_of s) s.edge_seats.now s.tri_seats.now costs choices)
    (root_costs : List ℕ) (l : AreRootCosts s costs (length (faces_of s)) root_costs) (table : PriceTable) (p : ArePriced s costs root_costs table) where
  abbrev prices : List Priced
  prices = table_prices s.net.now table (live_numbers s.flags.now)

  -- a live edge by its number, and what the prices say of it
  priced_at : (e : Edge) → Contains (live_edges s.net.now s.flags.now) e
      → (x : ℕ) × (x < length s.net.now.edges) × (edge_at s.net.now x ≡ e) × (priced prices e.a e.b ≡ entry_at s.net.now table x)
  priced_at e has =
      let n = s.net.now in
      let (x, x_in, at_x) = (flags_named n s.flags.now h.network.ascending h.one_each).known e has in
      let is : edge_at n x ≡ e = get_or_default n.edges x _ e x_in ∙ at_x in
      let number : IsNumberOf n e.a e.b x = (x_in, subst (λ (y : Edge). Joins y e.a e.b) (sym is) (Joins-ends e)) in
      let live : Contains (live_edges n s.flags.now) (edge_at n x) = subst (λ (y : Edge). Contains (live_edges n s.flags.now) y) (sym is) has in
      (x, x_in, is, found s h costs choices c root_costs l table p x e.a e.b (x_in, live) number)

  half : (e : Edge) → Contains s.skeleton.now e → ¬ IsHullEdge s.net.now.hull e → (priced prices e.a e.b).value ≡ pos (weight s.net.now.points (e.a, e.b) / 2)
  half e has inner =
      let live = All-contains (Contains (live_edges s.net.now s.flags.now)) s.skeleton.now e h.live_skeleton has in
      let (x, x_in, is, entry) = priced_at e live in
      let price = p.inner x x_in (subst (λ (y : Edge). Contains s.skeleton.now y) (sym is) has) (subst (λ (y : Edge). ¬ IsHullEdge s.net.now.hull y) (sym is) inner) in
      ap (λ (q : Priced). q.value) entry ∙ (price.value ∙ ap (λ (y : Edge). pos (weight s.net.now.points (y.a, y.b) / 2)) is)

  none : (e : Edge) → Contains (live_edges s.net.now s.flags.now) e → (¬ Contains s.skeleton.now e) ⊎ IsHullEdge s.net.now.hull e
      → ((priced prices e.a e.b).left ≡ pos 0) × ((priced prices e.a e.b).right ≡ pos 0)
  none e has which =
      let (x, x_in, is, entry) = priced_at e has in
      ⊎_elim
      (λ out.
      let off : IsOffSkeleton (live_edges s.net.now s.flags.now) s.skeleton.now (edge_at s.net.now x) = subst (λ (y : Edge). IsOffSkeleton (live_edges s.net.now s.flags.now) s.skeleton.now y) (sym is) (has, out) in
      let price = p.parts x (x_in, off) in
      (ap (λ (q : Priced). q.left) entry ∙ price.left, ap (λ (q : Priced). q.right) entry ∙ price.right))
      (λ on.
      let price = p.on_hull x x_in (subst (λ (y : Edge). IsHullEdge s.net.now.hull y) (sym is) on) in
      (ap (λ (q : Priced). q.left) entry ∙ price.left, ap (λ (q : Priced). q.right) entry ∙ price.right))
      which

  face_prices : AreFacePrices s.net.now.points s.net.now.hull (live_edges s.net.now s.flags.now) s.skeleton.now (faces_of s) (cost s h costs choices c root_costs l table p) prices
  face_prices =
      record {
        of_live = live_priced s h costs choices c root_costs l table p;
        parts = λ e f i m off f_in at.
            let j = edge_joint s h costs choices c root_costs l table p e f i m off f_in at in
            gives_joint s h costs choices c root_costs l table p f i m j.0 j.6 ∙ ap pos (sym (joint_cost s h costs choices c root_costs l table p f i m j.0 j.6));
        halves = half;
        last_sides = λ f f_in. (root_cost s h costs choices c root_costs l table p f f_in).1;
        other_sides = λ f i f_in low. (side_cost s h costs choices c root_costs l table p f i f_in (omega arith)).1;
        without_anchors = none;
      }

  pub follows : (ts us : List Tri) → AreTrisOfFaces s costs (length (faces_of s)) ts → IsPermutation ts us → IsSorted tri_cmp us
      → FollowsFaceRule s.net.now.points s.net.now.hull (live_edges s.net.now s.flags.now) s.skeleton.now (faces_of s) us prices
  follows ts us are same up =
      record {
        cost = cost s h costs choices c root_costs l table p;
        costs = face_costs s h costs choices c root_costs l table p;
        tris_are = record {
          chosen = ts;
          chosen_are = faces_chosen s h costs choices c root_costs l table p (length (faces_of s)) ts (omega arith) are;
          same = same;
          ascending = up;
        };
        prices_are = face_prices;
      }
