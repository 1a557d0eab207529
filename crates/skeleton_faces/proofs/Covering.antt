-- The places that triangles reach over are those of the edges that are covered.
use Rattle.std.proofs.Common.{◌≡◌, ◌⊎◌, ℕ, ◌-◌, ◌<◌, ◌≤◌, Bool, List, length, slice_index, pos, ◌<ℤ◌, refl, sym, ap, ◌∙◌, subst, inl, inr, ⊎_elim, arith}
use Rattle.std.proofs.lemmas.Bool.{cases_lt}
use Rattle.std.proofs.lemmas.Int.{ints}
use Rattle.exact_predicates.specs.declared.edge.Edge.{Edge}
use Rattle.exact_predicates.specs.declared.tri.Tri.{Tri}
use Rattle.exact_predicates.specs.Candidates.{HasEdge, IsEmptyOver, Joins}
use Rattle.exact_predicates.specs.Plane.{orient, Precedes}
use Rattle.exact_predicates.specs.PointSet.{point_at}
use Rattle.exact_predicates.specs.Triangulation.{HasCorners}
use Rattle.exact_predicates.proofs.Corners.{IsBare-corners}
use Rattle.exact_predicates.proofs.Numbers.{IsOrdered-points}
use Rattle.exact_predicates.proofs.Orientation.{orient_swapped_last}
use Rattle.lmt_network.specs.Flags.{live_edges}
use Rattle.lmt_network.specs.Network.{IsNetwork, NetworkParts, edge_at, tri_at}
use Rattle.lmt_network.specs.Numbers.{IsNumberOf, IsSideOf}
use Rattle.lmt_network.proofs.Naming.{flags_named, read_member, tri_number}
use Rattle.skeleton_faces.specs.declared.reaches.Reaches.{Reaches}
use Rattle.skeleton_faces.specs.Fans.{IsCovered}
use Rattle.skeleton_faces.specs.Reaches.{ArePlaces, AreReaches, IsHead, IsLiveTri, IsPlaceOf, IsSpan, IsTail}
use Rattle.skeleton_faces.specs.Turning.{AreFannedOut}
use Rattle.skeleton_faces.proofs.Clockwise.{none_ahead, not_itself, onto_head, onto_tail}
use Rattle.skeleton_faces.proofs.FannedOut.{IsAfter}
use Rattle.skeleton_faces.proofs.LiveTris.{live_side, number_down, number_up}

module _ (n : NetworkParts) (flags : List Bool) (order places : List ℕ) (r : Reaches) (net : IsNetwork n) (one_each : length flags ≡ length n.edges)
    (fanned : AreFannedOut n.points n.edges flags order) (placed : ArePlaces flags order places) (h : AreReaches n flags places (length order) (length n.tris) r)
    (k : ℕ) (k_in : k < length order) where
  -- the place is one that triangles reach over
  abbrev pub IsReachedOver : Type 0
  IsReachedOver =
      ((i : ℕ) × (i < k) × (k < slice_index r.spans.items i))
      ⊎ ((k < slice_index r.heads.items (edge_at n (slice_index order k)).a) ⊎ (length order - k < slice_index r.tails.items (edge_at n (slice_index order k)).a))

  end_in : (edge_at n (slice_index order k)).b < length n.points
  end_in = net.ends_in (slice_index order k) _ (fanned.each k 0 k_in).0

  rising : (u v : ℕ) → u < v → v < length n.points → Precedes (point_at n.points u) (point_at n.points v)
  rising u v l v_in = (IsOrdered-points n.points net.points_are).rising u v l v_in

  -- an edge of a live triangle has a place
  place_of : (t u v i : ℕ) → t < length n.tris → IsLiveTri n flags t → ((f : ℕ) → IsNumberOf n u v f → IsSideOf n t f) → IsPlaceOf n places u v i
      → (f : ℕ) × IsNumberOf n u v f × (slice_index order i ≡ f) × (i < length order)
  place_of t u v i t_in live side (f, f_is, at) =
      let up = live_side n flags t net one_each t_in live f (side f f_is) in
      (f, f_is, ap (slice_index order) (sym at) ∙ placed.there f up, subst (λ (x : ℕ). x < length order) at (placed.inside f up))

  -- and the other way round
  placed_of : (t u v : ℕ) → t < length n.tris → IsLiveTri n flags t → ((f : ℕ) → IsNumberOf n u v f → IsSideOf n t f) → HasEdge n.edges u v → (i : ℕ) × IsPlaceOf n places u v i
  placed_of t u v t_in live side (f, e, f_in, at_f, joins) =
      let is = sym (read_member n.edges e _ (f, f_in, at_f)) in
      (slice_index places f, (f, (f_in, subst (λ x. Joins x u v) is joins), refl))

  -- where the edge comes before another one of its start
  before_edge : (i f : ℕ) → i < length order → slice_index order i ≡ f → (edge_at n f).a ≡ (edge_at n (slice_index order k)).a → k < i
      → pos 0 <ℤ orient (point_at n.points (edge_at n (slice_index order k)).a) (point_at n.points (edge_at n (slice_index order k)).b) (point_at n.points (edge_at n f).b)
  before_edge i f i_in at same l =
      let turn = subst (IsAfter n.points n.edges (slice_index order k)) at (fanned.sorted k i 0 l i_in) in
      ⊎_elim (λ (m : (edge_at n (slice_index order k)).a < (edge_at n f).a). absurd (omega arith)) (λ t. t.1) turn

  after_edge : (i f : ℕ) → slice_index order i ≡ f → (edge_at n f).a ≡ (edge_at n (slice_index order k)).a → i < k
      → pos 0 <ℤ orient (point_at n.points (edge_at n (slice_index order k)).a) (point_at n.points (edge_at n f).b) (point_at n.points (edge_at n (slice_index order k)).b)
  after_edge i f at same l =
      let turn = subst (λ (x : ℕ). IsAfter n.points n.edges x (slice_index order k)) at (fanned.sorted i k 0 l k_in) in
      ⊎_elim (λ (m : (edge_at n f).a < (edge_at n (slice_index order k)).a). absurd (omega arith))
      (λ t. subst (λ (x : ℕ). pos 0 <ℤ orient (point_at n.points x) (point_at n.points (edge_at n f).b) (point_at n.points (edge_at n (slice_index order k)).b)) same t.1)
      turn

  -- an edge at this place is the edge
  one_end : (i f : ℕ) → slice_index order i ≡ f → i ≡ k → (edge_at n f).b ≡ (edge_at n (slice_index order k)).b
  one_end i f at e = ap (λ (x : ℕ). (edge_at n x).b) (sym at ∙ ap (slice_index order) e)

  -- and by the turn between them
  before_place : (i f : ℕ) → i < length order → slice_index order i ≡ f → (edge_at n f).a ≡ (edge_at n (slice_index order k)).a
      → pos 0 <ℤ orient (point_at n.points (edge_at n (slice_index order k)).a) (point_at n.points (edge_at n (slice_index order k)).b) (point_at n.points (edge_at n f).b) → k < i
  before_place i f i_in at same turn =
      ⊎_elim (λ (l : k < i). l)
      (λ (m : i ≤ k). ⊎_elim
      (λ (l : i < k). let back = after_edge i f at same l in
      let swap = orient_swapped_last (point_at n.points (edge_at n (slice_index order k)).a) (point_at n.points (edge_at n (slice_index order k)).b) (point_at n.points (edge_at n f).b) in absurd (omega (arith, ints)))
      (λ (o : k ≤ i). let e : i ≡ k = omega arith in absurd (not_itself _ _ _ (ap (point_at n.points) (sym (one_end i f at e))) turn))
      (cases_lt i k))
      (cases_lt k i)

  after_place : (i f : ℕ) → i < length order → slice_index order i ≡ f → (edge_at n f).a ≡ (edge_at n (slice_index order k)).a
      → pos 0 <ℤ orient (point_at n.points (edge_at n (slice_index order k)).a) (point_at n.points (edge_at n f).b) (point_at n.points (edge_at n (slice_index order k)).b) → i < k
  after_place i f i_in at same turn =
      ⊎_elim (λ (l : i < k). l)
      (λ (m : k ≤ i). ⊎_elim
      (λ (l : k < i). let ahead = before_edge i f i_in at same l in
      let swap = orient_swapped_last (point_at n.points (edge_at n (slice_index order k)).a) (point_at n.points (edge_at n (slice_index order k)).b) (point_at n.points (edge_at n f).b) in absurd (omega (arith, ints)))
      (λ (o : i ≤ k). let e : i ≡ k = omega arith in absurd (not_itself _ _ _ (ap (point_at n.points) (one_end i f at e)) turn))
      (cases_lt k i))
      (cases_lt i k)

  -- two edges with one start have the start of an edge between them
  spans_start : (i j f g a : ℕ) → i < k → k < j → j < length order → slice_index order i ≡ f → slice_index order j ≡ g → (edge_at n f).a ≡ a → (edge_at n g).a ≡ a → a ≡ (edge_at n (slice_index order k)).a
  spans_start i j f g a l m j_in at_i at_j f_a g_a =
      let i_a = ap (λ (x : ℕ). (edge_at n x).a) at_i in
      let j_a = ap (λ (x : ℕ). (edge_at n x).a) at_j in
      let first : (edge_at n (slice_index order i)).a ≤ (edge_at n (slice_index order k)).a = ⊎_elim (λ x. omega arith) (λ x. let x0 = x.0 in omega arith) (fanned.sorted i k 0 l k_in) in
      let last : (edge_at n (slice_index order k)).a ≤ (edge_at n (slice_index order j)).a = ⊎_elim (λ x. omega arith) (λ x. let x0 = x.0 in omega arith) (fanned.sorted k j 0 m j_in) in
      omega arith

  -- an edge at a place that is reached over is covered
  pub covered_from_places : IsReachedOver → IsCovered n.points (live_edges n flags) (edge_at n (slice_index order k))
  covered_from_places reached =
      ⊎_elim (λ (i, l, m). spanned i l (slice_index r.spans.items i) m (h.spans.from i (omega arith)))
      (λ half. ⊎_elim
      (λ l. headed (slice_index r.heads.items e.a) l (h.heads.from e.a (omega arith)))
      (λ l. tailed (slice_index r.tails.items e.a) l (h.tails.from e.a (omega arith)))
      half)
      reached
    where
      e : Edge
      e = edge_at n (slice_index order k)

      up : e.a < e.b
      up = e.ascending

      -- e's start and end come in this order
      ahead : Precedes (point_at n.points e.a) (point_at n.points e.b)
      ahead = rising e.a e.b up end_in

      spanned : (i : ℕ) → i < k → (j : ℕ) → k < j → IsSpan n flags places (length n.tris) i j → IsCovered n.points (live_edges n flags) e
      spanned i l j m s =
          let t = tri_at n s.t in
          let (f, f_is, at_i, i_in) = place_of s.t t.a t.b i s.t_in s.live (λ f x. inl x) s.first in
          let (g, g_is, at_j, j_in) = place_of s.t t.c t.a j s.t_in s.live (λ f x. inr (inr x)) s.last in
          let (f_a, f_b) = number_up n t.a t.b f t.below_b f_is in
          let (g_a, g_b) = number_down n t.c t.a g t.below_c g_is in
          let start = spans_start i j f g t.a l m j_in at_i at_j f_a g_a in
          record {
            tri = t;
            y = t.b;
            z = t.c;
            over = s.live;
            corners = inl (start, refl, refl);
            after = subst (λ (x : ℕ). pos 0 <ℤ orient (point_at n.points e.a) (point_at n.points x) (point_at n.points e.b)) f_b (after_edge i f at_i (f_a ∙ start) l);
            before = subst (λ (x : ℕ). pos 0 <ℤ orient (point_at n.points e.a) (point_at n.points e.b) (point_at n.points x)) g_b (before_edge j g j_in at_j (g_a ∙ start) m);
          }

      headed : (i : ℕ) → k < i → IsHead n flags places (length n.tris) e.a i → IsCovered n.points (live_edges n flags) e
      headed i l s =
          let t = tri_at n s.t in
          let (f, f_is, at_i, i_in) = place_of s.t t.b t.c i s.t_in s.live (λ f x. inr (inl x)) s.last in
          let (f_a, f_b) = number_down n t.b t.c f s.between f_is in
          let corners : HasCorners t e.a t.a t.b = inr (inr (s.corner, refl, refl)) in
          let bare = IsBare-corners n.points t e.a t.a t.b corners s.live.empty in
          let start = s.corner in
          let low = t.below_c in
          let down = s.between in
          let before = subst (λ (x : ℕ). pos 0 <ℤ orient (point_at n.points e.a) (point_at n.points e.b) (point_at n.points x)) f_b (before_edge i f i_in at_i (f_a ∙ start) l) in
          record {
            tri = t;
            y = t.a;
            z = t.b;
            over = s.live;
            corners = corners;
            after = onto_head (point_at n.points e.a) (point_at n.points e.b) (point_at n.points t.b) (point_at n.points t.a) ahead
                (rising e.a t.b (omega arith) bare.w_in) (rising t.a e.a (omega arith) bare.u_in) bare.turns_left before;
            before = before;
          }

      tailed : (x : ℕ) → length order - k < x → IsTail n flags places (length order) (length n.tris) e.a x → IsCovered n.points (live_edges n flags) e
      tailed x l s =
          let t = tri_at n s.t in
          let (f, f_is, at_i, i_in) = place_of s.t t.b t.c s.place s.t_in s.live (λ f x. inr (inl x)) s.first in
          let (f_a, f_b) = number_up n t.b t.c f s.between f_is in
          let corners : HasCorners t e.a t.c t.a = inr (inl (s.corner, refl, refl)) in
          let bare = IsBare-corners n.points t e.a t.c t.a corners s.live.empty in
          let start = s.corner in
          let low = t.below_b in
          let rise = s.between in
          let left = s.left_over in
          let after = subst (λ (y : ℕ). pos 0 <ℤ orient (point_at n.points e.a) (point_at n.points y) (point_at n.points e.b)) f_b (after_edge s.place f at_i (f_a ∙ start) (omega arith)) in
          record {
            tri = t;
            y = t.c;
            z = t.a;
            over = s.live;
            corners = corners;
            after = after;
            before = onto_tail (point_at n.points e.a) (point_at n.points t.c) (point_at n.points e.b) (point_at n.points t.a)
                (rising e.a t.c (omega arith) bare.v_in) ahead (rising t.a e.a (omega arith) bare.u_in) bare.turns_left after;
          }

  -- and an edge that is covered stands at such a place
  pub places_from_covered : IsCovered n.points (live_edges n flags) (edge_at n (slice_index order k)) → IsReachedOver
  places_from_covered c =
      let there = tri_number n (live_edges n flags) c.tri net (flags_named n flags net.ascending one_each).known c.over in
      let is : tri_at n there.0 ≡ c.tri = read_member n.tris c.tri _ there in
      at there.0 there.1 (subst (IsEmptyOver n.points (live_edges n flags)) (sym is) c.over) (subst (λ (t : Tri). HasCorners t e.a c.y c.z) (sym is) c.corners)
    where
      e : Edge
      e = edge_at n (slice_index order k)

      at : (x : ℕ) → x < length n.tris → IsLiveTri n flags x → HasCorners (tri_at n x) e.a c.y c.z → IsReachedOver
      at x x_in live corners =
          let t = tri_at n x in
          let over = net.tris_are.each x _ x_in in
          let bare = IsBare-corners n.points t e.a c.y c.z corners live.empty in
          let low_b = t.below_b in
          let low_c = t.below_c in
          let up = e.ascending in
          let none : c.y < e.a → c.z < e.a → ⊥ = λ y_low z_low.
          none_ahead (point_at n.points e.a) (point_at n.points e.b) (point_at n.points c.y) (point_at n.points c.z) (rising e.a e.b up end_in)
          (rising c.y e.a y_low bare.u_in) (rising c.z e.a z_low bare.u_in) bare.turns_left c.after c.before in
          ⊎_elim
          (λ (a_is, b_is, c_is).
          let (i, i_is) = placed_of x t.a t.b x_in live (λ f side. inl side) over.ab in
          let (j, j_is) = placed_of x t.c t.a x_in live (λ f side. inr (inr side)) over.ca in
          let (f, f_is, at_i, i_in) = place_of x t.a t.b i x_in live (λ f side. inl side) i_is in
          let (g, g_is, at_j, j_in) = place_of x t.c t.a j x_in live (λ f side. inr (inr side)) j_is in
          let (f_a, f_b) = number_up n t.a t.b f t.below_b f_is in
          let (g_a, g_b) = number_down n t.c t.a g t.below_c g_is in
          let l = after_place i f i_in at_i (f_a ∙ a_is) (after_end f (f_b ∙ b_is)) in
          let m = before_place j g j_in at_j (g_a ∙ a_is) (before_end g (g_b ∙ c_is)) in
          let most = h.spans.most i j (record { t = x; t_in = x_in; live = live; first = i_is; last = j_is }) in
          inl (i, l, omega arith))
          (λ rest. ⊎_elim
          (λ (b_is, c_is, a_is). ⊎_elim
          (λ (rise : t.b < t.c).
          let (i, i_is) = placed_of x t.b t.c x_in live (λ f side. inr (inl side)) over.bc in
          let (f, f_is, at_i, i_in) = place_of x t.b t.c i x_in live (λ f side. inr (inl side)) i_is in
          let (f_a, f_b) = number_up n t.b t.c f rise f_is in
          let l = after_place i f i_in at_i (f_a ∙ b_is) (after_end f (f_b ∙ c_is)) in
          let most = h.tails.most e.a (length order - i) (record { t = x; t_in = x_in; live = live; corner = b_is; between = rise; place = i; first = i_is; left_over = refl }) in
          inr (inr (omega (arith, k_in))))
          (λ (m : t.c ≤ t.b). let apart = t.apart in absurd (none (omega arith) (omega arith)))
          (cases_lt t.b t.c))
          (λ (c_is, a_is, b_is). ⊎_elim
          (λ (fall : t.c < t.b).
          let (i, i_is) = placed_of x t.b t.c x_in live (λ f side. inr (inl side)) over.bc in
          let (f, f_is, at_i, i_in) = place_of x t.b t.c i x_in live (λ f side. inr (inl side)) i_is in
          let (f_a, f_b) = number_down n t.b t.c f fall f_is in
          let l = before_place i f i_in at_i (f_a ∙ c_is) (before_end f (f_b ∙ b_is)) in
          let most = h.heads.most e.a i (record { t = x; t_in = x_in; live = live; corner = c_is; between = fall; last = i_is }) in
          inr (inl (omega arith)))
          (λ (m : t.b ≤ t.c). let apart = t.apart in absurd (none (omega arith) (omega arith)))
          (cases_lt t.c t.b))
          rest)
          corners
        where
          after_end : (f : ℕ) → (edge_at n f).b ≡ c.y → pos 0 <ℤ orient (point_at n.points e.a) (point_at n.points (edge_at n f).b) (point_at n.points e.b)
          after_end f is = subst (λ (v : ℕ). pos 0 <ℤ orient (point_at n.points e.a) (point_at n.points v) (point_at n.points e.b)) (sym is) c.after

          before_end : (f : ℕ) → (edge_at n f).b ≡ c.z → pos 0 <ℤ orient (point_at n.points e.a) (point_at n.points e.b) (point_at n.points (edge_at n f).b)
          before_end f is = subst (λ (v : ℕ). pos 0 <ℤ orient (point_at n.points e.a) (point_at n.points e.b) (point_at n.points v)) (sym is) c.before
