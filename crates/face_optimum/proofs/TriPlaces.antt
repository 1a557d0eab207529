-- A triangle sits at three places where links lead round them.
use Rattle.std.proofs.Common.{◌≡◌, ◌≢◌, ℕ, ◌+◌, ◌%◌, ◌<◌, min, max, List, Bool, length, slice_index, ap, sym, ◌∙◌, subst, refl, ⊎_elim, inl, inr, arith}
use Rattle.std.proofs.Math.Nat.{mod_self}
use Rattle.std.proofs.lemmas.Bool.{cases_lt}
use Rattle.std.proofs.lemmas.List.{get_or_default}
use Rattle.exact_predicates.specs.declared.edge.Edge.{Edge}
use Rattle.exact_predicates.specs.declared.tri.Tri.{Tri}
use Rattle.exact_predicates.specs.Triangulation.{HasCorners}
use Rattle.lmt_network.specs.Flags.{live_edges}
use Rattle.lmt_network.specs.Network.{IsNetwork, NetworkParts, edge_at}
use Rattle.lmt_network.proofs.Naming.{flags_named}
use Rattle.face_optimum.specs.declared.seat.Link.{Link}
use Rattle.face_optimum.specs.declared.seat.TriSeat.{TriSeat}
use Rattle.face_optimum.specs.Places.{face_at, AreJoinedPlaces, IsEdgeAt, IsOffSkeleton, IsTriAt}
use Rattle.face_optimum.specs.Seats.{AreOff}
use Rattle.face_optimum.specs.SeatTables.{AreFromFirst, IsLink, IsOffNumber, IsTriLinked}
use Rattle.face_optimum.proofs.RingPlaces.{small}

module _ (n : NetworkParts) (flags : List Bool) (skeleton : List Edge) (faces : List (List ℕ)) (off : List Bool) (net : IsNetwork n) (one_each : length flags ≡ length n.edges) (are : AreOff n flags skeleton off) where
  -- an edge outside the skeleton by its number
  pub off_number : (e : Edge) → IsOffSkeleton (live_edges n flags) skeleton e → (k : ℕ) × IsOffNumber n off k × (edge_at n k ≡ e)
  off_number e h =
      let (k, k_in, at_k) = (flags_named n flags net.ascending one_each).known e h.0 in
      let is : edge_at n k ≡ e = get_or_default n.edges k _ e k_in ∙ at_k in
      (k, (k_in, (are.each k).1 (k_in, subst (IsOffSkeleton (live_edges n flags) skeleton) (sym is) h)), is)

  pub off_edge : (k : ℕ) → IsOffNumber n off k → IsOffSkeleton (live_edges n flags) skeleton (edge_at n k)
  off_edge k h = ((are.each k).0 h.1).1

  module _ (f : ℕ) (f_in : f < length faces) where
    abbrev ring : List ℕ
    ring = face_at faces f

    abbrev Joined : ℕ → ℕ → Type 0
    Joined i l = AreJoinedPlaces n.points (live_edges n flags) skeleton ring i l

    abbrev LinkFrom : ℕ → ℕ → Type 0
    LinkFrom i l = IsLink n faces off (slice_index ring i) (slice_index ring l) (record { face = f; from = i; to = l })

    along_edge : (i l : ℕ) → i < l → ((e : Edge) × IsOffSkeleton (live_edges n flags) skeleton e × IsEdgeAt n.points ring i l e)
        → (e : ℕ) × IsOffNumber n off e × IsEdgeAt n.points ring i l (edge_at n e)
    along_edge i l below (e, is_off, at) = let (k, k_off, is) = off_number e is_off in (k, k_off, subst (IsEdgeAt n.points ring i l) (sym is) at)

    back_edge : (i l : ℕ) → ((e : ℕ) × IsOffNumber n off e × IsEdgeAt n.points ring i l (edge_at n e))
        → (e : Edge) × IsOffSkeleton (live_edges n flags) skeleton e × IsEdgeAt n.points ring i l e
    back_edge i l (k, k_off, at) = (edge_at n k, off_edge k k_off, at)

    sorted : (i l a b : ℕ) → a ≡ i → b ≡ l → ((e : ℕ) × IsOffNumber n off e × IsEdgeAt n.points ring i l (edge_at n e)) → (e : ℕ) × IsOffNumber n off e × IsEdgeAt n.points ring a b (edge_at n e)
    sorted i l a b p q h =
        subst (λ (x : ℕ). (e : ℕ) × IsOffNumber n off e × IsEdgeAt n.points ring x b (edge_at n e)) (sym p)
        (subst (λ (y : ℕ). (e : ℕ) × IsOffNumber n off e × IsEdgeAt n.points ring i y (edge_at n e)) (sym q) h)

    up : (i l : ℕ) → i < l → l < length ring → ¬ ((i ≡ 0) × (l + 1 ≡ length ring)) → Joined i l → LinkFrom i l
    up i l below l_in not_last joined =
        record {
          face_in = f_in;
          from_in = omega arith;
          to_in = l_in;
          from = refl;
          to = refl;
          along = ⊎_elim
              (λ side. ⊎_elim (λ (next : l ≡ i + 1). inl (small (i + 1) (length ring) (omega arith) ∙ sym next)) (λ last. absurd (not_last last)) side)
              (λ edge. inr (sorted i l (min i l) (max i l) (omega arith) (omega arith) (along_edge i l below edge)))
              joined;
        }

    down : (i l : ℕ) → i < l → l < length ring → l ≢ i + 1 → Joined i l → LinkFrom l i
    down i l below l_in not_next joined =
        record {
          face_in = f_in;
          from_in = l_in;
          to_in = omega arith;
          from = refl;
          to = refl;
          along = ⊎_elim
              (λ side. ⊎_elim (λ next. absurd (not_next next)) (λ (last : (i ≡ 0) × (l + 1 ≡ length ring)). inl (ap (λ m. m % length ring) last.1 ∙ (mod_self (length ring) ∙ sym last.0))) side)
              (λ edge. inr (sorted i l (min l i) (max l i) (omega arith) (omega arith) (along_edge i l below edge)))
              joined;
        }

    joined_up : (u v i l : ℕ) → i < l → l < length ring → IsLink n faces off u v (record { face = f; from = i; to = l }) → Joined i l
    joined_up u v i l below l_in link =
        ⊎_elim
        (λ (step : (i + 1) % length ring ≡ l). inl (inl (sym step ∙ small (i + 1) (length ring) (omega arith))))
        (λ edge. inr (back_edge i l (sorted (min i l) (max i l) i l (omega arith) (omega arith) edge)))
        link.along

    joined_down : (u v i l : ℕ) → i < l → l < length ring → IsLink n faces off u v (record { face = f; from = l; to = i }) → Joined i l
    joined_down u v i l below l_in link =
        ⊎_elim
        (λ (step : (l + 1) % length ring ≡ i). ⊎_elim
        (λ m. let e = small (l + 1) (length ring) m in absurd (omega (arith, e, step)))
        (λ m. let e : l + 1 ≡ length ring = omega arith in inl (inr (sym step ∙ (ap (λ (x : ℕ). x % length ring) e ∙ mod_self (length ring)), e)))
        (cases_lt (l + 1) (length ring)))
        (λ edge. inr (back_edge i l (sorted (min l i) (max l i) i l (omega arith) (omega arith) edge)))
        link.along

    ends : (u v a b i l : ℕ) → a ≡ u → b ≡ v → IsLink n faces off u v (record { face = f; from = i; to = l }) → IsLink n faces off a b (record { face = f; from = i; to = l })
    ends u v a b i l p q h =
        subst (λ (x : ℕ). IsLink n faces off x b (record { face = f; from = i; to = l })) (sym p)
        (subst (λ (y : ℕ). IsLink n faces off u y (record { face = f; from = i; to = l })) (sym q) h)

    pub tri_linked : (i j l : ℕ) (t : Tri) → IsTriAt n.points (live_edges n flags) skeleton ring i j l t → IsTriLinked n faces off t (record { face = f; first = i; middle = j; last = l })
    tri_linked i j l t at =
        let i_j = at.first_below in
        let j_l = at.middle_below in
        let l_in = at.last_in in
        let x = up i j i_j (omega arith) (λ k. absurd (omega (arith, k.1))) at.first_side in
        let y = up j l j_l l_in (λ k. absurd (omega (arith, k.0))) at.second_side in
        let z = down i l (omega arith) l_in (omega arith) at.third_side in
        let vi = slice_index ring i in
        let vj = slice_index ring j in
        let vl = slice_index ring l in
        ⊎_elim
        (λ (k : (t.a ≡ vi) × (t.b ≡ vj) × (t.c ≡ vl)). record {
          ab = record { face = f; from = i; to = j };
          bc = record { face = f; from = j; to = l };
          ca = record { face = f; from = l; to = i };
          ab_is = ends vi vj t.a t.b i j k.0 k.1 x;
          bc_is = ends vj vl t.b t.c j l k.1 k.2 y;
          ca_is = ends vl vi t.c t.a l i k.2 k.0 z;
          round = record { below = i_j; above = j_l; round = inl (refl, (refl, refl)) };
        })
        (λ m. ⊎_elim
        (λ (k : (t.b ≡ vi) × (t.c ≡ vj) × (t.a ≡ vl)). record {
          ab = record { face = f; from = l; to = i };
          bc = record { face = f; from = i; to = j };
          ca = record { face = f; from = j; to = l };
          ab_is = ends vl vi t.a t.b l i k.2 k.0 z;
          bc_is = ends vi vj t.b t.c i j k.0 k.1 x;
          ca_is = ends vj vl t.c t.a j l k.1 k.2 y;
          round = record { below = i_j; above = j_l; round = inr (inl (refl, (refl, refl))) };
        })
        (λ (k : (t.c ≡ vi) × (t.a ≡ vj) × (t.b ≡ vl)). record {
          ab = record { face = f; from = j; to = l };
          bc = record { face = f; from = l; to = i };
          ca = record { face = f; from = i; to = j };
          ab_is = ends vj vl t.a t.b j l k.1 k.2 y;
          bc_is = ends vl vi t.b t.c l i k.2 k.0 z;
          ca_is = ends vi vj t.c t.a i j k.0 k.1 x;
          round = record { below = i_j; above = j_l; round = inr (inr (refl, (refl, refl))) };
        })
        m)
        at.corners

    -- the three links, begun with the one from the first place
    from_links : (i j l u v w : ℕ) (t : Tri) → i < j → j < l → HasCorners t u v w
        → IsLink n faces off u v (record { face = f; from = i; to = j }) → IsLink n faces off v w (record { face = f; from = j; to = l }) → IsLink n faces off w u (record { face = f; from = l; to = i })
        → IsTriAt n.points (live_edges n flags) skeleton ring i j l t
    from_links i j l u v w t i_j j_l corners x y z =
        record {
          first_below = i_j;
          middle_below = j_l;
          last_in = y.to_in;
          corners = subst (λ (a : ℕ). HasCorners t a (slice_index ring j) (slice_index ring l)) (sym x.from)
              (subst (λ (b : ℕ). HasCorners t u b (slice_index ring l)) (sym y.from)
              (subst (λ (c : ℕ). HasCorners t u v c) (sym z.from) corners));
          first_side = joined_up u v i j i_j y.from_in x;
          second_side = joined_up v w j l j_l y.to_in y;
          third_side = joined_down w u i l (omega arith) y.to_in z;
        }

  -- a linked triangle sits at its places
  pub linked_at : (t : Tri) (s : TriSeat) → IsTriLinked n faces off t s → (s.face < length faces) × IsTriAt n.points (live_edges n flags) skeleton (face_at faces s.face) s.first s.middle s.last t
  linked_at t s h =
      ⊎_elim
      (λ (k : AreFromFirst s h.ab h.bc h.ca). at t.a t.b t.c h.ab h.bc h.ca (inl (refl, refl, refl)) h.ab_is h.bc_is h.ca_is k)
      (λ m. ⊎_elim
      (λ (k : AreFromFirst s h.bc h.ca h.ab). at t.b t.c t.a h.bc h.ca h.ab (inr (inl (refl, refl, refl))) h.bc_is h.ca_is h.ab_is k)
      (λ (k : AreFromFirst s h.ca h.ab h.bc). at t.c t.a t.b h.ca h.ab h.bc (inr (inr (refl, refl, refl))) h.ca_is h.ab_is h.bc_is k)
      m)
      h.round.round
    where
      at : (u v w : ℕ) (x y z : Link) → HasCorners t u v w → IsLink n faces off u v x → IsLink n faces off v w y → IsLink n faces off w u z → AreFromFirst s x y z
          → (s.face < length faces) × IsTriAt n.points (live_edges n flags) skeleton (face_at faces s.face) s.first s.middle s.last t
      at u v w x y z corners x_is y_is z_is (ex, (ey, ez)) =
          let a = subst (IsLink n faces off u v) ex x_is in
          let b = subst (IsLink n faces off v w) ey y_is in
          let c = subst (IsLink n faces off w u) ez z_is in
          (a.face_in, from_links s.face a.face_in s.first s.middle s.last u v w t h.round.below h.round.above corners a b c)
