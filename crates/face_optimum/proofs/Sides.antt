-- The numbers of the sides of triangles, and what follows a side.
use Rattle.std.proofs.Common.{◌≡◌, ◌≢◌, ℕ, ◌<◌, List, Bool, true, false, length, slice_index, slice_index_or, Contains, sym, ◌∙◌, subst, arith, ⊎_elim}
use Rattle.std.proofs.lemmas.List.{get_or_default}
use Rattle.exact_predicates.specs.declared.edge.Edge.{Edge}
use Rattle.exact_predicates.specs.Candidates.{HasEdge, IsEmptyOver, Joins}
use Rattle.lmt_network.specs.Flags.{live_edges, live_numbers}
use Rattle.lmt_network.specs.Network.{IsNetwork, NetworkParts, edge_at, tri_at}
use Rattle.lmt_network.specs.Numbers.{HasSide, IsNumberOf, IsSideOf}
use Rattle.lmt_network.proofs.Naming.{flags_named, over_named, side_named}
use Rattle.lmt_network.proofs.Picked.{flag_from_live}
use Rattle.lmt_network.proofs.Settling.{three_live}
use Rattle.face_optimum.specs.Cuts.{AreLegs}
use Rattle.face_optimum.specs.Seats.{IsLiveTri}
use Rattle.lmt_network.proofs.TriangleSides.{number_once}

-- each side of a triangle has a number
pub number_of : (n : NetworkParts) (t u v : ℕ) → IsNetwork n → t < length n.tris → HasSide (tri_at n t) u v → (e : ℕ) × IsNumberOf n u v e
number_of n t u v net t_in (w, corners) =
    let over : IsEmptyOver n.points n.edges (tri_at n t) = net.tris_are.each t _ t_in in
    ⊎_elim
    (λ (k : ((tri_at n t).a ≡ u) × ((tri_at n t).b ≡ v) × ((tri_at n t).c ≡ w)). at (moved _ _ k.0 k.1 over.ab))
    (λ o. ⊎_elim
    (λ (k : ((tri_at n t).b ≡ u) × ((tri_at n t).c ≡ v) × ((tri_at n t).a ≡ w)). at (moved _ _ k.0 k.1 over.bc))
    (λ (k : ((tri_at n t).c ≡ u) × ((tri_at n t).a ≡ v) × ((tri_at n t).b ≡ w)). at (moved _ _ k.0 k.1 over.ca))
    o)
    corners
  where
    moved : (x y : ℕ) → x ≡ u → y ≡ v → HasEdge n.edges x y → HasEdge n.edges u v
    moved x y a b has = subst (λ (z : ℕ). HasEdge n.edges z v) a (subst (λ (z : ℕ). HasEdge n.edges x z) b has)

    at : HasEdge n.edges u v → (e : ℕ) × IsNumberOf n u v e
    at (k, e, k_in, at_k, joins) =
        let is : edge_at n k ≡ e = get_or_default n.edges k _ e k_in ∙ at_k in
        (k, (k_in, subst (λ (x : Edge). Joins x u v) (sym is) joins))

-- a triangle is live where its three sides are
pub sides_live : (n : NetworkParts) (flags : List Bool) (t : ℕ) (xs : List ℕ) → IsNetwork n → length flags ≡ length n.edges → t < length n.tris → length xs ≡ 3 → ((f : ℕ) → IsSideOf n t f → Contains xs f)
    → IsSideOf n t (slice_index xs 0)
    → slice_index_or flags (slice_index xs 0) false ≡ true → slice_index_or flags (slice_index xs 1) false ≡ true → slice_index_or flags (slice_index xs 2) false ≡ true → IsLiveTri n flags t
sides_live n flags t xs net one_each t_in three only first a b c =
    let names = flags_named n flags net.ascending one_each in
    let all = three_live n flags t xs three only a b c in
    (t_in, over_named n (live_numbers flags) (live_edges n flags) (slice_index xs 0) t net names t_in (all (slice_index xs 0) first) (λ f other side. all f side))

-- and each side of a live triangle is
pub live_side : (n : NetworkParts) (flags : List Bool) (t f : ℕ) → IsNetwork n → length flags ≡ length n.edges → IsLiveTri n flags t → IsSideOf n t f → slice_index_or flags f false ≡ true
live_side n flags t f net one_each live side =
    flag_from_live flags f (side_named n (live_numbers flags) (live_edges n flags) t f (flags_named n flags net.ascending one_each) live.1 side)

-- no two sides of a triangle are one edge
module _ (n : NetworkParts) (t : ℕ) where
  not_ab_bc : (f : ℕ) → IsNumberOf n (tri_at n t).a (tri_at n t).b f → IsNumberOf n (tri_at n t).b (tri_at n t).c f → ⊥
  not_ab_bc f h k = let ab = (tri_at n t).below_b in let ac = (tri_at n t).below_c in let bc = (tri_at n t).apart in omega (arith, h.1.0, h.1.1, k.1.0, k.1.1)

  not_ab_ca : (f : ℕ) → IsNumberOf n (tri_at n t).a (tri_at n t).b f → IsNumberOf n (tri_at n t).c (tri_at n t).a f → ⊥
  not_ab_ca f h k = let ab = (tri_at n t).below_b in let ac = (tri_at n t).below_c in let bc = (tri_at n t).apart in omega (arith, h.1.0, h.1.1, k.1.0, k.1.1)

  not_bc_ca : (f : ℕ) → IsNumberOf n (tri_at n t).b (tri_at n t).c f → IsNumberOf n (tri_at n t).c (tri_at n t).a f → ⊥
  not_bc_ca f h k = let ab = (tri_at n t).below_b in let ac = (tri_at n t).below_c in let bc = (tri_at n t).apart in omega (arith, h.1.0, h.1.1, k.1.0, k.1.1)

  module _ (ab bc ca : ℕ) (ab_is : IsNumberOf n (tri_at n t).a (tri_at n t).b ab) (bc_is : IsNumberOf n (tri_at n t).b (tri_at n t).c bc) (ca_is : IsNumberOf n (tri_at n t).c (tri_at n t).a ca) where
    -- the sides after each one
    moved : (x y u v e : ℕ) → x ≡ u → y ≡ v → IsNumberOf n x y e → IsNumberOf n u v e
    moved x y u v e a b is = subst (λ (z : ℕ). IsNumberOf n z v e) a (subst (λ (z : ℕ). IsNumberOf n x z e) b is)

    pub legs_ab : (e : ℕ) → ab ≡ e → AreLegs n t e bc ca
    legs_ab e same u v w corners e_is =
        let own : IsNumberOf n (tri_at n t).a (tri_at n t).b e = subst (IsNumberOf n (tri_at n t).a (tri_at n t).b) same ab_is in
        ⊎_elim
        (λ k. absurd (not_ab_ca e own (moved w u _ _ e (sym k.2) (sym k.0) e_is)))
        (λ m. ⊎_elim
        (λ k. (moved _ _ u v bc k.0 k.1 bc_is, moved _ _ v w ca k.1 k.2 ca_is))
        (λ k. absurd (not_ab_bc e own (moved w u _ _ e (sym k.2) (sym k.0) e_is)))
        m)
        corners

    pub legs_bc : (e : ℕ) → bc ≡ e → AreLegs n t e ca ab
    legs_bc e same u v w corners e_is =
        let own : IsNumberOf n (tri_at n t).b (tri_at n t).c e = subst (IsNumberOf n (tri_at n t).b (tri_at n t).c) same bc_is in
        ⊎_elim
        (λ k. absurd (not_bc_ca e own (moved w u _ _ e (sym k.2) (sym k.0) e_is)))
        (λ m. ⊎_elim
        (λ k. absurd (not_ab_bc e (moved w u _ _ e (sym k.2) (sym k.0) e_is) own))
        (λ k. (moved _ _ u v ca k.0 k.1 ca_is, moved _ _ v w ab k.1 k.2 ab_is))
        m)
        corners

    pub legs_ca : (net : IsNetwork n) (e : ℕ) → ab ≢ e → bc ≢ e → AreLegs n t e ab bc
    legs_ca net e not_ab not_bc u v w corners e_is =
        ⊎_elim
        (λ k. (moved _ _ u v ab k.0 k.1 ab_is, moved _ _ v w bc k.1 k.2 bc_is))
        (λ m. ⊎_elim
        (λ k. absurd (not_ab (number_once n _ _ ab e net.ascending ab_is (moved w u _ _ e (sym k.2) (sym k.0) e_is))))
        (λ k. absurd (not_bc (number_once n _ _ bc e net.ascending bc_is (moved w u _ _ e (sym k.2) (sym k.0) e_is))))
        m)
        corners
