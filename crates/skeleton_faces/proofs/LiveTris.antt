-- The sides of a network's triangles by number: a triangle is live where the flags of its three sides are set.
use Rattle.std.proofs.Common.{◌≡◌, ℕ, ◌<◌, Bool, true, false, List, length, get_or, subst, ⊎_elim, arith}
use Rattle.lmt_network.specs.Flags.{live_edges, live_numbers}
use Rattle.lmt_network.specs.Network.{IsNetwork, NetworkParts, edge_at, tri_at}
use Rattle.lmt_network.specs.Numbers.{IsNumberOf, IsSideOf}
use Rattle.lmt_network.proofs.Naming.{flags_named, over_named, side_named}
use Rattle.lmt_network.proofs.Picked.{flag_from_live, live_from_flag}
use Rattle.lmt_network.proofs.TriangleSides.{number_once}
use Rattle.skeleton_faces.specs.Reaches.{IsLiveTri}

-- the ends of an edge, by the number of the edge with two ends
pub number_up : (n : NetworkParts) (u v f : ℕ) → u < v → IsNumberOf n u v f → ((edge_at n f).a ≡ u) × ((edge_at n f).b ≡ v)
number_up n u v f l h = let j0 = h.1.0 in let j1 = h.1.1 in (omega arith, omega arith)

pub number_down : (n : NetworkParts) (u v f : ℕ) → v < u → IsNumberOf n u v f → ((edge_at n f).a ≡ v) × ((edge_at n f).b ≡ u)
number_down n u v f l h = let j0 = h.1.0 in let j1 = h.1.1 in (omega arith, omega arith)

module _ (n : NetworkParts) (flags : List Bool) (t : ℕ) (net : IsNetwork n) (one_each : length flags ≡ length n.edges) (t_in : t < length n.tris) where
  -- the sides of a live triangle are live
  pub live_side : IsLiveTri n flags t → (f : ℕ) → IsSideOf n t f → get_or flags f false ≡ true
  live_side live f side = flag_from_live flags f (side_named n (live_numbers flags) (live_edges n flags) t f (flags_named n flags net.ascending one_each) live side)

  -- and a triangle with live sides is live
  pub live_by_sides : (x y z : ℕ) → IsNumberOf n (tri_at n t).a (tri_at n t).b x → IsNumberOf n (tri_at n t).b (tri_at n t).c y → IsNumberOf n (tri_at n t).c (tri_at n t).a z
      → get_or flags x false ≡ true → get_or flags y false ≡ true → get_or flags z false ≡ true → IsLiveTri n flags t
  live_by_sides x y z hx hy hz x_up y_up z_up =
      over_named n (live_numbers flags) (live_edges n flags) x t net (flags_named n flags net.ascending one_each) t_in (live_from_flag flags x x_up)
      (λ f other side. live_from_flag flags f
      (⊎_elim
      (λ h. up x f (number_once n _ _ x f net.ascending hx h) x_up)
      (λ m. ⊎_elim (λ h. up y f (number_once n _ _ y f net.ascending hy h) y_up) (λ h. up z f (number_once n _ _ z f net.ascending hz h) z_up) m)
      side))
    where
      up : (k f : ℕ) → k ≡ f → get_or flags k false ≡ true → get_or flags f false ≡ true
      up k f e h = subst (λ (i : ℕ). get_or flags i false ≡ true) e h
