-- The sides of triangles, by their numbers.
use Rattle.std.proofs.Common.{◌⊎◌, ℕ, ◌<◌, length, ⊎_elim}
use Rattle.lmt_network.specs.Network.{NetworkParts, tri_at}
use Rattle.lmt_network.specs.Numbers.{IsNumberOf, IsSideOf, IsOtherSide}

-- a side of a triangle is an edge
pub side_in : (n : NetworkParts) (t f : ℕ) → IsSideOf n t f → f < length n.edges
side_in n t f h = ⊎_elim
    (λ (ab : IsNumberOf n (tri_at n t).a (tri_at n t).b f). ab.0)
    (λ (more : IsNumberOf n (tri_at n t).b (tri_at n t).c f ⊎ IsNumberOf n (tri_at n t).c (tri_at n t).a f). ⊎_elim
    (λ (bc : IsNumberOf n (tri_at n t).b (tri_at n t).c f). bc.0)
    (λ (ca : IsNumberOf n (tri_at n t).c (tri_at n t).a f). ca.0)
    more)
    h

pub other_side_in : (n : NetworkParts) (e l r f : ℕ) → IsOtherSide n e l r f → f < length n.edges
other_side_in n e l r f h = ⊎_elim (λ (left : IsSideOf n l f). side_in n l f left) (λ (right : IsSideOf n r f). side_in n r f right) h.1
