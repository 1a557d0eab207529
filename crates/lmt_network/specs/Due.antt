-- Edges that plain elimination is still to try.
use Rattle.std.specs.Prelude.{◌≡◌, ◌⊎◌, ℕ, List, Bool, true, false, Contains, slice_index_or}
use Rattle.lmt_network.specs.Flags.{live_numbers}
use Rattle.lmt_network.specs.Network.{NetworkParts}
use Rattle.lmt_network.specs.Numbers.{IsHullNumber, IsSideOf, IsSupported}

-- each live edge that is not due is an edge of the hull or has a support among the live ones
abbrev pub AreSupportedUnlessDue : NetworkParts → List Bool → List Bool → Type 0
AreSupportedUnlessDue n live due =
    (e : ℕ) → slice_index_or live e false ≡ true → slice_index_or due e false ≡ false → IsHullNumber n e ⊎ IsSupported n (live_numbers live) e

-- what is due stays so
abbrev pub StayDue : List Bool → List Bool → Type 0
StayDue before after = (e : ℕ) → slice_index_or before e false ≡ true → slice_index_or after e false ≡ true

-- the sides of the triangle t are due, if they are live
abbrev pub AreSidesDue : NetworkParts → List Bool → ℕ → List Bool → Type 0
AreSidesDue n live t due = ((f : ℕ) → IsSideOf n t f → Contains (live_numbers live) f) → (f : ℕ) → IsSideOf n t f → slice_index_or due f false ≡ true
