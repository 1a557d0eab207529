-- The law on two calls of `settle_all`.
use Rattle.std.specs.Prelude.{◌≡◌, List, Bool, length}
use Rattle.lmt_network.specs.Flags.{live_numbers}
use Rattle.lmt_network.specs.Network.{NetworkParts}
use Rattle.lmt_network.specs.Numbers.{AreLive}

-- Flags of one network of which both calls say what `settle_all` does are the same.
abbrev pub OneAnswer : Type 0
OneAnswer =
    (n : NetworkParts) (flags others : List Bool)
    → length flags ≡ length n.edges → AreLive n (live_numbers flags)
    → length others ≡ length n.edges → AreLive n (live_numbers others)
    → flags ≡ others
