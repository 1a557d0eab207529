-- What a seat still knows after a call.
use Rattle.std.specs.Prelude.{◌≡◌, List, ◌++◌, Contains}
use Rattle.flip_claims.specs.declared.view.Claimed.{Claimed}
use Rattle.flip_claims.specs.declared.view.Made.{Made}
use Rattle.flip_claims.specs.declared.view.Known.{Known}

-- What a seat had claimed it has claimed still, and the steps of the calls in between come after its steps.
pub record Remembers (d d' : Known) : Type 0 where
  pub claimed : (c : Claimed) → Contains d.claimed c → Contains d'.claimed c
  pub steps : (made : List Made) × (d'.steps ≡ d.steps ++ made)
