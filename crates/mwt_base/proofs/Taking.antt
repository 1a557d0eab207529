-- What was taken from a source, over several reads.
use Rattle.std.proofs.Common.{◌≡◌, ℕ, ◌-◌, ◌<◌, ◌≤◌, List, ◌++◌, length, arith, length-append}
use Rattle.std.specs.declared.option.Option.{Option}
use Rattle.std.specs.Io.KnownBytes.{Consumes}
use Rattle.std.proofs.KnownBytes.{Consumes-trans}
use Rattle.mwt_base.specs.Told.{TakesFront, TookMore}

-- too much after what was taken already
pub TookMore-behind : (limit n : ℕ) (a b c : Option (List ℕ)) (bytes : List ℕ)
    → Consumes a b bytes → n ≡ length bytes → n ≤ limit → TookMore (limit - n) b c → TookMore limit a c
TookMore-behind limit n a b c bytes taken len within more = record {
  bytes = bytes ++ more.bytes;
  taken = Consumes-trans a b c bytes more.bytes taken more.taken;
  more = let h : limit - n < length more.bytes = more.more in omega (arith, length-append bytes more.bytes);
}

-- some more after what was taken already
pub TakesFront-behind : (a b c : Option (List ℕ)) (bytes : List ℕ) → Consumes a b bytes → TakesFront b c → TakesFront a c
TakesFront-behind a b c bytes taken more =
    record { bytes = bytes ++ more.bytes; taken = Consumes-trans a b c bytes more.bytes taken more.taken }
