-- What a sink holds, over several writes.
use Rattle.std.proofs.Common.{◌≡◌, ℕ, List, [], ◌++◌, refl, sym, ◌∙◌, ap, append_assoc, take, drop, subst, length, ◌-◌, arith, length-drop}
use Rattle.std.specs.Prelude.{None, Some}
use Rattle.std.specs.declared.option.Option.{Option}
use Rattle.std.proofs.lemmas.List.{take-append-drop, take_all}
use Rattle.std.proofs.lemmas.List.{append-nil}
use Rattle.mwt_base.specs.Told.{Grows, GrowsUpTo}

pub Grows-trans : (a b c : Option (List ℕ)) (xs ys : List ℕ) → Grows a b xs → Grows b c ys → Grows a c (xs ++ ys)
Grows-trans a b None xs ys g h = tt
Grows-trans None (Some q) (Some r) xs ys g h = absurd g
Grows-trans a None (Some r) xs ys g h = absurd h
Grows-trans (Some p) (Some q) (Some r) xs ys g h = h ∙ (ap (λ s. s ++ ys) g ∙ append_assoc p xs ys)

-- one more write; the rest as `&rest[k..]` gives it
pub GrowsUpTo-step : (a b c : Option (List ℕ)) (bytes rest : List ℕ) (k n : ℕ)
    → GrowsUpTo a b bytes rest → Grows b c (take k rest) → n ≡ length rest - k → GrowsUpTo a c bytes (take n (drop k rest))
GrowsUpTo-step a b c bytes rest k n w g e = rw (take_all n (drop k rest) (omega (arith, length-drop k rest))) (record {
  done = w.done ++ take k rest;
  parts = append_assoc w.done (take k rest) (drop k rest) ∙ (ap (λ s. w.done ++ s) (take-append-drop k rest) ∙ w.parts);
  grows = Grows-trans a b c w.done (take k rest) w.grows g;
})
