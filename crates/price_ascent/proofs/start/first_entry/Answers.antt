use Rattle.std.proofs.Common.{◌≡◌, ◌/◌, ◌-◌, ℕ, Bool, true, false, List, get_or, ℤ, pos, ◌-ℤ◌, ap, sym, ◌∙◌, arith}
use Rattle.std.proofs.lemmas.Bool.{cond-false, cond-true, false≢true}
use Rattle.std.proofs.lemmas.Int.{ints}
use Rattle.lmt_network.specs.Network.{NetworkParts}
use Rattle.price_ascent.specs.declared.entry.PriceEntry.{PriceEntry}
use Rattle.price_ascent.specs.Steps.{start_entry}
use Rattle.price_ascent.proofs.Lowering.{inner_off}
use Rattle.price_ascent.proofs.Shares.{on_hull, weight_of}
use Rattle.price_ascent.proofs.start.first_entry.Goals as goal

-- the entry of an inner edge of the weight w
abbrev inner_of : ℕ → ℤ → PriceEntry
inner_of w u = record { value = pos (w / 2); left = pos 0; right = pos 0; up = u; down = pos (w / 2); live = true; anchored = false }

abbrev inner : ℕ → PriceEntry
inner w = inner_of w (pos (w - w / 2))

-- half of a weight and the rest
halves : (w : ℕ) → pos (w - w / 2) ≡ pos w -ℤ pos (w / 2)
halves w = omega (arith, ints)

-- the entry of an inner edge
inner-entry : (n : NetworkParts) (flags : List Bool) (e w : ℕ) → get_or flags e false ≡ true → on_hull n e ≡ false → w ≡ weight_of n e
    → inner w ≡ start_entry n flags e
inner-entry n flags e w live off is =
    ap (λ u. inner_of w u) (halves w)
    ∙ (ap (λ v. inner_of v (pos v -ℤ pos (v / 2))) is
    ∙ sym (cond-true (get_or flags e false) _ _ live ∙ cond-false (on_hull n e) _ _ off))

pub returns-else-is_hull-clause-value : goal.returns-else-is_hull-clause-value
returns-else-is_hull-clause-value c =
    let n = c.args.net.now in
    let e = c.args.e in
    let off = inner_off n e (λ hull. false≢true (sym c.if-is_hull.false ∙ c.is_hull.ensures.1 hull)) in
    let live = sym c.live.ensures ∙ c.if-not-live.false in
    c.edge_entry-else-is_hull.ensures ∙ inner-entry n c.args.flags.now e c.weight-weight.result live off c.weight-weight.ensures.value
