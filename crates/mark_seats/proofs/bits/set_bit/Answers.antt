use Rattle.std.proofs.Common.{ℕ, ◌/◌, bit_or, set, ap, ◌∙◌}
use Rattle.std.proofs.lemmas.List.{get_or_default}
use Rattle.mark_seats.specs.Bits.{bit_of}
use Rattle.mark_seats.proofs.Packed.{bit_here, bit_else}
use Rattle.mark_seats.proofs.bits.set_bit.Goals as goal

pub returns-clause-here : goal.returns-clause-here
returns-clause-here c = let e = c.args.e in let bits = c.args.bits.now.items in let found = c.index_mut.ensures.value ∙ get_or_default bits (e / 64) c.index_mut.result.now 0 c.requires in
    ap (λ (z : ℕ × ℕ). bit_of (set bits (e / 64) (bit_or z.0 z.1)) e) (λ i. (found i, c.mask.ensures i)) ∙ bit_here bits e c.requires

pub returns-clause-others : goal.returns-clause-others
returns-clause-others c f other = let e = c.args.e in let bits = c.args.bits.now.items in let found = c.index_mut.ensures.value ∙ get_or_default bits (e / 64) c.index_mut.result.now 0 c.requires in
    ap (λ (z : ℕ × ℕ). bit_of (set bits (e / 64) (bit_or z.0 z.1)) f) (λ i. (found i, c.mask.ensures i)) ∙ bit_else bits e f c.requires other
