-- Entries with the same fields.
use Rattle.std.proofs.Common.{◌≡◌, Bool, ℤ, ap, ◌∙◌}
use Rattle.price_ascent.specs.declared.entry.PriceEntry.{PriceEntry}

abbrev made : ℤ → ℤ → ℤ → ℤ → ℤ → Bool → Bool → PriceEntry
made value left right up down live anchored = record { value = value; left = left; right = right; up = up; down = down; live = live; anchored = anchored }

pub same_entry : (p q : PriceEntry) → p.value ≡ q.value → p.left ≡ q.left → p.right ≡ q.right → p.up ≡ q.up → p.down ≡ q.down → p.live ≡ q.live → p.anchored ≡ q.anchored → p ≡ q
same_entry p q value left right up down live anchored =
    ap (λ x. made x p.left p.right p.up p.down p.live p.anchored) value
    ∙ (ap (λ x. made q.value x p.right p.up p.down p.live p.anchored) left
    ∙ (ap (λ x. made q.value q.left x p.up p.down p.live p.anchored) right
    ∙ (ap (λ x. made q.value q.left q.right x p.down p.live p.anchored) up
    ∙ (ap (λ x. made q.value q.left q.right q.up x p.live p.anchored) down
    ∙ (ap (λ x. made q.value q.left q.right q.up q.down x p.anchored) live
    ∙ ap (λ x. made q.value q.left q.right q.up q.down q.live x) anchored)))))
