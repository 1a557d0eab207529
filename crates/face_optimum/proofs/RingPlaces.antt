-- Places round a face.
use Rattle.std.proofs.Common.{◌≡◌, ℕ, ◌+◌, ◌-◌, ◌*◌, ◌%◌, ◌<◌, List, length, slice_index, ap, sym, ◌∙◌, ⊎_elim, inl, inr, arith}
use Rattle.std.proofs.Math.Nat.{mod_self}
use Rattle.std.proofs.lemmas.Bool.{cases_lt}
use Rattle.std.proofs.lemmas.Nat.{mod-mul-add}
use Rattle.skeleton_faces.specs.Faces.{round_at}
use Rattle.exact_predicates.proofs.Rings.{IsNext}
use Rattle.face_optimum.specs.Places.{next_point, point_before}

pub small : (b w : ℕ) → b < w → b % w ≡ b
small b w h = let e : b ≡ 0 * w + b = omega arith in ap (λ m. m % w) e ∙ mod-mul-add 0 w b h

-- the place k itself
pub round_here : (ring : List ℕ) (k : ℕ) → k < length ring → round_at ring k ≡ slice_index ring k
round_here ring k h = ap (slice_index ring) (small k (length ring) h)

-- the place after the last is the first
pub next_inside : (ring : List ℕ) (k : ℕ) → k + 1 < length ring → next_point ring k ≡ slice_index ring (k + 1)
next_inside ring k h = ap (slice_index ring) (small (k + 1) (length ring) h)

pub next_last : (ring : List ℕ) (k : ℕ) → k + 1 ≡ length ring → next_point ring k ≡ slice_index ring 0
next_last ring k h = ap (slice_index ring) (ap (λ m. m % length ring) h ∙ mod_self (length ring))

-- as pairs of a ring say it
pub next_is : (ring : List ℕ) (k : ℕ) → k < length ring → IsNext ring k (next_point ring k)
next_is ring k h =
    ⊎_elim
    (λ l. inl (l, sym (next_inside ring k l)))
    (λ l. let e : k + 1 ≡ length ring = omega arith in inr (e, sym (next_last ring k e)))
    (cases_lt (k + 1) (length ring))

pub next_only : (ring : List ℕ) (k v : ℕ) → IsNext ring k v → next_point ring k ≡ v
next_only ring k v next = ⊎_elim (λ a. next_inside ring k a.0 ∙ a.1) (λ a. next_last ring k a.0 ∙ a.1) next

pub before_first : (ring : List ℕ) (k : ℕ) → k ≡ 0 → 0 < length ring → point_before ring k ≡ slice_index ring (length ring - 1)
before_first ring k none h =
    let e : k + (length ring - 1) ≡ length ring - 1 = omega arith in
    ap (slice_index ring) (ap (λ m. m % length ring) e ∙ small (length ring - 1) (length ring) (omega arith))
