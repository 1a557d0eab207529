use Rattle.std.proofs.Common.{Bool, ◌≡◌, ◌*◌, ◌^◌, refl, sym, ◌∙◌, arith, to_z, of_z, w64, ℤ, pos, neg_ℤ, ◌+ℤ◌, ◌-ℤ◌, ◌≤ℤ◌}
use Rattle.std.proofs.lemmas.Bool.{cond-false, cond-true}
use Rattle.std.proofs.lemmas.Int.{ints}
use Rattle.price_ascent.specs.declared.entry.PriceEntry.{PriceEntry}
use Rattle.price_ascent.specs.Belonging.{IsHullAnchor, IsSideAnchor}
use Rattle.price_ascent.specs.Steps.{AreShares, IsShare, repriced}
use Rattle.price_ascent.proofs.Equal.{same_entry}
use Rattle.price_ascent.proofs.put.repriced.Goals as goal

-- a number, counted in 64 bits
abbrev bits : ℤ → ℤ
bits x = to_z w64 (of_z w64 x)

-- the sum of a share, a value and an anchor
sum_is : (u v l : ℤ) → IsShare u → IsHullAnchor v → IsSideAnchor l → bits (bits (bits u +ℤ bits v) +ℤ bits l) ≡ (u +ℤ v) +ℤ l
sum_is u v l share value anchor =
    let u0 = share.0 in
    let u1 = share.1 in
    let v0 = value.0 in
    let v1 = value.1 in
    let l0 = anchor.0 in
    let l1 = anchor.1 in
    let two : bits (bits u +ℤ bits v) ≡ u +ℤ v = omega (arith, ints, u0, u1, v0, v1) in
    omega (arith, ints, two, u0, u1, v0, v1, l0, l1)

-- such a sum
abbrev IsSum : ℤ → Type 0
IsSum w = (neg_ℤ (pos (381 * 10 ^ 16)) ≤ℤ w) × (w ≤ℤ pos (583 * 10 ^ 16))

sum_fits : (u v l : ℤ) → IsShare u → IsHullAnchor v → IsSideAnchor l → IsSum ((u +ℤ v) +ℤ l)
sum_fits u v l share value anchor =
    let u0 = share.0 in
    let u1 = share.1 in
    let v0 = value.0 in
    let v1 = value.1 in
    let l0 = anchor.0 in
    let l1 = anchor.1 in
    (omega (arith, ints, u0, v0, l0), omega (arith, ints, u1, v1, l1))

-- less a value
less_is : (w v x : ℤ) → w ≡ x → IsSum x → IsHullAnchor v → bits (w -ℤ bits v) ≡ x -ℤ v
less_is w v x is sum value =
    let x0 = sum.0 in
    let x1 = sum.1 in
    let v0 = value.0 in
    let v1 = value.1 in
    omega (arith, ints, is, x0, x1, v0, v1)

-- and less an anchor
twice_is : (w v l x : ℤ) → w ≡ x → IsSum x → IsHullAnchor v → IsSideAnchor l → bits (bits (w -ℤ bits v) -ℤ bits l) ≡ (x -ℤ v) -ℤ l
twice_is w v l x is sum value anchor =
    let one = less_is w v x is sum value in
    let x0 = sum.0 in
    let x1 = sum.1 in
    let v0 = value.0 in
    let v1 = value.1 in
    let l0 = anchor.0 in
    let l1 = anchor.1 in
    omega (arith, ints, one, x0, x1, v0, v1, l0, l1)

price_is : (v r : ℤ) → IsHullAnchor v → IsSideAnchor r → bits (bits v -ℤ bits r) ≡ v -ℤ r
price_is v r value anchor =
    let v0 = value.0 in
    let v1 = value.1 in
    let r0 = anchor.0 in
    let r1 = anchor.1 in
    omega (arith, ints, v0, v1, r0, r1)

value_is : (v : ℤ) → IsHullAnchor v → bits v ≡ v
value_is v value = let v0 = value.0 in let v1 = value.1 in omega (arith, ints, v0, v1)

anchor_is : (y : ℤ) → IsSideAnchor y → bits y ≡ y
anchor_is y anchor = let y0 = anchor.0 in let y1 = anchor.1 in omega (arith, ints, y0, y1)

pub overflow_sub-up-2 : goal.overflow_sub-up-2
overflow_sub-up-2 c =
    let p = c.args.kept in
    let r = c.requires in
    let x = (p.up +ℤ p.value) +ℤ p.left in
    let sum = sum_fits p.up p.value p.left r.shares.up r.kept_value r.kept_left in
    let one = less_is _ c.args.value x (sum_is p.up p.value p.left r.shares.up r.kept_value r.kept_left) sum r.value in
    let x0 = sum.0 in
    let x1 = sum.1 in
    let v0 = r.value.0 in
    let v1 = r.value.1 in
    let l0 = r.left.0 in
    let l1 = r.left.1 in
    omega (arith, ints, one, x0, x1, v0, v1, l0, l1)

-- the entry, counted so, with this share of its right side
abbrev counted : PriceEntry → ℤ → ℤ → ℤ → ℤ → PriceEntry
counted p value left right down =
    record p {
      value = bits value;
      left = bits left;
      right = bits right;
      up = bits (bits (bits (bits (bits p.up +ℤ bits p.value) +ℤ bits p.left) -ℤ bits value) -ℤ bits left);
      down = down;
    }

counted_is : (p : PriceEntry) (on : Bool) (value left right down : ℤ) → AreShares p → IsHullAnchor p.value → IsSideAnchor p.left → IsHullAnchor value → IsSideAnchor left → IsSideAnchor right
    → down ≡ (repriced p on value left right).down → counted p value left right down ≡ repriced p on value left right
counted_is p on value left right down shares kept_value kept_left v l r is =
    same_entry _ _ (value_is value v) (anchor_is left l) (anchor_is right r)
    (twice_is _ value left ((p.up +ℤ p.value) +ℤ p.left) (sum_is p.up p.value p.left shares.up kept_value kept_left) (sum_fits p.up p.value p.left shares.up kept_value kept_left) v l) is refl refl

pub returns-then-on_hull : goal.returns-then-on_hull
returns-then-on_hull c =
    let p = c.args.kept in
    let r = c.requires in
    let x = (p.up +ℤ p.value) +ℤ p.left in
    counted_is p c.args.on_hull c.args.value c.args.left c.args.right _ r.shares r.kept_value r.kept_left r.value r.left r.right
    (less_is _ c.args.value x (sum_is p.up p.value p.left r.shares.up r.kept_value r.kept_left) (sum_fits p.up p.value p.left r.shares.up r.kept_value r.kept_left) r.value
    ∙ sym (cond-true c.args.on_hull (x -ℤ c.args.value) (c.args.value -ℤ c.args.right) c.if-on_hull.true))

pub returns-else-on_hull : goal.returns-else-on_hull
returns-else-on_hull c =
    let p = c.args.kept in
    let r = c.requires in
    counted_is p c.args.on_hull c.args.value c.args.left c.args.right _ r.shares r.kept_value r.kept_left r.value r.left r.right
    (price_is c.args.value c.args.right r.value r.right
    ∙ sym (cond-false c.args.on_hull (((p.up +ℤ p.value) +ℤ p.left) -ℤ c.args.value) (c.args.value -ℤ c.args.right) c.if-on_hull.false))
