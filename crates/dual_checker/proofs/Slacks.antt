-- The slack of a triangle, by the shares of its sides.
use Rattle.std.proofs.Common.{◌≡◌, ℕ, ◌<◌, cond, nat_lt, Bool, List, length, Contains, ℤ, ◌+ℤ◌, sym, ap, ◌∙◌, subst, arith, inl, inr, get_or}
use Rattle.std.proofs.lemmas.Int.{ints}
use Rattle.std.proofs.lemmas.List.{get_or_default}
use Rattle.lmt_network.specs.Flags.{live_numbers}
use Rattle.lmt_network.specs.Network.{NetworkParts, tri_at}
use Rattle.lmt_network.specs.Numbers.{IsNumberOf, IsSideOf}
use Rattle.lmt_network.specs.Prices.{slack}
use Rattle.cert_text.specs.declared.report.Report.{Report}
use Rattle.dual_checker.specs.declared.shares.Shares.{Shares}
use Rattle.dual_checker.specs.GoodReport.{prices_of}
use Rattle.dual_checker.specs.LiveLines.{AreShares, AreSmall, no_shares}
use Rattle.dual_checker.proofs.Ledgers.{side_up, side_down, side_between}

-- what the three sides of a live triangle give together
slack_is-sum : (r : Report) (net : NetworkParts) (flags : List Bool) (shares : List Shares) (t ab bc ca : ℕ) (middle : ℤ) → AreShares r net flags shares
    → IsNumberOf net (tri_at net t).a (tri_at net t).b ab → IsNumberOf net (tri_at net t).b (tri_at net t).c bc → IsNumberOf net (tri_at net t).c (tri_at net t).a ca
    → ((f : ℕ) → IsSideOf net t f → Contains (live_numbers flags) f)
    → middle ≡ cond (nat_lt (tri_at net t).b (tri_at net t).c) (get_or shares bc no_shares).up (get_or shares bc no_shares).down
    → ((get_or shares ab no_shares).up +ℤ middle) +ℤ (get_or shares ca no_shares).down ≡ slack r.points r.hull (prices_of r) (tri_at net t)
slack_is-sum r net flags shares t ab bc ca middle h is_ab is_bc is_ca live is =
    let x = tri_at net t in
    let first = side_up r net flags shares x.a x.b ab h is_ab (live ab (inl is_ab)) x.below_b in
    let second = is ∙ side_between r net flags shares x.b x.c bc h is_bc (live bc (inr (inl is_bc))) x.apart in
    let third = side_down r net flags shares x.c x.a ca h is_ca (live ca (inr (inr is_ca))) x.below_c in
    omega (arith, ints, first, second, third)

-- what is read at the number of an edge
pub share_at : (net : NetworkParts) (flags : List Bool) (r : Report) (shares : List Shares) (f : ℕ) (s : Shares) → AreShares r net flags shares → f < length net.edges → s ≡ get_or shares f s
    → AreSmall s × (s ≡ get_or shares f no_shares)
share_at net flags r shares f s h inside at =
    let size = h.one_each in
    (subst AreSmall (sym at) (h.small f s (omega arith)), at ∙ get_or_default shares f s no_shares (omega arith))

-- the slack by the three that were read
pub slack_read : (r : Report) (net : NetworkParts) (flags : List Bool) (shares : List Shares) (t ab bc ca : ℕ) (i j k : Shares) (middle : ℤ) → AreShares r net flags shares
    → IsNumberOf net (tri_at net t).a (tri_at net t).b ab → IsNumberOf net (tri_at net t).b (tri_at net t).c bc → IsNumberOf net (tri_at net t).c (tri_at net t).a ca
    → ((f : ℕ) → IsSideOf net t f → Contains (live_numbers flags) f)
    → i ≡ get_or shares ab no_shares → j ≡ get_or shares bc no_shares → k ≡ get_or shares ca no_shares
    → middle ≡ cond (nat_lt (tri_at net t).b (tri_at net t).c) j.up j.down → (i.up +ℤ middle) +ℤ k.down ≡ slack r.points r.hull (prices_of r) (tri_at net t)
slack_read r net flags shares t ab bc ca i j k middle h is_ab is_bc is_ca live at_i at_j at_k is =
    let x = tri_at net t in
    ap (λ (s : Shares). (s.up +ℤ middle) +ℤ k.down) at_i
    ∙ (ap (λ (s : Shares). ((get_or shares ab no_shares).up +ℤ middle) +ℤ s.down) at_k
    ∙ slack_is-sum r net flags shares t ab bc ca middle h is_ab is_bc is_ca live (is ∙ ap (λ (s : Shares). cond (nat_lt x.b x.c) s.up s.down) at_j))
