use Rattle.std.proofs.Common.{◌≡◌, ℕ, ◌^◌, ◌<◌, ◌≤◌, nat_lt, ℤ, ◌+ℤ◌, of_z, to_z, unsigned_abs, ap, sym, ◌∙◌, arith}
use Rattle.std.proofs.lemmas.Bool.{cond-false, cond-true, le-ltb, lt-ltb}
use Rattle.std.proofs.lemmas.Int.{ints}
use Rattle.exact_predicates.specs.declared.tri.Tri.{Tri}
use Rattle.lmt_network.specs.Network.{tri_at}
use Rattle.dual_checker.proofs.Slacks.{share_at, slack_read}
use Rattle.dual_checker.proofs.ledger.Ledger.slack.Goals as goal
use Rattle.dual_checker.proofs.ledger.Ledger.slack.Goals.{then-tri, else-tri}
use mir.Syntax.{w128}

-- the sum of three shares, counted in 128 bits
three_shares : (a b d : ℤ) (bits : ℕ) → to_z w128 bits ≡ b → unsigned_abs a ≤ 2 ^ 66 → unsigned_abs b ≤ 2 ^ 66 → unsigned_abs d ≤ 2 ^ 66
    → to_z w128 (of_z w128 (to_z w128 (of_z w128 (to_z w128 (of_z w128 a) +ℤ to_z w128 bits)) +ℤ to_z w128 (of_z w128 d))) ≡ (a +ℤ b) +ℤ d
three_shares a b d bits is a_small b_small d_small =
    let two : to_z w128 (of_z w128 (to_z w128 (of_z w128 a) +ℤ to_z w128 bits)) ≡ a +ℤ b = omega (arith, ints, is, a_small, b_small) in
    omega (arith, ints, two, a_small, b_small, d_small)

pub overflow_add-result : goal.overflow_add-result
overflow_add-result c =
    let self = c.args.self.now in
    let first = (share_at self.net.now self.flags.now self.report.now self.shares.items _ c.index.result.now c.requires.ledger.shares_are c.sides.ensures.ab.0 c.index.ensures).0 in
    let second = (share_at self.net.now self.flags.now self.report.now self.shares.items _ c.index-second.result.now c.requires.ledger.shares_are c.sides.ensures.bc.0 c.index-second.ensures).0 in
    elim c.if-tri.branch [
      | then-tri w ↦ omega (arith, ints, first.up, second.up, w.middle-is, c.if-tri.middle-is)
      | else-tri w ↦ omega (arith, ints, first.up, second.down, w.middle-is, c.if-tri.middle-is)
    ]

pub overflow_add-result-2 : goal.overflow_add-result-2
overflow_add-result-2 c =
    let self = c.args.self.now in
    let first = (share_at self.net.now self.flags.now self.report.now self.shares.items _ c.index.result.now c.requires.ledger.shares_are c.sides.ensures.ab.0 c.index.ensures).0 in
    let second = (share_at self.net.now self.flags.now self.report.now self.shares.items _ c.index-second.result.now c.requires.ledger.shares_are c.sides.ensures.bc.0 c.index-second.ensures).0 in
    let third = (share_at self.net.now self.flags.now self.report.now self.shares.items _ c.index-2.result.now c.requires.ledger.shares_are c.sides.ensures.ca.0 c.index-2.ensures).0 in
    elim c.if-tri.branch [
      | then-tri w ↦ omega (arith, ints, first.up, second.up, third.down, w.middle-is, c.if-tri.middle-is)
      | else-tri w ↦ omega (arith, ints, first.up, second.down, third.down, w.middle-is, c.if-tri.middle-is)
    ]

pub returns : goal.returns
returns c =
    let self = c.args.self.now in
    let x = tri_at self.net.now c.args.t in
    let first = share_at self.net.now self.flags.now self.report.now self.shares.items _ c.index.result.now c.requires.ledger.shares_are c.sides.ensures.ab.0 c.index.ensures in
    let second = share_at self.net.now self.flags.now self.report.now self.shares.items _ c.index-second.result.now c.requires.ledger.shares_are c.sides.ensures.bc.0 c.index-second.ensures in
    let third = share_at self.net.now self.flags.now self.report.now self.shares.items _ c.index-2.result.now c.requires.ledger.shares_are c.sides.ensures.ca.0 c.index-2.ensures in
    let up = first.0.up in
    let down = third.0.down in
    let b_is = ap (λ (t : Tri). t.b) c.tri-tri.ensures.value in
    let c_is = ap (λ (t : Tri). t.c) c.tri-tri.ensures.value in
    elim c.if-tri.branch [
      | then-tri w ↦
          let small = second.0.up in
          let l : x.b < x.c = let h = w.if-tri.true in omega (arith, h, b_is, c_is) in
          let bits : to_z w128 c.if-tri.middle-bits ≡ c.index-second.result.now.up = omega (arith, ints, w.middle-is, c.if-tri.middle-is, small) in
          three_shares c.index.result.now.up c.index-second.result.now.up c.index-2.result.now.down c.if-tri.middle-bits bits up small down
          ∙ slack_read self.report.now self.net.now self.flags.now self.shares.items c.args.t _ _ _ c.index.result.now c.index-second.result.now c.index-2.result.now c.index-second.result.now.up
          c.requires.ledger.shares_are c.sides.ensures.ab c.sides.ensures.bc c.sides.ensures.ca c.requires.live first.1 second.1 third.1
          (sym (cond-true (nat_lt x.b x.c) _ _ (lt-ltb x.b x.c l)))
      | else-tri w ↦
          let small = second.0.down in
          let l : x.c ≤ x.b = let h = w.if-tri.false in omega (arith, h, b_is, c_is) in
          let bits : to_z w128 c.if-tri.middle-bits ≡ c.index-second.result.now.down = omega (arith, ints, w.middle-is, c.if-tri.middle-is, small) in
          three_shares c.index.result.now.up c.index-second.result.now.down c.index-2.result.now.down c.if-tri.middle-bits bits up small down
          ∙ slack_read self.report.now self.net.now self.flags.now self.shares.items c.args.t _ _ _ c.index.result.now c.index-second.result.now c.index-2.result.now c.index-second.result.now.down
          c.requires.ledger.shares_are c.sides.ensures.ab c.sides.ensures.bc c.sides.ensures.ca c.requires.live first.1 second.1 third.1
          (sym (cond-false (nat_lt x.b x.c) _ _ (le-ltb x.b x.c l)))
    ]
