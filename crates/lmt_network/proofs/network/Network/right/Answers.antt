use Rattle.std.proofs.Common.{◌≡◌, ◌↔◌, ℕ, ◌+◌, ◌*◌, ◌<◌, List, length, AllPairs, Contains, subst, sym, ◌∙◌, arith}
use Rattle.lmt_network.specs.Inside.{parts_of}
use Rattle.lmt_network.specs.Network.{NetworkParts}
use Rattle.lmt_network.specs.Numbers.{IsOnRight}
use Rattle.lmt_network.specs.Tables.{row_of}
use Rattle.lmt_network.proofs.Rows.{right_row}
use Rattle.lmt_network.proofs.Starts.{row_read, row_within}
use Rattle.lmt_network.proofs.network.Network.right.Goals as goal

pub row-requires-clause-within : goal.row-requires-clause-within
row-requires-clause-within c =
    let e_in = subst (λ (n : NetworkParts). c.args.e < length n.edges) (sym c.self.view_is) c.requires in
    let i = c.self.inside in
    let w = row_within i.keys.items (2 * length i.edges) i.starts.items i.rows.items (2 * c.args.e + 1) c.self.invariant.starts c.self.invariant.rows (omega arith) in
    rw (c.deref-2.ensures.value, c.deref.ensures.value) w.1

pub returns-clause-ascending : goal.returns-clause-ascending
returns-clause-ascending c =
    let i = c.self.inside in
    let e_in = subst (λ (n : NetworkParts). c.args.e < length n.edges) (sym c.self.view_is) c.requires in
    let read = row_read i.keys.items (2 * length i.edges) i.starts.items i.rows.items (2 * c.args.e + 1) c.self.invariant.starts c.self.invariant.rows (omega arith) in
    let is : c.row.result.now ≡ row_of i.keys.items (2 * c.args.e + 1) = rw (c.deref-2.ensures.value, c.deref.ensures.value) at c.row.ensures ∙ read in
    subst (AllPairs (λ (s t : ℕ). s < t)) (sym is) (right_row (parts_of i) i.keys.items c.args.e c.self.invariant.network.ascending c.self.invariant.keys e_in).0

pub returns-clause-members : goal.returns-clause-members
returns-clause-members c = λ t.
    let i = c.self.inside in
    let e_in = subst (λ (n : NetworkParts). c.args.e < length n.edges) (sym c.self.view_is) c.requires in
    let read = row_read i.keys.items (2 * length i.edges) i.starts.items i.rows.items (2 * c.args.e + 1) c.self.invariant.starts c.self.invariant.rows (omega arith) in
    let is : c.row.result.now ≡ row_of i.keys.items (2 * c.args.e + 1) = rw (c.deref-2.ensures.value, c.deref.ensures.value) at c.row.ensures ∙ read in
    subst (λ (xs : List ℕ). Contains xs t ↔ IsOnRight c.args.self.now c.args.e t) (sym is)
    (subst (λ (n : NetworkParts). Contains (row_of i.keys.items (2 * c.args.e + 1)) t ↔ IsOnRight n c.args.e t) c.self.view_is
    ((right_row (parts_of i) i.keys.items c.args.e c.self.invariant.network.ascending c.self.invariant.keys e_in).1 t))
