-- What a node line adds to a pass: its node, and its number.
use Rattle.std.proofs.Common.{◌≡◌, ℕ, Bool, true, false, ◌||◌, cond, eqb, List, Option, Some, None, IsSomeAnd, refl, sym, ap, ◌∙◌, arith}
use Rattle.std.specs.List.{list_any}
use Rattle.std.specs.Ordering.{nat_cmp}
use Rattle.std.specs.BTreeSet.{BTreeSet, contains}
use Rattle.std.specs.BTreeMap.{is_at}
use Rattle.std.proofs.lemmas.Bool.{or_right}
use Rattle.std.proofs.lemmas.Bool.Decides.{nat_tests}
use Rattle.tsplib_points.specs.declared.node.KeptNode.{KeptNode}
use Rattle.tsplib_points.specs.declared.gather.LinePass.{LinePass}
use Rattle.tsplib_points.specs.declared.reason.Reason.TheVariants.{RepeatedId}
use Rattle.tsplib_points.specs.Lines.{Line}
use Rattle.tsplib_points.specs.Nodes.{Node, nodes, node_reason, has_number}
use Rattle.tsplib_points.specs.Gathering.{KeepsNode}
use Rattle.tsplib_points.specs.Passing.{IsPassed}
use Rattle.tsplib_points.proofs.Passes.{or_false}

-- a node's number is told by its place in the order
at_number : (a q : ℕ) → is_at (nat_cmp a) q ≡ eqb a q
at_number a q = grind (arith, nat_tests)

-- the numbers, with one more
pub more_numbers : (old new : BTreeSet ℕ) (kept : KeptNode) (n : Node) → KeepsNode kept n
    → ((q : ℕ) → contains nat_cmp new q ≡ cond (is_at (nat_cmp kept.number) q) true (contains nat_cmp old q))
    → (q : ℕ) → contains nat_cmp new q ≡ (contains nat_cmp old q || has_number q n)
more_numbers old new kept n k h q =
    h q ∙ ap (λ b. cond b true (contains nat_cmp old q)) (at_number kept.number q ∙ ap (λ m. eqb m q) k.number) ∙ either (eqb n.number q) (contains nat_cmp old q) where
      either : (a b : Bool) → cond a true b ≡ (b || a)
      either true b = sym (or_right b true refl)
      either false b = sym (or_false b)

-- a node is judged by its number, where its coordinates are kept
pub node_judged : (pass : LinePass) (before : List Line) (kept : KeptNode) (n : Node) (b : Bool) → IsPassed pass before → KeepsNode kept n → contains nat_cmp pass.numbers kept.number ≡ b
    → node_reason (nodes before) (Some n) ≡ cond b (Some RepeatedId) None
node_judged pass before kept n b h k found =
    let repeated : list_any (has_number n.number) (nodes before) ≡ b = ap (λ m. list_any (has_number m) (nodes before)) (sym k.number) ∙ sym (h.numbers kept.number) ∙ found in
    rw (k.x.whole 6 k.x.small, k.y.whole 6 k.y.small, repeated) refl

-- the node of a line, where some node is kept
pub kept_node : (o : Option Node) (kept : KeptNode) → IsSomeAnd o (KeepsNode kept) → (n : Node) × (o ≡ Some n) × KeepsNode kept n
kept_node None kept h = absurd h
kept_node (Some n) kept h = (n, refl, h)
