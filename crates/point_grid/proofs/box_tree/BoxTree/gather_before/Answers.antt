use Rattle.std.proofs.Common.{◌-◌, refl, arith, subst}
use Rattle.point_grid.specs.Tree.{AreFramed}
use Rattle.point_grid.proofs.Entries.{HasLeaf-read, HasFork-read}
use Rattle.point_grid.proofs.Gathers.{AreGathered-push, AreGathered-skip, not_at_leaf, not_at_fork, not_in_fork}
use Rattle.point_grid.proofs.box_tree.BoxTree.gather_before.Goals as goal

pub returns-then-has-clause-gathered : goal.returns-then-has-clause-gathered
returns-then-has-clause-gathered c =
    let es = c.args.self.now in
    let leaf = HasLeaf-read es (c.args.end - 1) _ c.in-Leaf.spot (omega arith) (rw c.self.view_is at c.index.ensures) c.in-Leaf.is in
    rw c.in_ok-push-in-Leaf.ensures.items
    (AreGathered-push es c.args.reach.now.window (c.args.end - 1) c.args.end _ c.in-Leaf.spot (omega arith) leaf (c.if-has.ensures.0 refl) c.requires.gathered)

pub returns-else-has-clause-gathered : goal.returns-else-has-clause-gathered
returns-else-has-clause-gathered c =
    let es = c.args.self.now in
    let leaf = HasLeaf-read es (c.args.end - 1) _ c.in-Leaf.spot (omega arith) (rw c.self.view_is at c.index.ensures) c.in-Leaf.is in
    AreGathered-skip es c.args.reach.now.window (c.args.end - 1) c.args.end _
    (λ k s l m other. not_at_leaf es c.args.reach.now.window (c.args.end - 1) c.in-Leaf.spot leaf (λ h. let yes = c.if-has.ensures.1 h in cc) k s l (omega arith) other)
    c.requires.gathered

pub returns-then-meets-clause-gathered : goal.returns-then-meets-clause-gathered
returns-then-meets-clause-gathered c =
    let es = c.args.self.now in
    let fork = HasFork-read es (c.args.end - 1) _ c.in-Fork.frame c.in-Fork.start (omega arith) (rw c.self.view_is at c.index.ensures) c.in-Fork.is in
    AreGathered-skip es c.args.reach.now.window (c.args.end - 1) c.args.end _
    (λ k s l m other. not_at_fork es c.args.reach.now.window (c.args.end - 1) c.in-Fork.frame c.in-Fork.start fork k s l (omega arith) other)
    c.requires.gathered

pub returns-else-meets-clause-gathered : goal.returns-else-meets-clause-gathered
returns-else-meets-clause-gathered c =
    let es = c.args.self.now in
    let w = c.args.reach.now.window in
    let fork = HasFork-read es (c.args.end - 1) _ c.in-Fork.frame c.in-Fork.start (omega arith) (rw c.self.view_is at c.index.ensures) c.in-Fork.is in
    AreGathered-skip es w c.in-Fork.start c.args.end _
    (λ k s l m other. not_in_fork es w (c.args.end - 1) c.in-Fork.frame c.in-Fork.start (subst AreFramed c.self.view_is c.self.invariant) fork
    (λ i t leaf inside has.
    let columns = c.requires.columns i t leaf has in
    let yes = c.if-meets.ensures t.point inside columns.0 columns.1 has.low has.high in
    cc)
    k s l (omega arith) other)
    c.requires.gathered
