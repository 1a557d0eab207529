use Rattle.std.proofs.Common.{◌≡◌, ℕ, ◌+◌, ◌-◌, arith, sym, subst, ⊎_elim}
use Rattle.std.proofs.lemmas.Bool.{cases_lt}
use Rattle.point_grid.specs.Frames.{IsInFrame}
use Rattle.point_grid.specs.Tree.{HasFork}
use Rattle.diamond_edges.specs.Rows.{Adds}
use Rattle.point_grid.proofs.Entries.{leaf_or_fork}
use Rattle.diamond_edges.proofs.Walks.{Adds-none, Adds-parts, Adds-parts_back, Adds-skip}
use Rattle.diamond_edges.proofs.walk.+walk.Goals as goal

pub returns-then-is_nearer-clause-added : goal.returns-then-is_nearer-clause-added
returns-then-is_nearer-clause-added t c =
    Adds-parts_back _ _ _ c.args.low c.in-Fork.start c.args.high _ _ _ c.in_ok-walk.ensures.added c.in_ok-walk-2.ensures.added

pub returns-then-low-start-clause-added : goal.returns-then-low-start-clause-added
returns-then-low-start-clause-added t c =
    Adds-parts _ _ _ c.args.low c.in-Fork.start c.args.high _ _ _ c.in_ok-walk-3.ensures.added c.in_ok-walk-4.ensures.added

pub returns-then-is_passed_over-clause-added : goal.returns-then-is_passed_over-clause-added
returns-then-is_passed_over-clause-added t c =
    let es = c.args.tree.now in
    let fork : HasFork es (c.args.high - 1) c.in-Fork.frame c.in-Fork.start = (omega arith, sym c.in-Fork.ensures.value) in
    Adds-none _ _ es c.args.low c.args.high _
    (λ k s l m leaf n.
    ⊎_elim
    (λ e. let inside = c.in-Fork.ensures.framed.framed (c.args.high - 1) c.in-Fork.frame c.in-Fork.start k s fork (omega arith) e leaf in
    c.is_passed_over.ensures c.if-is_passed_over.true s.number (subst (IsInFrame c.in-Fork.frame) (c.requires.tree.each k s leaf).1 inside) n)
    (λ e. let same : k ≡ c.args.high - 1 = omega arith in
    leaf_or_fork es k s c.in-Fork.frame c.in-Fork.start leaf (rw same fork))
    (cases_lt k (c.args.high - 1)))

pub returns-clause-added : goal.returns-clause-added
returns-clause-added t c =
    let es = c.args.tree.now in
    let fork : HasFork es (c.args.high - 1) c.in-Fork.frame c.in-Fork.start = (omega arith, sym c.in-Fork.ensures.value) in
    let last : (c.args.high - 1) + 1 ≡ c.args.high = omega arith in
    subst (λ (h : ℕ). Adds c.args.points.now.points c.args.a es c.args.low h c.args.row.now.items c.walk-2.new.row.items) last
    (Adds-skip _ _ es c.args.low (c.args.high - 1) _ _ c.in_ok-walk-5.ensures.added
    (λ s leaf n. leaf_or_fork es (c.args.high - 1) s c.in-Fork.frame c.in-Fork.start leaf fork))
