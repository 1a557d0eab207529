use Rattle.std.proofs.Common.{sym, ap, subst}
use Rattle.edge_marks.specs.Handles.{SeatView}
use Rattle.edge_marks.specs.Told.{Remembers}
use Rattle.edge_marks.proofs.Examines.{found_on}
use Rattle.edge_marks.proofs.Remembering.{remembers_looks}
use Rattle.edge_marks.proofs.Loads.{steps_of, tried_of}
use Rattle.edge_marks.proofs.handles.Marks.examine.Goals as goal

pub returns-in-Some-clause-kept : goal.returns-in-Some-clause-kept
returns-in-Some-clause-kept c = let t = c.in-Some.ensures.told in subst (Remembers c.args.seat.now.known) (sym t.1) (remembers_looks t.0 c.args.seat.now.known)

pub returns-in-Some-clause-steps : goal.returns-in-Some-clause-steps
returns-in-Some-clause-steps c = let t = c.in-Some.ensures.told in (t.0, steps_of t.0 c.args.seat.now.known c.last_support.new.seat.known t.1, t.2, t.3)

pub returns-in-Some-clause-tried : goal.returns-in-Some-clause-tried
returns-in-Some-clause-tried c = let t = c.in-Some.ensures.told in tried_of t.0 c.args.seat.now.known c.last_support.new.seat.known t.1

pub returns-clause-kept : goal.returns-clause-kept
returns-clause-kept c = let old = c.args.seat.now.known in let first = c.last_support.ensures.told in let t = c.search-found.ensures.told in
    let f = found_on c.args.self.now.net c.args.e old c.last_support.new.seat.known c.search-found.new.seat.known c.keep.new.self.known first.0 t.0 c.search-found.result first.1 t.1 (ap (λ (s : SeatView). s.known) c.keep.ensures) first.2 t.2 t.3 in subst (Remembers old) (sym f.1) (remembers_looks f.0 old)

pub returns-clause-told : goal.returns-clause-told
returns-clause-told c = let old = c.args.seat.now.known in let first = c.last_support.ensures.told in let t = c.search-found.ensures.told in
    let f = found_on c.args.self.now.net c.args.e old c.last_support.new.seat.known c.search-found.new.seat.known c.keep.new.self.known first.0 t.0 c.search-found.result first.1 t.1 (ap (λ (s : SeatView). s.known) c.keep.ensures) first.2 t.2 t.3 in f

pub returns-clause-steps : goal.returns-clause-steps
returns-clause-steps c = let old = c.args.seat.now.known in let first = c.last_support.ensures.told in let t = c.search-found.ensures.told in
    let f = found_on c.args.self.now.net c.args.e old c.last_support.new.seat.known c.search-found.new.seat.known c.keep.new.self.known first.0 t.0 c.search-found.result first.1 t.1 (ap (λ (s : SeatView). s.known) c.keep.ensures) first.2 t.2 t.3 in (f.0, steps_of f.0 old c.keep.new.self.known f.1, f.2, f.3)

pub returns-clause-tried : goal.returns-clause-tried
returns-clause-tried c = let old = c.args.seat.now.known in let first = c.last_support.ensures.told in let t = c.search-found.ensures.told in
    let f = found_on c.args.self.now.net c.args.e old c.last_support.new.seat.known c.search-found.new.seat.known c.keep.new.self.known first.0 t.0 c.search-found.result first.1 t.1 (ap (λ (s : SeatView). s.known) c.keep.ensures) first.2 t.2 t.3 in tried_of f.0 old c.keep.new.self.known f.1
