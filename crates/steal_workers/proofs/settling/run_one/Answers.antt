use Rattle.steal_workers.proofs.Ends.{end_of_run}
use Rattle.steal_workers.proofs.settling.run_one.Goals as goal

pub returns-clause-ended : goal.returns-clause-ended
returns-clause-ended g c = record { answer = c.run.result; end_is = c.run.ensures.answer; holds = end_of_run c.args.worker.now.seat.known c.run.new.self.seat.known c.run.result c.run.ensures.ends }
