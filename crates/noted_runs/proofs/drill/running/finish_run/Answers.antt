use Rattle.std.proofs.Common.{ap, sym}
use Rattle.noted_runs.proofs.Ended.{stands_same}
use Rattle.noted_runs.proofs.drill.running.finish_run.Goals as goal

pub returns-in_ok-finish-in-Ok-clause-finish : goal.returns-in_ok-finish-in-Ok-clause-finish
returns-in_ok-finish-in-Ok-clause-finish g c s w stands =
    c.in_ok-finish-in-Ok.ensures s w
    (stands_same _ _ s w c.show_first.new.system (ap g.P.Program.meaning (sym c.in-Ok.ensures.program))
    (c.in-Ok.ensures.stands s w stands)).parts
