use Rattle.std.proofs.Common.{ap, sym}
use Rattle.noted_runs.proofs.Ended.{all_handed, ended, stands_same}
use Rattle.noted_runs.proofs.drill.running.end_run.Goals as goal

pub returns-in-Ok-clause-ended : goal.returns-in-Ok-clause-ended
returns-in-Ok-clause-ended g c s events h short =
    let took = c.take_released-outputs.ensures in
    let at = stands_same _ _ s h.world c.take_released-outputs.new.self (ap g.P.Program.meaning (sym took.program))
    (took.stands s h.world h.stands) in
    ended (g.P.Program.meaning c.args.system.parts.program) (g.P.Program.fits c.args.system.parts.program) s
    (g.met.P.Program.lawful c.args.system.parts.program) short events c.args.replayed c.args.system h
    c.take_released-outputs.result c.in-Ok.ended
    (all_handed h.world _ _ (took.packets h.world h.stands.released).0 h.handed) (c.in-Ok.ensures.finish s h.world at)
    (c.in-Ok.ensures.shows s h.world at) c.in-Ok.ensures.replayed
