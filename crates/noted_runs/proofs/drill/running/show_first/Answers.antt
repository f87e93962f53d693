use Rattle.noted_runs.proofs.Ended.{shows}
use Rattle.noted_runs.proofs.drill.running.show_first.Goals as goal

pub returns-in-Ok-clause-shows : goal.returns-in-Ok-clause-shows
returns-in-Ok-clause-shows g c s w stands =
    (shows (g.P.Program.meaning c.args.system.now.parts.program) s w 0 c.in-Ok.reply c.args.system.now c.on.new.self
    c.in-Ok.ensures.on stands).0

pub returns-in-Ok-clause-stands : goal.returns-in-Ok-clause-stands
returns-in-Ok-clause-stands g c s w stands =
    (shows (g.P.Program.meaning c.args.system.now.parts.program) s w 0 c.in-Ok.reply c.args.system.now c.on.new.self
    c.in-Ok.ensures.on stands).1
