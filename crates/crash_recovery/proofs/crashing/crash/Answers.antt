use Rattle.crash_recovery.proofs.CrashLemmas.{crash_moves}
use Rattle.crash_recovery.proofs.crashing.crash.Goals as goal

pub returns : goal.returns
returns g c = crash_moves g.P.Program.meaning _ _ c.lose.new.self c.core.view_is c.if-not-core.false
    c.lose.ensures.stored c.lose.ensures.no_copy
