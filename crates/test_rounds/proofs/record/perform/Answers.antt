use Rattle.test_rounds.proofs.Keeping.{event_keeps}
use Rattle.test_rounds.proofs.record.perform.Goals as goal

pub returns-clause-keeps : goal.returns-clause-keeps
returns-clause-keeps g c = λ is_kept.
    event_keeps g.P.Program.meaning _ c.args.system.now c.on.new.self c.in-Ok.ensures.on
