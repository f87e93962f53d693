use Rattle.std.proofs.Common.{ap, sym, refl}
use Rattle.recovery_world.specs.World.{opening}
use Rattle.event_replies.specs.declared.reply.Stop.TheVariants as stop
use Rattle.noted_runs.proofs.Ended.{all_handed, halted}
use Rattle.noted_runs.proofs.DrillPerformed.{none_performed, performed_same, same_stop}
use Rattle.noted_runs.proofs.drill.running.run_events.Goals as goal

pub returns-in-Ok-clause-ended : goal.returns-in-Ok-clause-ended
returns-in-Ok-clause-ended g c s new short =
    c.end_run.ensures.ended s c.args.events.now
    (performed_same _ _ s _ _ _ c.perform_all.new.system (ap g.P.Program.meaning (sym c.in-Ok.ensures.program)) refl
    (c.in-Ok.ensures.on s (none_performed _ s c.args.system new))) short

pub returns-in-Ok-clause-halted : goal.returns-in-Ok-clause-halted
returns-in-Ok-clause-halted g c s new short limit e = absurd (c.end_run.ensures.no_limit limit e)

pub returns-in-Err-clause-halted : goal.returns-in-Err-clause-halted
returns-in-Err-clause-halted g c s new short limit e =
    let h = c.in-Err.ensures.limit s (none_performed _ s c.args.system new) limit
    (same_stop _ c.in-Err.stop (stop.Limit limit) refl e) in
    halted (g.P.Program.meaning c.args.system.parts.program) (g.P.Program.fits c.args.system.parts.program) s
    (g.met.P.Program.lawful c.args.system.parts.program) short c.args.events.now limit c.perform_all.new.system h
    (opening _) c.args.system new.stands c.take_released-outputs.result
    (all_handed h.world _ _ (c.take_released-outputs.ensures.packets h.world h.released).0 h.handed)
