use Rattle.recovery_world.specs.declared.event.Event.TheVariants as event_is
use Rattle.system_parts.specs.Performing.{ComesTo}
use Rattle.system_images.proofs.BuildingLemmas.{some_then, turns_one}
use Rattle.system_images.proofs.building.turn.Goals as goal

pub recover-requires-clause-stands : goal.recover-requires-clause-stands
recover-requires-clause-stands g c κs within =
    some_then g.P.Program.meaning (ComesTo event_is.Crash c.crash.result) c.args.core.now c.crash.new.core
    c.crash.ensures c.requires.stands

pub returns : goal.returns
returns g c =
    turns_one g.P.Program.meaning c.crash.result c.in_ok-recover.field-0 c.args.core.now c.crash.new.core
    c.recover.new.core c.crash.ensures c.in_ok-recover.ensures
