use Rattle.recovery_world.specs.declared.event.Event.TheVariants as event_is
use Rattle.system_parts.specs.Performing.{ComesTo}
use Rattle.system_images.proofs.BuildingLemmas.{some_then, stores_all}
use Rattle.system_images.proofs.building.store_all.Goals as goal

pub store-requires-clause-stands : goal.store-requires-clause-stands
store-requires-clause-stands g c κs within =
    some_then g.P.Program.meaning (ComesTo event_is.Snap c.in_ok-snap.field-0) c.args.core.now c.snap.new.core
    c.in_ok-snap.ensures c.requires.stands

pub returns : goal.returns
returns g c =
    stores_all g.P.Program.meaning c.in_ok-snap.field-0 c.in_ok-store.field-0 c.new-out.result c.store.new.out
    c.args.core.now c.snap.new.core c.store.new.core c.in_ok-snap.ensures c.in_ok-store.ensures.on
