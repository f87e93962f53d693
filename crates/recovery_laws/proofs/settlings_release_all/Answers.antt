-- The lemmas of a settling and of a flow.
use Rattle.std.proofs.Common.{refl}
use Rattle.recovery_world.specs.declared.event.Event.TheVariants.{Flow}
use Rattle.recovery_laws.proofs.Settlings.{settling_settles, flow_flows, script_settled}
use Rattle.recovery_laws.proofs.settlings_release_all.Goals as goal

pub returns-clause-world : goal.returns-clause-world
returns-clause-world g c = λ s w new to freed steps h on f. settling_settles s w new to freed steps h on f

pub returns-clause-flow : goal.returns-clause-flow
returns-clause-flow g c = λ s w new n to freed h up on. flow_flows s w new n (Flow n) to freed h up refl on

pub returns-clause-script : goal.returns-clause-script
returns-clause-script g c = script_settled
