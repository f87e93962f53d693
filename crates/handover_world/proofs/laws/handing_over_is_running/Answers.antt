use Rattle.handover_world.proofs.GoingOn.{performs_both, performs_grow, leaves_both, leaves_both_at}
use Rattle.handover_world.proofs.laws.handing_over_is_running.Goals as goal

pub returns-clause-script : goal.returns-clause-script
returns-clause-script g c = λ s first second early late w new. performs_both s _ w new first second early late

pub returns-clause-leaves : goal.returns-clause-leaves
returns-clause-leaves g c = λ s first second early late w new. leaves_both s w new first second early late

pub returns-clause-stops : goal.returns-clause-stops
returns-clause-stops g c = λ s first before after ev early late w there world limit.
    leaves_both_at s w there world first before after ev early late limit

pub returns-clause-released : goal.returns-clause-released
returns-clause-released g c = λ s w events lines new. performs_grow s w new events lines
