use Rattle.std.proofs.Common.{ap}
use Rattle.recovery_world.specs.World.{World}
use Rattle.handover_world.proofs.Resting.{rest_there, rest_of_script, script_of_rest, comes_to_rest, rested}
use Rattle.handover_world.proofs.Resting.{none_waits}
use Rattle.handover_world.proofs.laws.ready_worlds_come_to_rest.Goals as goal

pub returns-clause-there : goal.returns-clause-there
returns-clause-there g c = rest_there

pub returns-clause-script : goal.returns-clause-script
returns-clause-script g c = rest_of_script

pub returns-clause-performs : goal.returns-clause-performs
returns-clause-performs g c = script_of_rest

pub returns-clause-rest : goal.returns-clause-rest
returns-clause-rest g c = λ s w new h ready rest. comes_to_rest s w h ready new rest

pub returns-clause-past : goal.returns-clause-past
returns-clause-past g c = λ s w new ready rest.
    ap (λ (z : World _). z.past) (rested s w new rest ready.0).new_is

pub returns-clause-epoch : goal.returns-clause-epoch
returns-clause-epoch g c = λ s w new ready rest.
    ap (λ (z : World _). z.epoch) (rested s w new rest ready.0).new_is

pub returns-clause-ended : goal.returns-clause-ended
returns-clause-ended g c = λ s w new ready rest.
    ap (λ (z : World _). z.ended) (rested s w new rest ready.0).new_is

pub returns-clause-released : goal.returns-clause-released
returns-clause-released g c = λ s w new ready rest.
    ap (λ (z : World _). z.released) (rested s w new rest ready.0).new_is

pub returns-clause-none_waits : goal.returns-clause-none_waits
returns-clause-none_waits g c = λ s w new ready rest. none_waits s w new rest ready.0

pub returns-clause-fed : goal.returns-clause-fed
returns-clause-fed g c = λ s w new ready rest.
    let is = (rested s w new rest ready.0).new_is in
    (ap (λ (z : World _). z.fed) is, ap (λ (z : World _). z.clock) is, ap (λ (z : World _). z.drawn) is)

pub returns-clause-counts : goal.returns-clause-counts
returns-clause-counts g c = λ s w new ready rest.
    let is = (rested s w new rest ready.0).new_is in
    (ap (λ (z : World _). z.moves) is, ap (λ (z : World _). z.bytes) is)
