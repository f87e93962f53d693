use Rattle.std.proofs.Common.{◌<◌, sym, subst}
use Rattle.system_parts.specs.SystemStanding.{StandsFor}
use Rattle.held_steps.proofs.FromThreadSteps.{room_now}
use Rattle.several_events.proofs.IdleTurns.{idle_now}
use Rattle.several_events.proofs.turns.is_idle.Goals as goal

pub input_of-requires-clause-room : goal.input_of-requires-clause-room
input_of-requires-clause-room g c = λ κs within.
    let s = c.requires.stands.0 in
    let w = c.requires.stands.1 in
    let st = subst (λ q. StandsFor (g.P.Program.meaning q.program) s w q) (sym c.core.view_is) c.requires.stands.2 in
    let low : c.args.thread < c.core.inside.inputs.threads =
    subst (λ q. c.args.thread < q.inputs.threads) (sym c.core.view_is) c.requires.thread_in in
    room_now _ s w _ c.args.thread st low c.core.invariant.moves

pub returns-in-None : goal.returns-in-None
returns-in-None g c = λ up.
    idle_now g.P.Program.meaning _ _ c.core.view_is c.args.thread _ c.input_of.result c.requires.thread_in
    c.in-None.is c.input_of.ensures up
