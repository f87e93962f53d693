use Rattle.std.proofs.Common.{sym, subst}
use Rattle.system_parts.specs.Performing.{StopsAt, Releasing, WouldPass}
use Rattle.several_events.proofs.Ahead.{performs_single, performs_held}
use Rattle.several_events.proofs.strategy.perform_next.Goals as goal

pub returns-in-Some-clause-on : goal.returns-in-Some-clause-on
returns-in-Some-clause-on g c =
    performs_held (g.P.Program.meaning c.args.core.now.program) c.args.core.now c.step_held.new.core
    c.args.further.now c.args.event c.in-Some.thread c.step_held.result c.args.out.now c.step_held.new.out
    c.in-Some.ensures.step c.in-Some.ensures.turns c.step_held.ensures.on

pub returns-in-Some-clause-limit : goal.returns-in-Some-clause-limit
returns-in-Some-clause-limit g c = λ limit made.
    subst (λ e. StopsAt (g.P.Program.meaning c.args.core.now.program)
    (Releasing c.args.out.now c.step_held.new.out (WouldPass e limit)) c.args.core.now c.step_held.new.core)
    (sym c.in-Some.ensures.step) (c.step_held.ensures.limit limit made)

pub returns-clause-on : goal.returns-clause-on
returns-clause-on g c =
    performs_single (g.P.Program.meaning c.args.core.now.program) c.args.core.now c.perform_single.new.core
    c.args.further.now c.args.event c.in_ok-reply.reply c.args.out.now c.perform_single.new.out
    c.in_ok-reply.ensures.on
