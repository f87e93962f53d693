use Rattle.std.proofs.Common.{◌≡◌, rules, Err}
use Rattle.noted_runs.proofs.DrillPerformed.{halted_next, next_performed, same_stop}
use Rattle.noted_runs.proofs.drill.performing.perform_next.Goals as goal

pub returns-clause-on : goal.returns-clause-on
returns-clause-on g c s events h =
    next_performed (g.P.Program.meaning c.args.system.now.parts.program) s events c.args.event.now c.in_ok-reply.reply
    c.args.replayed c.kept_by.result c.add_kept.result c.args.system.now c.on.new.self c.in_ok-reply.ensures.on
    c.kept_by.ensures c.add_kept.ensures.sum h

pub returns-clause-limit : goal.returns-clause-limit
returns-clause-limit g c s events h limit e = absurd (c.add_kept.ensures.no_limit limit e)

pub returns-in_err-reply-clause-limit : goal.returns-in_err-reply-clause-limit
returns-in_err-reply-clause-limit g c s events h limit e =
    let made : c.from_residual.result ≡ Err c.in_err-reply.field-0.0 = search rules in
    halted_next (g.P.Program.meaning c.args.system.now.parts.program) s events c.args.event.now limit c.args.replayed
    c.args.system.now c.on.new.self h
    (c.in_err-reply.ensures.limit limit (same_stop c.from_residual.result c.in_err-reply.field-0.0 _ made e))
