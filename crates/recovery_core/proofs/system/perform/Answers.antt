use Rattle.std.proofs.lemmas.Result.{err_from_is_err_and, IfOk-weaker}
use Rattle.event_replies.specs.declared.reply.Stop.TheVariants as stop
use Rattle.system_parts.proofs.EventChains.{exits_as}
use Rattle.recovery_core.proofs.RepliesLemmas.{replies_any, several_any, several_stop, stops_any}
use Rattle.recovery_core.proofs.system.perform.Goals as goal

pub perform_several-requires-clause-begun : goal.perform_several-requires-clause-begun
perform_several-requires-clause-begun g c κs within =
    let some = c.requires.stands in
    let begun = c.in-Some.ensures.several some.0 some.1 some.2 in
    (some.0, some.1, some.2, begun.0, begun.2)

pub returns-in_err-perform_several-in-Some-clause-limit : goal.returns-in_err-perform_several-in-Some-clause-limit
returns-in_err-perform_several-in-Some-clause-limit g c = λ limit is.
    let p = err_from_is_err_and c.from_residual.result c.from_residual.ensures.1 in
    let made = exits_as c.perform_several.result c.from_residual.result c.in_err-perform_several-in-Some.field-0.0 p.0
    (stop.Limit limit) c.in_err-perform_several-in-Some.was p.1 p.2 is in
    several_stop (g.P.Program.meaning c.args.core.now.program) c.args.event c.in-Some.from limit c.args.out.now
    c.perform_several.new.out c.args.core.now c.perform_several.new.core c.in-Some.ensures.several
    (c.perform_several.ensures.limit limit made)

pub returns-in_ok-perform_several-in-Some-clause-on : goal.returns-in_ok-perform_several-in-Some-clause-on
returns-in_ok-perform_several-in-Some-clause-on g c =
    several_any (g.P.Program.meaning c.args.core.now.program) c.args.event c.in-Some.from
    c.in_ok-perform_several-in-Some.field-0 c.only.result c.args.out.now c.perform_several.new.out c.args.core.now
    c.perform_several.new.core c.in-Some.ensures.several c.only.ensures c.in_ok-perform_several-in-Some.ensures.on

pub returns-in-None-clause-on : goal.returns-in-None-clause-on
returns-in-None-clause-on g c =
    let m = g.P.Program.meaning c.args.core.now.program in
    IfOk-weaker c.perform_single.result _ _
    (λ reply moves. replies_any m c.args.event reply c.args.out.now c.perform_single.new.out c.args.core.now
    c.perform_single.new.core moves) c.perform_single.ensures.on

pub returns-in-None-clause-limit : goal.returns-in-None-clause-limit
returns-in-None-clause-limit g c = λ limit is.
    stops_any (g.P.Program.meaning c.args.core.now.program) c.args.event limit c.args.out.now c.perform_single.new.out
    c.args.core.now c.perform_single.new.core (c.perform_single.ensures.limit limit is)
