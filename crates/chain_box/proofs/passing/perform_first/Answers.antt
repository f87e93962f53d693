use Rattle.std.proofs.Common.{sym, ◌∙◌, subst, length}
use Rattle.std.specs.Prelude.{All}
use Rattle.std.proofs.lemmas.Result.{err_from_is_err_and}
use Rattle.plain_text.specs.Packets.{IsShort}
use Rattle.event_replies.specs.declared.reply.Stop.TheVariants as stop
use Rattle.system_parts.specs.Performing.{packets_in}
use Rattle.system_parts.proofs.EventChains.{exits_as}
use Rattle.chain_box.specs.Chains.{PassesOn, RepliesInChain}
use Rattle.chain_box.proofs.ChainLemmas.{first_moves, first_halts, goes_on, fresh_short, same_appends, sliced}
use Rattle.chain_box.proofs.passing.perform_first.Goals as goal

pub returns-in_err-reply-clause-limit : goal.returns-in_err-reply-clause-limit
returns-in_err-reply-clause-limit g c = λ limit is.
    let p = err_from_is_err_and c.from_residual.result c.from_residual.ensures.1 in
    let made = exits_as c.on.result c.from_residual.result c.in_err-reply.field-0.0 p.0 (stop.Limit limit)
    c.in_err-reply.was p.1 p.2 is in
    first_halts (g.P.Program.meaning c.args.first.now.parts.program)
    (g.Q.Program.meaning c.args.second.now.parts.program) c.args.event.now limit c.args.first.now c.on.new.self
    c.args.second.now c.requires.which (c.on.ensures.limit limit made)

pub pass_on-requires-clause-short : goal.pass_on-requires-clause-short
pass_on-requires-clause-short g c κs within =
    subst (λ l. All IsShort (packets_in l))
    (sym (sliced c.args.first.now c.on.new.self c.len-before.ensures c.fresh.ensures
    (c.as_slice.ensures ∙ c.fresh-2.ensures)))
    (fresh_short (g.P.Program.meaning c.args.first.now.parts.program)
    (g.Q.Program.meaning c.args.second.now.parts.program) (g.P.Program.fits c.args.first.now.parts.program)
    c.args.event.now.event c.in_ok-reply.reply c.args.first.now c.on.new.self c.args.second.now
    (length c.args.first.now.fresh) (g.met.P.Program.lawful c.args.first.now.parts.program) c.requires.going
    c.in_ok-reply.ensures.on)

pub returns-in_err-pass_on-clause-second_appends : goal.returns-in_err-pass_on-clause-second_appends
returns-in_err-pass_on-clause-second_appends g c = same_appends c.pass_on.ensures.fresh

pub returns-clause-on : goal.returns-clause-on
returns-clause-on g c =
    let n = g.Q.Program.meaning c.args.second.now.parts.program in
    first_moves (g.P.Program.meaning c.args.first.now.parts.program) n c.args.event.now c.in_ok-reply.reply
    c.args.first.now c.on.new.self c.args.second.now c.pass_on.new.system c.requires.which c.in_ok-reply.ensures.on
    c.in_ok-reply.ensures.appends
    (subst (λ l. PassesOn n (packets_in l) c.args.second.now c.pass_on.new.system)
    (sliced c.args.first.now c.on.new.self c.len-before.ensures c.fresh.ensures
    (c.as_slice.ensures ∙ c.fresh-2.ensures))
    c.in_ok-pass_on.ensures.passed)

pub returns-clause-goes_on : goal.returns-clause-goes_on
returns-clause-goes_on g c =
    goes_on g.P.Program.meaning g.Q.Program.meaning (RepliesInChain c.args.event.now c.in_ok-reply.reply)
    c.args.first.now c.on.new.self c.args.second.now c.pass_on.new.system (returns-clause-on g c)
    c.in_ok-reply.ensures.goes_on c.in_ok-pass_on.ensures.passed.runs c.requires.going

pub returns-clause-second_appends : goal.returns-clause-second_appends
returns-clause-second_appends g c = same_appends c.pass_on.ensures.fresh
