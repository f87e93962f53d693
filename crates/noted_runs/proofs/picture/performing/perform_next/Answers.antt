use Rattle.std.proofs.Common.{◌≡◌, rules, ap, sym, Err}
use Rattle.noted_runs.proofs.PicturePerformed.{halted_next, noted_next, same_stop, stands_same}
use Rattle.noted_runs.proofs.picture.performing.perform_next.Goals as goal

pub returns-clause-on : goal.returns-clause-on
returns-clause-on g c s events are h =
    let m = g.P.Program.meaning c.args.system.now.parts.program in
    let k = g.P.Program.meaning c.on.new.self.parts.program in
    let same : k ≡ m = ap g.P.Program.meaning c.in_ok-reply.ensures.on.0 in
    noted_next m s events c.args.notes.now c.args.event.now c.in_ok-reply.reply c.args.system.now c.on.new.self
    c.take_released.new.self h c.in_ok-reply.ensures.on c.in_ok-note.note
    (λ w freed stands names. c.in_ok-note.ensures s w freed are
    (stands_same m k s w c.on.new.self (sym same) stands) names) c.push.new.self c.in_ok-push.ensures.ok
    (λ w stands. stands_same k m s w c.take_released.new.self same
    (c.take_released.ensures.stands s w (stands_same m k s w c.on.new.self (sym same) stands)))

pub returns-in_err-reply-clause-limit : goal.returns-in_err-reply-clause-limit
returns-in_err-reply-clause-limit g c s events h limit e =
    let made : c.from_residual.result ≡ Err c.in_err-reply.field-0.0 = search rules in
    halted_next (g.P.Program.meaning c.args.system.now.parts.program) s events c.args.notes.now c.args.event.now limit
    c.args.system.now c.on.new.self h
    (c.in_err-reply.ensures.limit limit (same_stop c.from_residual.result c.in_err-reply.field-0.0 _ made e))
