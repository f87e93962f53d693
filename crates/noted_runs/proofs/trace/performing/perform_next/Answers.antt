use Rattle.std.proofs.Common.{◌≡◌, ◌∙◌, rules, ap, sym, length, Err}
use Rattle.noted_runs.proofs.TracePerformed.{gone_next, halted_next, same_stop, somewhere_next, stands_same}
use Rattle.noted_runs.proofs.trace.performing.perform_next.Goals as goal

pub returns-clause-somewhere : goal.returns-clause-somewhere
returns-clause-somewhere g c threads h =
    let m = g.P.Program.meaning c.args.system.now.parts.program in
    let k = g.P.Program.meaning c.on.new.self.parts.program in
    let same : k ≡ m = ap g.P.Program.meaning c.in_ok-on.ensures.on.0 in
    somewhere_next threads m c.args.event.now c.in_ok-on.field-0 c.args.system.now c.on.new.self
    c.take_released.new.self h c.in_ok-on.ensures.on
    (λ s w stands. stands_same k m s w c.take_released.new.self same
    (c.take_released.ensures.stands s w (stands_same m k s w c.on.new.self (sym same) stands)))

pub returns-clause-on : goal.returns-clause-on
returns-clause-on g c s events number h =
    let m = g.P.Program.meaning c.args.system.now.parts.program in
    let k = g.P.Program.meaning c.on.new.self.parts.program in
    let same : k ≡ m = ap g.P.Program.meaning c.in_ok-on.ensures.on.0 in
    gone_next m s events c.args.departures.now c.args.event.now c.in_ok-on.field-0 c.args.system.now c.on.new.self
    c.take_released.new.self h c.in_ok-on.ensures.on c.args.number number c.epoch.result
    (λ w stands. c.epoch.ensures s w (stands_same m k s w c.on.new.self (sym same) stands).parts) c.len-total.result
    (λ w stands. c.len-total.ensures ∙ ap (λ l. length l) (c.released.ensures w stands.released))
    c.put_departures.new.departures c.in_ok-put_departures.ensures
    (λ w stands. stands_same k m s w c.take_released.new.self same
    (c.take_released.ensures.stands s w (stands_same m k s w c.on.new.self (sym same) stands)))

pub returns-in_err-on-clause-limit : goal.returns-in_err-on-clause-limit
returns-in_err-on-clause-limit g c s events h limit e =
    let made : c.from_residual.result ≡ Err c.in_err-on.field-0.0 = search rules in
    halted_next (g.P.Program.meaning c.args.system.now.parts.program) s events c.args.departures.now c.args.event.now
    limit c.args.system.now c.on.new.self h
    (c.in_err-on.ensures.limit limit (same_stop c.from_residual.result c.in_err-on.field-0.0 _ made e))
