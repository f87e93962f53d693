use Rattle.std.proofs.Common.{◌≡◌, ap, sym, refl, rules, Err}
use Rattle.noted_runs.proofs.TracePerformed.{gone_same, none_gone, same_stop, somewhere_same}
use Rattle.noted_runs.proofs.trace.running.go.Goals as goal

pub see-requires-after_bounds : goal.see-requires-after_bounds
see-requires-after_bounds g c = λ κs within.
    somewhere_same c.args.threads _ _ c.perform_all.new.system
    (ap g.P.Program.meaning (sym c.in_ok-departures.ensures.program))
    (c.in_ok-departures.ensures.somewhere c.args.threads c.requires.somewhere)

pub returns-clause-gone : goal.returns-clause-gone
returns-clause-gone g c s h =
    gone_same _ _ s c.args.events.now c.args.events.now c.in_ok-departures.departures c.perform_all.new.system
    (ap g.P.Program.meaning (sym c.in_ok-departures.ensures.program)) refl
    (c.in_ok-departures.ensures.on s (none_gone _ s c.args.system.now h))

pub returns-in_err-departures-clause-limit : goal.returns-in_err-departures-clause-limit
returns-in_err-departures-clause-limit g c s h limit e =
    let made : c.from_residual.result ≡ Err c.in_err-departures.field-0.0 = search rules in
    c.in_err-departures.ensures.limit s (none_gone _ s c.args.system.now h) limit
    (same_stop c.from_residual.result c.in_err-departures.field-0.0 _ made e)
