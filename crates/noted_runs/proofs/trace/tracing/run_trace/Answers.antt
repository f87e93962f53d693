use Rattle.std.proofs.Common.{inl, refl}
use Rattle.run_writes.specs.Run.{setting_of}
use Rattle.noted_runs.proofs.TracingLemmas.{kept_shown, traced_limit, traced_order, traced_whole}
use Rattle.noted_runs.proofs.trace.tracing.run_trace.Goals as goal

pub returns-in_err-traced-clause-in_order : goal.returns-in_err-traced-clause-in_order
returns-in_err-traced-clause-in_order g c p h = inl (kept_shown _ _ refl)

pub returns-clause-whole : goal.returns-clause-whole
returns-clause-whole g c p h =
    traced_whole c.args.register (setting_of (g.P.Program.meaning c.args.program) c.args.run) c.args.run.events
    c.args.table.now _ _ c.write_traced.result _ c.in_ok-traced.ensures (c.write_traced.ensures.shows p h)

pub returns-clause-limit : goal.returns-clause-limit
returns-clause-limit g c p h limit e =
    traced_limit c.args.register (setting_of (g.P.Program.meaning c.args.program) c.args.run) c.args.run.events
    c.args.table.now _ _ c.write_traced.result _ limit c.in_ok-traced.ensures (c.write_traced.ensures.shows p h) e

pub returns-clause-in_order : goal.returns-clause-in_order
returns-clause-in_order g c p h =
    traced_order c.args.register (setting_of (g.P.Program.meaning c.args.program) c.args.run) c.args.run.events
    c.args.table.now _ _ c.write_traced.result _ c.in_ok-traced.ensures (c.write_traced.ensures.shows p h)
