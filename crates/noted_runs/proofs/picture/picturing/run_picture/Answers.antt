use Rattle.std.proofs.Common.{inl, refl}
use Rattle.run_writes.specs.Run.{setting_of}
use Rattle.noted_runs.proofs.Drawn.{drawn_limit, drawn_order, drawn_whole, kept_shown}
use Rattle.noted_runs.proofs.picture.picturing.run_picture.Goals as goal

pub returns-in_err-drawn-clause-in_order : goal.returns-in_err-drawn-clause-in_order
returns-in_err-drawn-clause-in_order g c p h = inl (kept_shown _ _ refl)

pub returns-clause-whole : goal.returns-clause-whole
returns-clause-whole g c p h =
    drawn_whole c.args.title.now (setting_of (g.P.Program.meaning c.args.program) c.args.run) c.args.run.events
    c.args.name.now _ _ c.write_drawn.result _ c.in_ok-drawn.ensures (c.write_drawn.ensures.shows p h)

pub returns-clause-limit : goal.returns-clause-limit
returns-clause-limit g c p h limit e =
    drawn_limit c.args.title.now (setting_of (g.P.Program.meaning c.args.program) c.args.run) c.args.run.events
    c.args.name.now _ _ c.write_drawn.result _ limit c.in_ok-drawn.ensures (c.write_drawn.ensures.shows p h) e

pub returns-clause-in_order : goal.returns-clause-in_order
returns-clause-in_order g c p h =
    drawn_order c.args.title.now (setting_of (g.P.Program.meaning c.args.program) c.args.run) c.args.run.events
    c.args.name.now _ _ c.write_drawn.result _ c.in_ok-drawn.ensures (c.write_drawn.ensures.shows p h)
