use Rattle.std.proofs.Common.{inl}
use Rattle.output_files.proofs.Effects.{unwritten}
use Rattle.run_writes.specs.Run.{names_of}
use Rattle.noted_runs.specs.Drill.{setting_of}
use Rattle.noted_runs.proofs.Written.{in_order, stopped, whole}
use Rattle.noted_runs.proofs.drill.run_drill.Goals as goal

pub returns-in_err-drilled-clause-in_order : goal.returns-in_err-drilled-clause-in_order
returns-in_err-drilled-clause-in_order g c p h = inl (unwritten _)

pub returns-clause-whole : goal.returns-clause-whole
returns-clause-whole g c p h =
    whole (setting_of (g.P.Program.meaning c.args.program) c.args.run) c.args.run.every c.args.run.table
    (names_of c.args.files) c.requires.apart _ _ _ c.write_drilled.result _ c.in_ok-drilled.ensures.comes
    (c.write_drilled.ensures.shows p h)

pub returns-clause-limit : goal.returns-clause-limit
returns-clause-limit g c p h limit e =
    stopped (setting_of (g.P.Program.meaning c.args.program) c.args.run) c.args.run.every c.args.run.table
    (names_of c.args.files) c.requires.apart _ _ _ c.write_drilled.result _ limit c.in_ok-drilled.ensures.comes
    (c.write_drilled.ensures.shows p h) e

pub returns-clause-in_order : goal.returns-clause-in_order
returns-clause-in_order g c p h =
    in_order (setting_of (g.P.Program.meaning c.args.program) c.args.run) c.args.run.every c.args.run.table
    (names_of c.args.files) c.requires.apart _ _ _ c.write_drilled.result _ c.in_ok-drilled.ensures.comes
    (c.write_drilled.ensures.shows p h)
