use Rattle.std.proofs.Common.{ap, sym, ◌∙◌}
use Rattle.output_files.proofs.OnlyWriting.{OnlyWrites-files, WritesFiles-trans, WritesFiles-failed}
use Rattle.run_writes.specs.Run.{names_of}
use Rattle.run_command.proofs.Going.{come_same, fault_written}
use Rattle.run_command.proofs.WholeRun.{finished_runs, stopped_runs}
use Rattle.run_command.proofs.run.run_from.Goals as goal

pub returns-in-Ok-clause-writes_files : goal.returns-in-Ok-clause-writes_files
returns-in-Ok-clause-writes_files g c =
    WritesFiles-trans _ _ 2 0 _ _ _ c.in-Ok.ensures.writes_files
    (OnlyWrites-files _ _ 0 _ _ c.close_run-ended.ensures.only_writes)

pub returns-in-Ok-clause-cause : goal.returns-in-Ok-clause-cause
returns-in-Ok-clause-cause g c e =
    WritesFiles-failed _ _ 2 _ _ _ c.in-Ok.ensures.writes_files
    (c.close_run-ended.ensures.cause (fault_written c.close_run-ended.result (sym c.written.ensures ∙ e)))

pub returns-in-Ok-clause-shows : goal.returns-in-Ok-clause-shows
returns-in-Ok-clause-shows g c p h s w unit at =
    let h0 = c.close_run-ended.ensures.before p h in
    let names = names_of c.args.files in
    let come = come_same _ _ s _ names c.args.events.now _ _ _ _
    (ap g.P.Program.meaning (sym c.in-Ok.ensures.program)) (c.in-Ok.ensures.shows p h0 s w unit at) in
    rw c.written.ensures
    (finished_runs s _ names c.args.events.now _ _ c.close_run-ended.result
    (c.close_run-ended.ensures.shows p h s _ names c.args.events.now _ (c.in-Ok.ensures.schedule p h0) come))

pub returns-clause-shows : goal.returns-clause-shows
returns-clause-shows g c p h s w unit at =
    stopped_runs s _ (names_of c.args.files) c.args.events.now _ _ _ _ _ c.in-Err.error
    (c.in-Err.ensures.shows p h s w unit at)

pub returns-in-Ok-clause-before : goal.returns-in-Ok-clause-before
returns-in-Ok-clause-before g c p h = c.in-Ok.ensures.before p (c.close_run-ended.ensures.before p h)
