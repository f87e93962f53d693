use Rattle.output_files.proofs.OnlyWriting.{OnlyWrites-files, WritesFiles-trans, WritesFiles-failed}
use Rattle.run_writes.specs.Replies.{packets_in}
use Rattle.run_writes.specs.Run.{names_of, opening_writes}
use Rattle.noted_runs.proofs.WritingSteps.{gathers, halt_failed}
use Rattle.noted_runs.proofs.drill.writing.write_halted.Goals as goal

pub returns-in_err-created-clause-shows : goal.returns-in_err-created-clause-shows
returns-in_err-created-clause-shows g c p h =
    halt_failed _ _ _ _ _ _ c.from_residual.ensures.0 (c.in_err-created.ensures.shows p h)

pub returns-clause-writes_files : goal.returns-clause-writes_files
returns-clause-writes_files g c =
    WritesFiles-trans _ _ 2 0 _ _ _ c.in_ok-created.ensures.writes_files
    (OnlyWrites-files _ _ 0 _ _ c.write_stopped.ensures.only_writes)

pub returns-clause-cause : goal.returns-clause-cause
returns-clause-cause g c fault =
    WritesFiles-failed _ _ 2 _ _ _ c.in_ok-created.ensures.writes_files (c.write_stopped.ensures.cause fault)

pub returns-clause-shows : goal.returns-clause-shows
returns-clause-shows g c p h =
    let h0 = c.write_stopped.ensures.before p h in
    let names = names_of c.args.files in
    c.write_stopped.ensures.shows p h _ (opening_writes names c.args.unit) names.released
    (c.in_ok-created.ensures.released p h0)
    (gathers names c.args.unit (packets_in c.args.outputs.now) _ _ _ c.new-lines.ensures
    (c.in_ok-created.ensures.shows p h0))
