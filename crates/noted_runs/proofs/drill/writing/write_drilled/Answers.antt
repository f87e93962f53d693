use Rattle.std.proofs.Common.{sym, ◌∙◌}
use Rattle.noted_runs.proofs.Written.{fault_stopped, fault_written}
use Rattle.noted_runs.proofs.WritingSteps.{stopped_drilled, whole_drilled}
use Rattle.noted_runs.proofs.drill.writing.write_drilled.Goals as goal

pub returns-in-Ok-clause-cause : goal.returns-in-Ok-clause-cause
returns-in-Ok-clause-cause g c e =
    c.write_whole.ensures.cause (fault_written c.write_whole.result (sym c.written.ensures ∙ e))

pub returns-in-Err-clause-cause : goal.returns-in-Err-clause-cause
returns-in-Err-clause-cause g c e =
    c.write_halted.ensures.cause (fault_stopped c.write_halted.result _ (sym c.stopped.ensures ∙ e))

pub returns-in-Ok-clause-shows : goal.returns-in-Ok-clause-shows
returns-in-Ok-clause-shows g c p h =
    whole_drilled _ _ _ c.write_whole.result _ _ _ _ _ _ c.in-Ok.is c.as_slice-outputs.ensures c.written.ensures
    c.write_whole.ensures.fit_records (c.write_whole.ensures.shows p h)

pub returns-in-Err-clause-shows : goal.returns-in-Err-clause-shows
returns-in-Err-clause-shows g c p h =
    stopped_drilled _ _ _ c.write_halted.result _ _ _ _ _ _ c.in-Err.is c.as_slice-outputs.ensures c.stopped.ensures
    (c.write_halted.ensures.shows p h)
