use Rattle.std.proofs.Common.{◌∙◌}
use Rattle.run_command.proofs.Closing.{err_finishes, still_begun, closes}
use Rattle.run_command.proofs.ending.close_run.Goals as goal

pub returns-in_err-finished-clause-shows : goal.returns-in_err-finished-clause-shows
returns-in_err-finished-clause-shows g c p h s from names events before is come =
    err_finishes _ s from names events before _ c.from_residual.ensures.0
    (still_begun _ s from names events c.args.system c.args.lines.now before _ come)

pub returns-in_err-closing-clause-shows : goal.returns-in_err-closing-clause-shows
returns-in_err-closing-clause-shows g c p h s from names events before is come =
    err_finishes _ s from names events before _ c.from_residual-in_err-closing.ensures.0
    (still_begun _ s from names events c.args.system c.args.lines.now before _ come)

pub returns-clause-shows : goal.returns-clause-shows
returns-clause-shows g c p h s from names events before is come =
    closes _ s from names events c.args.system c.args.lines.now before _ come c.in_ok-finished.finished
    (c.in_ok-finished.ensures s come.world come.at.stands.parts) c.in_ok-closing.ensures.fit_lines _ _ _ _
    (c.as_slice-schedule.ensures ∙ c.in_ok-closing.ensures.schedule) (c.as_slice.ensures ∙ c.in_ok-closing.ensures.last)
    (c.write_closing.ensures.shows p h before _ names.schedule is come.gathered)
