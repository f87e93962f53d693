use Rattle.output_files.proofs.Effects.{err_writes, begun_before}
use Rattle.run_writes.proofs.ClosingSteps.{closed, schedule_begun}
use Rattle.run_writes.proofs.closing.write_closing.Goals as goal

pub returns-in_err-write_lines-clause-shows : goal.returns-in_err-write_lines-clause-shows
returns-in_err-write_lines-clause-shows g c p h before writes name is gathered =
    err_writes _ _ before _ c.from_residual.ensures.0
    (begun_before writes _ before _ (c.in_err-write_lines.ensures.shows p h before writes gathered))

pub returns-in_err-append-clause-shows : goal.returns-in_err-append-clause-shows
returns-in_err-append-clause-shows g c p h before writes name is gathered =
    let h0 = c.in_err-append.ensures.before p h in
    err_writes _ _ before _ c.from_residual-in_err-append.ensures.0
    (schedule_begun writes name _ _ before _ _ (c.in_ok-write_lines.ensures.shows p h0 before writes gathered)
    (c.in_err-append.ensures.shows p h name (c.in_ok-write_lines.ensures.keeps p h0 _ _ is)))

pub returns-clause-shows : goal.returns-clause-shows
returns-clause-shows g c p h before writes name is gathered =
    let h1 = c.report.ensures.before p h in
    let h0 = c.in_ok-append.ensures.before p h1 in
    closed writes name _ _ before _ _ (c.in_ok-write_lines.ensures.shows p h0 before writes gathered) _ _
    (c.in_ok-append.ensures.shows p h1 name (c.in_ok-write_lines.ensures.keeps p h0 _ _ is))
    (c.report.ensures.shows p h)
