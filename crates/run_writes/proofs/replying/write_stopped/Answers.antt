use Rattle.output_files.proofs.Effects.{err_writes}
use Rattle.run_writes.proofs.replying.write_stopped.Goals as goal

pub returns-in_err-write_outputs-clause-shows : goal.returns-in_err-write_outputs-clause-shows
returns-in_err-write_outputs-clause-shows g c p h before writes name is gathered =
    err_writes _ _ before _ c.from_residual.ensures.0
    (c.in_err-write_outputs.ensures.shows p h before writes name is gathered)

pub returns-clause-shows : goal.returns-clause-shows
returns-clause-shows g c p h before writes name is gathered =
    let records = c.write_lines.ensures.before p h in
    c.write_lines.ensures.shows p h before _
    (c.in_ok-write_outputs.ensures.shows p records before writes name is gathered)
