use Rattle.output_files.proofs.Effects.{err_writes, creates_nothing}
use Rattle.output_files.proofs.writing.create.Goals as goal

pub returns-in_err-file-clause-shows : goal.returns-in_err-file-clause-shows
returns-in_err-file-clause-shows g c p h =
    err_writes _ _ _ _ c.from_residual.ensures.0 (creates_nothing _ _ _ (c.in_err-file.ensures.shows_err p h))
