use Rattle.output_files.proofs.Effects.{err_gathers, gathered_begun}
use Rattle.chain_command.proofs.replying.write_replied.Goals as goal

pub returns-in_err-line-clause-shows : goal.returns-in_err-line-clause-shows
returns-in_err-line-clause-shows g c p h before writes names freed are named gathered =
    err_gathers _ _ _ before _ c.from_residual.ensures.0 (gathered_begun writes _ _ before _ gathered)
