use Rattle.std.proofs.Common.{[], ◌∷◌}
use Rattle.output_files.specs.Writes.{Creates, Appends}
use Rattle.output_files.proofs.Effects.{err_writes, begun_before, begun_behind}
use Rattle.run_writes.proofs.OpeningSteps.{same_append_begun}
use Rattle.chain_command.proofs.opening.open_capture.Goals as goal

pub returns-in_err-file-clause-shows : goal.returns-in_err-file-clause-shows
returns-in_err-file-clause-shows g c p h = err_writes _ _ _ _ c.from_residual.ensures.0
    (begun_before (Creates c.args.name.now ∷ []) _ _ _ (c.in_err-file.ensures.shows p h))

pub returns-in_err-append-clause-shows : goal.returns-in_err-append-clause-shows
returns-in_err-append-clause-shows g c p h =
    let h0 = c.in_err-append.ensures.before p h in
    err_writes _ _ _ _ c.from_residual-in_err-append.ensures.0
    (begun_behind (Creates c.args.name.now ∷ []) _ _ _ _ (c.in_ok-file.ensures.shows p h0)
    (same_append_begun c.args.name.now _ _ _ _ c.put_header.ensures
    (c.in_err-append.ensures.shows p h c.args.name.now (c.in_ok-file.ensures.output p h0))))
