use Rattle.std.proofs.Common.{[], ◌∷◌}
use Rattle.output_files.specs.Writes.{Creates}
use Rattle.output_files.proofs.Effects.{err_writes, begun_before, begun_behind, written_more}
use Rattle.run_writes.specs.Run.{opening_writes}
use Rattle.live_writes.specs.Outputs.{names_of}
use Rattle.live_writes.proofs.opening.open_live.Goals as goal

pub returns-in_err-outputs-clause-shows : goal.returns-in_err-outputs-clause-shows
returns-in_err-outputs-clause-shows g c p h = err_writes _ _ _ _ c.from_residual.ensures.0
    (begun_before (opening_writes (names_of c.args.files).outputs c.args.unit) (Creates c.args.files.script.now ∷ []) _
    _ (c.in_err-outputs.ensures.shows p h))

pub returns-in_err-script-clause-shows : goal.returns-in_err-script-clause-shows
returns-in_err-script-clause-shows g c p h = err_writes _ _ _ _ c.from_residual-in_err-script.ensures.0
    (begun_behind (opening_writes (names_of c.args.files).outputs c.args.unit) (Creates c.args.files.script.now ∷ []) _
    _ _ (c.in_ok-outputs.ensures.shows p (c.in_err-script.ensures.before p h)) (c.in_err-script.ensures.shows p h))

pub returns-clause-shows : goal.returns-clause-shows
returns-clause-shows g c p h =
    written_more (opening_writes (names_of c.args.files).outputs c.args.unit) (Creates c.args.files.script.now ∷ []) _ _
    _ (c.in_ok-outputs.ensures.shows p (c.in_ok-script.ensures.before p h)) (c.in_ok-script.ensures.shows p h)
