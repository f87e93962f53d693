use Rattle.std.proofs.Common.{[], ◌∷◌, ◌++◌}
use Rattle.output_files.specs.Writes.{Creates}
use Rattle.output_files.proofs.Effects.{err_writes, begun_before, begun_behind, written_more}
use Rattle.chain_command.specs.Writes.{capture_opening}
use Rattle.chain_command.proofs.opening.open_chain.Goals as goal

pub returns-in_err-middle-clause-shows : goal.returns-in_err-middle-clause-shows
returns-in_err-middle-clause-shows g c p h =
    let files = c.args.files in
    err_writes _ _ _ _ c.from_residual.ensures.0
    (begun_before (capture_opening files.middle.now c.args.unit)
    (capture_opening files.released.now c.args.unit
    ++ (Creates files.first_schedule.now ∷ Creates files.second_schedule.now ∷ [])) _ _
    (c.in_err-middle.ensures.shows p h))

pub returns-in_err-released-clause-shows : goal.returns-in_err-released-clause-shows
returns-in_err-released-clause-shows g c p h =
    let files = c.args.files in
    let h0 = c.in_err-released.ensures.before p h in
    err_writes _ _ _ _ c.from_residual-in_err-released.ensures.0
    (begun_behind (capture_opening files.middle.now c.args.unit) _ _ _ _ (c.in_ok-middle.ensures.shows p h0)
    (begun_before (capture_opening files.released.now c.args.unit)
    (Creates files.first_schedule.now ∷ Creates files.second_schedule.now ∷ []) _ _
    (c.in_err-released.ensures.shows p h)))

pub returns-in_err-first_schedule-clause-shows : goal.returns-in_err-first_schedule-clause-shows
returns-in_err-first_schedule-clause-shows g c p h =
    let files = c.args.files in
    let h1 = c.in_err-first_schedule.ensures.before p h in
    let h0 = c.in_ok-released.ensures.before p h1 in
    let captures = written_more (capture_opening files.middle.now c.args.unit)
    (capture_opening files.released.now c.args.unit) _ _ _ (c.in_ok-middle.ensures.shows p h0)
    (c.in_ok-released.ensures.shows p h1) in
    err_writes _ _ _ _ c.from_residual-in_err-first_schedule.ensures.0
    (begun_behind
    (capture_opening files.middle.now c.args.unit ++ capture_opening files.released.now c.args.unit)
    (Creates files.first_schedule.now ∷ Creates files.second_schedule.now ∷ []) _ _ _ captures
    (begun_before (Creates files.first_schedule.now ∷ []) (Creates files.second_schedule.now ∷ []) _ _
    (c.in_err-first_schedule.ensures.shows p h)))

pub returns-in_err-second_schedule-clause-shows : goal.returns-in_err-second_schedule-clause-shows
returns-in_err-second_schedule-clause-shows g c p h =
    let files = c.args.files in
    let h2 = c.in_err-second_schedule.ensures.before p h in
    let h1 = c.in_ok-first_schedule.ensures.before p h2 in
    let h0 = c.in_ok-released.ensures.before p h1 in
    let captures = written_more (capture_opening files.middle.now c.args.unit)
    (capture_opening files.released.now c.args.unit) _ _ _ (c.in_ok-middle.ensures.shows p h0)
    (c.in_ok-released.ensures.shows p h1) in
    let first = written_more
    (capture_opening files.middle.now c.args.unit ++ capture_opening files.released.now c.args.unit)
    (Creates files.first_schedule.now ∷ []) _ _ _ captures (c.in_ok-first_schedule.ensures.shows p h2) in
    err_writes _ _ _ _ c.from_residual-in_err-second_schedule.ensures.0
    (begun_behind
    (capture_opening files.middle.now c.args.unit
    ++ (capture_opening files.released.now c.args.unit ++ (Creates files.first_schedule.now ∷ [])))
    (Creates files.second_schedule.now ∷ []) _ _ _ first (c.in_err-second_schedule.ensures.shows p h))
