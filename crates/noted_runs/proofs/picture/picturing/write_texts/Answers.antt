use Rattle.std.proofs.Common.{[], ◌∷◌}
use Rattle.output_files.specs.Writes.{Appends, Creates}
use Rattle.output_files.proofs.Effects.{begun_before, begun_behind, err_writes, then_writes, written_more}
use Rattle.noted_runs.proofs.Drawn.{begun_same, reports_same, written_same}
use Rattle.noted_runs.proofs.picture.picturing.write_texts.Goals as goal

pub returns-in_err-file-clause-shows : goal.returns-in_err-file-clause-shows
returns-in_err-file-clause-shows g c p h =
    err_writes _ _ _ _ c.from_residual.ensures.0
    (begun_before (Creates c.args.name.now ∷ []) _ _ _ (c.in_err-file.ensures.shows p h))

pub returns-in_err-append-clause-shows : goal.returns-in_err-append-clause-shows
returns-in_err-append-clause-shows g c p h =
    let h0 = c.in_err-append.ensures.before p h in
    let created = c.in_ok-file.ensures.shows p h0 in
    err_writes _ _ _ _ c.from_residual-in_err-append.ensures.0
    (begun_behind (Creates c.args.name.now ∷ []) _ _ _ _ created
    (begun_before (Appends c.args.name.now c.args.texts.now.picture ∷ []) _ _ _
    (begun_same c.args.name.now _ _ _ _ c.as_slice.ensures
    (c.in_err-append.ensures.shows p h c.args.name.now (c.in_ok-file.ensures.output p h0)))))

pub returns-clause-shows : goal.returns-clause-shows
returns-clause-shows g c p h =
    let h1 = c.report.ensures.before p h in
    let h0 = c.in_ok-append.ensures.before p h1 in
    let created = c.in_ok-file.ensures.shows p h0 in
    let body = written_same c.args.name.now _ c.args.texts.now.picture _ _ c.as_slice.ensures
    (c.in_ok-append.ensures.shows p h1 c.args.name.now (c.in_ok-file.ensures.output p h0)) in
    let both = written_more (Creates c.args.name.now ∷ []) (Appends c.args.name.now c.args.texts.now.picture ∷ []) _ _ _
    created body in
    then_writes _ (Creates c.args.name.now ∷ Appends c.args.name.now c.args.texts.now.picture ∷ []) _ _ _ _ both
    (reports_same _ _ c.args.texts.now.report _ _ c.as_slice-2.ensures (c.report.ensures.shows p h))
