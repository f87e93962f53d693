use Rattle.std.proofs.Common.{[], ◌∷◌}
use Rattle.output_files.specs.Writes.{Creates, Appends}
use Rattle.output_files.proofs.Effects.{err_writes, begun_before, begun_behind, written_more}
use Rattle.run_writes.proofs.OpeningSteps.{same_append, same_append_begun, created_still, both_writable}
use Rattle.run_writes.proofs.opening.open_outputs.Goals as goal

pub returns-clause-writable : goal.returns-clause-writable
returns-clause-writable g c =
    both_writable _ _ _ _
    (created_still _ _ _ c.in_ok-released.ensures.given.created c.in_ok-append.ensures.only_writes.ledger)
    c.in_ok-schedule.ensures.given

pub returns-in_err-released-clause-shows : goal.returns-in_err-released-clause-shows
returns-in_err-released-clause-shows g c p h = err_writes _ _ _ _ c.from_residual.ensures.0
    (begun_before (Creates c.args.files.released.now ∷ []) _ _ _ (c.in_err-released.ensures.shows p h))

pub returns-in_err-append-clause-shows : goal.returns-in_err-append-clause-shows
returns-in_err-append-clause-shows g c p h =
    let h0 = c.in_err-append.ensures.before p h in
    let header =
    c.in_err-append.ensures.shows p h c.args.files.released.now (c.in_ok-released.ensures.output p h0) in
    err_writes _ _ _ _ c.from_residual-in_err-append.ensures.0
    (begun_behind (Creates c.args.files.released.now ∷ []) _ _ _ _ (c.in_ok-released.ensures.shows p h0)
    (begun_before (Appends c.args.files.released.now _ ∷ []) _ _ _
    (same_append_begun c.args.files.released.now _ _ _ _ c.put_header.ensures header)))

pub returns-in_err-schedule-clause-shows : goal.returns-in_err-schedule-clause-shows
returns-in_err-schedule-clause-shows g c p h =
    let h1 = c.in_err-schedule.ensures.before p h in
    let h0 = c.in_ok-append.ensures.before p h1 in
    let header = same_append c.args.files.released.now _ _ _ _ c.put_header.ensures
    (c.in_ok-append.ensures.shows p h1 c.args.files.released.now (c.in_ok-released.ensures.output p h0)) in
    let first = written_more (Creates c.args.files.released.now ∷ []) (Appends c.args.files.released.now _ ∷ []) _ _ _
    (c.in_ok-released.ensures.shows p h0) header in
    err_writes _ _ _ _ c.from_residual-in_err-schedule.ensures.0
    (begun_behind (Creates c.args.files.released.now ∷ Appends c.args.files.released.now _ ∷ []) _ _ _ _ first
    (c.in_err-schedule.ensures.shows p h))

pub returns-clause-shows : goal.returns-clause-shows
returns-clause-shows g c p h =
    let h1 = c.in_ok-schedule.ensures.before p h in
    let h0 = c.in_ok-append.ensures.before p h1 in
    let header = same_append c.args.files.released.now _ _ _ _ c.put_header.ensures
    (c.in_ok-append.ensures.shows p h1 c.args.files.released.now (c.in_ok-released.ensures.output p h0)) in
    let first = written_more (Creates c.args.files.released.now ∷ []) (Appends c.args.files.released.now _ ∷ []) _ _ _
    (c.in_ok-released.ensures.shows p h0) header in
    written_more (Creates c.args.files.released.now ∷ Appends c.args.files.released.now _ ∷ [])
    (Creates c.args.files.schedule.now ∷ []) _ _ _ first (c.in_ok-schedule.ensures.shows p h)

pub returns-clause-released : goal.returns-clause-released
returns-clause-released g c p h =
    let h1 = c.in_ok-schedule.ensures.before p h in
    let h0 = c.in_ok-append.ensures.before p h1 in
    c.in_ok-schedule.ensures.keeps p h _ _
    (created_still _ _ _ c.in_ok-released.ensures.given.created c.in_ok-append.ensures.only_writes.ledger)
    c.requires.apart (c.in_ok-append.ensures.keeps p h1 _ _ (c.in_ok-released.ensures.output p h0))
