use Rattle.std.proofs.Common.{[], ◌∷◌}
use Rattle.output_files.specs.Writes.{Appends, Reports}
use Rattle.output_files.proofs.Effects.{err_writes, begun_before}
use Rattle.chain_command.proofs.Closing.{first_begun, second_begun, closed}
use Rattle.chain_command.proofs.ending.write_closing.Goals as goal

pub returns-in_err-write_lines-clause-shows : goal.returns-in_err-write_lines-clause-shows
returns-in_err-write_lines-clause-shows g c p h before writes names are gathered =
    err_writes _ _ before _ c.from_residual.ensures.0
    (begun_before writes _ before _ (c.in_err-write_lines.ensures.shows p h before writes gathered))

pub returns-in_err-append-clause-shows : goal.returns-in_err-append-clause-shows
returns-in_err-append-clause-shows g c p h before writes names are gathered =
    let h0 = c.in_err-append.ensures.before p h in
    err_writes _ _ before _ c.from_residual-in_err-append.ensures.0
    (first_begun writes (Appends names.first_schedule _) (Appends names.second_schedule _) (Reports _) before _
    (c.in_ok-write_lines.ensures.shows p h0 before writes gathered) _
    (c.in_err-append.ensures.shows p h names.first_schedule
    (c.in_ok-write_lines.ensures.keeps p h0 _ _ are.first)))

pub returns-in_err-append-2-clause-shows : goal.returns-in_err-append-2-clause-shows
returns-in_err-append-2-clause-shows g c p h before writes names are gathered =
    let h1 = c.in_err-append-2.ensures.before p h in
    let h0 = c.in_ok-append.ensures.before p h1 in
    err_writes _ _ before _ c.from_residual-in_err-append-2.ensures.0
    (second_begun writes (Appends names.first_schedule _) (Appends names.second_schedule _) (Reports _) before _
    (c.in_ok-write_lines.ensures.shows p h0 before writes gathered) _ _
    (c.in_ok-append.ensures.shows p h1 names.first_schedule (c.in_ok-write_lines.ensures.keeps p h0 _ _ are.first))
    (c.in_err-append-2.ensures.shows p h names.second_schedule
    (c.in_ok-append.ensures.keeps p h1 _ _ (c.in_ok-write_lines.ensures.keeps p h0 _ _ are.second))))

pub returns-clause-shows : goal.returns-clause-shows
returns-clause-shows g c p h before writes names are gathered =
    let h2 = c.report.ensures.before p h in
    let h1 = c.in_ok-append-2.ensures.before p h2 in
    let h0 = c.in_ok-append.ensures.before p h1 in
    closed writes (Appends names.first_schedule _) (Appends names.second_schedule _) (Reports _) before _
    (c.in_ok-write_lines.ensures.shows p h0 before writes gathered) _ _ _ _
    (c.in_ok-append.ensures.shows p h1 names.first_schedule (c.in_ok-write_lines.ensures.keeps p h0 _ _ are.first))
    (c.in_ok-append-2.ensures.shows p h2 names.second_schedule
    (c.in_ok-append.ensures.keeps p h1 _ _ (c.in_ok-write_lines.ensures.keeps p h0 _ _ are.second)))
    (c.report.ensures.shows p h)
