use Rattle.output_files.proofs.Effects.{err_writes, lines_done, lines_cut, keeps_all}
use Rattle.output_files.proofs.OnlyWriting.{OnlyWrites-on}
use Rattle.output_files.proofs.lines.write_lines.Goals as goal

pub returns-in_err-put_all-clause-only_writes : goal.returns-in_err-put_all-clause-only_writes
returns-in_err-put_all-clause-only_writes g c =
    OnlyWrites-on _ _ _ _ c.put_all.ensures.writes_on

pub returns-clause-only_writes : goal.returns-clause-only_writes
returns-clause-only_writes g c =
    OnlyWrites-on _ _ _ _ c.put_all.ensures.writes_on

pub returns-in_err-put_all-clause-shows : goal.returns-in_err-put_all-clause-shows
returns-in_err-put_all-clause-shows g c p h before writes gathered =
    err_writes _ writes before _ c.from_residual.ensures.0
    (lines_cut writes _ _ before _ _ c.as_slice.ensures gathered (c.in_err-put_all.ensures.shows p h))

pub returns-clause-shows : goal.returns-clause-shows
returns-clause-shows g c p h before writes gathered =
    lines_done writes _ _ before _ _ c.as_slice.ensures gathered (c.in_ok-put_all.ensures.shows p h)

pub returns-in_err-put_all-clause-keeps : goal.returns-in_err-put_all-clause-keeps
returns-in_err-put_all-clause-keeps g c p h = keeps_all _ _ _ _ _ (c.put_all.ensures.shows p h)

pub returns-clause-keeps : goal.returns-clause-keeps
returns-clause-keeps g c p h = keeps_all _ _ _ _ _ (c.put_all.ensures.shows p h)
