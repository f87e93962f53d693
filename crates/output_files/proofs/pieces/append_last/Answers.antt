use Rattle.output_files.proofs.Effects.{keeps_all}
use Rattle.output_files.proofs.OnlyWriting.{OnlyWrites-on}
use Rattle.output_files.proofs.PieceWise.{err_appends, last_appended, last_begun}
use Rattle.output_files.proofs.pieces.append_last.Goals as goal

pub returns-in_err-put_all-clause-only_writes : goal.returns-in_err-put_all-clause-only_writes
returns-in_err-put_all-clause-only_writes g c = OnlyWrites-on _ _ _ _ c.put_all.ensures.writes_on

pub returns-clause-only_writes : goal.returns-clause-only_writes
returns-clause-only_writes g c = OnlyWrites-on _ _ _ _ c.put_all.ensures.writes_on

pub returns-in_err-put_all-clause-shows : goal.returns-in_err-put_all-clause-shows
returns-in_err-put_all-clause-shows g c p h bytes before gathered =
    err_appends _ _ _ _ _ c.from_residual.ensures.0
    (last_begun _ _ _ _ _ _ _ c.as_slice.ensures gathered (c.in_err-put_all.ensures.shows p h))

pub returns-clause-shows : goal.returns-clause-shows
returns-clause-shows g c p h bytes before gathered =
    last_appended _ _ _ _ _ _ _ c.as_slice.ensures gathered (c.in_ok-put_all.ensures.shows p h)

pub returns-in_err-put_all-clause-keeps : goal.returns-in_err-put_all-clause-keeps
returns-in_err-put_all-clause-keeps g c p h = keeps_all _ _ _ _ _ (c.put_all.ensures.shows p h)

pub returns-clause-keeps : goal.returns-clause-keeps
returns-clause-keeps g c p h = keeps_all _ _ _ _ _ (c.put_all.ensures.shows p h)
