use Rattle.output_files.proofs.Effects.{reports_to, keeps_all}
use Rattle.output_files.proofs.OnlyWriting.{OnlyWrites-on}
use Rattle.output_files.proofs.writing.report.Goals as goal

pub returns-clause-only_writes : goal.returns-clause-only_writes
returns-clause-only_writes g c =
    OnlyWrites-on _ _ _ _ c.put_all.ensures.writes_on

pub returns-clause-shows : goal.returns-clause-shows
returns-clause-shows g c p h = reports_to _ _ _ _ (c.put_all.ensures.shows p h)

pub returns-clause-keeps : goal.returns-clause-keeps
returns-clause-keeps g c p h = keeps_all _ _ _ _ _ (c.put_all.ensures.shows p h)
