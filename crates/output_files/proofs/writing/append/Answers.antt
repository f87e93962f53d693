use Rattle.output_files.proofs.Effects.{appends_to, keeps_all}
use Rattle.output_files.proofs.OnlyWriting.{OnlyWrites-on}
use Rattle.output_files.proofs.writing.append.Goals as goal

pub returns-clause-only_writes : goal.returns-clause-only_writes
returns-clause-only_writes g c =
    OnlyWrites-on _ _ _ _ c.put_all.ensures.writes_on

pub returns-clause-shows : goal.returns-clause-shows
returns-clause-shows g c p h name is = appends_to _ _ _ _ _ _ is (c.put_all.ensures.shows p h)

pub returns-clause-keeps : goal.returns-clause-keeps
returns-clause-keeps g c p h = keeps_all _ _ _ _ _ (c.put_all.ensures.shows p h)
