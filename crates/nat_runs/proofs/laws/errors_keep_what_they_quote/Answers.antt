use Rattle.nat_runs.proofs.Quotes.{quoted_source_keeps, quoted_dest_keeps}
use Rattle.nat_runs.proofs.laws.errors_keep_what_they_quote.Goals as goal

pub returns-clause-source : goal.returns-clause-source
returns-clause-source c = quoted_source_keeps

pub returns-clause-dest : goal.returns-clause-dest
returns-clause-dest c = quoted_dest_keeps
