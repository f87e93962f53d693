use Rattle.link_store.proofs.KeptLemmas.{told_no_entry}
use Rattle.link_store.proofs.narrow.NarrowFrame.is_no_entry.Goals as goal

pub returns : goal.returns
returns g c epoch threads e is = told_no_entry epoch c.args.self.now c.is_told.ensures threads e is
