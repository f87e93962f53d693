use Rattle.master_core.proofs.CountedEntries.{counted, counts_add_up}
use Rattle.master_core.proofs.counting.entries_are_counted.Goals as goal

pub returns : goal.returns
returns g c = record {
  each = λ m inputs threads steps p counts h is has t. counted m inputs threads steps p counts h is has t;
  added = λ m inputs threads steps p counts h is has room. counts_add_up m inputs threads steps p counts h is has room;
}
