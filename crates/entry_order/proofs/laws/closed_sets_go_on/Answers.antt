use Rattle.entry_order.proofs.KeptEntries.{kept, kept_log, kept_in, in_kept}
use Rattle.entry_order.proofs.laws.closed_sets_go_on.Goals as goal

pub returns : goal.returns
returns c = λ later past set good closed. (
  kept set later,
  kept_log set later past good closed,
  λ e. (kept_in set later e, (λ (here, h). in_kept set later e here h)),
)
