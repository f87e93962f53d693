use Rattle.std.proofs.Common.{arith}
use Rattle.std.proofs.lemmas.Grind.{common_steps}
use Rattle.access_log.proofs.LaneLemmas.{entry_named}
use Rattle.access_log.proofs.held.Held.get.Goals as goal

pub returns-clause-named : goal.returns-clause-named
returns-clause-named c = entry_named c.self.inside.lanes.items _ _ _ c.self.invariant (grind (arith, common_steps))
