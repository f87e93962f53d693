use Rattle.master_core.proofs.HeldEntries.{held_at}
use Rattle.std.proofs.Common.{replicate}
use Rattle.access_log.specs.Held.{fresh_lane}
use Rattle.master_core.proofs.Holdings.{fresh_holds, fresh_holds_none}
use Rattle.master_core.proofs.laws.fresh_lanes_hold_nothing.Goals as goal

pub returns-clause-holds : goal.returns-clause-holds
returns-clause-holds c = fresh_holds

pub returns-clause-none : goal.returns-clause-none
returns-clause-none c =
    λ threads e h. let r = held_at (replicate threads fresh_lane) e h in fresh_holds_none threads r.0 r.1 r.2 r.3
