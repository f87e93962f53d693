use Rattle.std.proofs.Common.{sym}
use Rattle.nat_tables.proofs.HostLemmas.{fewer_without, not_without}
use Rattle.nat_tables.proofs.mappings.Mappings.remove.Goals as goal

pub invariant_of-self : goal.invariant_of-self
invariant_of-self c =
    let key = c.args.key.now in
    let es = c.self.inside.table in
    rw c.remove.ensures
    (c.lower.ensures _ es (fewer_without key c.in-Some._known es (sym c.in-Some.ensures)) c.self.invariant)

pub returns-in_default : goal.returns-in_default
returns-in_default c = rw (← c.self.view_is) (not_without c.args.key.now c.self.inside.table (sym c.in_default.ensures))
