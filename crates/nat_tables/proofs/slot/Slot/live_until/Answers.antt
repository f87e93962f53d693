use Rattle.std.proofs.Common.{sym, ◌∙◌}
use Rattle.nat_tables.proofs.IdleLemmas.{idle_by}
use Rattle.nat_tables.proofs.slot.Slot.live_until.Goals as goal

pub returns-clause-last : goal.returns-clause-last
returns-clause-last c now small live =
    c.past_after.ensures.last now small
    (idle_by now (c.args.key.now, c.args.self.now) (sym c.is_kept.ensures ∙ c.if-is_kept.false) live)
