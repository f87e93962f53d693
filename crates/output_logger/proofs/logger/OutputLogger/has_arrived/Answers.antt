use Rattle.std.proofs.Common.{inr, ⊎_elim}
use Rattle.output_logger.proofs.KeptLemmas.{waiting_named}
use Rattle.output_logger.proofs.logger.OutputLogger.has_arrived.Goals as goal

pub returns-else-seen : goal.returns-else-seen
returns-else-seen c =
    let named =
    waiting_named c.self.inside.waiting.outputs.entries c.self.invariant.sorted c.args.thread c.args.number in
    let awaited = c.self.invariant.awaited c.args.thread c.args.number in
    rw (← c.self.view_is) (
      λ h. inr (named.0 (awaited.0 (c.has_room.ensures.0 h))),
      λ h. ⊎_elim (λ marked. absurd (let seen = c.if-seen.ensures.1 marked in cc))
          (λ waits. c.has_room.ensures.1 (awaited.1 (named.1 waits))) h,
    )
