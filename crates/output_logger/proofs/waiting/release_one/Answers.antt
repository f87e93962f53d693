use Rattle.std.proofs.Common.{sym}
use Rattle.output_logger.proofs.GoneLemmas.{awaited_in}
use Rattle.output_logger.proofs.waiting.release_one.Goals as goal

pub mark_in_room-requires-clause-thread_in : goal.mark_in_room-requires-clause-thread_in
mark_in_room-requires-clause-thread_in c = awaited_in c.args.released.now c.in-Some.output.thread
    c.in-Some.output.number (c.requires.awaited c.in-Some.output (sym c.in-Some.ensures.value))
