use Rattle.chain_command.proofs.Steps.{answer_written, stop_written, both_fit}
use Rattle.chain_command.proofs.replying.write_performed.Goals as goal

pub returns-in-Ok-clause-shows : goal.returns-in-Ok-clause-shows
returns-in-Ok-clause-shows g c p h before writes names are gathered =
    answer_written _ c.args.event.now _ _ _ _ writes names _ before _ c.as_slice.ensures c.as_slice-2.ensures
    c.in-Ok.reply _ c.write_replied.result c.in-Ok.is c.written.ensures
    (both_fit _ _ c.write_replied.result c.write_replied.ensures.fit_middle c.write_replied.ensures.fit_released)
    (λ freed named. c.write_replied.ensures.shows p h before writes names freed are named gathered)
